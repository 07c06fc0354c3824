-- The lemmas that proofs of crates above cite; all else in proofs/ is this crate's own.

-- Numbers read from a page and written into it.
pub use Rattle.node_page.proofs.Numbers.{number_kept}
-- The first fault of a page is none exactly where the page spells a head.
pub use Rattle.node_page.proofs.HeadLaws.{head_is, no_head_fault}
-- Which pages spell a slot.
pub use Rattle.node_page.proofs.SlotLaws.{slot_is}
-- Bytes have no fault exactly where they open, and then to one live slot.
pub use Rattle.node_page.proofs.Opened.{valid_by_test, rest_by_clear, opens_by_none, live_is, none_by_opens}
-- The first fault of a page is none exactly where the page spells a node.
pub use Rattle.node_page.proofs.NodeLaws.{spells_by_none, none_by_spells, node_is, valid_by_spells}
