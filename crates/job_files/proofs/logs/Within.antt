-- Nodes stand below a file's number of pages.
use Rattle.std.proofs.Common.{◌≡◌, ℕ, Bool, true, false, List, Ok, refl, sym, ◌∙◌}
use Rattle.tree_shape.specs.declared.entry.Node.{Node}
use Rattle.node_page.specs.declared.node.Version.TheVariants.{Second}
use Rattle.page_store.specs.Reading.{IsWithin, is_within, reading}
use Rattle.page_store.proofs.Published.{within_by_test, reads_outside}
use Rattle.tree_audit.specs.Laws.{HasNodesWithin}

within : (dim pages : ℕ) (file : List ℕ) (page : ℕ) (node : Node) (b : Bool) → is_within pages page ≡ b → reading dim pages file page ≡ Ok node → IsWithin pages page
within dim pages file page node true is read = within_by_test pages page is
within dim pages file page node false is read = absurd (let no : ⊥ = cc (sym (reads_outside Second dim pages file page is) ∙ read) in no)

pub nodes_within : (dim pages : ℕ) (file : List ℕ) → HasNodesWithin (reading dim pages file) pages
nodes_within dim pages file page node read = within dim pages file page node (is_within pages page) refl read
