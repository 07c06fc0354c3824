-- The law of audit faults.
use Rattle.std.specs.Prelude.{◌≡◌, ◌↔◌, ℕ, None, Ok}
use Rattle.metric_laws.specs.Space.{Space}
use Rattle.tree_shape.specs.declared.entry.Node.{Node}
use Rattle.tree_shape.specs.declared.live.Live.{Live}
use Rattle.tree_shape.specs.Tree.{IsSoundTree}
use Rattle.page_store.specs.Reading.{Read, IsWithin, nodes_of}
use Rattle.tree_audit.specs.Audited.{audit_fault}

-- nodes stand on the pages from 3 up and below the number of pages
abbrev pub HasNodesWithin : Read → ℕ → Type 0
HasNodesWithin read pages = (page : ℕ) (node : Node) → read page ≡ Ok node → IsWithin pages page

-- a tree has no fault exactly where it is sound
abbrev pub AuditFaultsAreUnsoundness : Type 0
AuditFaultsAreUnsoundness = (s : Space) (read : Read) (live : Live) → HasNodesWithin read live.pages →
    (audit_fault s read live ≡ None) ↔ IsSoundTree s (nodes_of read) live
