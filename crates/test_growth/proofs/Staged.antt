-- What a test knows of staged nodes.
use Rattle.std.proofs.Common.{◌≡◌, ℕ, zero, suc, ◌<◌, List, [], ◌∷◌, refl, arith, length}
use Rattle.std.specs.Prelude.{Some, slice_get}
use Rattle.std.specs.List.{AllByRecursion}
use Rattle.tree_shape.specs.declared.entry.Node.{Node}
use Rattle.page_store.specs.declared.staging.StagedNode.{StagedNode}
use Rattle.node_page.specs.Nodes.{IsValidNode}
use Rattle.page_store.specs.Reading.{IsWithin}

pub staged_at : (dim pages : ℕ) (staged : List StagedNode) (i : ℕ) (node : Node) → i < length staged → AllByRecursion (λ s. IsWithin pages s.page × IsValidNode dim s.node) staged →
    ((s : StagedNode) → slice_get staged i ≡ Some s → node ≡ s.node) → IsValidNode dim node
staged_at dim pages [] i node low all is = absurd (omega arith)
staged_at dim pages (s ∷ staged) zero node low all is = rw (is s refl) all.0.1
staged_at dim pages (s ∷ staged) (suc i) node low all is = staged_at dim pages staged i node (omega arith) all.1 is
