-- Pages that hold what they held.
use Rattle.std.proofs.Common.{◌≡◌, ℕ, refl, sym, ap, ◌∙◌, Some, arith}
use Rattle.std.specs.Prelude.{IsTrue}
use Rattle.tree_shape.specs.declared.entry.Node.{Node}
use Rattle.page_store.specs.Reading.{Read, nodes_of, node_or_none}
use Rattle.page_store.specs.Shelf.{Shelf, HoldsSame, IsNodeOf}

pub holds_none : (a : Shelf) → HoldsSame a a
holds_none a = record { dim = refl; pages = refl; is_known = refl; read = refl; faults = (omega arith) }

pub holds_both : (a b c : Shelf) → HoldsSame a b → HoldsSame b c → HoldsSame a c
holds_both a b c first second = record {
  dim = second.dim ∙ first.dim;
  pages = second.pages ∙ first.pages;
  is_known = second.is_known ∙ first.is_known;
  read = second.read ∙ first.read;
  faults = omega (arith, first.faults, second.faults);
}

-- what the pages held at the start is what they hold
pub told_then : (old now : Shelf) (page : ℕ) (node : Node) → HoldsSame old now → IsNodeOf now page node → IsTrue old.is_known → nodes_of old.read page ≡ Some node
told_then old now page node holds is is_known =
    ap (λ (r : Read). node_or_none (r page)) (sym holds.read) ∙ ap node_or_none (is.told (rw holds.is_known is_known))
