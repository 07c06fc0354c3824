-- The steps of the walk by child numbers, over pages that hold what they held.
use Rattle.std.proofs.Common.{◌≡◌, ℕ, ◌<◌, List, [], ◌∷◌, ◌++◌, sym, ap, subst, ◌∙◌, Some, Err, arith}
use Rattle.std.specs.Prelude.{IsTrue, false}
use Rattle.tree_shape.specs.declared.live.Live.{Live}
use Rattle.tree_shape.specs.declared.entry.Node.{Node}
use Rattle.tree_shape.specs.Tree.{Nodes}
use Rattle.page_store.specs.declared.pages.PageFault.{PageFault}
use Rattle.page_store.specs.declared.pages.PageFault.TheVariants.{Disk, Bad, Outside, Memory, Repeats, Level}
use Rattle.page_store.specs.Reading.{Read, nodes_of, IsWithin, is_within}
use Rattle.page_store.specs.Shelf.{Shelf, HoldsSame, HasPageCause}
use Rattle.page_store.specs.Tours.{children, Tours, Names, HasTourCause}

-- one more page is opened
pub tours_more : (nodes : Nodes) (ps os : List ℕ) (p : ℕ) (left : List ℕ) (node : Node) → nodes p ≡ Some node → Tours nodes ps os (p ∷ left) →
    Tours nodes ps (os ++ p ∷ []) (children node ++ left)
tours_more nodes [] [] p left node is walk = absurd (let e : ◌≡◌ {A = List ℕ} (p ∷ left) [] = walk in cc)
tours_more nodes (q ∷ qs) [] p left node is walk =
    let first : p ≡ q = cc (walk) in
    let rest : left ≡ qs = cc (walk) in
    (node, subst (λ (k : ℕ). nodes k ≡ Some node) first is, first, ap (λ (l : List ℕ). children node ++ l) rest)
tours_more nodes [] (o ∷ os) p left node is walk = absurd walk
tours_more nodes (q ∷ qs) (o ∷ os) p left node is walk = (walk.0, walk.1, walk.2, tours_more nodes (children walk.0 ++ qs) os p left node is walk.3)

-- a walk that has opened fewer pages than there are stops where the page that it names gives no node
module _ (live : Live) (old now new : Shelf) (opened page : ℕ) (holds : HoldsSame old now) (low : opened < live.pages)
    (named : IsTrue old.is_known → Names (nodes_of old.read) live.root opened page) where
  names_as : (there : ℕ) → page ≡ there → IsTrue old.is_known → Names (nodes_of old.read) live.root opened there
  names_as there is is_known = subst (λ (p : ℕ). Names (nodes_of old.read) live.root opened p) is (named is_known)

  pub page_stops : (fault : PageFault) → HasPageCause now new page fault → HasTourCause live old new fault
  page_stops Disk cause = (let l = holds.faults in let c = cause in omega arith)
  page_stops (Bad p fault) cause = (
    subst (λ (n : ℕ). IsWithin n p) holds.pages (subst (λ (k : ℕ). IsWithin now.pages k) (sym cause.0) cause.1),
    λ is_known. (
      subst (λ (k : ℕ). old.read k ≡ Err (Bad p fault)) (sym cause.0)
          (subst (λ (k : ℕ). old.read page ≡ Err (Bad k fault)) (sym cause.0)
          (ap (λ (r : Read). r page) (sym holds.read) ∙ cause.2 (rw holds.is_known is_known))),
      (opened, low, names_as p (sym cause.0) is_known),
    ),
  )
  page_stops (Outside p) cause = (
    subst (λ (n : ℕ). is_within n p ≡ false) holds.pages (subst (λ (k : ℕ). is_within now.pages k ≡ false) (sym cause.0) cause.1),
    λ is_known. (
      subst (λ (k : ℕ). old.read k ≡ Err (Outside p)) (sym cause.0)
          (subst (λ (k : ℕ). old.read page ≡ Err (Outside k)) (sym cause.0)
          (ap (λ (r : Read). r page) (sym holds.read) ∙ cause.2 (rw holds.is_known is_known))),
      (opened, low, names_as p (sym cause.0) is_known),
    ),
  )
  page_stops Memory cause = tt
  page_stops (Repeats p) cause = absurd cause
  page_stops (Level p) cause = absurd cause
