-- The walk for free pages is the walk by child numbers.
use Rattle.std.proofs.Common.{◌≡◌, ◌⊎◌, ℕ, zero, suc, Bool, true, false, List, [], ◌∷◌, ◌++◌, length, refl, ap, inl, inr, Result, Ok, Err, arith}
use Rattle.std.specs.Prelude.{◌==◌, if◌then◌else◌}
use Rattle.std.proofs.lemmas.Bool.Decides.{nat_tests}
use Rattle.tree_shape.specs.declared.entry.Node.{Node}
use Rattle.tree_shape.specs.Tree.{times}
use Rattle.page_store.specs.declared.pages.PageFault.{PageFault}
use Rattle.page_store.specs.declared.pages.PageFault.TheVariants.{Repeats}
use Rattle.page_store.specs.Reading.{Read, nodes_of, node_or_none}
use Rattle.page_store.specs.Tours.{children, Tours, Names}
use Rattle.page_store.proofs.Published.{tours_more}
use Rattle.free_pages.specs.Laws.{WalksAreTours}
use Rattle.free_pages.specs.Walk.{on_children, walked}
use Rattle.free_pages.proofs.Whole.{walked_keeps}

module _ (read : Read) (root : ℕ) where
  abbrev Toured : List ℕ → List ℕ → Type 0
  Toured opened coming = Tours (nodes_of read) (root ∷ []) opened coming

  opens_next : (opened : List ℕ) (page : ℕ) (coming : List ℕ) (node : Node) → times page opened ≡ 0 → read page ≡ Ok node → Toured opened (page ∷ coming) → Toured (opened ++ page ∷ []) (children node ++ coming)
  opens_next opened page coming node fresh is walk = tours_more (nodes_of read) (root ∷ []) opened page coming node (ap node_or_none is) walk

  abbrev Stops : PageFault → Type 0
  Stops fault = (opened : ℕ) × (page : ℕ) × Names (nodes_of read) root opened page × ((read page ≡ Err fault) ⊎ (fault ≡ Repeats page))

  stops_at : (opened : List ℕ) (page : ℕ) (coming : List ℕ) (fault : PageFault) → Toured opened (page ∷ coming) → (read page ≡ Err fault) ⊎ (fault ≡ Repeats page) → Stops fault
  stops_at opened page coming fault walk why = (length opened, page, record { before = opened; rest = coming; walk = walk; count = refl }, why)

  abbrev StopsWithin : ℕ → Type 0
  StopsWithin most = (opened coming : List ℕ) (fault : PageFault) → Toured opened coming → walked read most opened coming ≡ Err fault → Stops fault

  stops : (most : ℕ) → StopsWithin most
  stops zero opened [] fault walk is = absurd (cc)
  stops zero opened (page ∷ coming) fault walk is = stops_at opened page coming fault walk (inr (let e : fault ≡ Repeats page = (cc) in e))
  stops (suc most) opened [] fault walk is = absurd (cc)
  stops (suc most) opened (page ∷ coming) fault walk is = tested (times page opened == 0) refl (stops most) is
    where
      read_gives : (r : Result Node PageFault) → read page ≡ r → times page opened ≡ 0 → StopsWithin most → on_children r (λ named. walked read most (opened ++ page ∷ []) (named ++ coming)) ≡ Err fault → Stops fault
      read_gives (Err f) e fresh ih is = stops_at opened page coming fault walk (inl (let g : read page ≡ Err fault = (cc) in g))
      read_gives (Ok node) e fresh ih is = ih (opened ++ page ∷ []) (children node ++ coming) fault (opens_next opened page coming node fresh e walk) is

      tested : (b : Bool) → (times page opened == 0) ≡ b → StopsWithin most →
          (if b then on_children (read page) (λ named. walked read most (opened ++ page ∷ []) (named ++ coming)) else Err (Repeats page)) ≡ Err fault → Stops fault
      tested true e ih is = read_gives (read page) refl (let z : times page opened ≡ 0 = grind (arith, nat_tests) in z) ih is
      tested false e ih is = stops_at opened page coming fault walk (inr (let g : fault ≡ Repeats page = (cc) in g))

pub walks_are_tours : WalksAreTours
walks_are_tours = record {
  ends = λ read t tree is. walked_keeps read (Toured read t.root) (opens_next read t.root) (suc t.pages) [] (t.root ∷ []) tree refl is;
  stops = λ read t fault is. stops read t.root (suc t.pages) [] (t.root ∷ []) fault refl is;
}
