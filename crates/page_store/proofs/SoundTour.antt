-- The walk of a sound tree by child numbers is whole.
use Rattle.std.proofs.Common.{◌≡◌, ℕ, zero, suc, ◌<◌, List, [], ◌∷◌, ◌++◌, refl, sym, ap, subst, Option, Some, None, Err, append_assoc, arith}
use Rattle.std.specs.Prelude.{map, IsTrue}
use Rattle.std.specs.List.{AllByRecursion, flat_map}
use Rattle.std.proofs.lemmas.List.{append-nil}
use Rattle.metric_laws.specs.Space.{Space}
use Rattle.metric_laws.proofs.Published.{all_weaker}
use Rattle.tree_shape.specs.declared.entry.InnerEntry.{InnerEntry}
use Rattle.tree_shape.specs.declared.entry.Node.{Node}
use Rattle.tree_shape.specs.declared.entry.Node.TheVariants.{Leaf, Inner}
use Rattle.tree_shape.specs.declared.live.Live.{Live}
use Rattle.tree_shape.specs.Fill.{least_for}
use Rattle.tree_shape.specs.Tree.{Nodes, IsSoundAt, IsSoundEntry, IsSoundTree, IsNodePage, inner_entries, objects_at, pages_at}
use Rattle.tree_shape.proofs.Published.{few}
use Rattle.page_store.specs.declared.pages.PageFault.{PageFault}
use Rattle.page_store.specs.declared.pages.PageFault.TheVariants.{Disk, Bad, Outside, Memory, Repeats, Level}
use Rattle.page_store.specs.Placing.{live_pages}
use Rattle.page_store.specs.Reading.{nodes_of, node_or_none}
use Rattle.page_store.specs.Shelf.{Shelf, IsPassing}
use Rattle.page_store.specs.Tours.{Tours, Names, NamesInside, HasTourCause}
use Rattle.page_store.specs.Laws.{SoundTreesAreToured}
use Rattle.page_store.proofs.OneTour.{one_course}

module _ (s : Space) (nodes : Nodes) where
  abbrev IsBelow : ℕ → Option (List ℕ) → InnerEntry → Type 0
  IsBelow h above e = IsSoundEntry s above (objects_at nodes h e.child) e × IsSoundAt s nodes h (least_for s.dimension) (Some e.point) e.child

  -- the walk opens the pages of a subtree, and then goes on
  abbrev Opens : ℕ → ℕ → List ℕ → Type 0
  Opens h page left = (ps os : List ℕ) → Tours nodes ps os left → Tours nodes (page ∷ ps) (pages_at nodes h page ++ os) left

  entries_tour : (h : ℕ) (above : Option (List ℕ)) (left : List ℕ) → ((e : InnerEntry) → IsBelow h above e → Opens h e.child left) → (es : List InnerEntry) → AllByRecursion (IsBelow h above) es →
      (ps os : List ℕ) → Tours nodes ps os left → Tours nodes (map (λ e. e.child) es ++ ps) (flat_map (λ e. pages_at nodes h e.child) es ++ os) left
  entries_tour h above left deep [] all ps os rest = rest
  entries_tour h above left deep (e ∷ es) all ps os rest =
      subst (λ (o : List ℕ). Tours nodes (e.child ∷ (map (λ e. e.child) es ++ ps)) o left) (sym (append_assoc (pages_at nodes h e.child) (flat_map (λ e. pages_at nodes h e.child) es) os))
      (deep e all.0 (map (λ e. e.child) es ++ ps) (flat_map (λ e. pages_at nodes h e.child) es ++ os) (entries_tour h above left deep es all.1 ps os rest))

  subtree_tours : (h least : ℕ) (above : Option (List ℕ)) (page : ℕ) (left : List ℕ) → IsSoundAt s nodes h least above page → Opens h page left
  subtree_tours zero least above page left sound ps os rest = (Leaf sound.0, sound.1, refl, rest)
  subtree_tours (suc h) least above page left sound ps os rest = (
    Inner (suc h) sound.0,
    sound.1,
    refl,
    subst (λ (o : Option Node). Tours nodes (map (λ e. e.child) sound.0 ++ ps) (flat_map (λ e. pages_at nodes h e.child) (inner_entries o) ++ os) left) (sym sound.1)
        (entries_tour h above left (λ e both. subtree_tours h (least_for s.dimension) (Some e.point) e.child left both.1) sound.0 sound.3 ps os rest),
  )

pub sound_is_toured : SoundTreesAreToured
sound_is_toured s nodes t sound = record {
  pages = live_pages nodes t;
  walk = subst (λ (os : List ℕ). Tours nodes (t.root ∷ []) os []) (append-nil (live_pages nodes t)) (subtree_tours s nodes t.height _ _ t.root [] sound.parts [] [] refl);
  few = few t.pages (live_pages nodes t) (all_weaker (IsNodePage t) (λ p. p < t.pages) (live_pages nodes t) (λ p k. k.1) sound.within) sound.once;
}

-- on a sound tree the walk names pages alone that hold a node, and has opened fewer than there are
pub sound_names : (s : Space) (nodes : Nodes) (t : Live) (opened page : ℕ) → IsSoundTree s nodes t → Names nodes t.root opened page → (opened < t.pages) × ((node : Node) × (nodes page ≡ Some node))
sound_names s nodes t opened page sound named = (one_course nodes t.root opened page named).1 t.pages (sound_is_toured s nodes t sound)

-- so of what stops the walk only the disk and memory come on a sound tree
no_node : (s : Space) (t : Live) (old : Shelf) (page : ℕ) (fault : PageFault) → (old.read page ≡ Err fault) × NamesInside (nodes_of old.read) t page → IsSoundTree s (nodes_of old.read) t → ⊥
no_node s t old page fault why sound =
    let some = (sound_names s (nodes_of old.read) t why.1.0 page sound why.1.2).1 in
    let there = some.1 in
    let none : nodes_of old.read page ≡ None = ap node_or_none why.0 in
    cc

pub tour_passes : (s : Space) (t : Live) (old new : Shelf) (fault : PageFault) → HasTourCause t old new fault → IsTrue old.is_known → IsSoundTree s (nodes_of old.read) t → IsPassing fault
tour_passes s t old new Disk cause is_known sound = tt
tour_passes s t old new Memory cause is_known sound = tt
tour_passes s t old new (Bad page fault) cause is_known sound = absurd (no_node s t old page (Bad page fault) (cause.1 is_known) sound)
tour_passes s t old new (Outside page) cause is_known sound = absurd (no_node s t old page (Outside page) (cause.1 is_known) sound)
tour_passes s t old new (Repeats page) cause is_known sound =
    let low = (sound_names s (nodes_of old.read) t t.pages page sound (cause.1 is_known)).0 in
    absurd (omega (arith, low))
tour_passes s t old new (Level page) cause is_known sound = absurd cause
