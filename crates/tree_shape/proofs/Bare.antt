-- A sound tree on pages is sound without them.
use Rattle.std.proofs.Common.{ℕ, zero, suc, ◌≤◌, List, [], ◌∷◌, sym, length, subst, Option, Some}
use Rattle.std.specs.Prelude.{map, IsTrue}
use Rattle.std.specs.List.{AllByRecursion}
use Rattle.std.proofs.lemmas.List.{length-map}
use Rattle.metric_laws.specs.Space.{Space}
use Rattle.tree_shape.specs.declared.entry.InnerEntry.{InnerEntry}
use Rattle.tree_shape.specs.Fill.{IsFilled, least_for}
use Rattle.tree_shape.specs.Tree.{Nodes, IsSoundAt, IsSoundObject, IsSoundEntry, objects_at}
use Rattle.tree_shape.specs.Plain.{Object, Branch, Plain, object_of, tree_at}
use Rattle.tree_shape.specs.Sound.{ObjectFits, BranchCovers, IsSoundPlain}
use Rattle.tree_shape.proofs.Reading.{same_objects}

pub all_mapped : {X Y : Type 0} (P : X → Type 0) (Q : Y → Type 0) (f : X → Y) (xs : List X) → ((x : X) → P x → Q (f x)) → AllByRecursion P xs → AllByRecursion Q (map f xs)
all_mapped P Q f [] h all = tt
all_mapped P Q f (x ∷ xs) h all = (h x all.0, all_mapped P Q f xs h all.1)

module _ (s : Space) (nodes : Nodes) where
  abbrev pub bare : (h : ℕ) → InnerEntry → Branch (Plain h)
  bare h e = record { point = e.point; radius = e.radius; below = tree_at nodes h e.child }

  pub without_pages : (h least : ℕ) (above : Option (List ℕ)) (page : ℕ) → IsSoundAt s nodes h least above page → IsSoundPlain s h least (tree_at nodes h page)
  without_pages zero least above page sound =
      rw sound.1 (filled, all_mapped (IsSoundObject s above) (ObjectFits s) object_of sound.0 (λ o k. k.point_fits) sound.3)
    where
      filled : IsFilled s.dimension least (length (map object_of sound.0))
      filled = rw length-map sound.2
  without_pages (suc h) least above page sound =
      rw sound.1 (
        filled,
        all_mapped (λ e. IsSoundEntry s above (objects_at nodes h e.child) e × IsSoundAt s nodes h (least_for s.dimension) (Some e.point) e.child)
            (λ b. IsTrue (s.is_point b.point) × BranchCovers s h b × IsSoundPlain s h (least_for s.dimension) b.below) (bare h) sound.0
            (λ e k. (k.0.point_fits, covers e k.0.covers, without_pages h (least_for s.dimension) (Some e.point) e.child k.1)) sound.3,
      )
    where
      filled : IsFilled s.dimension least (length (map (bare h) sound.0))
      filled = rw length-map sound.2

      covers : (e : InnerEntry) → AllByRecursion (λ o. s.dist o.point e.point ≤ e.radius) (objects_at nodes h e.child) → BranchCovers s h (bare h e)
      covers e all = subst (AllByRecursion (λ (o : Object). s.dist o.point e.point ≤ e.radius)) (sym (same_objects nodes h e.child))
          (all_mapped (λ o. s.dist o.point e.point ≤ e.radius) (λ (o : Object). s.dist o.point e.point ≤ e.radius) object_of (objects_at nodes h e.child) (λ o k. k) all)

pub sound_without_pages : (s : Space) (nodes : Nodes) (h least : ℕ) (above : Option (List ℕ)) (page : ℕ) → IsSoundAt s nodes h least above page → IsSoundPlain s h least (tree_at nodes h page)
sound_without_pages s nodes h least above page sound = without_pages s nodes h least above page sound
