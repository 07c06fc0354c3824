-- Stored distances and levels of a file's nodes.
use Rattle.std.proofs.Common.{◌≡◌, ℕ, zero, suc, ◌≤◌, List, [], ◌∷◌, length, map, subst}
use Rattle.std.specs.Prelude.{Option, Some, IsTrue}
use Rattle.std.specs.List.{AllByRecursion}
use Rattle.metric_laws.proofs.Published.{all_map, length_map}
use Rattle.metric_laws.specs.Space.{Space}
use Rattle.tree_shape.specs.declared.entry.LeafEntry.{LeafEntry}
use Rattle.tree_shape.specs.declared.entry.InnerEntry.{InnerEntry}
use Rattle.tree_shape.specs.declared.entry.Node.{Node}
use Rattle.tree_shape.specs.declared.entry.Node.TheVariants.{Leaf, Inner}
use Rattle.tree_shape.specs.Fill.{IsFilled, least_for}
use Rattle.tree_shape.specs.Tree.{Nodes, leaf_entries, inner_entries, pages_at, objects_at, parent_distance, IsSoundObject, IsSoundEntry, IsSoundAt}
use Rattle.tree_shape.specs.Plain.{Object, Branch, Plain, object_of, tree_at}
use Rattle.tree_shape.specs.Sound.{ObjectFits, BranchCovers, IsSoundPlain}
use Rattle.tree_shape.proofs.Published.{same_objects}

-- an entry with what lies below it
abbrev pub branch_at : Nodes → (h : ℕ) → InnerEntry → Branch (Plain h)
branch_at file h e = record { point = e.point; radius = e.radius; below = tree_at file h e.child }

abbrev pub below_in : Nodes → ℕ → InnerEntry → List ℕ
below_in file h e = pages_at file h e.child

-- the nodes from a page down have the levels of their depth, and the distances to the routing points above
abbrev pub IsStoredAt : Space → Nodes → ℕ → Option (List ℕ) → ℕ → Type 0
IsStoredAt s nodes zero above page = (es : List LeafEntry) × (nodes page ≡ Some (Leaf es)) × AllByRecursion (λ e. e.parent ≡ parent_distance s above e.point) es
IsStoredAt s nodes (suc h) above page =
    (es : List InnerEntry) × (nodes page ≡ Some (Inner (suc h) es)) × AllByRecursion (λ e. (e.parent ≡ parent_distance s above e.point) × IsStoredAt s nodes h (Some e.point) e.child) es

abbrev pub IsStoredEntry : Space → Nodes → ℕ → Option (List ℕ) → InnerEntry → Type 0
IsStoredEntry s nodes h above e = (e.parent ≡ parent_distance s above e.point) × IsStoredAt s nodes h (Some e.point) e.child

pub filled_map : {X Y : Type 0} (f : X → Y) (dim least : ℕ) (xs : List X) → IsFilled dim least (length (map f xs)) → IsFilled dim least (length xs)
filled_map f dim least xs filled = subst (IsFilled dim least) (length_map f xs) filled

-- a stored subtree whose tree is sound is sound
pub sound_of_stored : (s : Space) (nodes : Nodes) (h least : ℕ) (above : Option (List ℕ)) (page : ℕ) → IsStoredAt s nodes h above page → IsSoundPlain s h least (tree_at nodes h page) → IsSoundAt s nodes h least above page
sound_of_stored s nodes zero least above page stored plain =
    let p : IsSoundPlain s zero least (map object_of stored.0) = subst (λ (o : Option Node). IsSoundPlain s zero least (map object_of (leaf_entries o))) stored.1 plain in (
      stored.0,
      stored.1,
      filled_map object_of s.dimension least stored.0 p.0,
      both stored.0 stored.2 (all_map (ObjectFits s) object_of stored.0 p.1),
    )
  where
    both : (es : List LeafEntry) → AllByRecursion (λ e. e.parent ≡ parent_distance s above e.point) es → AllByRecursion (λ e. ObjectFits s (object_of e)) es → AllByRecursion (IsSoundObject s above) es
    both [] a b = tt
    both (e ∷ es) a b = (record { point_fits = b.0; parent_is = a.0 }, both es a.1 b.1)
sound_of_stored s nodes (suc h) least above page stored plain =
    let p : IsSoundPlain s (suc h) least (map (branch_at nodes h) stored.0) = subst (λ (o : Option Node). IsSoundPlain s (suc h) least (map (branch_at nodes h) (inner_entries o))) stored.1 plain in (
      stored.0,
      stored.1,
      filled_map (branch_at nodes h) s.dimension least stored.0 p.0,
      both (λ c above p q. sound_of_stored s nodes h (least_for s.dimension) above c p q) stored.0 stored.2
          (all_map (λ (b : Branch (Plain h)). IsTrue (s.is_point b.point) × BranchCovers s h b × IsSoundPlain s h (least_for s.dimension) b.below) (branch_at nodes h) stored.0 p.1),
    )
  where
    both : ((c : ℕ) (above : Option (List ℕ)) → IsStoredAt s nodes h above c → IsSoundPlain s h (least_for s.dimension) (tree_at nodes h c) → IsSoundAt s nodes h (least_for s.dimension) above c) →
        (es : List InnerEntry) → AllByRecursion (IsStoredEntry s nodes h above) es → AllByRecursion (λ e. IsTrue (s.is_point e.point) × BranchCovers s h (branch_at nodes h e) × IsSoundPlain s h (least_for s.dimension) (tree_at nodes h e.child)) es →
        AllByRecursion (λ e. IsSoundEntry s above (objects_at nodes h e.child) e × IsSoundAt s nodes h (least_for s.dimension) (Some e.point) e.child) es
    both deep [] a b = tt
    both deep (e ∷ es) a b = (
      (
        record {
          point_fits = b.0.0;
          parent_is = a.0.0;
          covers = all_map (λ (o : Object). s.dist o.point e.point ≤ e.radius) object_of (objects_at nodes h e.child)
              (subst (AllByRecursion (λ (o : Object). s.dist o.point e.point ≤ e.radius)) (same_objects nodes h e.child) b.0.1);
        },
        deep e.child (Some e.point) a.0.1 b.0.2,
      ),
      both deep es a.1 b.1,
    )
