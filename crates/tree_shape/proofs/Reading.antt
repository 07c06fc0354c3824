-- The plain tree that is read from pages.
use Rattle.std.proofs.Common.{◌≡◌, ℕ, zero, suc, List, [], ◌∷◌, ◌++◌, refl, sym, ap, ◌∙◌}
use Rattle.std.specs.Prelude.{map}
use Rattle.std.specs.List.{flat_map}
use Rattle.tree_shape.specs.declared.entry.InnerEntry.{InnerEntry}
use Rattle.tree_shape.specs.Tree.{Nodes, objects_at, inner_entries}
use Rattle.tree_shape.specs.Plain.{Branch, Plain, objects_in, object_of, tree_at}

pub map_append : {X Y : Type 0} (g : X → Y) (xs ys : List X) → map g (xs ++ ys) ≡ map g xs ++ map g ys
map_append g [] ys = refl
map_append g (x ∷ xs) ys = ap (λ r. g x ∷ r) (map_append g xs ys)

pub same_objects : (nodes : Nodes) (h page : ℕ) → objects_in h (tree_at nodes h page) ≡ map object_of (objects_at nodes h page)
same_objects nodes zero page = refl
same_objects nodes (suc h) page = go (inner_entries (nodes page)) (same_objects nodes h)
  where
    go : (es : List InnerEntry) → ((p : ℕ) → objects_in h (tree_at nodes h p) ≡ map object_of (objects_at nodes h p)) →
        flat_map (λ (b : Branch (Plain h)). objects_in h b.below) (map (λ e. record { point = e.point; radius = e.radius; below = tree_at nodes h e.child }) es)
        ≡ map object_of (flat_map (λ e. objects_at nodes h e.child) es)
    go [] ih = refl
    go (e ∷ es) ih =
        ap (λ r. r ++ flat_map (λ (b : Branch (Plain h)). objects_in h b.below) (map (λ e. record { point = e.point; radius = e.radius; below = tree_at nodes h e.child }) es)) (ih e.child)
        ∙ ap (λ r. map object_of (objects_at nodes h e.child) ++ r) (go es ih)
        ∙ sym (map_append object_of (objects_at nodes h e.child) (flat_map (λ e. objects_at nodes h e.child) es))
