-- Sound trees without pages.
use Rattle.std.specs.Prelude.{ℕ, zero, suc, ◌≤◌, List, length, IsTrue, Option}
use Rattle.std.specs.List.{AllByRecursion}
use Rattle.metric_laws.specs.Space.{Space}
use Rattle.tree_shape.specs.Fill.{IsFilled, least_for, root_least}
use Rattle.tree_shape.specs.Tree.{Nodes, IsSoundAt}
use Rattle.tree_shape.specs.Plain.{Object, Branch, Plain, Tall, objects_in, tree_at}

-- a point that fits
abbrev pub ObjectFits : Space → Object → Type 0
ObjectFits s o = IsTrue (s.is_point o.point)

-- each object below lies within the radius
abbrev pub BranchCovers : (s : Space) (h : ℕ) → Branch (Plain h) → Type 0
BranchCovers s h b = AllByRecursion (λ o. s.dist o.point b.point ≤ b.radius) (objects_in h b.below)

-- the tree, with at least `least` entries: fill, points that fit and covering
abbrev pub IsSoundPlain : Space → (h : ℕ) → ℕ → Plain h → Type 0
IsSoundPlain s zero least os = IsFilled s.dimension least (length os) × AllByRecursion (ObjectFits s) os
IsSoundPlain s (suc h) least bs =
    IsFilled s.dimension least (length bs) × AllByRecursion (λ b. IsTrue (s.is_point b.point) × BranchCovers s h b × IsSoundPlain s h (least_for s.dimension) b.below) bs

-- the whole tree
abbrev pub IsSoundTall : Space → Tall → Type 0
IsSoundTall s t = IsSoundPlain s t.height (root_least t.height) t.tree

-- a tree that is sound on its pages is sound without them
abbrev pub SoundWithoutPages : Type 0
SoundWithoutPages =
    (s : Space) (nodes : Nodes) (h least : ℕ) (above : Option (List ℕ)) (page : ℕ) → IsSoundAt s nodes h least above page →
    IsSoundPlain s h least (tree_at nodes h page)
