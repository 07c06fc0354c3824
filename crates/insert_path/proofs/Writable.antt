-- Staged nodes can be written.
use Rattle.std.proofs.Common.{◌≡◌, ℕ, zero, suc, ◌+◌, ◌<◌, ◌≤◌, List, [], ◌∷◌, ◌++◌, ap, ◌∙◌, arith, length, map, subst, inl, inr, length-append}
use Rattle.std.specs.Prelude.{Option, Some}
use Rattle.std.specs.List.{AllByRecursion}
use Rattle.metric_laws.specs.Space.{Space, bound}
use Rattle.metric_laws.proofs.Published.{all_append, all_weaker, length_map}
use Rattle.tree_shape.specs.declared.entry.LeafEntry.{LeafEntry}
use Rattle.tree_shape.specs.declared.entry.InnerEntry.{InnerEntry}
use Rattle.tree_shape.specs.declared.entry.Node.{Node}
use Rattle.tree_shape.specs.declared.entry.Node.TheVariants.{Leaf, Inner}
use Rattle.tree_shape.specs.Fill.{most_for}
use Rattle.tree_shape.specs.Tree.{parent_distance}
use Rattle.tree_growth.specs.Dealing.{Ball, size, table_of, promoted, point_at, split_of, IsPair}
use Rattle.tree_growth.specs.Insertion.{taken, left, chosen}
use Rattle.tree_growth.proofs.Published.{all_taken, all_left, promoted_pair}
use Rattle.node_page.specs.Nodes.{IsValidNode}
use Rattle.promote_split.specs.declared.halves.Half.{Half}
use Rattle.promote_split.specs.declared.halves.Halves.{Halves}
use Rattle.promote_split.specs.Halves.{IsHalf}
use Rattle.page_store.specs.Shelf.{Shelf}
use Rattle.insert_path.specs.declared.grew.Grew.{Grew}
use Rattle.insert_path.specs.declared.grew.Grew.TheVariants.{One, Two}
use Rattle.insert_path.specs.Walk.{inner_ball}
use Rattle.insert_path.specs.Descent.{Plan, leaf_ball, leaf_with, inner_with, new_entry, entry_of, regrown, IsNear, AreHalves, is_two, IsStaged, Descends}
use Rattle.insert_path.proofs.Walked.{one_more, regrown_long}

-- the points of two halves have `dim` coordinates
abbrev pub IsLong : ℕ → Grew → Type 0
IsLong dim (One page) = Unit {0}
IsLong dim (Two c d) = (length c.point ≡ dim) × (length d.point ≡ dim)

pub point_long : {E : Type 0} (dim : ℕ) (ball : E → Ball) (es : List E) (i : ℕ) → i < length es → AllByRecursion (λ e. length (ball e).0 ≡ dim) es → length (point_at (map ball es) i) ≡ dim
point_long dim ball [] i low all = absurd (omega arith)
point_long dim ball (e ∷ es) zero low all = all.0
point_long dim ball (e ∷ es) (suc i) low all = point_long dim ball es i (omega arith) all.1

-- the points of the halves
pub halves_long : {E : Type 0} (P : Plan) (ball : E → Ball) (set : E → ℕ → E) (es : List E) (hs : Halves E) (dim : ℕ) → 1 ≤ P.least → AreHalves P ball set es hs → AllByRecursion (λ e. length (ball e).0 ≡ dim) es →
    (length hs.first.point ≡ dim) × (length hs.second.point ≡ dim)
halves_long {E} P ball set es hs dim some halves all = (
  ap length halves.split.0.point_is ∙ point_long dim ball es (promoted (table_of P.space (map ball es)) P.promote P.split P.least).0 (let q = pair.0 in let r = pair.1 in let m = n in omega arith) all,
  ap length halves.split.1.point_is ∙ point_long dim ball es (promoted (table_of P.space (map ball es)) P.promote P.split P.least).1 (let r = pair.1 in let m = n in omega arith) all,
)
  where
    n : size (table_of P.space (map ball es)) ≡ length es
    n = length_map (λ (b : Ball). b.1) (map ball es) ∙ length_map ball es

    pair : IsPair (size (table_of P.space (map ball es))) (promoted (table_of P.space (map ball es)) P.promote P.split P.least)
    pair = promoted_pair (table_of P.space (map ball es)) P.promote P.split P.least (let m = n in let a = halves.shares.0 in let b = halves.shares.1 in let c = halves.shares.2 in omega arith)

abbrev pub IsLeafEntry : ℕ → LeafEntry → Type 0
IsLeafEntry dim e = (length e.point ≡ dim) × (e.parent ≤ bound)

abbrev pub IsInnerEntry : ℕ → InnerEntry → Type 0
IsInnerEntry dim e = (length e.point ≡ dim) × (e.radius ≤ bound) × (e.parent ≤ bound)

leaf_half : (s : Space) (dim : ℕ) (b : Ball) (xs : List LeafEntry) (h : Half LeafEntry) → IsHalf s leaf_ball leaf_with b xs h → AllByRecursion (IsLeafEntry dim) xs → AllByRecursion (λ e. s.dist (leaf_ball e).0 h.point ≤ bound) xs →
    AllByRecursion (IsLeafEntry dim) h.entries
leaf_half s dim b xs h is all near = rw is.entries_are (each xs all (subst (λ (q : List ℕ). AllByRecursion (λ (e : LeafEntry). s.dist e.point q ≤ bound) xs) is.point_is near))
  where
    each : (xs : List LeafEntry) → AllByRecursion (IsLeafEntry dim) xs → AllByRecursion (λ (e : LeafEntry). s.dist e.point b.0 ≤ bound) xs → AllByRecursion (IsLeafEntry dim) (map (λ e. leaf_with e (s.dist (leaf_ball e).0 b.0)) xs)
    each [] p q = tt
    each (x ∷ xs) p q = ((p.0.0, q.0), each xs p.1 q.1)

inner_half : (s : Space) (dim : ℕ) (b : Ball) (xs : List InnerEntry) (h : Half InnerEntry) → IsHalf s inner_ball inner_with b xs h → AllByRecursion (IsInnerEntry dim) xs → AllByRecursion (λ e. s.dist (inner_ball e).0 h.point ≤ bound) xs →
    AllByRecursion (IsInnerEntry dim) h.entries
inner_half s dim b xs h is all near = rw is.entries_are (each xs all (subst (λ (q : List ℕ). AllByRecursion (λ (e : InnerEntry). s.dist e.point q ≤ bound) xs) is.point_is near))
  where
    each : (xs : List InnerEntry) → AllByRecursion (IsInnerEntry dim) xs → AllByRecursion (λ (e : InnerEntry). s.dist e.point b.0 ≤ bound) xs → AllByRecursion (IsInnerEntry dim) (map (λ e. inner_with e (s.dist (inner_ball e).0 b.0)) xs)
    each [] p q = tt
    each (x ∷ xs) p q = ((p.0.0, p.0.1, q.0), each xs p.1 q.1)

-- a leaf that is staged can be written
pub leaf_writable : (P : Plan) (dim : ℕ) (es : List LeafEntry) (old new : List Node) (g : Grew) → P.most ≡ most_for dim → 1 ≤ P.least → length es ≤ P.most + 1 → AllByRecursion (IsLeafEntry dim) es →
    IsStaged P leaf_ball leaf_with Leaf es old new g → AllByRecursion (IsValidNode dim) old → AllByRecursion (IsValidNode dim) new × IsLong dim g
leaf_writable P dim es old new g most some few all staged before = elim staged [
  | inl w ↦ (rw w.staged (all_append (IsValidNode dim) old (Leaf es ∷ []) before (((let k = w.few in omega arith), all), tt)), rw w.grew tt)
  | inr k ↦ (let hs = k.0 in let s = k.1.halves.shares in let a = s.0 in let b = s.1 in let c = s.2 in
      let ms = (split_of P.space P.promote P.split P.least (map leaf_ball es)).mask in (
        rw k.1.staged (all_append (IsValidNode dim) old (Leaf hs.first.entries ∷ Leaf hs.second.entries ∷ []) before (
          (
            (omega arith),
            leaf_half P.space dim (split_of P.space P.promote P.split P.least (map leaf_ball es)).first (taken ms es) hs.first k.1.halves.split.0 (all_taken (IsLeafEntry dim) ms es all)
                (all_taken (λ (e : LeafEntry). P.space.dist e.point hs.first.point ≤ bound) ms es k.1.halves.near.0),
          ),
          (
            (
              (omega arith),
              leaf_half P.space dim (split_of P.space P.promote P.split P.least (map leaf_ball es)).second (left ms es) hs.second k.1.halves.split.1 (all_left (IsLeafEntry dim) ms es all)
                  (all_left (λ (e : LeafEntry). P.space.dist e.point hs.second.point ≤ bound) ms es k.1.halves.near.1),
            ),
            tt,
          ),
        )),
        rw k.1.grew (halves_long P leaf_ball leaf_with es hs dim some k.1.halves (all_weaker (IsLeafEntry dim) (λ (e : LeafEntry). length e.point ≡ dim) es (λ e h. h.0) all)),
      ))
]

-- an inner node that is staged can be written
pub inner_writable : (P : Plan) (dim level : ℕ) (es : List InnerEntry) (old new : List Node) (g : Grew) → P.most ≡ most_for dim → 1 ≤ P.least → 1 ≤ level → level ≤ 14 → 1 ≤ length es → length es ≤ P.most + 1 → AllByRecursion (IsInnerEntry dim) es →
    IsStaged P inner_ball inner_with (Inner level) es old new g → AllByRecursion (IsValidNode dim) old → AllByRecursion (IsValidNode dim) new × IsLong dim g
inner_writable P dim level es old new g most some low high any few all staged before = elim staged [
  | inl w ↦ (rw w.staged (all_append (IsValidNode dim) old (Inner level es ∷ []) before ((low, high, any, (let k = w.few in omega arith), all), tt)), rw w.grew tt)
  | inr k ↦ (let hs = k.0 in let s = k.1.halves.shares in let a = s.0 in let b = s.1 in let c = s.2 in
      let ms = (split_of P.space P.promote P.split P.least (map inner_ball es)).mask in (
        rw k.1.staged (all_append (IsValidNode dim) old (Inner level hs.first.entries ∷ Inner level hs.second.entries ∷ []) before (
          (
            low,
            high,
            (omega arith),
            (omega arith),
            inner_half P.space dim (split_of P.space P.promote P.split P.least (map inner_ball es)).first (taken ms es) hs.first k.1.halves.split.0 (all_taken (IsInnerEntry dim) ms es all)
                (all_taken (λ (e : InnerEntry). P.space.dist e.point hs.first.point ≤ bound) ms es k.1.halves.near.0),
          ),
          (
            (
              low,
              high,
              (omega arith),
              (omega arith),
              inner_half P.space dim (split_of P.space P.promote P.split P.least (map inner_ball es)).second (left ms es) hs.second k.1.halves.split.1 (all_left (IsInnerEntry dim) ms es all)
                  (all_left (λ (e : InnerEntry). P.space.dist e.point hs.second.point ≤ bound) ms es k.1.halves.near.1),
            ),
            tt,
          ),
        )),
        rw k.1.grew (halves_long P inner_ball inner_with es hs dim some k.1.halves (all_weaker (IsInnerEntry dim) (λ (e : InnerEntry). length e.point ≡ dim) es (λ e h. h.0) all)),
      ))
]

-- the points of a node whose subtree has grown
pub regrown_points : (dim : ℕ) (far par : List ℕ → ℕ) (i : ℕ) (g : Grew) (es : List InnerEntry) → IsLong dim g → AllByRecursion (λ e. length e.point ≡ dim) es → AllByRecursion (λ e. length e.point ≡ dim) (regrown far par i g es)
regrown_points dim far par i g [] long all = tt
regrown_points dim far par zero (One page) (e ∷ es) long all = all
regrown_points dim far par zero (Two c d) (e ∷ es) long all = (long.0, all_append (λ (e : InnerEntry). length e.point ≡ dim) es (entry_of par d ∷ []) all.1 (long.1, tt))
regrown_points dim far par (suc i) g (e ∷ es) long all = (all.0, regrown_points dim far par i g es long all.1)

one_at_most : (g : Grew) → one_more (is_two g) ≤ 1
one_at_most (One page) = omega arith
one_at_most (Two c d) = omega arith

joined : (dim : ℕ) (es : List InnerEntry) → AllByRecursion (λ e. length e.point ≡ dim) es → AllByRecursion IsNear es → AllByRecursion (IsInnerEntry dim) es
joined dim [] a b = tt
joined dim (e ∷ es) a b = ((a.0, b.0.0, b.0.1), joined dim es a.1 b.1)

-- all nodes of a descent can be written
pub descends_writable : (P : Plan) (shelf : Shelf) → P.most ≡ most_for shelf.dim → 1 ≤ P.least → length P.object.point ≡ shelf.dim → (h page : ℕ) (above : Option (List ℕ)) (l0 : List ℕ) (old : List Node) (l1 : List ℕ) (nodes : List Node) (g : Grew) →
    Descends P shelf h page above l0 old l1 nodes g → AllByRecursion (IsValidNode shelf.dim) old → AllByRecursion (IsValidNode shelf.dim) nodes × IsLong shelf.dim g
descends_writable P shelf most some long zero page above l0 old l1 nodes g d before =
    let valid : IsValidNode shelf.dim (Leaf d.0) = d.1.valid in
    leaf_writable P shelf.dim (d.0 ++ new_entry P above ∷ []) old nodes g most some (let k = valid.0 in omega (arith, length-append d.0 (new_entry P above ∷ [])))
    (all_append (IsLeafEntry shelf.dim) d.0 (new_entry P above ∷ []) valid.1 ((long, d.4), tt)) d.3 before
descends_writable P shelf most some long (suc h) page above l0 old l1 nodes g d before =
    let valid : IsValidNode shelf.dim (Inner (suc h) d.0) = d.4.valid in
    let below = descends_writable P shelf most some long h d.1.child (Some d.1.point) (l0 ++ page ∷ []) old l1 d.2 d.3 d.7 before in
    let more = regrown_long (P.space.dist P.object.point) (parent_distance P.space above) (chosen P.space (map inner_ball d.0) P.object.point) d.3 d.0 d.5 in
    let few = one_at_most d.3 in
    let count = valid.3 in let any = valid.2 in
    inner_writable P shelf.dim (suc h) (regrown (P.space.dist P.object.point) (parent_distance P.space above) (chosen P.space (map inner_ball d.0) P.object.point) d.3 d.0) d.2 nodes g most some valid.0 valid.1
    (omega (arith, more)) (omega (arith, more, few))
    (joined shelf.dim _ (regrown_points shelf.dim (P.space.dist P.object.point) (parent_distance P.space above) (chosen P.space (map inner_ball d.0) P.object.point) d.3 d.0 below.1
    (all_weaker (IsInnerEntry shelf.dim) (λ (e : InnerEntry). length e.point ≡ shelf.dim) d.0 (λ e k. k.0) valid.4)) d.9)
    d.8 below.0
