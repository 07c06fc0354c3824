-- A cursor that was just opened stands on its tree.
use Rattle.std.proofs.Common.{◌≡◌, ℕ, suc, ◌+◌, ◌≤◌, Bool, true, false, cond, List, [], ◌∷◌, None, refl, sym, ap, inl, inr, arith, ◌∙◌, length, subst}
use Rattle.std.specs.Prelude.{map, filter, IsTrue, if◌then◌else◌, ◌==◌}
use Rattle.std.specs.declared.cmp.Ordering.{Ordering}
use Rattle.std.specs.Ordering.{is_gt}
use Rattle.std.proofs.lemmas.List.{append-nil, take_all}
use Rattle.metric_laws.specs.Space.{Space, IsSpace, bound}
use Rattle.metric_laws.specs.Lists.{IsIn}
use Rattle.metric_laws.proofs.Published.{all_in, in-map}
use Rattle.scan_model.specs.declared.hit.Hit.{Hit}
use Rattle.scan_model.specs.Hits.{hit_cmp}
use Rattle.scan_model.specs.Ordered.{put, ordered}
use Rattle.scan_model.specs.Scan.{hits_from, is_within, nearest_hits, range_hits}
use Rattle.scan_model.proofs.Published.{range_answers}
use Rattle.tree_shape.specs.declared.live.Live.{Live}
use Rattle.tree_shape.specs.declared.entry.LeafEntry.{LeafEntry}
use Rattle.tree_shape.specs.Fill.{root_least}
use Rattle.tree_shape.specs.Tree.{Nodes, IsSoundTree, objects_at, objects, pages_at, points_by_id, times}
use Rattle.tree_shape.proofs.Published.{ids_of, Fits, objects_fit}
use Rattle.page_store.proofs.Published.{once_counted}
use Rattle.log_model.proofs.Published.{length-points, id_below}
use Rattle.pin_cursor.specs.declared.waiting.Candidate.{Candidate}
use Rattle.pin_cursor.specs.Cursor.{root_of, begun, candidate_of, hit_of, node_level, pages_below, coming, waiting, rest_of, IsSubtreeOf, IsCursorOn}
use Rattle.pin_cursor.proofs.Pops.{level_is}

-- ---- a search for all objects names each of them

length_put : {X : Type 0} (cmp : X → X → Ordering) (y : X) (l : List X) → length (put cmp y l) ≡ suc (length l)
length_put cmp y [] = refl
length_put cmp y (z ∷ zs) =
    let step = length_put cmp y zs in
    elim (is_gt (cmp y z)) as (λ b. length (cond b (z ∷ put cmp y zs) (y ∷ z ∷ zs)) ≡ suc (suc (length zs))) [
      | true ↦ ap suc step
      | false ↦ refl
    ]

length_ordered : {X : Type 0} (cmp : X → X → Ordering) (l : List X) → length (ordered cmp l) ≡ length l
length_ordered cmp [] = refl
length_ordered cmp (x ∷ xs) = length_put cmp x (ordered cmp xs) ∙ ap suc (length_ordered cmp xs)

length_filter : {X : Type 0} (p : X → Bool) (l : List X) → length (filter p l) ≤ length l
length_filter p [] = omega arith
length_filter p (x ∷ xs) =
    let ih = length_filter p xs in
    elim (p x) as (λ b. length (cond b (x ∷ filter p xs) (filter p xs)) ≤ suc (length xs)) [
      | true ↦ omega arith
      | false ↦ omega arith
    ]

length_hits : (s : Space) (q : List ℕ) (first : ℕ) (points : List (List ℕ)) → length (hits_from s q first points) ≡ length points
length_hits s q first [] = refl
length_hits s q first (p ∷ points) = ap suc (length_hits s q (first + 1) points)

all_named : (s : Space) (points : List (List ℕ)) (q : List ℕ) (count : ℕ) → length points ≤ count → nearest_hits s points q count ≡ range_hits s points q bound
all_named s points q count few =
    let o = length_ordered hit_cmp (filter (is_within bound) (hits_from s q 0 points)) in
    let f = length_filter (is_within bound) (hits_from s q 0 points) in
    let h = length_hits s q 0 points in
    take_all count (range_hits s points q bound) (omega arith)

-- ---- the beginning

ids_same : (s : Space) (q : List ℕ) (id : ℕ) (os : List LeafEntry) → times id (map (λ x. x.id) (map (candidate_of s q) os)) ≡ times id (ids_of os)
ids_same s q id [] = refl
ids_same s q id (o ∷ os) = ap (λ (n : ℕ). (if o.id == id then 1 else 0) + n) (ids_same s q id os)

module _ (s : Space) (nodes : Nodes) (axioms : IsSpace s) (live : Live) (q : List ℕ) (sound : IsSoundTree s nodes live) (q_fits : IsTrue (s.is_point q)) where
  abbrev os : List LeafEntry
  os = objects nodes live

  level : node_level (nodes live.root) ≡ live.height
  level = level_is s nodes live.height (root_least live.height) None live.root sound.parts

  root_whole : IsSubtreeOf s nodes live q (root_of live)
  root_whole = record {
    height = live.height;
    least = root_least live.height;
    above = None;
    sound = sound.parts;
    low = λ o k. omega arith;
    within = λ page k. k;
  }

  all_wait : waiting s nodes (begun live q) ≡ map (candidate_of s q) os
  all_wait = append-nil (coming s q nodes (root_of live)) ∙ ap (λ h. map (candidate_of s q) (objects_at nodes h live.root)) level

  named : (o : LeafEntry) → IsIn o os → IsIn (hit_of (candidate_of s q o)) (rest_of s nodes (begun live q))
  named o k =
      let below = id_below os live.count sound.ids o k in
      let long = length-points os 0 live.count in
      let fit = all_in (Fits s) os o (objects_fit s nodes live.height (root_least live.height) None live.root sound.parts) k in
      let low = axioms.bounded o.point q fit q_fits in
      subst (λ (l : List Hit). IsIn (hit_of (candidate_of s q o)) l) (sym (all_named s (points_by_id nodes live) q live.count (omega arith)))
      (((range_answers s (points_by_id nodes live) q bound).1 (hit_of (candidate_of s q o))).1
      (record { object = omega (arith, below.0, long); dist = ap (λ p. s.dist p q) (sym below.1); within = low }))

  pub starts : IsCursorOn s nodes (begun live q)
  starts = record {
    subtrees = λ x k. elim k [ inl e ↦ subst (IsSubtreeOf s nodes live q) (sym e) root_whole | inr w ↦ absurd w ];
    waits = λ y. (
      (λ k.
          let there : IsIn y (map (candidate_of s q) os) = subst (λ (l : List Candidate). IsIn y l) all_wait k in
          let o = in-map (candidate_of s q) os y there in
          (there, subst (λ (z : Candidate). IsIn (hit_of z) (rest_of s nodes (begun live q))) (sym o.2) (named o.0 o.1))),
      (λ k. subst (λ (l : List Candidate). IsIn y l) (sym all_wait) k.0),
    );
    once = λ id.
        let e = ap (λ (l : List Candidate). times id (map (λ x. x.id) l)) all_wait in let f = ids_same s q id os in
        let o = once_counted os live.count id sound.ids in omega arith;
    opened = let e = ap length (append-nil (pages_below nodes (root_of live)) ∙ ap (λ h. pages_at nodes h live.root) level) in omega arith;
  }
