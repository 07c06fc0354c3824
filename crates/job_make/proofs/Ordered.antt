-- Objects that were put in order of id.
use Rattle.std.proofs.Common.{◌≡◌, ℕ, suc, ◌+◌, ◌<◌, ◌≤◌, List, [], ◌∷◌, refl, sym, ap, ◌∙◌, subst, arith, length, inl, inr}
use Rattle.std.specs.Prelude.{All, IfErr, IfOk, IsTrue, OnOk, Result, Ok, Err, ◌⊎◌, map, sum_by, ◌==◌, nat_lt, if◌then◌else◌}
use Rattle.std.specs.List.{AllByRecursion}
use Rattle.std.specs.List.Sorted.{IsNonDecreasingBy, IsPermutation}
use Rattle.std.proofs.lemmas.Bool.{cases_eq}
use Rattle.std.proofs.lemmas.Bool.Decides.{nat_tests}
use Rattle.std.proofs.lemmas.List.Elements.{All-from_recursion, recursion_from_All}
use Rattle.std.proofs.lemmas.List.Sorted.{All-permutation, IsPermutation-map, sum_by-IsPermutation}
use Rattle.std.proofs.lemmas.List.Sums.{sum_by-cons}
use Rattle.metric_laws.specs.Lists.{IsIn}
use Rattle.metric_laws.specs.Space.{Space}
use Rattle.metric_laws.proofs.Published.{all_in, length_map}
use Rattle.tree_shape.specs.declared.entry.LeafEntry.{LeafEntry}
use Rattle.tree_shape.specs.declared.live.Live.{Live}
use Rattle.tree_shape.specs.Tree.{Nodes, IsSoundTree, objects, point_of, points_by_id, points_from, tag_of, tags_by_id, tags_from, times}
use Rattle.tree_shape.proofs.Published.{ids_of, object_of, point_of-in, times-in, each_once_back}
use Rattle.page_store.proofs.Published.{tag_of-in}
use Rattle.tree_audit.specs.declared.faults.AuditFault.{AuditFault}
use Rattle.tree_audit.specs.declared.faults.AuditFault.TheVariants as audit
use Rattle.job_make.specs.Ordering.{AreInSpace, AreNumbered, HasTakingCause}

-- ---- a permutation has each id as often

times_sum : (k : ℕ) (xs : List ℕ) → times k xs ≡ sum_by (λ x. if x == k then 1 else 0) xs
times_sum k [] = refl
times_sum k (x ∷ xs) = ap (λ (n : ℕ). (if x == k then 1 else 0) + n) (times_sum k xs) ∙ sym (sum_by-cons (λ x. if x == k then 1 else 0) x xs)

times-permutation : (k : ℕ) (xs ys : List ℕ) → IsPermutation xs ys → times k ys ≡ times k xs
times-permutation k xs ys p = times_sum k ys ∙ sum_by-IsPermutation (λ x. if x == k then 1 else 0) xs ys p ∙ sym (times_sum k xs)

-- ---- ids that do not fall, each there once, are the numbers in order

all_of : (P : LeafEntry → Type 0) (es : List LeafEntry) → ((e : LeafEntry) → IsIn e es → P e) → AllByRecursion P es
all_of P [] each = tt
all_of P (e ∷ es) each = (each e (inl refl), all_of P es (λ x k. each x (inr k)))

-- the first id is the least
least : (e : LeafEntry) (es : List LeafEntry) → IsNonDecreasingBy (λ e. e.id) (e ∷ es) → AllByRecursion (λ x. e.id ≤ x.id) (e ∷ es)
least e es up = recursion_from_All (λ (x : LeafEntry). e.id ≤ x.id) (e ∷ es) (λ k d low. up 0 k d (omega arith) low)

numbered : (high : ℕ) (es : List LeafEntry) (low : ℕ) → IsNonDecreasingBy (λ e. e.id) es → AllByRecursion (λ e. low ≤ e.id) es → AllByRecursion (λ e. e.id < high) es →
    ((k : ℕ) → times k (ids_of es) ≤ 1) → ((k : ℕ) → low ≤ k → k < high → 1 ≤ times k (ids_of es)) → AreNumbered low es
numbered high [] low up from below once each = tt
numbered high (e ∷ es) low up from below once each =
    (first, numbered high es (low + 1) (λ i j d le lt. up (suc i) (suc j) d (omega (arith, le)) (omega (arith, lt))) later below.1 (λ k. let h = once k in omega (arith, h)) others)
  where
    first : e.id ≡ low
    first =
        let f = from.0 in
        let b = below.0 in
        let there = object_of (e ∷ es) low (each low (omega arith) (omega (arith, f, b))) in
        let le = all_in (λ (x : LeafEntry). e.id ≤ x.id) (e ∷ es) there.0 (least e es up) there.1 in
        let is = there.2 in
        omega (arith, f, le, is)

    one : ◌≡◌ {A = ℕ} (if e.id == low then 1 else 0) 1
    one = let f = first in grind (arith, nat_tests)

    -- none of the others has this id
    gone : times low (ids_of es) ≡ 0
    gone = let h = once low in let o = one in omega (arith, h, o)

    later : AllByRecursion (λ x. low + 1 ≤ x.id) es
    later = all_of (λ (x : LeafEntry). low + 1 ≤ x.id) es (λ x k.
        let le = all_in (λ (y : LeafEntry). e.id ≤ y.id) (e ∷ es) x (least e es up) (inr k) in
        let there = times-in es x k in
        let f = first in
        let g = gone in
        elim (cases_eq x.id low) [
          | inl same ↦ absurd (let t = ap (λ (n : ℕ). times n (ids_of es)) same in omega (arith, t, there, g))
          | inr other ↦ omega (arith, le, f, other)
        ])

    others : (k : ℕ) → low + 1 ≤ k → k < high → 1 ≤ times k (ids_of es)
    others k after before =
        let t = each k (omega (arith, after)) before in
        let f = first in
        let none : ◌≡◌ {A = ℕ} (if e.id == k then 1 else 0) 0 = grind (arith, nat_tests) in
        omega (arith, t, none)

-- ---- objects with these ids are those of the ids

points_in_order : (all es : List LeafEntry) (id : ℕ) → ((k : ℕ) → times k (ids_of all) ≤ 1) → AreNumbered id es → AllByRecursion (λ e. IsIn e all) es → map (λ e. e.point) es ≡ points_from all id (length es)
points_in_order all [] id once are there = refl
points_in_order all (e ∷ es) id once are there =
    let here : point_of id all ≡ e.point = subst (λ (k : ℕ). point_of k all ≡ e.point) are.0 (point_of-in all e there.0 (once e.id)) in
    let rest = points_in_order all es (id + 1) once are.1 there.1 in
    ap (λ (p : List ℕ). p ∷ map (λ (x : LeafEntry). x.point) es) (sym here) ∙ ap (λ (r : List (List ℕ)). point_of id all ∷ r) rest

tags_in_order : (all es : List LeafEntry) (id : ℕ) → ((k : ℕ) → times k (ids_of all) ≤ 1) → AreNumbered id es → AllByRecursion (λ e. IsIn e all) es → map (λ e. e.tag) es ≡ tags_from all id (length es)
tags_in_order all [] id once are there = refl
tags_in_order all (e ∷ es) id once are there =
    let here : tag_of id all ≡ e.tag = subst (λ (k : ℕ). tag_of k all ≡ e.tag) are.0 (tag_of-in all e there.0 (once e.id)) in
    let rest = tags_in_order all es (id + 1) once are.1 there.1 in
    ap (λ (p : ℕ). p ∷ map (λ (x : LeafEntry). x.tag) es) (sym here) ∙ ap (λ (r : List ℕ). tag_of id all ∷ r) rest

-- ---- the objects of a sound tree, once they are sorted

module _ (s : Space) (nodes : Nodes) (t : Live) (sound : IsSoundTree s nodes t) (found : List LeafEntry) (are : found ≡ objects nodes t) (sorted : List LeafEntry) (moved : IsPermutation found sorted) where
  tallies : (k : ℕ) → times k (ids_of sorted) ≡ (if nat_lt k t.count then 1 else 0)
  tallies k = times-permutation k (ids_of found) (ids_of sorted) (IsPermutation-map (λ (e : LeafEntry). e.id) found sorted moved) ∙ ap (λ (es : List LeafEntry). times k (ids_of es)) are ∙ sound.ids k

  below_map : (es : List LeafEntry) → AllByRecursion (λ x. x < t.count) (ids_of es) → AllByRecursion (λ e. e.id < t.count) es
  below_map [] all = tt
  below_map (e ∷ es) all = (all.0, below_map es all.1)

  pub sorted_numbered : IsNonDecreasingBy (λ e. e.id) sorted → AreNumbered 0 sorted
  sorted_numbered up =
      let back = each_once_back t.count (ids_of sorted) tallies in
      numbered t.count sorted 0 up (all_of (λ (e : LeafEntry). 0 ≤ e.id) sorted (λ e k. omega arith)) (below_map sorted back.0) back.1
      (λ k low high. let e = tallies k in let o : ◌≡◌ {A = ℕ} (if nat_lt k t.count then 1 else 0) 1 = grind (arith, nat_tests) in omega (arith, e, o))

  sorted_in : AllByRecursion (λ e. IsIn e (objects nodes t)) sorted
  sorted_in =
      recursion_from_All (λ (e : LeafEntry). IsIn e (objects nodes t)) sorted (All-permutation (λ (e : LeafEntry). IsIn e (objects nodes t)) found sorted moved
      (All-from_recursion (λ (e : LeafEntry). IsIn e (objects nodes t)) found (all_of (λ (e : LeafEntry). IsIn e (objects nodes t)) found (λ e k. subst (λ (es : List LeafEntry). IsIn e es) are k))))

  once : (k : ℕ) → times k (ids_of (objects nodes t)) ≤ 1
  once = (each_once_back t.count (ids_of (objects nodes t)) sound.ids).1

  pub sorted_points : AreNumbered 0 sorted → length sorted ≡ t.count → map (λ e. e.point) sorted ≡ points_by_id nodes t
  sorted_points numbers long = points_in_order (objects nodes t) sorted 0 once numbers sorted_in ∙ ap (points_from (objects nodes t) 0) long

  pub sorted_tags : AreNumbered 0 sorted → length sorted ≡ t.count → map (λ e. e.tag) sorted ≡ tags_by_id nodes t
  sorted_tags numbers long = tags_in_order (objects nodes t) sorted 0 once numbers sorted_in ∙ ap (tags_from (objects nodes t) 0) long

  pub sorted_fits : AllByRecursion (λ o. IsTrue (s.is_point o.point)) (objects nodes t) → AreInSpace s sorted
  sorted_fits fit =
      recursion_from_All (λ (e : LeafEntry). IsTrue (s.is_point e.point)) sorted (All-permutation (λ (e : LeafEntry). IsTrue (s.is_point e.point)) found sorted moved
      (All-from_recursion (λ (e : LeafEntry). IsTrue (s.is_point e.point)) found (subst (λ (es : List LeafEntry). AllByRecursion (λ o. IsTrue (s.is_point o.point)) es) (sym are) fit)))

-- a sound tree has as many objects as its slot says
pub found_count : (s : Space) (nodes : Nodes) (t : Live) (found : List LeafEntry) → IsSoundTree s nodes t → found ≡ objects nodes t → length found ≡ t.count
found_count s nodes t found sound are = ap (λ (es : List LeafEntry). length es) are ∙ sym (length_map (λ (e : LeafEntry). e.id) (objects nodes t)) ∙ (each_once_back t.count (ids_of (objects nodes t)) sound.ids).2

-- ---- what was taken of them

pub if_taken : {T E : Type 0} (P R : T → Type 0) (Q : Type 0) (r : Result T E) → IfOk r P → OnOk r Q → ((x : T) → P x → Q → R x) → IfOk r R
if_taken P R Q (Ok x) p q f = f x p q
if_taken P R Q (Err e) p q f = tt

pub all_fit : (s : Space) (es : List LeafEntry) (points : List (List ℕ)) → points ≡ map (λ e. e.point) es → AreInSpace s es → All (λ p. IsTrue (s.is_point p)) points
all_fit s es points are fit = subst (λ (ps : List (List ℕ)). All (λ p. IsTrue (s.is_point p)) ps) (sym are) (All-from_recursion (λ (p : List ℕ). IsTrue (s.is_point p)) (map (λ e. e.point) es) (each es fit))
  where
    each : (es : List LeafEntry) → AreInSpace s es → AllByRecursion (λ p. IsTrue (s.is_point p)) (map (λ e. e.point) es)
    each [] fit = tt
    each (e ∷ es) fit = (fit.0, each es fit.1)

pub taking_cause : {T : Type 0} (Sound : Type 0) (s : Space) (es : List LeafEntry) (before now : ℕ) (r : Result T AuditFault) → (Sound → AreNumbered 0 es × AreInSpace s es) → IfErr r (λ fault. (fault ≡ audit.Memory) ⊎ ((id : ℕ) × (fault ≡ audit.Id id))) →
    IfErr r (λ fault. AreNumbered 0 es → AreInSpace s es → fault ≡ audit.Memory) → IfErr r (HasTakingCause Sound before now)
taking_cause Sound s es before now (Ok x) sound kind cause = tt
taking_cause Sound s es before now (Err fault) sound (inl is) cause = subst (HasTakingCause Sound before now) (sym is) tt
taking_cause Sound s es before now (Err fault) sound (inr (id, is)) cause =
    subst (HasTakingCause Sound before now) (sym is) (λ so. let both = sound so in let memory = cause both.0 both.1 in cc (sym is ∙ memory))
