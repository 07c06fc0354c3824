-- The answers of a query for the nearest objects are the nearest.
use Rattle.std.proofs.Common.{◌≡◌, ◌⊎◌, ℕ, zero, suc, ◌+◌, ◌<◌, ◌≤◌, true, List, [], ◌∷◌, length, take, min, get_or, refl, ap, inl, inr, arith, ◌∙◌}
use Rattle.std.specs.Prelude.{IsTrue, filter}
use Rattle.std.specs.List.{AllByRecursion}
use Rattle.std.proofs.lemmas.Bool.Decides.{nat_tests}
use Rattle.std.proofs.lemmas.List.{length-take}
use Rattle.std.proofs.lemmas.List.Elements.{recursion_from_All, All-get_or}
use Rattle.metric_laws.specs.Lists.{IsIn}
use Rattle.metric_laws.specs.Space.{Space, IsSpace, bound}
use Rattle.metric_laws.proofs.Published.{all_in, filter_all}
use Rattle.scan_model.specs.declared.hit.Hit.{Hit}
use Rattle.scan_model.specs.Hits.{hit_cmp}
use Rattle.scan_model.specs.Scan.{hits_from, is_within, range_hits}
use Rattle.scan_model.specs.Laws.{Ascends, HitBefore, object_hit, NearestAnswersAreNearest}
use Rattle.scan_model.proofs.OrderedLemmas.{length_ordered}
use Rattle.scan_model.proofs.RangeLaw.{range_answers}

-- what stands in the front of a list stands in the list
front_in : {X : Type 0} (k : ℕ) (l : List X) (x : X) → IsIn x (take k l) → IsIn x l
front_in zero l x within = absurd within
front_in (suc k) [] x within = absurd within
front_in (suc k) (y ∷ ys) x within = elim within [ inl e ↦ inl e | inr later ↦ inr (front_in k ys x later) ]

front_all : {X : Type 0} (P : X → Type 0) (k : ℕ) (l : List X) → AllByRecursion P l → AllByRecursion P (take k l)
front_all P zero l all = tt
front_all P (suc k) [] all = tt
front_all P (suc k) (y ∷ ys) all = (all.0, front_all P k ys all.1)

front_ascends : {X : Type 0} (Before : X → X → Type 0) (k : ℕ) (l : List X) → Ascends Before l → Ascends Before (take k l)
front_ascends Before zero l up = tt
front_ascends Before (suc k) [] up = tt
front_ascends Before (suc k) (y ∷ ys) up = (front_all (Before y) k ys up.0, front_ascends Before k ys up.1)

-- of an ascending list a value stands in the front, or all of the front comes before it
front_or_behind : {X : Type 0} (Before : X → X → Type 0) (k : ℕ) (l : List X) (x : X) → Ascends Before l → IsIn x l → IsIn x (take k l) ⊎ AllByRecursion (λ y. Before y x) (take k l)
front_or_behind Before zero l x up within = inr tt
front_or_behind Before (suc k) [] x up within = absurd within
front_or_behind Before (suc k) (y ∷ ys) x up within = elim within [
  | inl e ↦ inl (inl e)
  | inr later ↦ elim (front_or_behind Before k ys x up.1 later) [ inl front ↦ inl (inr front) | inr behind ↦ inr (all_in (Before y) ys x up.0 later, behind) ]
]

-- all objects of a space lie within the bound
all_within : (s : Space) (q : List ℕ) (first : ℕ) (points : List (List ℕ)) → IsSpace s → AllByRecursion (λ p. IsTrue (s.is_point p)) points → IsTrue (s.is_point q) →
    AllByRecursion (λ h. is_within bound h ≡ true) (hits_from s q first points)
all_within s q first [] law fit is_point = tt
all_within s q first (p ∷ points) law fit is_point =
    let low : s.dist p q ≤ bound = law.bounded p q fit.0 is_point in
    (grind (arith, nat_tests, low), all_within s q (first + 1) points law fit.1 is_point)

all_length : (s : Space) (q : List ℕ) (first : ℕ) (points : List (List ℕ)) → length (hits_from s q first points) ≡ length points
all_length s q first [] = refl
all_length s q first (p ∷ points) = ap suc (all_length s q (first + 1) points)

pub nearest_answers : NearestAnswersAreNearest
nearest_answers s points q k law fit is_point = record {
  count = length-take k (range_hits s points q bound) ∙ ap (min k) many;
  ascend = front_ascends HitBefore k (range_hits s points q bound) (range_answers s points q bound).0;
  objects = objects;
  rest = λ id below. front_or_behind HitBefore k (range_hits s points q bound) (object_hit s points q id) (range_answers s points q bound).0 (object_in id below);
}
  where
    all : AllByRecursion (λ p. IsTrue (s.is_point p)) points
    all = recursion_from_All (λ p. IsTrue (s.is_point p)) points fit

    many : length (range_hits s points q bound) ≡ length points
    many = length_ordered hit_cmp (filter (is_within bound) (hits_from s q 0 points))
        ∙ ap length (filter_all (is_within bound) (hits_from s q 0 points) (all_within s q 0 points law all is_point)) ∙ all_length s q 0 points

    objects : (h : Hit) → IsIn h (take k (range_hits s points q bound)) → (h.id < length points) × (h ≡ object_hit s points q h.id)
    objects h within =
        let answer = ((range_answers s points q bound).1 h).0 (front_in k (range_hits s points q bound) h within) in
        (answer.object, λ i. record { id = h.id; dist = answer.dist i })

    object_in : (id : ℕ) → id < length points → IsIn (object_hit s points q id) (range_hits s points q bound)
    object_in id below = ((range_answers s points q bound).1 (object_hit s points q id)).1 (record { object = below; dist = refl; within = law.bounded (get_or points id []) q (All-get_or (λ p. IsTrue (s.is_point p)) points id [] below fit) is_point })
