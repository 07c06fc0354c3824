-- The plain answers as sets of objects, in their order.
use Rattle.std.specs.Prelude.{◌≡◌, ◌⊎◌, ◌↔◌, ℕ, ◌<◌, ◌≤◌, List, [], ◌∷◌, length, min, slice_index_or, IsTrue, All}
use Rattle.std.specs.List.{AllByRecursion}
use Rattle.metric_laws.specs.Lists.{IsIn}
use Rattle.metric_laws.specs.Space.{Space, IsSpace}
use Rattle.scan_model.specs.declared.hit.Hit.{Hit}
use Rattle.scan_model.specs.declared.hit.Pair.{Pair}
use Rattle.scan_model.specs.Join.{join_pairs}
use Rattle.scan_model.specs.Scan.{range_hits, nearest_hits}

-- each value comes before all that follow it
abbrev pub Ascends : {X : Type 0} → (X → X → Type 0) → List X → Type 0
Ascends Before [] = Unit {0}
Ascends Before (x ∷ xs) = AllByRecursion (Before x) xs × Ascends Before xs

-- nearer, or as near and with the lower id
abbrev pub HitBefore : Hit → Hit → Type 0
HitBefore a b = (a.dist < b.dist) ⊎ ((a.dist ≡ b.dist) × (a.id < b.id))

-- the hit is an object of the list, with its distance from q, within r
pub record IsRangeAnswer (s : Space) (points : List (List ℕ)) (q : List ℕ) (r : ℕ) (h : Hit) : Type 0 where
  pub object : h.id < length points
  pub dist : h.dist ≡ s.dist (slice_index_or points h.id []) q
  pub within : h.dist ≤ r

abbrev pub RangeAnswersAreAll : Type 0
RangeAnswersAreAll =
    (s : Space) (points : List (List ℕ)) (q : List ℕ) (r : ℕ) →
    Ascends HitBefore (range_hits s points q r) × ((h : Hit) → IsIn h (range_hits s points q r) ↔ IsRangeAnswer s points q r h)

-- the object with the id, with its distance from q
abbrev pub object_hit : Space → List (List ℕ) → List ℕ → ℕ → Hit
object_hit s points q id = record { id = id; dist = s.dist (slice_index_or points id []) q }

-- The hits are k objects of the list, or all of them where there are fewer, in order. Each object that is left out comes after all of
-- them: it is further away, or as far and with a greater id.
pub record AreNearest (s : Space) (points : List (List ℕ)) (q : List ℕ) (k : ℕ) (hits : List Hit) : Type 0 where
  pub count : length hits ≡ min k (length points)
  pub ascend : Ascends HitBefore hits
  pub objects : (h : Hit) → IsIn h hits → (h.id < length points) × (h ≡ object_hit s points q h.id)
  pub rest : (id : ℕ) → id < length points → IsIn (object_hit s points q id) hits ⊎ AllByRecursion (λ h. HitBefore h (object_hit s points q id)) hits

-- in every metric space
abbrev pub NearestAnswersAreNearest : Type 0
NearestAnswersAreNearest =
    (s : Space) (points : List (List ℕ)) (q : List ℕ) (k : ℕ) → IsSpace s → All (λ p. IsTrue (s.is_point p)) points → IsTrue (s.is_point q) →
    AreNearest s points q k (nearest_hits s points q k)

-- by the left id, then by the right
abbrev pub PairBefore : Pair → Pair → Type 0
PairBefore a b = (a.left < b.left) ⊎ ((a.left ≡ b.left) × (a.right < b.right))

-- the pair is an object of each list, with their distance, within r
pub record IsJoinAnswer (s : Space) (left right : List (List ℕ)) (r : ℕ) (pair : Pair) : Type 0 where
  pub left_object : pair.left < length left
  pub right_object : pair.right < length right
  pub dist : pair.dist ≡ s.dist (slice_index_or left pair.left []) (slice_index_or right pair.right [])
  pub within : pair.dist ≤ r

abbrev pub JoinAnswersAreAll : Type 0
JoinAnswersAreAll =
    (s : Space) (left right : List (List ℕ)) (r : ℕ) →
    Ascends PairBefore (join_pairs s left right r) × ((pair : Pair) → IsIn pair (join_pairs s left right r) ↔ IsJoinAnswer s left right r pair)
