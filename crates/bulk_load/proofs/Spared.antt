-- Why a distance to a seed need not be computed.
use Rattle.std.proofs.Common.{◌≡◌, ◌≤◌, ◌<◌, ℕ, zero, suc, ◌+◌, ◌-◌, ◌*◌, List, [], ◌∷◌, ◌++◌, length, get_or, drop, sym, ap, ◌∙◌, arith, subst}
use Rattle.std.specs.Prelude.{map, All, IsTrue}
use Rattle.std.specs.List.{flat_map}
use Rattle.std.proofs.lemmas.List.{get_or-map, get_or_append_left, get_or-append_right, length-append, drop_more}
use Rattle.std.proofs.lemmas.Nat.{mul-add-lt}
use Rattle.metric_laws.specs.Space.{Space, IsSpace}
use Rattle.metric_laws.proofs.Published.{length_map}
use Rattle.bulk_load.specs.Measured.{AreMeasurable, all_apart, points_of}

-- rows of one length, one after another
module _ (f : List ℕ → List ℕ) (k : ℕ) (long : (c : List ℕ) → length (f c) ≡ k) where
  rows_long : (cs : List (List ℕ)) → length (flat_map f cs) ≡ length cs * k
  rows_long [] = let none : 0 ≡ 0 * k = grind (arith) in none
  rows_long (c ∷ cs) = let here = length-append (f c) (flat_map f cs) in let more = rows_long cs in let l = long c in grind (arith)

  row_at : (cs : List (List ℕ)) (i j : ℕ) → i < length cs → j < k → get_or (flat_map f cs) (i * k + j) 0 ≡ get_or (f (get_or cs i [])) j 0
  row_at [] i j low inside = absurd (omega arith)
  row_at (c ∷ cs) zero j low inside =
      ap (λ (n : ℕ). get_or (f c ++ flat_map f cs) n 0) (let here : 0 * k + j ≡ j = grind (arith) in here)
      ∙ get_or_append_left (f c) (flat_map f cs) 0 j (subst (λ (n : ℕ). j < n) (sym (long c)) inside)
  row_at (c ∷ cs) (suc i) j low inside =
      let past : k ≤ suc i * k + j = grind (arith) in
      let rest : suc i * k + j - k ≡ i * k + j = grind (arith) in
      get_or-append_right (f c) (flat_map f cs) k (suc i * k + j) 0 (long c) past
      ∙ ap (λ (n : ℕ). get_or (flat_map f cs) n 0) rest ∙ row_at cs i j (omega (arith, low)) inside

-- one more row
pub row_more : (f : List ℕ → List ℕ) (cs : List (List ℕ)) (k : ℕ) → k < length cs → flat_map f (drop k cs) ≡ f (get_or cs k []) ++ flat_map f (drop (k + 1) cs)
row_more f cs k low = ap (flat_map f) (drop_more cs k [] low)

module _ (s : Space) (centres : List (List ℕ)) where
  pub apart_long : length (all_apart s centres) ≡ length centres * length centres
  apart_long = rows_long (λ c. map (s.dist c) centres) (length centres) (λ c. length_map (s.dist c) centres) centres

  pub apart_at : (i j : ℕ) → i < length centres → j < length centres →
      get_or (all_apart s centres) (i * length centres + j) 0 ≡ s.dist (get_or centres i []) (get_or centres j [])
  apart_at i j first second =
      row_at (λ c. map (s.dist c) centres) (length centres) (λ c. length_map (s.dist c) centres) centres i j first second
      ∙ get_or-map (s.dist (get_or centres i [])) centres j [] 0 second

-- the distances of one object to centres, with `apart` as the distances between the centres
module _ (s : Space) (object : List ℕ) (centres : List (List ℕ)) (apart row : List ℕ) (are : AreMeasurable s (object ∷ []) centres apart) (is : map (s.dist object) centres ≡ row)
    (i j : ℕ) (first : i < length row) (second : j < length row) where
  long : length row ≡ length centres
  long = sym (ap length is) ∙ length_map (s.dist object) centres

  -- where the distance of two centres stands
  pub stands_inside : i * length centres + j < length apart
  stands_inside =
      subst (λ (n : ℕ). i * length centres + j < n) (sym (ap length are.apart_is ∙ apart_long s centres))
      (mul-add-lt i (length centres) j (length centres) (subst (λ (n : ℕ). i < n) long first) (subst (λ (n : ℕ). j < n) long second))

  -- two centres are no farther apart than by way of the object
  pub by_way_of : IsSpace s → get_or apart (i * length centres + j) 0 ≤ get_or row i 0 + get_or row j 0
  by_way_of axioms =
      let low : i < length centres = subst (λ (n : ℕ). i < n) long first in
      let low2 : j < length centres = subst (λ (n : ℕ). j < n) long second in
      let gap : get_or apart (i * length centres + j) 0 ≡ s.dist (get_or centres i []) (get_or centres j []) =
      ap (λ (l : List ℕ). get_or l (i * length centres + j) 0) are.apart_is ∙ apart_at s centres i j low low2 in
      let here : get_or row i 0 ≡ s.dist object (get_or centres i []) = ap (λ (l : List ℕ). get_or l i 0) (sym is) ∙ get_or-map (s.dist object) centres i [] 0 low in
      let there : get_or row j 0 ≡ s.dist object (get_or centres j []) = ap (λ (l : List ℕ). get_or l j 0) (sym is) ∙ get_or-map (s.dist object) centres j [] 0 low2 in
      let is_point = are.objects_fit 0 [] (omega arith) in
      let turned = axioms.symmetric (get_or centres i []) object (are.centres_fit i [] low) is_point in
      let triangle = axioms.triangle (get_or centres i []) object (get_or centres j []) (are.centres_fit i [] low) is_point (are.centres_fit j [] low2) in
      omega (arith, gap, here, there, turned, triangle)

-- the points of places fit where all do
points_fit : (s : Space) (rows : List (List ℕ)) (set : List ℕ) → All (λ p. IsTrue (s.is_point p)) rows → All (λ k. k < length rows) set → All (λ p. IsTrue (s.is_point p)) (points_of rows set)
points_fit s rows set fit places i d low =
    let inside : i < length set = subst (λ (n : ℕ). i < n) (length_map (λ k. get_or rows k []) set) low in
    subst (λ (p : List ℕ). IsTrue (s.is_point p)) (sym (get_or-map (λ k. get_or rows k []) set i 0 d inside)) (fit (get_or set i 0) [] (places i 0 inside))

-- the points of seeds fit, which are places of a set
pub centres_fit : (s : Space) (rows : List (List ℕ)) (set seeds : List ℕ) → All (λ p. IsTrue (s.is_point p)) rows → All (λ k. k < length rows) set → All (λ k. k < length set) seeds →
    All (λ p. IsTrue (s.is_point p)) (points_of (points_of rows set) seeds)
centres_fit s rows set seeds fit places inside =
    points_fit s (points_of rows set) seeds (points_fit s rows set fit places)
    (λ i d low. subst (λ (n : ℕ). get_or seeds i d < n) (sym (length_map (λ k. get_or rows k []) set)) (inside i d low))
