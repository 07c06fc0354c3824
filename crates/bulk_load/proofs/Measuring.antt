-- The distances to seeds are those to their points.
use Rattle.std.proofs.Common.{◌≡◌, ℕ, ◌+◌, ◌<◌, List, [], ◌∷◌, refl, sym, ap, ◌∙◌, length, get_or, drop, subst}
use Rattle.std.specs.Prelude.{map}
use Rattle.std.proofs.lemmas.List.{get_or-map, drop_more}
use Rattle.std.proofs.lemmas.Simd.{map-map}
use Rattle.metric_laws.specs.Space.{Space}
use Rattle.metric_laws.proofs.Published.{length_map}
use Rattle.tree_growth.specs.Bulk.{row_of}
use Rattle.bulk_load.specs.Measured.{measured, measured_to, points_of}

rows_same : (s : Space) (points : List (List ℕ)) (seeds : List ℕ) (ps : List (List ℕ)) →
    map (λ p. map (s.dist p) (points_of points seeds)) ps ≡ map (row_of s points seeds) ps
rows_same s points seeds [] = refl
rows_same s points seeds (p ∷ ps) =
    ap (λ (r : List ℕ). r ∷ map (λ p. map (s.dist p) (points_of points seeds)) ps) (map-map (s.dist p) (λ k. get_or points k []) seeds)
    ∙ ap (λ (rs : List (List ℕ)). row_of s points seeds p ∷ rs) (rows_same s points seeds ps)

pub measured_same : (s : Space) (points : List (List ℕ)) (seeds : List ℕ) (centres : List (List ℕ)) → centres ≡ points_of points seeds →
    measured_to s points centres ≡ measured s points seeds
measured_same s points seeds centres e =
    ap (measured_to s points) e
    ∙ ap (λ (n : ℕ). record { width = n; table = map (λ p. map (s.dist p) (points_of points seeds)) points }) (length_map (λ k. get_or points k []) seeds)
    ∙ ap (λ (t : List (List ℕ)). record { width = length seeds; table = t }) (rows_same s points seeds points)

-- the point of one more seed
pub centre_step : (rows : List (List ℕ)) (set seeds : List ℕ) (k : ℕ) (p : List ℕ) → k < length seeds → get_or seeds k 0 < length set →
    p ≡ get_or rows (get_or set (get_or seeds k 0) 0) [] → points_of (points_of rows set) (drop k seeds) ≡ p ∷ points_of (points_of rows set) (drop (k + 1) seeds)
centre_step rows set seeds k p low inside is =
    ap (points_of (points_of rows set)) (drop_more seeds k 0 low)
    ∙ ap (λ (q : List ℕ). q ∷ points_of (points_of rows set) (drop (k + 1) seeds)) (get_or-map (λ i. get_or rows i []) set (get_or seeds k 0) 0 [] inside ∙ sym is)

-- the distances of one object to centres
pub row_is : (s : Space) (rows : List (List ℕ)) (set : List ℕ) (centres : List (List ℕ)) (k : ℕ) (p : List ℕ) → k < length set → p ≡ get_or rows (get_or set k 0) [] →
    map (s.dist p) centres ≡ get_or (measured_to s (points_of rows set) centres).table k []
row_is s rows set centres k p low is =
    ap (λ (q : List ℕ). map (s.dist q) centres) (is ∙ sym (get_or-map (λ i. get_or rows i []) set k 0 [] low))
    ∙ sym (get_or-map (λ q. map (s.dist q) centres) (points_of rows set) k [] [] (subst (λ (n : ℕ). k < n) (sym (length_map (λ i. get_or rows i []) set)) low))
