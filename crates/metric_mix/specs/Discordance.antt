-- Kendall's distance is a metric of permutations.
use Rattle.std.specs.Prelude.{◌≡◌, ℕ, ◌+◌, ◌*◌, ◌≤◌, Bool, true, false, cond, List, [], ◌∷◌, length, map, refl, nat_lt, count_by}
use Rattle.std.specs.List.{zip}
use Rattle.std.proofs.Common.{arith, ap, sym, ◌∙◌, inl, inr}
use Rattle.std.proofs.lemmas.Bool.{cases_order}
use Rattle.std.proofs.lemmas.Bool.Decides.{nat_tests}
use Rattle.std.proofs.lemmas.List.Sums.{sum_by-append, sum_by-cons}
use Rattle.metric_mix.specs.Permutations.{pairs_of, exactly_one, is_discordant}
use Rattle.metric_mix.specs.Ranks.{high, high_falls}

-- 1 where exactly one of the two holds, otherwise 0
abbrev pub one : Bool → Bool → ℕ
one p q = cond (exactly_one p q) 1 0

-- the number of places where a and b are ordered differently relative to x and y
abbrev pub row : ℕ → ℕ → List ℕ → List ℕ → ℕ
row x y [] b = 0
row x y (u ∷ a) [] = 0
row x y (u ∷ a) (v ∷ b) = one (nat_lt x u) (nat_lt y v) + row x y a b

-- the discordant pairs, by their first place
abbrev pub discord : List ℕ → List ℕ → ℕ
discord [] b = 0
discord (x ∷ a) [] = 0
discord (x ∷ a) (y ∷ b) = row x y a b + discord a b

count_map : {X Y : Type 0} (p : Y → Bool) (g : X → Y) (xs : List X) → count_by p (map g xs) ≡ count_by (λ x. p (g x)) xs
count_map p g [] = refl
count_map p g (x ∷ xs) =
    sum_by-cons (λ y. cond (p y) 1 0) (g x) (map g xs) ∙ ap (λ n. cond (p (g x)) 1 0 + n) (count_map p g xs) ∙ sym (sum_by-cons (λ z. cond (p (g z)) 1 0) x xs)

pub row_is : (x y : ℕ) (a b : List ℕ) → count_by (λ q. is_discordant ((x, y), q)) (zip a b) ≡ row x y a b
row_is x y [] b = refl
row_is x y (u ∷ a) [] = refl
row_is x y (u ∷ a) (v ∷ b) =
    sum_by-cons (λ q. cond (is_discordant ((x, y), q)) 1 0) (u, v) (zip a b) ∙ ap (λ n. one (nat_lt x u) (nat_lt y v) + n) (row_is x y a b)

pub discord_is : (a b : List ℕ) → count_by is_discordant (pairs_of (zip a b)) ≡ discord a b
discord_is [] b = refl
discord_is (x ∷ a) [] = refl
discord_is (x ∷ a) (y ∷ b) =
    let both = sum_by-append (λ q. cond (is_discordant q) 1 0) (map (λ q. ((x, y), q)) (zip a b)) (pairs_of (zip a b)) in
    let first = count_map is_discordant (λ q. ((x, y), q)) (zip a b) ∙ row_is x y a b in
    both ∙ (λ i. first i + discord_is a b i)

one_symmetric : (p q : Bool) → one p q ≡ one q p
one_symmetric true true = refl
one_symmetric true false = refl
one_symmetric false true = refl
one_symmetric false false = refl

one_same : (p : Bool) → one p p ≡ 0
one_same true = refl
one_same false = refl

one_triangle : (p q r : Bool) → one p r ≤ one p q + one q r
one_triangle true true r = omega arith
one_triangle true false true = omega arith
one_triangle true false false = omega arith
one_triangle false true true = omega arith
one_triangle false true false = omega arith
one_triangle false false r = omega arith

one_none : (p q : Bool) → one p q ≡ 0 → cond p 1 0 ≡ cond {A = ℕ} q 1 0
one_none true true none = refl
one_none true false none = absurd (omega arith)
one_none false true none = absurd (omega arith)
one_none false false none = refl

one_few : (p q : Bool) → one p q ≤ 1
one_few true true = omega arith
one_few true false = omega arith
one_few false true = omega arith
one_few false false = omega arith

row_symmetric : (x y : ℕ) (a b : List ℕ) → row x y a b ≡ row y x b a
row_symmetric x y [] [] = refl
row_symmetric x y [] (v ∷ b) = refl
row_symmetric x y (u ∷ a) [] = refl
row_symmetric x y (u ∷ a) (v ∷ b) = omega (arith, one_symmetric (nat_lt x u) (nat_lt y v), row_symmetric x y a b)

pub discord_symmetric : (a b : List ℕ) → discord a b ≡ discord b a
discord_symmetric [] [] = refl
discord_symmetric [] (y ∷ b) = refl
discord_symmetric (x ∷ a) [] = refl
discord_symmetric (x ∷ a) (y ∷ b) = omega (arith, row_symmetric x y a b, discord_symmetric a b)

row_same : (x : ℕ) (a : List ℕ) → row x x a a ≡ 0
row_same x [] = refl
row_same x (u ∷ a) = omega (arith, one_same (nat_lt x u), row_same x a)

pub discord_same : (a : List ℕ) → discord a a ≡ 0
discord_same [] = refl
discord_same (x ∷ a) = omega (arith, row_same x a, discord_same a)

row_triangle : (x y z : ℕ) (a b c : List ℕ) → length a ≡ length b → length b ≡ length c → row x z a c ≤ row x y a b + row y z b c
row_triangle x y z [] b c first second = omega arith
row_triangle x y z (u ∷ a) [] c first second = absurd (omega arith)
row_triangle x y z (u ∷ a) (v ∷ b) [] first second = absurd (omega arith)
row_triangle x y z (u ∷ a) (v ∷ b) (w ∷ c) first second =
    omega (arith, one_triangle (nat_lt x u) (nat_lt y v) (nat_lt z w), row_triangle x y z a b c (omega arith) (omega arith))

pub discord_triangle : (a b c : List ℕ) → length a ≡ length b → length b ≡ length c → discord a c ≤ discord a b + discord b c
discord_triangle [] b c first second = omega arith
discord_triangle (x ∷ a) [] c first second = absurd (omega arith)
discord_triangle (x ∷ a) (y ∷ b) [] first second = absurd (omega arith)
discord_triangle (x ∷ a) (y ∷ b) (z ∷ c) first second =
    omega (arith, row_triangle x y z a b c (omega arith) (omega arith), discord_triangle a b c (omega arith) (omega arith))

pub row_few : (x y : ℕ) (a b : List ℕ) → row x y a b ≤ length a
row_few x y [] b = omega arith
row_few x y (u ∷ a) [] = omega arith
row_few x y (u ∷ a) (v ∷ b) = omega (arith, one_few (nat_lt x u) (nat_lt y v), row_few x y a b)

pub discord_few : (a b : List ℕ) → length a ≤ 64 → discord a b ≤ 64 * length a
discord_few [] b short = omega arith
discord_few (x ∷ a) [] short = omega arith
discord_few (x ∷ a) (y ∷ b) short = omega (arith, row_few x y a b, discord_few a b (omega arith))

-- with no discordant pair as many numbers are above x as above y
row_none : (x y : ℕ) (a b : List ℕ) → length a ≡ length b → row x y a b ≡ 0 → high x a ≡ high y b
row_none x y [] [] long none = refl
row_none x y [] (v ∷ b) long none = absurd (omega arith)
row_none x y (u ∷ a) [] long none = absurd (omega arith)
row_none x y (u ∷ a) (v ∷ b) long none =
    omega (arith, one_none (nat_lt x u) (nat_lt y v) (omega arith), row_none x y a b (omega arith) (omega arith))

-- two lists of the same numbers with no discordant pair are equal
pub discord_apart : (a b : List ℕ) → length a ≡ length b → ((v : ℕ) → high v a ≡ high v b) → discord a b ≡ 0 → a ≡ b
discord_apart [] [] long same none = refl
discord_apart [] (y ∷ b) long same none = absurd (omega arith)
discord_apart (x ∷ a) [] long same none = absurd (omega arith)
discord_apart (x ∷ a) (y ∷ b) long same none =
    let heads : x ≡ y = equal_heads x y a b (same x) (same y) (row_none x y a b (omega arith) (omega arith)) in
    let tails : a ≡ b = discord_apart a b (omega arith) (λ v. rest v heads (same v)) (omega arith) in
    λ i. heads i ∷ tails i
  where
    equal_heads : (x y : ℕ) (a b : List ℕ) → high x (x ∷ a) ≡ high x (y ∷ b) → high y (x ∷ a) ≡ high y (y ∷ b) → high x a ≡ high y b → x ≡ y
    equal_heads x y a b at_x at_y rows =
        elim (cases_order x y) [
          | inl e ↦ e
          | inr either ↦ elim either [
            | inl less ↦ (let falls = high_falls x y b (omega arith) in grind (arith, nat_tests))
            | inr more ↦ (let falls = high_falls y x a (omega arith) in grind (arith, nat_tests))
          ]
        ]

    rest : (v : ℕ) → x ≡ y → high v (x ∷ a) ≡ high v (y ∷ b) → high v a ≡ high v b
    rest v e whole = let tests : cond (nat_lt v x) 1 0 ≡ cond {A = ℕ} (nat_lt v y) 1 0 = ap (λ (u : ℕ). cond (nat_lt v u) 1 0) e in omega arith
