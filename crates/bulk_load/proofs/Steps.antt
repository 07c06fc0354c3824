-- One step of each loop.
use Rattle.std.proofs.Common.{◌≡◌, ℕ, suc, ◌+◌, ◌-◌, ◌*◌, ◌/◌, ◌<◌, true, false, List, [], ◌∷◌, refl, sym, ap, ◌∙◌, arith, length, length-drop, drop, get_or, subst, Option, None}
use Rattle.std.specs.Prelude.{◌==◌, nat_lt}
use Rattle.std.proofs.lemmas.List.{drop_more, get_or-drop}
use Rattle.std.proofs.lemmas.Bool.Decides.{nat_tests}
use Rattle.std.proofs.Math.Nat.{mul-lt-mul_of_pos_right, div-lt_iff_lt-mul, mul_comm}
use Rattle.tree_growth.specs.Groups.{Far, seeds_from, nearer, nearest_from, placed_from, chosen, counted, seed_of, member_of}

pub seeds_step : (n g i left next : ℕ) → left ≡ next + 1 → seeds_from n g i left ≡ i * n / g ∷ seeds_from n g (i + 1) next
seeds_step n g i left next e = ap (seeds_from n g i) (let s : left ≡ suc next = omega arith in s)

pub nearest_step : (far : Far) (room k a : ℕ) (best : Option (ℕ × ℕ)) (counts : List ℕ) → a < length counts →
    nearest_from far room k a best (drop a counts) ≡ nearest_from far room k (a + 1) (nearer (nat_lt (get_or counts a 0) room) (far k a) a best) (drop (a + 1) counts)
nearest_step far room k a best counts low = ap (nearest_from far room k a best) (drop_more counts a 0 low)

pub seed_step : (far : Far) (room k i : ℕ) (seeds counts : List ℕ) (left next : ℕ) → left ≡ next + 1 → i < length seeds → get_or seeds i 0 ≡ k →
    placed_from far room k (drop i seeds) i counts left ≡ seed_of i ∷ placed_from far room (k + 1) (drop (i + 1) seeds) (i + 1) counts next
seed_step far room k i seeds counts left next e low is =
    ap (placed_from far room k (drop i seeds) i counts) (let s : left ≡ suc next = omega arith in s)
    ∙ ap (λ ss. placed_from far room k ss i counts (suc next)) (drop_more seeds i 0 low)
    ∙ (let same : (get_or seeds i 0 == k) ≡ true = grind (arith, nat_tests) in rw same refl)

pub member_step : (far : Far) (room k i : ℕ) (seeds counts : List ℕ) (left next : ℕ) → left ≡ next + 1 → (i < length seeds → (get_or seeds i 0 == k) ≡ false) →
    placed_from far room k (drop i seeds) i counts left
    ≡ member_of (chosen (nearest_from far room k 0 None counts)) ∷ placed_from far room (k + 1) (drop i seeds) i (counted (nearest_from far room k 0 None counts) counts) next
member_step far room k i seeds counts left next e other =
    ap (placed_from far room k (drop i seeds) i counts) (let s : left ≡ suc next = omega arith in s) ∙ go (drop i seeds) refl
  where
    go : (ss : List ℕ) → drop i seeds ≡ ss → placed_from far room k ss i counts (suc next)
        ≡ member_of (chosen (nearest_from far room k 0 None counts)) ∷ placed_from far room (k + 1) ss i (counted (nearest_from far room k 0 None counts) counts) next
    go [] is = refl
    go (s ∷ ss) is =
        let long : suc (length ss) ≡ length seeds - i = sym (ap length is) ∙ length-drop i seeds in
        let here : get_or seeds i 0 ≡ s = ap (λ (j : ℕ). get_or seeds j 0) (let z : i ≡ i + 0 = omega arith in z) ∙ sym (get_or-drop i seeds 0 0) ∙ ap (λ (t : List ℕ). get_or t 0 0) is in
        let apart : (s == k) ≡ false = rw here at (other (omega arith)) in rw apart refl

pub seed_low : (n g i : ℕ) → 0 < n → i < g → i * n / g < n
seed_low n g i some low =
    let less : i * n < g * n = mul-lt-mul_of_pos_right low some in
    let turned : i * n < n * g = subst (λ (k : ℕ). i * n < k) (mul_comm g n) less in
    (div-lt_iff_lt-mul {k = g} {x = i * n} {y = n} (omega arith)).1 turned
