-- How large sets and powers of the bounds are.
use Rattle.std.proofs.Common.{◌≡◌, ℕ, zero, suc, ◌+◌, ◌*◌, ◌^◌, ◌<◌, ◌≤◌, Bool, true, false, List, refl, arith, length, get_or, subst}
use Rattle.std.specs.Prelude.{All, nat_lt, nat_le}
use Rattle.std.specs.List.Sorted.{IsStrictlyIncreasing}
use Rattle.std.proofs.lemmas.Bool.Decides.{nat_tests}
use Rattle.std.proofs.Math.Nat.{pow-le-pow_left, pow-le-pow_right, one-le-pow}
use Rattle.tree_shape.specs.declared.filling.Bounds.{Bounds}
use Rattle.tree_shape.specs.Fill.{least_for}
use Rattle.tree_growth.specs.Groups.{group_count}
use Rattle.tree_shape.proofs.Published.{three_at_least}
use Rattle.tree_growth.proofs.Published.{some_group, group_most}
use Rattle.bulk_load.specs.Groupable.{IsFill, IsSized}

-- numbers that rise by their places are as many as there is room below their bound
pub increasing_few : (m : ℕ) (xs : List ℕ) → All (λ k. k < m) xs → IsStrictlyIncreasing xs → length xs ≤ m
increasing_few m xs low up = go (length xs) refl
  where
    at : (i : ℕ) → i < length xs → i ≤ get_or xs i 0
    at zero here = omega arith
    at (suc i) here =
        let ih = at i (omega arith) in
        let e : i + 1 ≡ suc i = omega arith in
        let h : get_or xs i 0 < get_or xs (suc i) 0 = subst (λ (j : ℕ). get_or xs i 0 < get_or xs j 0) e (up i (omega arith)) in
        omega arith

    go : (n : ℕ) → length xs ≡ n → length xs ≤ m
    go zero is = omega arith
    go (suc n) is = let a = at n (omega arith) in let b = low n 0 (omega arith) in omega arith

-- the bounds of a node over points of 1 to 64 coordinates
pub record AreBounds (most least : ℕ) : Type 0 where
  pub three : 3 ≤ least
  pub at_most : most ≤ 32
  pub above : least ≤ most
  pub near : most < 5 * least + 4

pub bounds_of : (fill : Bounds) → IsFill fill → AreBounds fill.most fill.least
bounds_of fill is =
    let three : 3 ≤ least_for is.dim = three_at_least is.dim is.few in
    let most = is.most in
    let least = is.least in
    record { three = omega arith; at_most = omega arith; above = omega arith; near = omega arith }

-- a set has an object
pub some_objects : (fill : Bounds) (is_root : Bool) (h n : ℕ) → AreBounds fill.most fill.least → IsSized fill is_root h n → 0 < n
some_objects fill true h n b is = let a = is.above refl in omega arith
some_objects fill false h n b is = let a = is.enough refl in let three = b.three in let p = one-le-pow (h + 1) fill.least (omega arith) in omega arith

-- a group's room is below 2^64
pub room_fits : (fill : Bounds) (is_root : Bool) (h n : ℕ) → AreBounds fill.most fill.least → IsSized fill is_root h n → h ≤ 14 → n < 2 ^ 32 → fill.most ^ h < 2 ^ 64
room_fits fill true h n b is low few = let a = is.above refl in omega arith
room_fits fill false h n b is low few = cases (nat_le h 12) refl
  where
    power : (cap h : ℕ) → fill.most ≤ cap → 0 < cap → (top : ℕ) → h ≤ top → fill.most ^ h ≤ cap ^ top
    power cap h le some top high = let p = pow-le-pow_left le h in let q = pow-le-pow_right some high in omega arith

    many : (base : ℕ) → base ≤ fill.least → 0 < base → (k : ℕ) → k ≤ h + 1 → base ^ k ≤ n
    many base le some k high = let p = pow-le-pow_left le (h + 1) in let q = pow-le-pow_right some high in let e = is.enough refl in omega arith

    by_least : (t f v : Bool) → nat_lt fill.least 4 ≡ t → nat_lt fill.least 5 ≡ f → nat_lt fill.least 6 ≡ v → 13 ≤ h → fill.most ^ h < 2 ^ 64
    by_least true f v is_three e4 e5 high = let near = b.near in let q = power 18 h (grind (arith, nat_tests)) (omega arith) 14 low in let c : 18 ^ 14 < 2 ^ 64 = omega arith in omega arith
    by_least false true v e3 is_four e5 high = let near = b.near in let q = power 23 h (grind (arith, nat_tests)) (omega arith) 14 low in let c : 23 ^ 14 < 2 ^ 64 = omega arith in omega arith
    by_least false false true e3 e4 is_five high = let near = b.near in five (grind (arith, nat_tests)) (grind (arith, nat_tests)) (nat_lt h 14) refl
      where
        five : 5 ≤ fill.least → fill.most ≤ 28 → (c : Bool) → nat_lt h 14 ≡ c → fill.most ^ h < 2 ^ 64
        five le cap true e = let q = power 28 h cap (omega arith) 13 (grind (arith, nat_tests)) in let c : 28 ^ 13 < 2 ^ 64 = omega arith in omega arith
        five le cap false e = let h14 : 14 ≤ h = grind (arith, nat_tests) in let q = many 5 le (omega arith) 15 (omega arith) in let c : 2 ^ 32 ≤ 5 ^ 15 = omega arith in absurd (omega arith)
    by_least false false false e3 e4 e5 high = let six : 6 ≤ fill.least = grind (arith, nat_tests) in let q = many 6 six (omega arith) 14 (omega arith) in let c : 2 ^ 32 ≤ 6 ^ 14 = omega arith in absurd (omega arith)

    cases : (c : Bool) → nat_le h 12 ≡ c → fill.most ^ h < 2 ^ 64
    cases true e = let q = power 32 h b.at_most (omega arith) 12 (grind (arith, nat_tests)) in let c : 32 ^ 12 < 2 ^ 64 = omega arith in omega arith
    cases false e = by_least (nat_lt fill.least 4) (nat_lt fill.least 5) (nat_lt fill.least 6) refl refl refl (grind (arith, nat_tests))

-- there are 1 to 32 groups
pub some_groups : (fill : Bounds) (is_root : Bool) (h n room : ℕ) → AreBounds fill.most fill.least → IsSized fill is_root h n → room ≡ fill.most ^ h →
    (0 < group_count fill.most fill.least is_root room n) × (group_count fill.most fill.least is_root room n ≤ 32)
some_groups fill is_root h n room b is room_is =
    let three = b.three in
    let above = b.above in
    let cap = b.at_most in
    let p = one-le-pow h fill.most (omega arith) in
    let few = group_most fill.most fill.least is_root room n above in
    (some_group fill.most fill.least is_root room n (omega arith) (omega arith) (some_objects fill is_root h n b is), (omega arith))
