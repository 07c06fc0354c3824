-- The number of groups has room for all, and leaves enough for each.
use Rattle.std.proofs.Common.{◌≡◌, ℕ, zero, suc, ◌+◌, ◌*◌, ◌^◌, ◌<◌, ◌≤◌, Bool, true, false, refl, sym, ap, arith, subst, min}
use Rattle.std.specs.Prelude.{nat_le, nat_lt, if◌then◌else◌}
use Rattle.std.proofs.lemmas.Grind.{div_ceil_times}
use Rattle.std.proofs.lemmas.Bool.Decides.{nat_tests}
use Rattle.std.proofs.Math.Nat.{mul-le-mul, mul-le-mul_left, mul-le-mul_right, pow-suc, pow-zero}
use Rattle.tree_growth.specs.Groups.{group_count, parts_of}

-- what a number of groups has to satisfy
pub record Fits (low room n g : ℕ) : Type 0 where
  pub some : 0 < g
  pub enough : g * low ≤ n
  pub spare : n ≤ g * room

by_parts : (most low room n p : ℕ) → 0 < low → 4 * low ≤ room → n ≤ p * room → p * room < n + room → room < n → n ≤ most * room → 0 < most → Fits low room n (min most (2 * p))
by_parts most low room n p some wide up down many all here =
    let g : ℕ = min most (2 * p) in
    let le : g ≤ 2 * p = omega arith in
    let a : g * low ≤ (2 * p) * low = mul-le-mul_right low le in
    let b : p * (4 * low) ≤ p * room = mul-le-mul_left p wide in
    record {
      some = positive p up;
      enough = omega arith;
      spare = side (nat_le most (2 * p)) refl;
    }
  where
    positive : (p : ℕ) → n ≤ p * room → 0 < min most (2 * p)
    positive zero u = absurd (omega arith)
    positive (suc q) u = omega arith

    side : (c : Bool) → nat_le most (2 * p) ≡ c → n ≤ min most (2 * p) * room
    side true e = let h : most ≤ 2 * p = grind (arith, nat_tests) in let s : min most (2 * p) ≡ most = omega arith in subst (λ (k : ℕ). n ≤ k * room) (sym s) all
    side false e = let h : 2 * p < most = grind (arith, nat_tests) in let s : min most (2 * p) ≡ 2 * p = omega arith in subst (λ (k : ℕ). n ≤ k * room) (sym s) (omega arith)

by_least : (most least low room n p : ℕ) → 0 < least → least ≤ most → least * low ≤ n → n ≤ p * room → min most (2 * p) < least → Fits low room n least
by_least most least low room n p some below enough up small =
    let le : p ≤ least = omega arith in
    let a : p * room ≤ least * room = mul-le-mul_right room le in
    record { some = some; enough = enough; spare = omega arith }

few_parts : (room n p : ℕ) → n ≤ room → p * room < n + room → p < 2
few_parts room n zero le down = omega arith
few_parts room n (suc zero) le down = omega arith
few_parts room n (suc (suc p)) le down = absurd (omega arith)

pub count_fits : (most least room low n : ℕ) (is_root : Bool) → 3 ≤ least → 4 * least ≤ most → 0 < low → 4 * low ≤ room → (is_root ≡ true → room < n) → (is_root ≡ false → least * low ≤ n) → n ≤ most * room →
    Fits low room n (group_count most least is_root room n)
count_fits most least room low n true three four some wide root other all =
    let d = div_ceil_times n room (omega arith) in by_parts most low room n (parts_of n room) some wide d.0 d.1 (root refl) all (omega arith)
count_fits most least room low n false three four some wide root other all = go (nat_le least (min most (2 * parts_of n room))) refl (div_ceil_times n room (omega arith))
  where
    go : (c : Bool) → nat_le least (min most (2 * parts_of n room)) ≡ c → (n ≤ parts_of n room * room) × (parts_of n room * room < n + room) → Fits low room n (if c then min most (2 * parts_of n room) else least)
    go true e d = by_parts most low room n (parts_of n room) some wide d.0 d.1 (large (nat_lt room n) refl) all (omega arith)
      where
        large : (t : Bool) → nat_lt room n ≡ t → room < n
        large true q = grind (arith, nat_tests)
        large false q = absurd (let h : n ≤ room = grind (arith, nat_tests) in let f = few_parts room n (parts_of n room) h d.1 in let l : least ≤ min most (2 * parts_of n room) = grind (arith, nat_tests) in omega arith)
    go false e d = by_least most least low room n (parts_of n room) (omega arith) (omega arith) (other refl) d.0 (grind (arith, nat_tests))

-- four times a power of m is at most that power of C
pub powers_wide : (most least h : ℕ) → 4 * least ≤ most → 4 * least ^ suc h ≤ most ^ suc h
powers_wide most least zero four = rw (one_power most, one_power least) four
  where
    one_power : (a : ℕ) → a ^ 1 ≡ a
    one_power a = let p : a ^ suc 0 ≡ a ^ 0 * a = pow-suc a 0 in let z : a ^ 0 ≡ 1 = pow-zero a in let m : a ^ 0 * a ≡ 1 * a = ap (λ (x : ℕ). x * a) z in omega arith
powers_wide most least (suc h) four =
    let ih = powers_wide most least h four in
    let le : least ≤ most = omega arith in
    let a : (4 * least ^ suc h) * least ≤ most ^ suc h * most = mul-le-mul ih le in
    let p : least ^ suc (suc h) ≡ least ^ suc h * least = pow-suc least (suc h) in
    let q : most ^ suc (suc h) ≡ most ^ suc h * most = pow-suc most (suc h) in omega arith
