-- Entries one after the other.
use Rattle.std.proofs.Common.{◌≡◌, inl, inr, ℕ, zero, suc, ◌+◌, ◌*◌, ◌/◌, ◌<◌, ◌≤◌, ◌&&◌, ◌||◌, nat_le, nat_lt, Result, Ok, Err, IfOk, Bool, true, false, refl, ◌∙◌, ap, arith, mul-le-mul_left}
use Rattle.std.proofs.lemmas.Bool.{cases_lt, leb-true}
use Rattle.std.proofs.Math.Nat.{mul-div-le}
pub use Rattle.tree_shape.proofs.Published.{firsts_more, firsts_none, length-firsts, place-firsts, firsts_by, firsts_same}
use Rattle.tree_shape.specs.Fill.{most_for}
use Rattle.node_page.specs.declared.node.Version.{Version}
use Rattle.node_page.specs.declared.node.Version.TheVariants.{First, Second}
use Rattle.node_page.specs.Nodes.{all_of, parent_place, place_of, place_in, is_count}

-- one more that holds
pub all_more : (f : ℕ → Bool) (n : ℕ) → all_of f n ≡ true → f n ≡ true → all_of f (n + 1) ≡ true
unfolding all_of
all_more f n so_far here = ap (all_of f) (let e : n + 1 ≡ suc n = omega arith in e) ∙ rw (so_far, here) refl

pub all_none : (f : ℕ → Bool) → all_of f 0 ≡ true
unfolding all_of
all_none f = refl

-- one that fails
pub not_all : (f : ℕ → Bool) (n k : ℕ) → k < n → f k ≡ false → all_of f n ≡ false
unfolding all_of
not_all f zero k below fails = absurd (let e : ⊥ = omega arith in e)
not_all f (suc n) k below fails = elim (cases_lt k n) [
  | inl lt ↦ rw (not_all f n k lt fails) refl
  | inr le ↦ (let e : n ≡ k = omega arith in and_false (all_of f n) (f n) (ap f e ∙ fails))
]
  where
    and_false : (a b : Bool) → b ≡ false → (a && b) ≡ false
    and_false true b is = is
    and_false false b is = refl

-- as many entries of the second version as a node may have end within the page
second_within : (dim i : ℕ) → i ≤ most_for dim → place_of dim i ≤ 4096
second_within dim i few =
    let quotient = mul-div-le 4080 (20 + 4 * dim) in
    let most : most_for dim ≤ 4080 / (20 + 4 * dim) = omega arith in
    let product : (20 + 4 * dim) * i ≤ (20 + 4 * dim) * (4080 / (20 + 4 * dim)) = mul-le-mul_left (20 + 4 * dim) (omega arith) in
    omega (arith, quotient, product)

-- an entry of the first version is no longer
place_low : (version : Version) (leaf : Bool) (dim i : ℕ) → place_in version leaf dim i ≤ place_of dim i
place_low First true dim i = omega arith
place_low First false dim i = omega arith
place_low Second leaf dim i = omega arith

-- as many entries as a node may have end within the page
pub within_page : (version : Version) (leaf : Bool) (dim i : ℕ) → i ≤ most_for dim → place_in version leaf dim i ≤ 4096
within_page version leaf dim i few = omega (arith, second_within dim i few, place_low version leaf dim i)

-- an entry before that lies within the page
pub entry_in : (version : Version) (leaf : Bool) (dim i count : ℕ) → i < count → count ≤ most_for dim → place_in version leaf dim i + (parent_place version leaf + 8) + 4 * dim ≤ 4096
entry_in version leaf dim i count below few =
    let next = within_page version leaf dim (i + 1) (omega arith) in
    omega (arith, next)

pub entry_within : (dim i count : ℕ) → i < count → count ≤ most_for dim → place_of dim i + 20 + 4 * dim ≤ 4096
entry_within dim i count below few = omega (arith, entry_in Second true dim i count below few)

first_test : (a b : Bool) → (a && b) ≡ true → a ≡ true
first_test true b is = refl
first_test false b is = is

-- a number of entries that a node may have is at most the most
pub count_few : (dim : ℕ) (leaf : Bool) (count : ℕ) → is_count dim leaf count ≡ true → count ≤ most_for dim
unfolding is_count
count_few dim leaf count is = leb-true count (most_for dim) (first_test (nat_le count (most_for dim)) (leaf || nat_lt 0 count) is)

-- what holds of an `Ok` implies more
pub if_ok : {A E : Type 0} (r : Result A E) (P Q : A → Type 0) → IfOk r P → ((x : A) → P x → Q x) → IfOk r Q
if_ok (Ok x) P Q p implies = implies x p
if_ok (Err e) P Q p implies = p
