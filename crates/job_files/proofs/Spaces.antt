-- What a valid head says of its space.
use Rattle.std.proofs.Common.{◌≡◌, ◌⊎◌, ⊎_elim, ℕ, ◌%◌, ◌<◌, ◌≤◌, ◌==◌, ◌&&◌, ◌||◌, not, nat_le, Bool, true, false, if◌then◌else◌, refl, sym, arith}
use Rattle.std.proofs.lemmas.Bool.{leb-true, true≢false}
use Rattle.node_page.specs.Heads.{is_space}
use Rattle.metric_mix.specs.MixSpaces.{is_valid}

five : (a b c d e : Bool) → (a && b && c && d && e) ≡ true → (a ≡ true) × (b ≡ true) × (c ≡ true) × (d ≡ true) × (e ≡ true)
five true true true true true is = (refl, refl, refl, refl, refl)
five true true true true false is = absurd (true≢false (sym is))
five true true true false e is = absurd (true≢false (sym is))
five true true false d e is = absurd (true≢false (sym is))
five true false c d e is = absurd (true≢false (sym is))
five false b c d e is = absurd (true≢false (sym is))

halves : (h x : Bool) → (not h || x) ≡ true → (if h then x else true) ≡ true
halves true x is = is
halves false x is = refl

pub record HasSpace (kind dim : ℕ) : Type 0 where
  pub low_kind : 1 ≤ kind
  pub high_kind : kind ≤ 8
  pub low_dim : 1 ≤ dim
  pub high_dim : dim ≤ 64
  pub valid : is_valid kind dim ≡ true

pub space_by_head : (kind dim : ℕ) → is_space kind dim ≡ true → HasSpace kind dim
unfolding is_space
space_by_head kind dim is =
    let each = five (nat_le 1 kind) (nat_le kind 8) (nat_le 1 dim) (nat_le dim 64) (not ((kind == 6) || (kind == 7)) || (dim % 2 == 0)) is in
    record {
      low_kind = leb-true 1 kind each.0;
      high_kind = leb-true kind 8 each.1;
      low_dim = leb-true 1 dim each.2;
      high_dim = leb-true dim 64 each.3;
      valid = rw (each.2, each.3) (halves ((kind == 6) || (kind == 7)) (dim % 2 == 0) each.4);
    }

-- a number of such a space is refused by neither test
pub not_refused : (kind dim : ℕ) → HasSpace kind dim → (kind < 1) ⊎ (8 < kind) → ⊥
not_refused kind dim has either = ⊎_elim (λ low. omega (arith, low, has.low_kind)) (λ high. omega (arith, high, has.high_kind)) either
