-- One step up the levels.
use Rattle.std.proofs.Common.{◌≡◌, ◌⊎◌, ℕ, zero, suc, ◌+◌, ◌*◌, ◌/◌, ◌%◌, ◌<◌, ◌≤◌, ◌==◌, ◌||◌, Bool, true, false, cond, nat_le, nat_lt, List, [], ◌∷◌, length, None, refl, sym, ap, ◌∙◌, arith, inl, inr}
use Rattle.std.proofs.lemmas.Bool.{ltb-true, ltb-false, leb-true, leb-false, le-leb, lt-leb, eqb-true, eqb-false}
use Rattle.sha2.specs.Sha256.{sha256}
use Rattle.seal_log.specs.Digests.{Digest, paired, levels_within, digest_at}
use Rattle.seal_log.specs.Paths.{has_partner, widths_within, message_at, climbed, climb_messages}

pub either_way : (b : Bool) → (b ≡ true) ⊎ (b ≡ false)
either_way true = inl refl
either_way false = inr refl

-- ---- levels and widths

pub levels-one : (more : ℕ) (level : List Digest) → length level ≤ 1 → levels_within more level ≡ level ∷ []
unfolding levels_within
levels-one zero level few = refl
levels-one (suc more) level few = let few_is : nat_le (length level) 1 ≡ true = le-leb (length level) 1 few in rw few_is refl

pub levels-more : (more : ℕ) (level : List Digest) → 1 < length level → levels_within (suc more) level ≡ level ∷ levels_within more (paired level)
unfolding levels_within
levels-more more level many = let many_is : nat_le (length level) 1 ≡ false = lt-leb (length level) 1 many in rw many_is refl

pub widths-one : (more width : ℕ) → width ≤ 1 → widths_within more width ≡ width ∷ []
unfolding widths_within
widths-one zero width few = refl
widths-one (suc more) width few = let few_is : nat_le width 1 ≡ true = le-leb width 1 few in rw few_is refl

pub widths-more : (more width : ℕ) → 1 < width → widths_within (suc more) width ≡ width ∷ widths_within more ((width + 1) / 2)
unfolding widths_within
widths-more more width many = let many_is : nat_le width 1 ≡ false = lt-leb width 1 many in rw many_is refl

-- the bound on the number of levels makes no difference where it is large enough
pub widths-enough : (more other width : ℕ) → width ≤ suc more → width ≤ suc other → widths_within more width ≡ widths_within other width
widths-enough zero other width few enough = widths-one zero width few ∙ sym (widths-one other width few)
widths-enough (suc more) zero width few enough = widths-one (suc more) width enough ∙ sym (widths-one zero width enough)
widths-enough (suc more) (suc other) width few enough = elim (either_way (nat_le width 1)) [
  | inl one ↦ widths-one (suc more) width (leb-true width 1 one) ∙ sym (widths-one (suc other) width (leb-true width 1 one))
  | inr many ↦ let wide : 1 < width = not_le width many in
      widths-more more width wide ∙ ap (λ (t : List ℕ). width ∷ t) (widths-enough more other ((width + 1) / 2) (omega arith) (omega arith)) ∙ sym (widths-more other width wide)
]
  where
    not_le : (width : ℕ) → nat_le width 1 ≡ false → 1 < width
    not_le width is = omega (arith, leb-false width 1 is)

-- ---- a place of a level

pub pair-place : (width i : ℕ) → i < width → has_partner width i ≡ true → 2 * (i / 2) + 1 < width
unfolding has_partner
pair-place width i within is = elim (either_way (i % 2 == 1)) [
  | inl odd ↦ omega (arith, eqb-true (i % 2) 1 odd)
  | inr even ↦ omega (arith, eqb-false (i % 2) 1 even, ltb-true (i + 1) width (or-right (i % 2 == 1) (nat_lt (i + 1) width) even is))
]
  where
    or-right : (a b : Bool) → a ≡ false → a || b ≡ true → b ≡ true
    or-right true b isnt is = absurd cc
    or-right false b isnt is = is

pub record StandsAlone (width i : ℕ) : Type 0 where
  pub last : 2 * (i / 2) + 1 ≡ width
  pub place : 2 * (i / 2) ≡ i

pub alone-place : (width i : ℕ) → i < width → has_partner width i ≡ false → StandsAlone width i
unfolding has_partner
alone-place width i within is =
    let even = eqb-false (i % 2) 1 (or-none (i % 2 == 1) (nat_lt (i + 1) width) is).0 in
    let last = ltb-false (i + 1) width (or-none (i % 2 == 1) (nat_lt (i + 1) width) is).1 in
    record { last = omega (arith, even, last); place = omega (arith, even) }
  where
    or-none : (a b : Bool) → a || b ≡ false → (a ≡ false) × (b ≡ false)
    or-none true b is = absurd cc
    or-none false b is = (refl, is)

-- the digest at the place is one of its pair
pub digest-own : (level : List Digest) (i : ℕ) → cond (i % 2 == 1) (digest_at level (2 * (i / 2) + 1)) (digest_at level (2 * (i / 2))) ≡ digest_at level i
digest-own level i = elim (either_way (i % 2 == 1)) [
  | inl odd ↦ let place : 2 * (i / 2) + 1 ≡ i = omega (arith, eqb-true (i % 2) 1 odd) in rw odd (ap (digest_at level) place)
  | inr even ↦ let place : 2 * (i / 2) ≡ i = omega (arith, eqb-false (i % 2) 1 even) in rw even (ap (digest_at level) place)
]

-- ---- one step of a climb

pub climbed-alone : (width : ℕ) (widths : List ℕ) (i : ℕ) (digest : Digest) (path : List Digest) → has_partner width i ≡ false → climbed (width ∷ widths) i digest path ≡ climbed widths (i / 2) digest path
unfolding climbed
climbed-alone width widths i digest [] alone = rw alone refl
climbed-alone width widths i digest (p ∷ path) alone = rw alone refl

pub climbed-pair : (width : ℕ) (widths : List ℕ) (i : ℕ) (digest p : Digest) (path : List Digest) → has_partner width i ≡ true
    → climbed (width ∷ widths) i digest (p ∷ path) ≡ climbed widths (i / 2) (sha256 (message_at i digest p)) path
unfolding climbed
climbed-pair width widths i digest p path partner = rw partner refl

pub climbed-short : (width : ℕ) (widths : List ℕ) (i : ℕ) (digest : Digest) → has_partner width i ≡ true → climbed (width ∷ widths) i digest [] ≡ None
unfolding climbed
climbed-short width widths i digest partner = rw partner refl

messages-none : (widths : List ℕ) (i : ℕ) (digest : Digest) → climb_messages widths i digest [] ≡ []
unfolding climb_messages
messages-none [] i digest = refl
messages-none (width ∷ widths) i digest = refl

pub messages-alone : (width : ℕ) (widths : List ℕ) (i : ℕ) (digest : Digest) (path : List Digest) → has_partner width i ≡ false → climb_messages (width ∷ widths) i digest path ≡ climb_messages widths (i / 2) digest path
unfolding climb_messages
messages-alone width widths i digest [] alone = sym (messages-none widths (i / 2) digest)
messages-alone width widths i digest (p ∷ path) alone = rw alone refl

pub messages-pair : (width : ℕ) (widths : List ℕ) (i : ℕ) (digest p : Digest) (path : List Digest) → has_partner width i ≡ true
    → climb_messages (width ∷ widths) i digest (p ∷ path) ≡ message_at i digest p ∷ climb_messages widths (i / 2) (sha256 (message_at i digest p)) path
unfolding climb_messages
messages-pair width widths i digest p path partner = rw partner refl
