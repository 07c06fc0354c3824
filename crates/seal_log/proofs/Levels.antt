-- Levels of digests: how wide they are, and which digests a level goes into.
use Rattle.std.proofs.Common.{◌≡◌, ℕ, zero, suc, ◌+◌, ◌*◌, ◌/◌, ◌<◌, Bool, true, false, cond, nat_le, List, [], ◌∷◌, length, map, refl, sym, ap, subst, ◌∙◌, arith, inl, inr}
use Rattle.std.proofs.lemmas.Bool.{cases_lt}
use Rattle.metric_laws.specs.Lists.{IsIn}
use Rattle.sha2.specs.Sha256.{sha256}
use Rattle.sha2.proofs.Facts256.{length-sha256}
use Rattle.seal_log.specs.Digests.{Digest, pair_message, paired, levels_within, digest_at, top_of, pair_messages}
use Rattle.seal_log.specs.Paths.{widths_within}

pub length-paired : (level : List Digest) → length (paired level) ≡ (length level + 1) / 2
unfolding paired
length-paired [] = refl
length-paired (d ∷ []) = refl
length-paired (a ∷ b ∷ rest) = omega (arith, length-paired rest)

-- the digest of a pair
pub paired-both : (level : List Digest) (j : ℕ) → 2 * j + 1 < length level → digest_at (paired level) j ≡ sha256 (pair_message (digest_at level (2 * j)) (digest_at level (2 * j + 1)))
unfolding paired
paired-both [] j lt = absurd (omega arith)
paired-both (d ∷ []) j lt = absurd (omega arith)
paired-both (a ∷ b ∷ rest) zero lt = refl
paired-both (a ∷ b ∷ rest) (suc j) lt =
    let one : 2 * suc j ≡ suc (suc (2 * j)) = omega arith in
    let two : 2 * suc j + 1 ≡ suc (suc (2 * j + 1)) = omega arith in
    rw (two, one) (paired-both rest j (omega arith))

-- a last digest that stands alone
pub paired-last : (level : List Digest) (j : ℕ) → 2 * j + 1 ≡ length level → digest_at (paired level) j ≡ digest_at level (2 * j)
unfolding paired
paired-last [] j is = absurd (omega arith)
paired-last (d ∷ []) zero is = refl
paired-last (d ∷ []) (suc j) is = absurd (omega arith)
paired-last (a ∷ b ∷ rest) zero is = absurd (omega arith)
paired-last (a ∷ b ∷ rest) (suc j) is =
    let one : 2 * suc j ≡ suc (suc (2 * j)) = omega arith in
    rw one (paired-last rest j (omega arith))

behind-two : (a b : Digest) (rest : List Digest) (k m : ℕ) → m ≡ suc (suc k) → digest_at (a ∷ b ∷ rest) m ≡ digest_at rest k
behind-two a b rest k m is = ap (digest_at (a ∷ b ∷ rest)) is

-- the message of a pair is one of the level's
pub pair-in : (level : List Digest) (j : ℕ) → 2 * j + 1 < length level → IsIn (pair_message (digest_at level (2 * j)) (digest_at level (2 * j + 1))) (pair_messages level)
unfolding pair_messages
pair-in [] j lt = absurd (omega arith)
pair-in (d ∷ []) j lt = absurd (omega arith)
pair-in (a ∷ b ∷ rest) zero lt = inl refl
pair-in (a ∷ b ∷ rest) (suc j) lt =
    let one = behind-two a b rest (2 * j) (2 * suc j) (omega arith) in
    let two = behind-two a b rest (2 * j + 1) (2 * suc j + 1) (omega arith) in
    let both : pair_message (digest_at (a ∷ b ∷ rest) (2 * suc j)) (digest_at (a ∷ b ∷ rest) (2 * suc j + 1)) ≡ pair_message (digest_at rest (2 * j)) (digest_at rest (2 * j + 1)) = cc in
    inr (subst (λ (m : List ℕ). IsIn m (pair_messages rest)) (sym both) (pair-in rest j (omega arith)))

-- each digest of the level has 32 bytes
pub record AreDigests (level : List Digest) : Type 0 where
  pub size : (j : ℕ) → j < length level → length (digest_at level j) ≡ 32

pub paired-digests : (level : List Digest) → AreDigests level → AreDigests (paired level)
paired-digests level digests = record { size = sized }
  where
    sized : (j : ℕ) → j < length (paired level) → length (digest_at (paired level) j) ≡ 32
    sized j lt = elim (cases_lt (2 * j + 1) (length level)) [
      | inl both ↦ ap length (paired-both level j both) ∙ length-sha256 (pair_message (digest_at level (2 * j)) (digest_at level (2 * j + 1)))
      | inr past ↦ let last : 2 * j + 1 ≡ length level = omega (arith, length-paired level) in
          ap length (paired-last level j last) ∙ digests.size (2 * j) (omega arith)
    ]

widths-above : (b : Bool) (levels : List (List Digest)) (widths : List ℕ) → map length levels ≡ widths → map length (cond b [] levels) ≡ cond b [] widths
widths-above true levels widths is = refl
widths-above false levels widths is = is

-- the levels are as wide as the widths say
pub widths-levels : (more : ℕ) (level : List Digest) → map length (levels_within more level) ≡ widths_within more (length level)
unfolding levels_within widths_within
widths-levels zero level = refl
widths-levels (suc more) level =
    ap (λ (t : List ℕ). length level ∷ t) (widths-above (nat_le (length level) 1) _ _ (widths-levels more (paired level) ∙ ap (widths_within more) (length-paired level)))

-- the top lies over the next level
pub top-over : (level : List Digest) (more : ℕ) (above : List Digest) → top_of (level ∷ levels_within more above) ≡ top_of (levels_within more above)
unfolding levels_within top_of
top-over level zero above = refl
top-over level (suc more) above = refl
