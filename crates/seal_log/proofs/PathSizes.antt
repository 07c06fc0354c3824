-- How long paths are, and their digests.
use Rattle.std.proofs.Common.{◌≡◌, ℕ, zero, suc, ◌+◌, ◌*◌, ◌/◌, ◌^◌, ◌<◌, ◌≤◌, List, [], ◌∷◌, ◌++◌, length, Option, Some, None, refl, sym, ap, ◌∙◌, arith, inl, inr, nat_le, take, ◌%◌, append_assoc, length-append}
use Rattle.std.specs.Prelude.{slice_get}
use Rattle.std.specs.List.{AllByRecursion, flat_map}
use Rattle.std.proofs.lemmas.List.{take_all}
use Rattle.std.specs.Option.{option_to_list}
use Rattle.std.proofs.lemmas.Bool.{leb-true, leb-false}
use Rattle.std.proofs.lemmas.Option.{slice_get_within, get_or_from_slice_get}
use Rattle.std.proofs.Math.Nat.{pow-succ', mod-eq_of_lt}
use Rattle.seal_log.specs.Digests.{Digest, paired, levels_within, levels_over}
use Rattle.seal_log.specs.Paths.{partner_of, partners_at, path_in}
use Rattle.seal_log.specs.Spelling.{IsDigest, digest_bytes}
use Rattle.seal_log.proofs.Levels.{length-paired, AreDigests}
use Rattle.seal_log.proofs.Shapes.{either_way, levels-one, levels-more}

-- at most one partner a level
pub path-few : (levels : List (List Digest)) (i : ℕ) → length (path_in levels i) ≤ length levels
unfolding path_in partners_at
path-few [] i = omega arith
path-few (level ∷ above) i =
    let one = at_most (slice_get level (partner_of i)) in
    omega (arith, path-few above (i / 2), one, length-append (option_to_list (slice_get level (partner_of i))) (path_in above (i / 2)))
  where
    at_most : (o : Option Digest) → length (option_to_list o) ≤ 1
    at_most None = omega arith
    at_most (Some d) = omega arith

-- a level of at most `2 * most` digests has at most `most` pairs
half-most : (width most : ℕ) → width ≤ 2 * most → (width + 1) / 2 ≤ most
half-most width most le = omega arith

levels-zero : (level : List Digest) → length (levels_within 0 level) ≡ 1
unfolding levels_within
levels-zero level = refl

-- a level of up to 2 ^ j digests has at most j levels above it
pub levels-few : (j more : ℕ) (level : List Digest) → length level ≤ 2 ^ j → length (levels_within more level) ≤ j + 1
levels-few zero more level le = omega (arith, ap length (levels-one more level (omega arith)))
levels-few (suc j) zero level le = omega (arith, levels-zero level)
levels-few (suc j) (suc more) level le = elim (either_way (nat_le (length level) 1)) [
  | inl one ↦ omega (arith, ap length (levels-one (suc more) level (leb-true (length level) 1 one)))
  | inr many ↦ let wide : 1 < length level = omega (arith, leb-false (length level) 1 many) in
      let twice : 2 ^ suc j ≡ 2 * 2 ^ j = pow-succ' 2 j in
      omega (arith, ap length (levels-more more level wide), levels-few j more (paired level) (omega (arith, length-paired level, half-most (length level) (2 ^ j) (omega (arith, le, twice)))))
]

-- over up to 2 ^ j leaves a path has at most j + 1 digests
pub path-short : (j : ℕ) (leaves : List Digest) (i : ℕ) → length leaves ≤ 2 ^ j → length (path_in (levels_over leaves) i) ≤ j + 1
path-short j leaves i le = omega (arith, path-few (levels_over leaves) i, levels-few j (length leaves) leaves le)

-- each digest of a path is one of the levels'
pub path-digests : (levels : List (List Digest)) (i : ℕ) → AllByRecursion AreDigests levels → AllByRecursion IsDigest (path_in levels i)
unfolding path_in partners_at
path-digests [] i each = tt
path-digests (level ∷ above) i each = joined (slice_get level (partner_of i)) (path_in above (i / 2)) (λ d is. got level (partner_of i) d each.0 is) (path-digests above (i / 2) each.1)
  where
    got : (level : List Digest) (k : ℕ) (d : Digest) → AreDigests level → slice_get level k ≡ Some d → length d ≡ 32
    got level k d digests is = sym (ap length (get_or_from_slice_get level k d [] is)) ∙ digests.size k (slice_get_within level k d is)

    joined : (o : Option Digest) (path : List Digest) → ((d : Digest) → o ≡ Some d → length d ≡ 32) → AllByRecursion IsDigest path → AllByRecursion IsDigest (option_to_list o ++ path)
    joined None path size rest = rest
    joined (Some d) path size rest = (size d refl, rest)

-- a path as it is written
pub path_put : (before middle after : List ℕ) (items path : List Digest) (n len : ℕ) → middle ≡ before ++ len ∷ [] → after ≡ middle ++ flat_map digest_bytes (take n items) → length items ≤ n → items ≡ path → len ≡ length path → length path < 256
    → after ≡ before ++ (length path % 256 ∷ flat_map digest_bytes path)
path_put before middle after items path n len opened put all same size few =
    put ∙ ap (λ (t : List ℕ). t ++ flat_map digest_bytes (take n items)) opened
    ∙ append_assoc before (len ∷ []) (flat_map digest_bytes (take n items))
    ∙ ap (λ (ds : List Digest). before ++ (len ∷ flat_map digest_bytes ds)) (take_all n items all ∙ same)
    ∙ ap (λ (m : ℕ). before ++ (m ∷ flat_map digest_bytes path)) (size ∙ sym (mod-eq_of_lt few))
