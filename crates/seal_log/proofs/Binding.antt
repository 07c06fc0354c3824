-- A path that leads to a file's root digest is that of the file's own page, or two byte strings with one digest are found.
use Rattle.std.proofs.Common.{◌≡◌, ◌⊎◌, ℕ, zero, suc, ◌+◌, ◌*◌, ◌/◌, ◌%◌, ◌<◌, ◌≤◌, ◌==◌, Bool, true, false, cond, nat_le, List, [], ◌∷◌, ◌++◌, length, take, drop, Some, None, refl, sym, ap, subst, ◌∙◌, arith, inl, inr, length-append}
use Rattle.std.specs.List.{flat_map}
use Rattle.std.specs.Str.{bytes_eq}
use Rattle.std.proofs.lemmas.Bool.{leb-true, leb-false}
use Rattle.std.proofs.lemmas.List.{take_at, drop_at}
use Rattle.std.proofs.lemmas.Slice.Eq.{bytes_eq-Decides}
use Rattle.metric_laws.specs.Lists.{IsIn}
use Rattle.metric_laws.proofs.Published.{in-append_left, in-append_right}
use Rattle.sha2.specs.Sha256.{sha256}
use Rattle.sha2.proofs.Facts256.{length-sha256}
use Rattle.seal_log.specs.Digests.{Digest, pair_message, paired, levels_within, digest_at, top_of, pair_messages}
use Rattle.seal_log.specs.Paths.{has_partner, widths_within, message_at, climbed, climb_messages}
use Rattle.seal_log.specs.Collisions.{Collide}
use Rattle.seal_log.proofs.Levels.{length-paired, paired-both, paired-last, pair-in, AreDigests, paired-digests, top-over}
use Rattle.seal_log.proofs.Shapes.{either_way, levels-one, levels-more, widths-one, widths-more, pair-place, StandsAlone, alone-place, digest-own, climbed-alone, climbed-pair, climbed-short, messages-alone, messages-pair}

-- two strings with one digest are one string, or they collide
pub one_or_collide : (ones others : List (List ℕ)) (one other : List ℕ) → IsIn one ones → IsIn other others → sha256 one ≡ sha256 other → (one ≡ other) ⊎ Collide ones others
one_or_collide ones others one other one_in other_in same = elim (either_way (bytes_eq one other)) [
  | inl is ↦ inl ((bytes_eq-Decides one other).0 is)
  | inr isnt ↦ inr (record { one = one; other = other; one_in = one_in; other_in = other_in; differ = λ e. differs (bytes_eq one other) isnt ((bytes_eq-Decides one other).1 e); same = same })
]
  where
    differs : (b : Bool) → b ≡ false → b ≡ true → ⊥
    differs b isnt is = cc

-- ---- what a message tells

left_is : (a b c d : List ℕ) → length a ≡ length c → a ++ b ≡ c ++ d → a ≡ c
left_is a b c d size same = sym (take_at a b (length c) size) ∙ ap (take (length c)) same ∙ take_at c d (length c) refl

right_is : (a b c d : List ℕ) → length b ≡ length d → a ++ b ≡ c ++ d → b ≡ d
right_is a b c d size same =
    let front : length a ≡ length c = omega (arith, ap length same, length-append a b, length-append c d, size) in
    sym (drop_at a b (length c) front) ∙ ap (drop (length c)) same ∙ drop_at c d (length c) refl

behind : (x y : ℕ) (xs ys : List ℕ) → x ∷ xs ≡ y ∷ ys → xs ≡ ys
behind x y xs ys same = cc

-- which of the two digests of a pair was climbed from
from_pair : (b : Bool) (digest p left right : Digest) → length digest ≡ 32 → length left ≡ 32 → length right ≡ 32 → cond b (pair_message p digest) (pair_message digest p) ≡ pair_message left right → digest ≡ cond b right left
from_pair true digest p left right size l r same = right_is p digest left right (size ∙ sym r) (behind 1 1 (p ++ digest) (left ++ right) same)
from_pair false digest p left right size l r same = left_is digest p left right (size ∙ sym l) (behind 1 1 (digest ++ p) (left ++ right) same)

pub message_known : (level : List Digest) (i : ℕ) (digest p : Digest) → AreDigests level → 2 * (i / 2) + 1 < length level → length digest ≡ 32
    → message_at i digest p ≡ pair_message (digest_at level (2 * (i / 2))) (digest_at level (2 * (i / 2) + 1)) → digest ≡ digest_at level i
unfolding message_at
message_known level i digest p digests pair size same =
    from_pair (i % 2 == 1) digest p (digest_at level (2 * (i / 2))) (digest_at level (2 * (i / 2) + 1)) size (digests.size (2 * (i / 2)) (omega arith)) (digests.size (2 * (i / 2) + 1) pair) same ∙ digest-own level i

-- ---- up the levels

-- the digest is the level's own, or messages of the levels and of the climb collide
abbrev pub Bound : List (List Digest) → List ℕ → List Digest → ℕ → Digest → List Digest → Type 0
Bound levels widths level i digest path = (digest ≡ digest_at level i) ⊎ Collide (flat_map pair_messages levels) (climb_messages widths i digest path)

some-is : (x y : Digest) → Some x ≡ Some y → x ≡ y
some-is x y e = cc

climbed-end : (i : ℕ) (digest top : Digest) (path : List Digest) → climbed [] i digest path ≡ Some top → digest ≡ top
unfolding climbed
climbed-end i digest top [] e = some-is digest top e
climbed-end i digest top (p ∷ path) e = absurd cc

one_level : (more : ℕ) (level : List Digest) (i : ℕ) (digest : Digest) (path : List Digest) → i < length level → length level ≤ 1
    → climbed (widths_within more (length level)) i digest path ≡ Some (top_of (levels_within more level)) → digest ≡ digest_at level i
unfolding top_of has_partner
one_level more level i digest path within one leads =
    let first : i ≡ 0 = omega arith in
    let alone : has_partner (length level) i ≡ false = is_alone level i (omega arith) first in
    let top : top_of (levels_within more level) ≡ digest_at level 0 = ap top_of (levels-one more level one) in
    let ends : climbed [] (i / 2) digest path ≡ Some (digest_at level 0) =
    sym (climbed-alone (length level) [] i digest path alone) ∙ ap (λ (t : List ℕ). climbed t i digest path) (sym (widths-one more (length level) one)) ∙ leads ∙ ap Some top in
    climbed-end (i / 2) digest (digest_at level 0) path ends ∙ ap (digest_at level) (sym first)
  where
    is_alone : (level : List Digest) (i : ℕ) → length level ≡ 1 → i ≡ 0 → has_partner (length level) i ≡ false
    is_alone level i size first = rw (size, first) refl

-- a collision above is one of all levels
in_next : (level : List Digest) (levels : List (List Digest)) (others more : List (List ℕ)) → ((x : List ℕ) → IsIn x others → IsIn x more)
    → Collide (flat_map pair_messages levels) others → Collide (flat_map pair_messages (level ∷ levels)) more
in_next level levels others more within c = record {
  one = c.one;
  other = c.other;
  one_in = in-append_right (pair_messages level) (flat_map pair_messages levels) c.one c.one_in;
  other_in = within c.other c.other_in;
  differ = c.differ;
  same = c.same;
}

-- a digest that stands alone goes up unchanged
alone_bound : (level : List Digest) (above : List (List Digest)) (widths : List ℕ) (i : ℕ) (digest : Digest) (path : List Digest) → StandsAlone (length level) i → has_partner (length level) i ≡ false
    → Bound above widths (paired level) (i / 2) digest path → Bound (level ∷ above) (length level ∷ widths) level i digest path
alone_bound level above widths i digest path alone is (inl own) = inl (own ∙ paired-last level (i / 2) alone.last ∙ ap (digest_at level) alone.place)
alone_bound level above widths i digest path alone is (inr found) =
    inr (in_next level above (climb_messages widths (i / 2) digest path) (climb_messages (length level ∷ widths) i digest path)
    (λ x inside. subst (IsIn x) (sym (messages-alone (length level) widths i digest path is)) inside) found)

-- a pair goes up as its digest
pair_bound : (level : List Digest) (above : List (List Digest)) (widths : List ℕ) (i : ℕ) (digest p : Digest) (path : List Digest) → AreDigests level → 2 * (i / 2) + 1 < length level → length digest ≡ 32
    → has_partner (length level) i ≡ true → Bound above widths (paired level) (i / 2) (sha256 (message_at i digest p)) path → Bound (level ∷ above) (length level ∷ widths) level i digest (p ∷ path)
pair_bound level above widths i digest p path digests pair size is (inl own) =
    let message = pair_message (digest_at level (2 * (i / 2))) (digest_at level (2 * (i / 2) + 1)) in
    let shown = climb_messages (length level ∷ widths) i digest (p ∷ path) in
    let shown_in : IsIn (message_at i digest p) shown = subst (IsIn (message_at i digest p)) (sym (messages-pair (length level) widths i digest p path is)) (inl refl) in
    let known_in : IsIn message (flat_map pair_messages (level ∷ above)) = in-append_left (pair_messages level) (flat_map pair_messages above) message (pair-in level (i / 2) pair) in
    told (one_or_collide (flat_map pair_messages (level ∷ above)) shown message (message_at i digest p) known_in shown_in (sym (own ∙ paired-both level (i / 2) pair)))
  where
    told : (pair_message (digest_at level (2 * (i / 2))) (digest_at level (2 * (i / 2) + 1)) ≡ message_at i digest p) ⊎ Collide (flat_map pair_messages (level ∷ above)) (climb_messages (length level ∷ widths) i digest (p ∷ path))
        → Bound (level ∷ above) (length level ∷ widths) level i digest (p ∷ path)
    told (inl same) = inl (message_known level i digest p digests pair size (sym same))
    told (inr found) = inr found
pair_bound level above widths i digest p path digests pair size is (inr found) =
    inr (in_next level above (climb_messages widths (i / 2) (sha256 (message_at i digest p)) path) (climb_messages (length level ∷ widths) i digest (p ∷ path))
    (λ x inside. subst (IsIn x) (sym (messages-pair (length level) widths i digest p path is)) (inr inside)) found)

-- the lemma for the levels above, one level further down
abbrev Climbs : ℕ → List Digest → Type 0
Climbs more level = (i : ℕ) (digest : Digest) (path : List Digest) → i < length level → length digest ≡ 32
    → climbed (widths_within more (length level)) i digest path ≡ Some (top_of (levels_within more level)) → Bound (levels_within more level) (widths_within more (length level)) level i digest path

climb_step : (more : ℕ) (level : List Digest) (i : ℕ) (digest : Digest) (path : List Digest) → AreDigests level → 1 < length level → i < length level → length digest ≡ 32
    → Climbs more (paired level) → climbed (length level ∷ widths_within more ((length level + 1) / 2)) i digest path ≡ Some (top_of (levels_within more (paired level)))
    → Bound (level ∷ levels_within more (paired level)) (length level ∷ widths_within more ((length level + 1) / 2)) level i digest path
climb_step more level i digest path digests wide within size above leads = by_partner path (either_way (has_partner (length level) i)) leads
  where
    half : i / 2 < length (paired level)
    half = omega (arith, length-paired level)

    next : (digest : Digest) (path : List Digest) → length digest ≡ 32 → climbed (widths_within more ((length level + 1) / 2)) (i / 2) digest path ≡ Some (top_of (levels_within more (paired level)))
        → Bound (levels_within more (paired level)) (widths_within more ((length level + 1) / 2)) (paired level) (i / 2) digest path
    next digest path size leads =
        subst (λ (w : ℕ). Bound (levels_within more (paired level)) (widths_within more w) (paired level) (i / 2) digest path) (length-paired level)
        (above (i / 2) digest path half size (ap (λ (w : ℕ). climbed (widths_within more w) (i / 2) digest path) (length-paired level) ∙ leads))

    by_partner : (path : List Digest) → (has_partner (length level) i ≡ true) ⊎ (has_partner (length level) i ≡ false)
        → climbed (length level ∷ widths_within more ((length level + 1) / 2)) i digest path ≡ Some (top_of (levels_within more (paired level)))
        → Bound (level ∷ levels_within more (paired level)) (length level ∷ widths_within more ((length level + 1) / 2)) level i digest path
    by_partner [] (inl partner) leads = absurd (none_some (sym (climbed-short (length level) (widths_within more ((length level + 1) / 2)) i digest partner) ∙ leads))
      where
        none_some : {d : Digest} → None ≡ Some d → ⊥
        none_some e = cc
    by_partner (p ∷ path) (inl partner) leads =
        pair_bound level (levels_within more (paired level)) (widths_within more ((length level + 1) / 2)) i digest p path digests (pair-place (length level) i within partner) size partner
        (next (sha256 (message_at i digest p)) path (length-sha256 (message_at i digest p)) (sym (climbed-pair (length level) (widths_within more ((length level + 1) / 2)) i digest p path partner) ∙ leads))
    by_partner path (inr alone) leads =
        alone_bound level (levels_within more (paired level)) (widths_within more ((length level + 1) / 2)) i digest path (alone-place (length level) i within alone) alone
        (next digest path size (sym (climbed-alone (length level) (widths_within more ((length level + 1) / 2)) i digest path alone) ∙ leads))

-- a climb to the top of the levels begins with the level's own digest, or messages collide
pub climb_binds : (more : ℕ) (level : List Digest) → AreDigests level → length level ≤ suc more → Climbs more level
climb_binds zero level digests few i digest path within size leads = inl (one_level zero level i digest path within few leads)
climb_binds (suc more) level digests few i digest path within size leads = elim (either_way (nat_le (length level) 1)) [
  | inl one ↦ inl (one_level (suc more) level i digest path within (leb-true (length level) 1 one) leads)
  | inr many ↦ let wide : 1 < length level = omega (arith, leb-false (length level) 1 many) in
      let levels = levels-more more level wide in
      let widths = widths-more more (length level) wide in
      let top : top_of (levels_within (suc more) level) ≡ top_of (levels_within more (paired level)) = ap top_of levels ∙ top-over level more (paired level) in
      let goes : climbed (length level ∷ widths_within more ((length level + 1) / 2)) i digest path ≡ Some (top_of (levels_within more (paired level))) =
      ap (λ (w : List ℕ). climbed w i digest path) (sym widths) ∙ leads ∙ ap Some top in
      let bound = climb_step more level i digest path digests wide within size (climb_binds more (paired level) (paired-digests level digests) (omega (arith, length-paired level))) goes in
      subst (λ (l : List (List Digest)). Bound l (widths_within (suc more) (length level)) level i digest path) (sym levels)
      (subst (λ (w : List ℕ). Bound (level ∷ levels_within more (paired level)) w level i digest path) (sym widths) bound)
]
