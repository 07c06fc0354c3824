-- The path of a page leads to the root.
use Rattle.std.proofs.Common.{◌≡◌, ◌⊎◌, ℕ, zero, suc, ◌+◌, ◌-◌, ◌*◌, ◌/◌, ◌%◌, ◌<◌, ◌≤◌, ◌==◌, Bool, true, false, cond, nat_le, List, [], ◌∷◌, ◌++◌, length, get_or, Option, Some, None, refl, sym, ap, ◌∙◌, arith, inl, inr}
use Rattle.std.specs.Prelude.{slice_get}
use Rattle.std.specs.List.{AllByRecursion}
use Rattle.std.specs.Option.{option_to_list}
use Rattle.std.proofs.lemmas.Bool.{leb-true, leb-false, eqb-true, eqb-false}
use Rattle.std.proofs.lemmas.Option.{slice_get-get_or, slice_get_cases}
use Rattle.std.proofs.lemmas.Slice.Eq.{bytes_eq-Decides}
use Rattle.sha2.specs.Sha256.{sha256}
use Rattle.node_page.specs.Opening.{page_of}
use Rattle.seal_log.specs.Digests.{Digest, leaf_message, pair_message, root_message, paired, levels_within, levels_over, digest_at, top_of, leaf_digests, root_over}
use Rattle.seal_log.specs.Paths.{has_partner, partner_of, partners_at, path_in, widths_within, widths_over, message_at, climbed, is_top, leads_to}
use Rattle.seal_log.proofs.Levels.{length-paired, paired-both, paired-last, top-over, AreDigests, paired-digests}
use Rattle.seal_log.proofs.Shapes.{either_way, levels-one, levels-more, widths-one, widths-more, pair-place, alone-place, climbed-alone, climbed-pair}
use Rattle.seal_log.proofs.Trees.{length-leaf_digests, leaf_digests-at}
use Rattle.seal_log.proofs.Hashed.{root-is}

pub path-alone : (level : List Digest) (above : List (List Digest)) (i : ℕ) → i < length level → has_partner (length level) i ≡ false → path_in (level ∷ above) i ≡ path_in above (i / 2)
unfolding path_in partners_at partner_of
path-alone level above i within alone =
    let here = alone-place (length level) i within alone in
    let even : (i % 2 == 1) ≡ false = isnt (i % 2 == 1) (λ e. let odd = eqb-true (i % 2) 1 e in omega (arith, here.place, odd)) in
    rw even (ap (λ (o : Option Digest). option_to_list o ++ path_in above (i / 2)) (nothing level (i + 1) (omega (arith, here.last, here.place))))
  where
    isnt : (b : Bool) → (b ≡ true → ⊥) → b ≡ false
    isnt true h = absurd (h refl)
    isnt false h = refl

    nothing : (level : List Digest) (k : ℕ) → length level ≤ k → slice_get level k ≡ None
    nothing level k past = told (slice_get_cases level k).1
      where
        told : ((x : Digest) × (k < length level) × (slice_get level k ≡ Some x) × (get_or level k x ≡ x)) ⊎ ((length level ≤ k) × (slice_get level k ≡ None)) → slice_get level k ≡ None
        told (inl some) = absurd (let lt = some.1 in omega arith)
        told (inr none) = none.1

partner-within : (level : List Digest) (i : ℕ) → i < length level → 2 * (i / 2) + 1 < length level → partner_of i < length level
unfolding partner_of
partner-within level i within pair = elim (either_way (i % 2 == 1)) [
  | inl odd ↦ rw odd (omega (arith, eqb-true (i % 2) 1 odd))
  | inr even ↦ rw even (omega (arith, eqb-false (i % 2) 1 even))
]

pub path-pair : (level : List Digest) (above : List (List Digest)) (i : ℕ) → i < length level → has_partner (length level) i ≡ true → path_in (level ∷ above) i ≡ digest_at level (partner_of i) ∷ path_in above (i / 2)
unfolding path_in partners_at
path-pair level above i within pair = ap (λ (o : Option Digest). option_to_list o ++ path_in above (i / 2)) (slice_get-get_or level (partner_of i) [] (partner-within level i within (pair-place (length level) i within pair)))

-- a digest and its partner are their pair
message-pair : (level : List Digest) (i : ℕ) → message_at i (digest_at level i) (digest_at level (partner_of i)) ≡ pair_message (digest_at level (2 * (i / 2))) (digest_at level (2 * (i / 2) + 1))
unfolding message_at partner_of
message-pair level i = elim (either_way (i % 2 == 1)) [
  | inl odd ↦ let is = eqb-true (i % 2) 1 odd in
      let left : i - 1 ≡ 2 * (i / 2) = omega (arith, is) in let right : i ≡ 2 * (i / 2) + 1 = omega (arith, is) in
      rw odd (both level (i - 1) i (2 * (i / 2)) (2 * (i / 2) + 1) left right)
  | inr even ↦ let is = eqb-false (i % 2) 1 even in
      let left : i ≡ 2 * (i / 2) = omega (arith, is) in let right : i + 1 ≡ 2 * (i / 2) + 1 = omega (arith, is) in
      rw even (both level i (i + 1) (2 * (i / 2)) (2 * (i / 2) + 1) left right)
]
  where
    both : (level : List Digest) (a b c d : ℕ) → a ≡ c → b ≡ d → pair_message (digest_at level a) (digest_at level b) ≡ pair_message (digest_at level c) (digest_at level d)
    both level a b c d l r = cc

climbed-nothing : (i : ℕ) (digest : Digest) → climbed [] i digest [] ≡ Some digest
unfolding climbed
climbed-nothing i digest = refl

path-nothing : (i : ℕ) → path_in [] i ≡ []
unfolding path_in
path-nothing i = refl

top-one : (level : List Digest) → top_of (level ∷ []) ≡ digest_at level 0
unfolding top_of
top-one level = refl

-- the lemma for the levels above, one level further down
abbrev Leads : ℕ → List Digest → Type 0
Leads more level = (i : ℕ) → i < length level → climbed (widths_within more (length level)) i (digest_at level i) (path_in (levels_within more level) i) ≡ Some (top_of (levels_within more level))

alone_one : (width i : ℕ) → width ≡ 1 → i ≡ 0 → has_partner width i ≡ false
unfolding has_partner
alone_one width i one first = rw (one, first) refl

leads_one : (more : ℕ) (level : List Digest) (i : ℕ) → length level ≤ 1 → i < length level → climbed (widths_within more (length level)) i (digest_at level i) (path_in (levels_within more level) i) ≡ Some (top_of (levels_within more level))
leads_one more level i few within =
    let first : i ≡ 0 = omega arith in
    let alone = alone_one (length level) i (omega arith) first in
    ap (λ (w : List ℕ). climbed w i (digest_at level i) (path_in (levels_within more level) i)) (widths-one more (length level) few)
    ∙ ap (λ (l : List (List Digest)). climbed (length level ∷ []) i (digest_at level i) (path_in l i)) (levels-one more level few)
    ∙ climbed-alone (length level) [] i (digest_at level i) (path_in (level ∷ []) i) alone
    ∙ ap (climbed [] (i / 2) (digest_at level i)) (path-alone level [] i within alone ∙ path-nothing (i / 2))
    ∙ climbed-nothing (i / 2) (digest_at level i)
    ∙ ap (λ (k : ℕ). Some (digest_at level k)) first ∙ sym (ap Some (ap top_of (levels-one more level few) ∙ top-one level))

leads_step : (more : ℕ) (level : List Digest) (i : ℕ) → 1 < length level → i < length level → Leads more (paired level)
    → climbed (length level ∷ widths_within more ((length level + 1) / 2)) i (digest_at level i) (path_in (level ∷ levels_within more (paired level)) i) ≡ Some (top_of (levels_within more (paired level)))
leads_step more level i wide within above = elim (either_way (has_partner (length level) i)) [
  | inl pair ↦
      ap (climbed (length level ∷ widths_within more ((length level + 1) / 2)) i (digest_at level i)) (path-pair level (levels_within more (paired level)) i within pair)
      ∙ climbed-pair (length level) (widths_within more ((length level + 1) / 2)) i (digest_at level i) (digest_at level (partner_of i)) (path_in (levels_within more (paired level)) (i / 2)) pair
      ∙ ap (λ (m : List ℕ). climbed (widths_within more ((length level + 1) / 2)) (i / 2) (sha256 m) (path_in (levels_within more (paired level)) (i / 2))) (message-pair level i)
      ∙ next (sha256 (pair_message (digest_at level (2 * (i / 2))) (digest_at level (2 * (i / 2) + 1)))) (sym (paired-both level (i / 2) (pair-place (length level) i within pair)))
  | inr alone ↦ let here = alone-place (length level) i within alone in
      ap (climbed (length level ∷ widths_within more ((length level + 1) / 2)) i (digest_at level i)) (path-alone level (levels_within more (paired level)) i within alone)
      ∙ climbed-alone (length level) (widths_within more ((length level + 1) / 2)) i (digest_at level i) (path_in (levels_within more (paired level)) (i / 2)) alone
      ∙ next (digest_at level i) (sym (paired-last level (i / 2) here.last ∙ ap (digest_at level) here.place))
]
  where
    next : (d : Digest) → d ≡ digest_at (paired level) (i / 2) → climbed (widths_within more ((length level + 1) / 2)) (i / 2) d (path_in (levels_within more (paired level)) (i / 2)) ≡ Some (top_of (levels_within more (paired level)))
    next d is =
        ap (λ (x : Digest). climbed (widths_within more ((length level + 1) / 2)) (i / 2) x (path_in (levels_within more (paired level)) (i / 2))) is
        ∙ ap (λ (w : ℕ). climbed (widths_within more w) (i / 2) (digest_at (paired level) (i / 2)) (path_in (levels_within more (paired level)) (i / 2))) (sym (length-paired level))
        ∙ above (i / 2) (omega (arith, length-paired level))

path_leads : (more : ℕ) (level : List Digest) → length level ≤ suc more → Leads more level
path_leads zero level few i within = leads_one zero level i few within
path_leads (suc more) level few i within = elim (either_way (nat_le (length level) 1)) [
  | inl one ↦ leads_one (suc more) level i (leb-true (length level) 1 one) within
  | inr many ↦ let wide : 1 < length level = omega (arith, leb-false (length level) 1 many) in
      let levels = levels-more more level wide in
      ap (λ (w : List ℕ). climbed w i (digest_at level i) (path_in (levels_within (suc more) level) i)) (widths-more more (length level) wide)
      ∙ ap (λ (l : List (List Digest)). climbed (length level ∷ widths_within more ((length level + 1) / 2)) i (digest_at level i) (path_in l i)) levels
      ∙ leads_step more level i wide within (path_leads more (paired level) (omega (arith, length-paired level)))
      ∙ sym (ap Some (ap top_of levels ∙ top-over level more (paired level)))
]

-- the path of a page of a file leads to the root
pub page_leads : (file : List ℕ) (n i : ℕ) → i < n → leads_to (root_over (leaf_digests file n)) n i (page_of file i) (path_in (levels_over (leaf_digests file n)) i) ≡ true
unfolding leads_to is_top widths_over
page_leads file n i lt =
    let leaves = leaf_digests file n in
    let size = length-leaf_digests file n in
    let climbs : climbed (widths_within n n) i (sha256 (leaf_message (page_of file i))) (path_in (levels_over leaves) i) ≡ Some (top_of (levels_over leaves)) =
    ap (λ (d : Digest). climbed (widths_within n n) i d (path_in (levels_over leaves) i)) (sym (leaf_digests-at file n i lt))
    ∙ ap (λ (k : ℕ). climbed (widths_within k k) i (digest_at leaves i) (path_in (levels_over leaves) i)) (sym size)
    ∙ path_leads (length leaves) leaves (omega arith) i (omega (arith, size)) in
    rw climbs ((bytes_eq-Decides (sha256 (root_message n (top_of (levels_over leaves)))) (root_over leaves)).1 (sym (root-is file n)))

-- ---- digests of all levels

pub levels-digests : (more : ℕ) (level : List Digest) → AreDigests level → AllByRecursion AreDigests (levels_within more level)
unfolding levels_within
levels-digests zero level digests = (digests, tt)
levels-digests (suc more) level digests = (digests, above (nat_le (length level) 1) (levels_within more (paired level)) (levels-digests more (paired level) (paired-digests level digests)))
  where
    above : (b : Bool) (levels : List (List Digest)) → AllByRecursion AreDigests levels → AllByRecursion AreDigests (cond b [] levels)
    above true levels each = tt
    above false levels each = each
