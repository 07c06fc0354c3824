-- The levels as the code makes them, and a path as it is collected.
use Rattle.std.proofs.Common.{◌≡◌, ℕ, zero, suc, ◌+◌, ◌-◌, ◌/◌, ◌<◌, ◌≤◌, ◌^◌, nat_le, List, [], ◌∷◌, ◌++◌, length, take, drop, get_or, Option, Some, None, refl, sym, ap, subst, ◌∙◌, arith, inl, inr, append_assoc, add-one, zero-add}
use Rattle.std.specs.Prelude.{slice_get, IsTrue}
use Rattle.disk_model.specs.Disk.{DiskState, IsUnchanged}
use Rattle.std.specs.Option.{option_to_list}
use Rattle.std.proofs.lemmas.Bool.{leb-true, leb-false}
use Rattle.std.proofs.lemmas.List.{append-nil, drop_all, take_all}
use Rattle.std.proofs.Math.Seq.{drop-cons}
use Rattle.std.proofs.lemmas.List.FromFn.{map-range_with_len_more, length-map-range_with_len, get_or-map-range_with_len}
use Rattle.node_page.specs.Opening.{page_of}
use Rattle.sha2.specs.Sha256.{sha256}
use Rattle.seal_log.specs.Digests.{Digest, leaf_message, leaf_digests, pair_message, root_message, paired, levels_within, levels_over, lowest, digest_at, top_of, root_over, AreLevels}
use Rattle.seal_log.specs.Paths.{partner_of, partners_at, path_in}
use Rattle.seal_log.proofs.Shapes.{either_way, levels-one, levels-more}
use Rattle.seal_log.proofs.Levels.{length-paired}

-- the bound on the number of levels makes no difference where it is large enough
pub levels-enough : (more other : ℕ) (level : List Digest) → length level ≤ suc more → length level ≤ suc other → levels_within more level ≡ levels_within other level
levels-enough zero other level few enough = levels-one zero level few ∙ sym (levels-one other level few)
levels-enough (suc more) zero level few enough = levels-one (suc more) level enough ∙ sym (levels-one zero level enough)
levels-enough (suc more) (suc other) level few enough = elim (either_way (nat_le (length level) 1)) [
  | inl one ↦ levels-one (suc more) level (leb-true (length level) 1 one) ∙ sym (levels-one (suc other) level (leb-true (length level) 1 one))
  | inr many ↦ let wide : 1 < length level = omega (arith, leb-false (length level) 1 many) in
      levels-more more level wide ∙ ap (λ (t : List (List Digest)). level ∷ t) (levels-enough more other (paired level) (omega (arith, length-paired level)) (omega (arith, length-paired level))) ∙ sym (levels-more other level wide)
]

-- one level more
pub levels-step : (level : List Digest) → 1 < length level → levels_over level ≡ level ∷ levels_over (paired level)
levels-step level wide = step (length level) level refl wide
  where
    step : (n : ℕ) (level : List Digest) → length level ≡ n → 1 < length level → levels_over level ≡ level ∷ levels_over (paired level)
    step zero level size wide = absurd (omega arith)
    step (suc more) level size wide =
        ap (λ (k : ℕ). levels_within k level) size ∙ levels-more more level wide
        ∙ ap (λ (t : List (List Digest)). level ∷ t) (levels-enough more (length (paired level)) (paired level) (omega (arith, length-paired level)) (omega arith))

pub levels-last : (level : List Digest) → length level ≤ 1 → levels_over level ≡ level ∷ []
levels-last level few = levels-one (length level) level few

lowest-within : (more : ℕ) (level : List Digest) → lowest (levels_within more level) ≡ level
unfolding levels_within
lowest-within zero level = refl
lowest-within (suc more) level = refl

pub lowest-over : (level : List Digest) → lowest (levels_over level) ≡ level
lowest-over level = lowest-within (length level) level

pub goes_higher : (levels : List (List Digest)) (level above leaves : List Digest) → 1 < length level → above ≡ paired level → levels ++ levels_over level ≡ levels_over leaves → (levels ++ level ∷ []) ++ levels_over above ≡ levels_over leaves
goes_higher levels level above leaves wide is so_far =
    append_assoc levels (level ∷ []) (levels_over above) ∙ ap (λ (a : List Digest). levels ++ (level ∷ levels_over a)) is ∙ ap (λ (t : List (List Digest)). levels ++ t) (sym (levels-step level wide)) ∙ so_far

pub top-end : (levels : List (List Digest)) (level : List Digest) → top_of (levels ++ level ∷ []) ≡ digest_at level 0
unfolding top_of
top-end [] level = refl
top-end (a ∷ []) level = refl
top-end (a ∷ b ∷ levels) level = top-end (b ∷ levels) level

-- the tree that is made of all levels
pub are_levels : (levels : List (List Digest)) (level leaves : List Digest) (root : Digest) → length level ≤ 1 → 1 ≤ length leaves → length leaves < 2 ^ 32 → levels ++ levels_over level ≡ levels_over leaves
    → root ≡ sha256 (root_message (length leaves) (digest_at level 0)) → (lowest (levels ++ level ∷ []) ≡ leaves) × AreLevels (levels ++ level ∷ []) root
unfolding root_over
are_levels levels level leaves root few some small so_far root_is = (
  low,
  record {
    whole = all ∙ ap levels_over (sym low);
    some = subst (λ (l : List Digest). 1 ≤ length l) (sym low) some;
    few = subst (λ (l : List Digest). length l < 2 ^ 32) (sym low) small;
    root_is = root_is ∙ ap (λ (t : Digest). sha256 (root_message (length leaves) t)) (sym (top-end levels level) ∙ ap top_of all) ∙ ap root_over (sym low);
  },
)
  where
    all : levels ++ level ∷ [] ≡ levels_over leaves
    all = ap (λ (t : List (List Digest)). levels ++ t) (sym (levels-last level few)) ∙ so_far

    low : lowest (levels ++ level ∷ []) ≡ leaves
    low = ap lowest (ap (λ (t : List (List Digest)). levels ++ t) (sym (levels-last level few)) ∙ so_far) ∙ lowest-over leaves

pub root_made : (leaves level : List Digest) (n : ℕ) (top root : Digest) → root ≡ sha256 (root_message n top) → n ≡ length leaves → top ≡ get_or level 0 top → 1 ≤ length level
    → root ≡ sha256 (root_message (length leaves) (digest_at level 0))
root_made leaves [] n top root is pages first some = absurd (omega arith)
root_made leaves (d ∷ level) n top root is pages first some =
    is ∙ ap (λ (m : ℕ). sha256 (root_message m top)) pages ∙ ap (λ (t : Digest). sha256 (root_message (length leaves) t)) first

-- ---- a level paired

pub paired-two : (level : List Digest) → 2 ≤ length level → paired level ≡ sha256 (pair_message (digest_at level 0) (digest_at level 1)) ∷ paired (take (length level - 2) (drop 2 level))
unfolding paired
paired-two [] some = absurd (omega arith)
paired-two (d ∷ []) some = absurd (omega arith)
paired-two (a ∷ b ∷ rest) some = ap (λ (t : List Digest). sha256 (pair_message a b) ∷ paired t) (sym (take_all (length (a ∷ b ∷ rest) - 2) rest (omega arith)))

pub paired-one : (level : List Digest) → length level ≡ 1 → paired level ≡ digest_at level 0 ∷ paired (take (length level - 1) (drop 1 level))
unfolding paired
paired-one [] one = absurd (omega arith)
paired-one (d ∷ []) one = refl
paired-one (a ∷ b ∷ rest) one = absurd (omega arith)

pub paired-more : (above : List Digest) (digest : Digest) (rest others goal : List Digest) → paired rest ≡ digest ∷ paired others → above ++ paired rest ≡ goal → (above ++ digest ∷ []) ++ paired others ≡ goal
paired-more above digest rest others goal is so_far = append_assoc above (digest ∷ []) (paired others) ∙ ap (λ (t : List Digest). above ++ t) (sym is) ∙ so_far

pub paired-done : (above rest goal : List Digest) → rest ≡ [] → above ++ paired rest ≡ goal → above ≡ goal
unfolding paired
paired-done above rest goal none so_far = sym (append-nil above) ∙ ap (λ (t : List Digest). above ++ paired t) (sym none) ∙ so_far

-- ---- a path collected

pub path-more : (levels : List (List Digest)) (n i : ℕ) (level other : List Digest) (path : List Digest) (goal : List Digest) → n < length levels → level ≡ get_or levels n other
    → path ++ path_in (drop n levels) i ≡ goal → (path ++ option_to_list (slice_get level (partner_of i))) ++ path_in (drop (n + 1) levels) (i / 2) ≡ goal
unfolding path_in partners_at
path-more levels n i level other path goal within is so_far =
    let split : drop n levels ≡ level ∷ drop (n + 1) levels = rw add-one (drop-cons levels n other within ∙ ap (λ (l : List Digest). l ∷ drop (suc n) levels) (sym is)) in
    append_assoc path (option_to_list (slice_get level (partner_of i))) (path_in (drop (n + 1) levels) (i / 2)) ∙ ap (λ (t : List (List Digest)). path ++ path_in t i) (sym split) ∙ so_far

pub path-none : (levels : List (List Digest)) (n i : ℕ) (level other : List Digest) (path : List Digest) (goal : List Digest) → n < length levels → level ≡ get_or levels n other → slice_get level (partner_of i) ≡ None
    → path ++ path_in (drop n levels) i ≡ goal → path ++ path_in (drop (n + 1) levels) (i / 2) ≡ goal
path-none levels n i level other path goal within is none so_far =
    ap (λ (t : List Digest). t ++ path_in (drop (n + 1) levels) (i / 2)) (sym (append-nil path) ∙ ap (λ (o : Option Digest). path ++ option_to_list o) (sym none)) ∙ path-more levels n i level other path goal within is so_far

pub path-some : (levels : List (List Digest)) (n i : ℕ) (level other : List Digest) (path : List Digest) (partner : Digest) (goal : List Digest) → n < length levels → level ≡ get_or levels n other → slice_get level (partner_of i) ≡ Some partner
    → path ++ path_in (drop n levels) i ≡ goal → (path ++ partner ∷ []) ++ path_in (drop (n + 1) levels) (i / 2) ≡ goal
path-some levels n i level other path partner goal within is some so_far =
    ap (λ (o : Option Digest). (path ++ option_to_list o) ++ path_in (drop (n + 1) levels) (i / 2)) (sym some) ∙ path-more levels n i level other path goal within is so_far

pub path-done : (levels : List (List Digest)) (n i : ℕ) (path : List Digest) (goal : List Digest) → length levels ≤ n → path ++ path_in (drop n levels) i ≡ goal → path ≡ goal
unfolding path_in
path-done levels n i path goal past so_far = sym (append-nil path) ∙ ap (λ (t : List (List Digest)). path ++ path_in t i) (sym (drop_all n levels past)) ∙ so_far

-- ---- the leaves, page by page

pub leaf_digests-more : (file : List ℕ) (n : ℕ) → leaf_digests file (n + 1) ≡ leaf_digests file n ++ sha256 (leaf_message (page_of file n)) ∷ []
unfolding leaf_digests
leaf_digests-more file n = map-range_with_len_more (λ i. sha256 (leaf_message (page_of file i))) 0 n n (zero-add n)

pub leaf_digests-none : (file : List ℕ) → leaf_digests file 0 ≡ []
unfolding leaf_digests
leaf_digests-none file = refl

pub length-leaf_digests : (file : List ℕ) (n : ℕ) → length (leaf_digests file n) ≡ n
unfolding leaf_digests
length-leaf_digests file n = length-map-range_with_len (λ i. sha256 (leaf_message (page_of file i))) 0 n

pub leaf_digests-at : (file : List ℕ) (n i : ℕ) → i < n → digest_at (leaf_digests file n) i ≡ sha256 (leaf_message (page_of file i))
unfolding leaf_digests
leaf_digests-at file n i lt = get_or-map-range_with_len (λ i. sha256 (leaf_message (page_of file i))) 0 n i i [] lt (zero-add i)

-- one page more was sealed, over a disk that was not changed
pub leaf_made : (start now : DiskState) (leaves : List Digest) (n : ℕ) (digest : Digest) → IsTrue start.is_known → IsUnchanged start now → leaves ≡ leaf_digests start.bytes n
    → (IsTrue now.is_known → digest ≡ sha256 (leaf_message (page_of now.bytes n))) → leaves ++ digest ∷ [] ≡ leaf_digests start.bytes (n + 1)
leaf_made start now leaves n digest told same so_far sealed =
    let here = sealed (subst IsTrue (sym same.same_known) told) ∙ ap (λ (b : List ℕ). sha256 (leaf_message (page_of b n))) same.same_bytes in
    ap (λ (t : List Digest). t ++ digest ∷ []) so_far ∙ ap (λ (d : Digest). leaf_digests start.bytes n ++ d ∷ []) here ∙ sym (leaf_digests-more start.bytes n)
