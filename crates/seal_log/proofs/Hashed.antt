-- A carried page that leads to a file's root digest is the file's own, or two byte strings with one digest are found.
use Rattle.std.proofs.Common.{◌≡◌, ◌⊎◌, ℕ, zero, suc, ◌+◌, ◌^◌, ◌<◌, ◌≤◌, ◌==◌, Bool, true, false, cond, List, [], ◌∷◌, ◌++◌, length, map, drop, Option, Some, None, refl, sym, ap, subst, ◌∙◌, arith, inl, inr}
use Rattle.std.specs.List.{flat_map, range_with_len, AllByRecursion}
use Rattle.std.proofs.lemmas.Bool.{eqb-true, eqb-false}
use Rattle.std.proofs.lemmas.List.{drop_at}
use Rattle.std.proofs.lemmas.Slice.Eq.{bytes_eq-Decides}
use Rattle.byteorder.specs.Endian.{big_bytes, big_number}
use Rattle.byteorder.specs.Numbers.{big_number-reads_back, length-bytes_high_first}
use Rattle.metric_laws.specs.Lists.{IsIn}
use Rattle.metric_laws.proofs.Published.{in-append_left, in-append_right, map-in}
use Rattle.sha2.specs.Sha256.{sha256}
use Rattle.sha2.proofs.Facts256.{length-sha256}
use Rattle.node_page.specs.Opening.{page_of}
use Rattle.seal_log.specs.declared.faults.ProofFault.{ProofFault}
use Rattle.seal_log.specs.declared.faults.ProofFault.TheVariants as faults
use Rattle.seal_log.specs.declared.parts.CarriedPage.{CarriedPage}
use Rattle.seal_log.specs.Digests.{Digest, leaf_message, root_message, levels_over, digest_at, top_of, leaf_digests, root_over, pair_messages, hashed_for}
use Rattle.seal_log.specs.Paths.{widths_over, climbed, climb_messages, is_top, leads_to, top_messages, check_messages}
use Rattle.seal_log.specs.Collisions.{Collide}
use Rattle.seal_log.specs.Judged.{path_fault}
use Rattle.seal_log.proofs.Levels.{AreDigests}
use Rattle.seal_log.proofs.Shapes.{either_way}
use Rattle.seal_log.proofs.Trees.{length-leaf_digests, leaf_digests-at}
use Rattle.seal_log.proofs.Binding.{one_or_collide, climb_binds}

behind : (x : ℕ) (xs ys : List ℕ) → x ∷ xs ≡ x ∷ ys → xs ≡ ys
behind x xs ys same = cc

-- ---- the root's message

root_known : (n m : ℕ) (top other : Digest) → n < 2 ^ 32 → m < 2 ^ 32 → root_message n top ≡ root_message m other → (n ≡ m) × (top ≡ other)
root_known n m top other n-small m-small same =
    let rest : big_bytes 4 n ++ top ≡ big_bytes 4 m ++ other = behind 2 (big_bytes 4 n ++ top) (big_bytes 4 m ++ other) same in (
      sym (big_number-reads_back 4 n top n-small) ∙ ap (big_number 4) rest ∙ big_number-reads_back 4 m other m-small,
      sym (drop_at (big_bytes 4 n) top 4 (length-bytes_high_first 4 n)) ∙ ap (drop 4) rest ∙ drop_at (big_bytes 4 m) other 4 (length-bytes_high_first 4 m),
    )

-- ---- the leaves

pub leaves-digests : (file : List ℕ) (n : ℕ) → AreDigests (leaf_digests file n)
leaves-digests file n = record {
  size = λ j lt. ap length (leaf_digests-at file n j (omega (arith, lt, length-leaf_digests file n))) ∙ length-sha256 (leaf_message (page_of file j));
}

range-in : (n a i : ℕ) → a ≤ i → i < a + n → IsIn i (range_with_len a n)
range-in zero a i le lt = absurd (omega arith)
range-in (suc n) a i le lt = elim (either_way (a == i)) [
  | inl is ↦ inl (sym (eqb-true a i is))
  | inr isnt ↦ inr (range-in n (a + 1) i (omega (arith, eqb-false a i isnt)) (omega arith))
]

leaf-in : (file : List ℕ) (n i : ℕ) → i < n → IsIn (leaf_message (page_of file i)) (hashed_for file n)
unfolding hashed_for
leaf-in file n i lt =
    inr (in-append_left (map (λ i. leaf_message (page_of file i)) (range_with_len 0 n)) (flat_map pair_messages (levels_over (leaf_digests file n))) (leaf_message (page_of file i))
    (map-in (λ i. leaf_message (page_of file i)) (range_with_len 0 n) i (range-in n 0 i (omega arith) (omega arith))))

pairs-in : (file : List ℕ) (n : ℕ) (x : List ℕ) → IsIn x (flat_map pair_messages (levels_over (leaf_digests file n))) → IsIn x (hashed_for file n)
unfolding hashed_for
pairs-in file n x inside = inr (in-append_right (map (λ i. leaf_message (page_of file i)) (range_with_len 0 n)) (flat_map pair_messages (levels_over (leaf_digests file n))) x inside)

root-in : (file : List ℕ) (n : ℕ) → IsIn (root_message n (top_of (levels_over (leaf_digests file n)))) (hashed_for file n)
unfolding hashed_for
root-in file n = inl refl

pub root-is : (file : List ℕ) (n : ℕ) → root_over (leaf_digests file n) ≡ sha256 (root_message n (top_of (levels_over (leaf_digests file n))))
unfolding root_over
root-is file n = ap (λ (k : ℕ). sha256 (root_message k (top_of (levels_over (leaf_digests file n))))) (length-leaf_digests file n)

-- ---- one page

-- the number of pages is right, and the bytes are the file's own page
abbrev pub Own : List ℕ → ℕ → ℕ → ℕ → List ℕ → Type 0
Own file m n i bytes = (n ≡ m) × (bytes ≡ page_of file i)

wider : (ones others ones2 others2 : List (List ℕ)) → ((x : List ℕ) → IsIn x ones → IsIn x ones2) → ((x : List ℕ) → IsIn x others → IsIn x others2) → Collide ones others → Collide ones2 others2
wider ones others ones2 others2 first second c = record { one = c.one; other = c.other; one_in = first c.one c.one_in; other_in = second c.other c.other_in; differ = c.differ; same = c.same }

leaf_own : (file : List ℕ) (m i : ℕ) (bytes : List ℕ) (path : List Digest) → i < m → sha256 (leaf_message bytes) ≡ digest_at (leaf_digests file m) i → (bytes ≡ page_of file i) ⊎ Collide (hashed_for file m) (check_messages m i bytes path)
unfolding check_messages
leaf_own file m i bytes path lt own =
    told (one_or_collide (hashed_for file m) (check_messages m i bytes path) (leaf_message (page_of file i)) (leaf_message bytes) (leaf-in file m i lt) (inl refl) (sym (own ∙ leaf_digests-at file m i lt)))
  where
    told : (leaf_message (page_of file i) ≡ leaf_message bytes) ⊎ Collide (hashed_for file m) (check_messages m i bytes path) → (bytes ≡ page_of file i) ⊎ Collide (hashed_for file m) (check_messages m i bytes path)
    told (inl same) = inl (sym (behind 0 (page_of file i) bytes same))
    told (inr found) = inr found

climb_own : (file : List ℕ) (m i : ℕ) (bytes : List ℕ) (path : List Digest) → i < m → climbed (widths_over m) i (sha256 (leaf_message bytes)) path ≡ Some (top_of (levels_over (leaf_digests file m)))
    → (bytes ≡ page_of file i) ⊎ Collide (hashed_for file m) (check_messages m i bytes path)
unfolding check_messages widths_over
climb_own file m i bytes path lt leads =
    let leaves = leaf_digests file m in
    let size = length-leaf_digests file m in
    told (climb_binds (length leaves) leaves (leaves-digests file m) (omega arith) i (sha256 (leaf_message bytes)) path (omega (arith, size)) (length-sha256 (leaf_message bytes))
    (ap (λ (w : ℕ). climbed (widths_over w) i (sha256 (leaf_message bytes)) path) size ∙ leads))
  where
    told : (sha256 (leaf_message bytes) ≡ digest_at (leaf_digests file m) i)
        ⊎ Collide (flat_map pair_messages (levels_over (leaf_digests file m))) (climb_messages (widths_over (length (leaf_digests file m))) i (sha256 (leaf_message bytes)) path)
        → (bytes ≡ page_of file i) ⊎ Collide (hashed_for file m) (check_messages m i bytes path)
    told (inl own) = leaf_own file m i bytes path lt own
    told (inr found) = inr (wider (flat_map pair_messages (levels_over (leaf_digests file m))) (climb_messages (widths_over (length (leaf_digests file m))) i (sha256 (leaf_message bytes)) path)
        (hashed_for file m) (check_messages m i bytes path) (pairs-in file m)
        (λ x inside. inr (in-append_left (climb_messages (widths_over m) i (sha256 (leaf_message bytes)) path) (top_messages m (climbed (widths_over m) i (sha256 (leaf_message bytes)) path)) x
        (subst (λ (w : ℕ). IsIn x (climb_messages (widths_over w) i (sha256 (leaf_message bytes)) path)) (length-leaf_digests file m) inside))) found)

-- where the number of pages is right
page_at_count : (file : List ℕ) (m n i : ℕ) (bytes : List ℕ) (path : List Digest) → n ≡ m → i < n → climbed (widths_over n) i (sha256 (leaf_message bytes)) path ≡ Some (top_of (levels_over (leaf_digests file m)))
    → Own file m n i bytes ⊎ Collide (hashed_for file m) (check_messages n i bytes path)
page_at_count file m n i bytes path count lt goes = told (climb_own file m i bytes path (omega arith) (ap (λ (w : ℕ). climbed (widths_over w) i (sha256 (leaf_message bytes)) path) (sym count) ∙ goes))
  where
    told : (bytes ≡ page_of file i) ⊎ Collide (hashed_for file m) (check_messages m i bytes path) → Own file m n i bytes ⊎ Collide (hashed_for file m) (check_messages n i bytes path)
    told (inl own) = inl (count, own)
    told (inr found) = inr (subst (λ (k : ℕ). Collide (hashed_for file m) (check_messages k i bytes path)) (sym count) found)

top-in : (n i : ℕ) (bytes : List ℕ) (path : List Digest) (top : Digest) → climbed (widths_over n) i (sha256 (leaf_message bytes)) path ≡ Some top → IsIn (root_message n top) (check_messages n i bytes path)
unfolding check_messages top_messages
top-in n i bytes path top is =
    inr (in-append_right (climb_messages (widths_over n) i (sha256 (leaf_message bytes)) path) (top_messages n (climbed (widths_over n) i (sha256 (leaf_message bytes)) path)) (root_message n top)
    (subst (λ (o : Option Digest). IsIn (root_message n top) (top_messages n o)) (sym is) (inl refl)))

page_at_top : (file : List ℕ) (m n i : ℕ) (bytes : List ℕ) (path : List Digest) (found : Option Digest) → i < n → n < 2 ^ 32 → m < 2 ^ 32 → climbed (widths_over n) i (sha256 (leaf_message bytes)) path ≡ found
    → is_top (root_over (leaf_digests file m)) n found ≡ true → Own file m n i bytes ⊎ Collide (hashed_for file m) (check_messages n i bytes path)
unfolding is_top
page_at_top file m n i bytes path None lt n-small m-small is test = absurd cc
page_at_top file m n i bytes path (Some top) lt n-small m-small is test =
    let known = root_message m (top_of (levels_over (leaf_digests file m))) in
    let same : sha256 known ≡ sha256 (root_message n top) = sym (root-is file m) ∙ sym ((bytes_eq-Decides (sha256 (root_message n top)) (root_over (leaf_digests file m))).0 test) in
    told (one_or_collide (hashed_for file m) (check_messages n i bytes path) known (root_message n top) (root-in file m) (top-in n i bytes path top is) same)
  where
    told : (root_message m (top_of (levels_over (leaf_digests file m))) ≡ root_message n top) ⊎ Collide (hashed_for file m) (check_messages n i bytes path) → Own file m n i bytes ⊎ Collide (hashed_for file m) (check_messages n i bytes path)
    told (inl one) =
        let both = root_known n m top (top_of (levels_over (leaf_digests file m))) n-small m-small (sym one) in
        page_at_count file m n i bytes path both.0 lt (is ∙ ap Some both.1)
    told (inr found) = inr found

-- a page whose path leads to the root digest of a file of `m` pages is that file's own, or two byte strings collide
pub page_own : (file : List ℕ) (m n i : ℕ) (bytes : List ℕ) (path : List Digest) → i < n → n < 2 ^ 32 → m < 2 ^ 32 → leads_to (root_over (leaf_digests file m)) n i bytes path ≡ true
    → Own file m n i bytes ⊎ Collide (hashed_for file m) (check_messages n i bytes path)
unfolding leads_to
page_own file m n i bytes path lt n-small m-small leads = page_at_top file m n i bytes path (climbed (widths_over n) i (sha256 (leaf_message bytes)) path) lt n-small m-small refl leads

-- ---- all pages

abbrev pub AllOwn : List ℕ → List CarriedPage → Type 0
AllOwn file ps = AllByRecursion (λ (p : CarriedPage). p.bytes ≡ page_of file p.page) ps

abbrev pub shown_by : ℕ → List CarriedPage → List (List ℕ)
shown_by n ps = flat_map (λ (p : CarriedPage). check_messages n p.page p.bytes p.path) ps

led : (b : Bool) (page : ℕ) (next : Option ProofFault) → cond b next (Some (faults.Path page)) ≡ None → (b ≡ true) × (next ≡ None)
led true page next e = (refl, e)
led false page next e = absurd cc

pub pages_own : (file : List ℕ) (m n : ℕ) (ps : List CarriedPage) → AllByRecursion (λ (p : CarriedPage). p.page < n) ps → n < 2 ^ 32 → m < 2 ^ 32 → path_fault (root_over (leaf_digests file m)) n ps ≡ None
    → AllOwn file ps ⊎ Collide (hashed_for file m) (shown_by n ps)
unfolding path_fault
pages_own file m n [] below n-small m-small none = inl tt
pages_own file m n (p ∷ ps) below n-small m-small none =
    let both = led (leads_to (root_over (leaf_digests file m)) n p.page p.bytes p.path) p.page (path_fault (root_over (leaf_digests file m)) n ps) none in
    told (page_own file m n p.page p.bytes p.path below.0 n-small m-small both.0) (pages_own file m n ps below.1 n-small m-small both.1)
  where
    told : Own file m n p.page p.bytes ⊎ Collide (hashed_for file m) (check_messages n p.page p.bytes p.path) → AllOwn file ps ⊎ Collide (hashed_for file m) (shown_by n ps) → AllOwn file (p ∷ ps) ⊎ Collide (hashed_for file m) (shown_by n (p ∷ ps))
    told (inl own) (inl others) = inl (own.1, others)
    told (inr found) others = inr (wider (hashed_for file m) (check_messages n p.page p.bytes p.path) (hashed_for file m) (shown_by n (p ∷ ps)) (λ x inside. inside) (λ x inside. in-append_left (check_messages n p.page p.bytes p.path) (shown_by n ps) x inside) found)
    told (inl own) (inr found) = inr (wider (hashed_for file m) (shown_by n ps) (hashed_for file m) (shown_by n (p ∷ ps)) (λ x inside. inside) (λ x inside. in-append_right (check_messages n p.page p.bytes p.path) (shown_by n ps) x inside) found)

-- the first page tells the number of pages
pub count_own : (file : List ℕ) (m n : ℕ) (ps : List CarriedPage) → 1 ≤ length ps → AllByRecursion (λ (p : CarriedPage). p.page < n) ps → n < 2 ^ 32 → m < 2 ^ 32 → path_fault (root_over (leaf_digests file m)) n ps ≡ None
    → (n ≡ m) ⊎ Collide (hashed_for file m) (shown_by n ps)
unfolding path_fault
count_own file m n [] some below n-small m-small none = absurd (omega arith)
count_own file m n (p ∷ ps) some below n-small m-small none =
    let both = led (leads_to (root_over (leaf_digests file m)) n p.page p.bytes p.path) p.page (path_fault (root_over (leaf_digests file m)) n ps) none in
    told (page_own file m n p.page p.bytes p.path below.0 n-small m-small both.0)
  where
    told : Own file m n p.page p.bytes ⊎ Collide (hashed_for file m) (check_messages n p.page p.bytes p.path) → (n ≡ m) ⊎ Collide (hashed_for file m) (shown_by n (p ∷ ps))
    told (inl own) = inl own.0
    told (inr found) = inr (wider (hashed_for file m) (check_messages n p.page p.bytes p.path) (hashed_for file m) (shown_by n (p ∷ ps)) (λ x inside. inside) (λ x inside. in-append_left (check_messages n p.page p.bytes p.path) (shown_by n ps) x inside) found)
