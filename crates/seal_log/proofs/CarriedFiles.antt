-- The carried pages as a file.
use Rattle.std.proofs.Common.{◌≡◌, ◌≢◌, ℕ, zero, suc, ◌+◌, ◌*◌, ◌/◌, ◌%◌, ◌<◌, ◌≤◌, ◌==◌, ◌&&◌, nat_lt, Bool, true, false, cond, List, [], ◌∷◌, length, get_or, slice_index, replicate, Option, Some, None, refl, sym, ap, ◌∙◌, arith}
use Rattle.std.specs.List.{AllByRecursion, AllPairs}
use Rattle.std.proofs.lemmas.Bool.{ltb-true, eqb-true, eq-eqb}
use Rattle.std.proofs.lemmas.List.{get_or-replicate, length-replicate}
use Rattle.disk_model.specs.Memory.Files.{length-tabulated, place-tabulated}
use Rattle.node_page.specs.Opening.{page_of}
use Rattle.page_store.proofs.Published.{page_is}
use Rattle.seal_log.specs.declared.parts.CarriedPage.{CarriedPage}
use Rattle.seal_log.specs.Spelling.{is_behind, AreInPlace, IsCarriedPage}
use Rattle.seal_log.specs.Judged.{bytes_of, HasPageSize, carried_file, is_carried}

-- ---- pages in their place

pub and-both : (a b : Bool) → a && b ≡ true → (a ≡ true) × (b ≡ true)
and-both true b is = (refl, is)
and-both false b is = absurd cc

behind-above : (last page : ℕ) → is_behind (Some last) page ≡ true → last < page
behind-above last page is = told (nat_lt last 2) (page == last + 1) (nat_lt last page) (λ e. omega (arith, eqb-true page (last + 1) e)) (ltb-true last page) is
  where
    told : {P : Type 0} (few next behind : Bool) → (next ≡ true → P) → (behind ≡ true → P) → cond few next behind ≡ true → P
    told true next behind p q is = p is
    told false next behind p q is = q is

-- each carried page is one of the file's pages
pub pages-below : (pages : ℕ) (last : Option ℕ) (ps : List CarriedPage) → AreInPlace pages last ps → AllByRecursion (λ (p : CarriedPage). p.page < pages) ps
pages-below pages last [] placed = tt
pages-below pages last (p ∷ ps) placed = (ltb-true p.page pages (and-both (nat_lt p.page pages) (is_behind last p.page) placed.0).0, pages-below pages (Some p.page) ps placed.1)

pages-above : (pages last low : ℕ) (ps : List CarriedPage) → low ≤ last → AreInPlace pages (Some last) ps → (i : ℕ) (d : CarriedPage) → i < length ps → low < (get_or ps i d).page
pages-above pages last low [] le placed i d lt = absurd (omega arith)
pages-above pages last low (p ∷ ps) le placed zero d lt =
    let more = behind-above last p.page (and-both (nat_lt p.page pages) (is_behind (Some last) p.page) placed.0).1 in omega arith
pages-above pages last low (p ∷ ps) le placed (suc i) d lt =
    let more = behind-above last p.page (and-both (nat_lt p.page pages) (is_behind (Some last) p.page) placed.0).1 in
    pages-above pages p.page low ps (omega arith) placed.1 i d (omega arith)

pub pages-ascend : (pages : ℕ) (last : Option ℕ) (ps : List CarriedPage) → AreInPlace pages last ps → AllPairs (λ p q. p.page < q.page) ps
pages-ascend pages last [] placed i j d lt within = absurd (omega arith)
pages-ascend pages last (p ∷ ps) placed zero zero d lt within = absurd (omega arith)
pages-ascend pages last (p ∷ ps) placed zero (suc j) d lt within = pages-above pages p.page p.page ps (omega arith) placed.1 j d (omega arith)
pages-ascend pages last (p ∷ ps) placed (suc i) zero d lt within = absurd (omega arith)
pages-ascend pages last (p ∷ ps) placed (suc i) (suc j) d lt within = pages-ascend pages (Some p.page) ps placed.1 i j d (omega arith) (omega arith)

pub pages-sized : (ps : List CarriedPage) → AllByRecursion IsCarriedPage ps → AllByRecursion HasPageSize ps
pages-sized [] each = tt
pages-sized (p ∷ ps) each = (each.0.size, pages-sized ps each.1)

-- ---- a page that is found, or isn't

pub not_found : (ps : List CarriedPage) (page : ℕ) → ((i : ℕ) (d : CarriedPage) → i < length ps → (get_or ps i d).page ≢ page) → (is_carried ps page ≡ false) × (bytes_of ps page ≡ [])
unfolding bytes_of
not_found [] page none = (refl, refl)
not_found (p ∷ ps) page none =
    let here : (p.page == page) ≡ false = isnt (p.page == page) (λ e. none 0 p (omega arith) (eqb-true p.page page e)) in
    let others = not_found ps page (λ i d lt. none (suc i) d (omega arith)) in
    (rw here others.0, rw here others.1)
  where
    isnt : (b : Bool) → (b ≡ true → ⊥) → b ≡ false
    isnt true h = absurd (h refl)
    isnt false h = refl

pub found_at : (ps : List CarriedPage) (page i : ℕ) (d : CarriedPage) → AllPairs (λ p q. p.page < q.page) ps → i < length ps → (get_or ps i d).page ≡ page
    → (is_carried ps page ≡ true) × (bytes_of ps page ≡ (get_or ps i d).bytes)
unfolding bytes_of
found_at [] page i d ascend lt is = absurd (omega arith)
found_at (p ∷ ps) page zero d ascend lt is = let here : (p.page == page) ≡ true = eq-eqb p.page page is in (rw here refl, rw here refl)
found_at (p ∷ ps) page (suc i) d ascend lt is =
    let before = ascend 0 (suc i) d (omega arith) lt in
    let other : p.page ≢ page = omega (arith, before, is) in
    let here : (p.page == page) ≡ false = isnt (p.page == page) (λ e. other (eqb-true p.page page e)) in
    let others = found_at ps page i d (λ a b e lt within. ascend (suc a) (suc b) e (omega arith) (omega arith)) (omega arith) is in
    (rw here others.0, rw here others.1)
  where
    isnt : (b : Bool) → (b ≡ true → ⊥) → b ≡ false
    isnt true h = absurd (h refl)
    isnt false h = refl

pub sized-at : (ps : List CarriedPage) (i : ℕ) (d : CarriedPage) → i < length ps → AllByRecursion HasPageSize ps → HasPageSize (get_or ps i d)
sized-at [] i d lt each = absurd (omega arith)
sized-at (p ∷ ps) zero d lt each = each.0
sized-at (p ∷ ps) (suc i) d lt each = sized-at ps i d (omega arith) each.1

-- three carried pages in their place belong to a file of at least three pages
pub three-pages : (pages : ℕ) (ps : List CarriedPage) → AreInPlace pages None ps → 3 ≤ length ps → 3 ≤ pages
three-pages pages [] placed some = absurd (omega arith)
three-pages pages (a ∷ []) placed some = absurd (omega arith)
three-pages pages (a ∷ b ∷ []) placed some = absurd (omega arith)
three-pages pages (a ∷ b ∷ c ∷ ps) placed some =
    let second = behind-above a.page b.page (and-both (nat_lt b.page pages) (is_behind (Some a.page) b.page) placed.1.0).1 in
    let third = behind-above b.page c.page (and-both (nat_lt c.page pages) (is_behind (Some b.page) c.page) placed.1.1.0).1 in
    let last = ltb-true c.page pages (and-both (nat_lt c.page pages) (is_behind (Some b.page) c.page) placed.1.1.0).0 in
    omega arith

-- ---- the bytes of its pages

pub length-carried_file : (pages : ℕ) (ps : List CarriedPage) → length (carried_file pages ps) ≡ 4096 * pages
unfolding carried_file
length-carried_file pages ps = length-tabulated (4096 * pages) (λ k. slice_index (bytes_of ps (k / 4096)) (k % 4096))

pub place-carried_file : (pages : ℕ) (ps : List CarriedPage) (page k : ℕ) → page < pages → k < 4096 → slice_index (carried_file pages ps) (4096 * page + k) ≡ slice_index (bytes_of ps page) k
unfolding carried_file
place-carried_file pages ps page k within below =
    let at : (4096 * page + k) / 4096 ≡ page = omega arith in
    let rest : (4096 * page + k) % 4096 ≡ k = omega (arith, at) in
    place-tabulated (4096 * pages) (λ k. slice_index (bytes_of ps (k / 4096)) (k % 4096)) (4096 * page + k) (omega arith)
    ∙ ap (λ (q : ℕ). slice_index (bytes_of ps q) ((4096 * page + k) % 4096)) at ∙ ap (slice_index (bytes_of ps page)) rest

-- a page that is carried
pub page-carried : (pages : ℕ) (ps : List CarriedPage) (page : ℕ) (bytes : List ℕ) → page < pages → length bytes ≡ 4096 → bytes_of ps page ≡ bytes → page_of (carried_file pages ps) page ≡ bytes
page-carried pages ps page bytes within size is =
    page_is (carried_file pages ps) page bytes size (λ k below. place-carried_file pages ps page k within below ∙ ap (λ (b : List ℕ). slice_index b k) is)

-- a page that isn't carried
pub page-zero : (pages : ℕ) (ps : List CarriedPage) (page : ℕ) → page < pages → bytes_of ps page ≡ [] → page_of (carried_file pages ps) page ≡ replicate 4096 0
page-zero pages ps page within is = zeros 4096 (carried_file pages ps) page (λ k below. place-carried_file pages ps page k within below ∙ ap (λ (b : List ℕ). slice_index b k) is) refl
  where
    zeros : (n : ℕ) (file : List ℕ) (page : ℕ) → ((k : ℕ) → k < 4096 → slice_index file (4096 * page + k) ≡ 0) → n ≡ 4096 → page_of file page ≡ replicate n 0
    zeros n file page none is =
        page_is file page (replicate n 0) (length-replicate n (let zero : ℕ = 0 in zero) ∙ is) (λ k below. none k below ∙ sym (get_or-replicate n k 0 0 (omega arith)))
