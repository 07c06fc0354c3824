-- Pages that are put in ascending order at once.
use Rattle.std.proofs.Common.{◌≡◌, ◌≢◌, ℕ, suc, ◌+◌, ◌≤◌, ◌<◌, ◌⊎◌, Bool, true, false, List, [], ◌∷◌, ◌++◌, length, get_or, inl, inr, refl, sym, ap, subst, ◌∙◌, arith}
use Rattle.std.specs.Prelude.{◌==◌, nat_lt, map, not, filter, sum_by, if◌then◌else◌}
use Rattle.std.specs.List.{AllByRecursion}
use Rattle.std.specs.List.Sorted.{IsNonDecreasing, IsPermutation}
use Rattle.std.proofs.lemmas.Bool.{cases_lt, cases_eq}
use Rattle.std.proofs.lemmas.Bool.Decides.{nat_tests}
use Rattle.std.proofs.lemmas.List.Sorted.{sum_by-IsPermutation}
use Rattle.std.proofs.lemmas.List.Sums.{sum_by-cons}
use Rattle.metric_laws.proofs.Published.{all_filter}
use Rattle.tree_shape.specs.Tree.{times}
use Rattle.tree_shape.proofs.Published.{times-append, counted}
use Rattle.page_store.specs.Numbers.{Ascends}
use Rattle.free_pages.specs.declared.held.Held.{Held}
use Rattle.free_pages.specs.Keeping.{held_pages, with_page, with_pages}
use Rattle.free_pages.specs.Stored.{freed_below, is_below}
use Rattle.free_pages.proofs.Ascending.{all_from, ascends_filter, ascends_with_pages, times-below, times-with_page}

-- ---- how often each page stands

times_sum : (k : ℕ) (xs : List ℕ) → times k xs ≡ sum_by (λ x. if x == k then 1 else 0) xs
times_sum k [] = refl
times_sum k (x ∷ xs) = ap (λ (n : ℕ). (if x == k then 1 else 0) + n) (times_sum k xs) ∙ sym (sum_by-cons (λ x. if x == k then 1 else 0) x xs)

times-permutation : (k : ℕ) (xs ys : List ℕ) → IsPermutation xs ys → times k ys ≡ times k xs
times-permutation k xs ys p = times_sum k ys ∙ sum_by-IsPermutation (λ x. if x == k then 1 else 0) xs ys p ∙ sym (times_sum k xs)

differs : (k x : ℕ) (xs : List ℕ) → times k (x ∷ xs) ≡ 0 → k ≢ x
differs k x xs none same = let c = counted x xs in let s = ap (λ (j : ℕ). times j (x ∷ xs)) same in absurd (omega arith)

-- a page that isn't there is there once more
times-with_new : (k page : ℕ) (xs : List ℕ) → times page xs ≡ 0 → times k (with_page page xs) ≡ times k (page ∷ xs)
times-with_new k page [] none = refl
times-with_new k page (x ∷ xs) none = tested (nat_lt page x) refl (nat_lt x page) refl (times-with_new k page xs)
  where
    tested : (a : Bool) → nat_lt page x ≡ a → (b : Bool) → nat_lt x page ≡ b → (times page xs ≡ 0 → times k (with_page page xs) ≡ times k (page ∷ xs)) →
        times k (if a then page ∷ x ∷ xs else (if b then x ∷ with_page page xs else x ∷ xs)) ≡ times k (page ∷ x ∷ xs)
    tested true e b f ih = refl
    tested false e true f ih = let r = ih (omega arith) in omega arith
    tested false e false f ih = let s : page ≡ x = grind (arith, nat_tests) in absurd (differs page x xs none s)

pub times-with_all : (k low : ℕ) (more xs : List ℕ) → Ascends low more → AllByRecursion (λ p. times p xs ≡ 0) more → times k (with_pages more xs) ≡ times k xs + times k more
times-with_all k low [] xs up apart = omega arith
times-with_all k low (page ∷ more) xs up apart =
    let rest = times-with_all k (page + 1) more (with_page page xs) up.1 (others more (all_from (λ n. n) (page + 1) more (subst (Ascends (page + 1)) (sym (same more)) up.1)) apart.1) in
    let new = times-with_new k page xs apart.0 in
    omega arith
  where
    same : (ys : List ℕ) → map (λ n. n) ys ≡ ys
    same [] = refl
    same (y ∷ ys) = ap (λ (r : List ℕ). y ∷ r) (same ys)

    others : (ys : List ℕ) → AllByRecursion (λ y. page + 1 ≤ y) ys → AllByRecursion (λ y. times y xs ≡ 0) ys → AllByRecursion (λ y. times y (with_page page xs) ≡ 0) ys
    others [] above none = tt
    others (y ∷ ys) above none = (times-with_page y page xs (λ e. let h = above.0 in omega arith) ∙ none.0, others ys above.1 none.1)

-- ---- one list ascends with these pages

ascends_from : (low : ℕ) (ys : List ℕ) → IsNonDecreasing ys → ((k : ℕ) → times k ys ≤ 1) → (0 < length ys → low ≤ get_or ys 0 0) → Ascends low ys
ascends_from low [] up once first = tt
ascends_from low (y ∷ ys) up once first =
    (first (omega arith), ascends_from (y + 1) ys (λ i j d le lt. up (suc i) (suc j) d (omega arith) (omega arith)) (λ k. let h = once k in omega arith) (next ys up once))
  where
    next : (ys : List ℕ) → IsNonDecreasing (y ∷ ys) → ((k : ℕ) → times k (y ∷ ys) ≤ 1) → 0 < length ys → y + 1 ≤ get_or ys 0 0
    next [] up once some = absurd (omega arith)
    next (z ∷ zs) up once some =
        let le : y ≤ z = up 0 1 0 (omega arith) (omega arith) in
        elim (cases_eq y z) [
          | inl same ↦
              let a = once y in
              let c = counted y zs in
              let d = subst (λ (x : ℕ). times y (x ∷ zs) ≡ times y (y ∷ zs)) same refl in
              let one : ◌≡◌ {A = ℕ} (if y == y then 1 else 0) 1 = grind (arith, nat_tests) in
              absurd (omega arith)
          | inr other ↦ omega arith
        ]

unique : (low high : ℕ) (xs ys : List ℕ) → Ascends low xs → Ascends high ys → ((k : ℕ) → times k xs ≡ times k ys) → xs ≡ ys
unique low high [] [] a b same = refl
unique low high [] (y ∷ ys) a b same = let s = same y in let c = counted y ys in absurd (omega arith)
unique low high (x ∷ xs) [] a b same = let s = same x in let c = counted x xs in absurd (omega arith)
unique low high (x ∷ xs) (y ∷ ys) a b same =
    let e = first (cases_eq x y) in
    let rest = unique (x + 1) (y + 1) xs ys a.1 b.1 (λ k. let s = same k in let d = ap (λ (z : ℕ). times k (z ∷ ys)) e in omega arith) in
    ap (λ (z : ℕ). z ∷ xs) e ∙ ap (λ (r : List ℕ). y ∷ r) rest
  where
    first : (x ≡ y) ⊎ (x ≢ y) → x ≡ y
    first (inl e) = e
    first (inr other) = elim (cases_lt x y) [
      | inl less ↦ let z = times-below y x (y ∷ ys) less (omega arith, b.1) in let s = same x in let c = counted x xs in absurd (omega arith)
      | inr more ↦ let z = times-below x y (x ∷ xs) (omega arith) (omega arith, a.1) in let s = same y in let c = counted y ys in absurd (omega arith)
    ]

-- ---- what a sort of all of them gives

-- the pages that become free ascend
freed_ascend : (least : _) (held : List Held) → Ascends 0 (held_pages held) → Ascends 0 (freed_below least held)
freed_ascend least held up = ascends_filter (λ (h : Held). h.page) (λ (h : Held). not (is_below least h.generation)) 0 held up

all_pages : (P : ℕ → Type 0) (held : List Held) → AllByRecursion (λ h. P h.page) held → AllByRecursion P (held_pages held)
all_pages P [] all = tt
all_pages P (h ∷ held) all = (all.0, all_pages P held all.1)

none_twice : (low : ℕ) (xs : List ℕ) → Ascends low xs → (k : ℕ) → times k xs ≤ 1
none_twice low [] up k = omega arith
none_twice low (x ∷ xs) up k = elim (cases_lt k (x + 1)) [
  | inl less ↦ let z = times-below (x + 1) k xs less up.1 in one (x == k) z
  | inr more ↦ let z : ◌≡◌ {A = ℕ} (if x == k then 1 else 0) 0 = grind (arith, nat_tests) in let ih = none_twice (x + 1) xs up.1 k in omega arith
]
  where
    one : (b : Bool) → times k xs ≡ 0 → (if b then 1 else 0) + times k xs ≤ 1
    one true z = omega arith
    one false z = omega arith

pub sorted_is : (least : _) (free : List ℕ) (held : List Held) (all : List ℕ) → Ascends 0 free → Ascends 0 (held_pages held) → AllByRecursion (λ h. times h.page free ≡ 0) held →
    IsPermutation (free ++ freed_below least held) all → IsNonDecreasing all → all ≡ with_pages (freed_below least held) free
sorted_is least free held all free_up held_up apart moved up =
    unique 0 0 all (with_pages (freed_below least held) free) (ascends_from 0 all up once (λ some. omega arith)) whole_up same
  where
    whole_up : Ascends 0 (with_pages (freed_below least held) free)
    whole_up = ascends_with_pages (freed_below least held) free free_up

    same : (k : ℕ) → times k all ≡ times k (with_pages (freed_below least held) free)
    same k =
        times-permutation k (free ++ freed_below least held) all moved ∙ times-append k free (freed_below least held)
        ∙ sym (times-with_all k 0 (freed_below least held) free (freed_ascend least held held_up)
        (all_pages (λ p. times p free ≡ 0) (filter (λ h. not (is_below least h.generation)) held) (all_filter (λ (h : Held). times h.page free ≡ 0) (λ (h : Held). not (is_below least h.generation)) held apart)))

    once : (k : ℕ) → times k all ≤ 1
    once k = let s = same k in let o = none_twice 0 (with_pages (freed_below least held) free) whole_up k in omega arith
