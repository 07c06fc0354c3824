-- Where a value stands, or belongs, among values whose keys ascend.
use Rattle.std.proofs.Common.{◌≡◌, ℕ, zero, suc, ◌+◌, ◌≤◌, ◌<◌, Bool, true, false, List, [], ◌∷◌, length, get_or, Result, Ok, Err, refl, sym, ap, subst, ◌∙◌, arith}
use Rattle.std.specs.Prelude.{◌==◌, nat_lt, not, map, insert, if◌then◌else◌}
use Rattle.std.specs.List.Sorted.{IsBinarySearchResult, IsSearchInRange, IsSortedBy}
use Rattle.std.specs.Ordering.{nat_cmp, is_lt}
use Rattle.std.specs.declared.cmp.Ordering.TheVariants.{Less, Equal, Greater}
use Rattle.std.specs.Cmp.{nat_cmp_total}
use Rattle.std.proofs.lemmas.Bool.Decides.{nat_tests}
use Rattle.std.proofs.lemmas.List.Sorted.{searchable_from_sorted}
use Rattle.tree_shape.specs.Tree.{times}
use Rattle.page_store.specs.Numbers.{Ascends}
use Rattle.free_pages.specs.Keeping.{is_among, put_by}
use Rattle.free_pages.specs.Stored.{IsPlace, IsPlaceBy}
use Rattle.free_pages.proofs.Ascending.{map_id, times-below}

-- ---- what a comparison says

less_is : (a b : ℕ) → nat_cmp a b ≡ Less → a < b
less_is a b e = grind (arith, nat_tests)

equal_is : (a b : ℕ) → nat_cmp a b ≡ Equal → a ≡ b
equal_is a b e = grind (arith, nat_tests)

greater_is : (a b : ℕ) → nat_cmp a b ≡ Greater → b < a
greater_is a b e = grind (arith, nat_tests)

not_less : (a b : ℕ) → b < a → is_lt (nat_cmp a b) ≡ false
not_less a b less = grind (arith, nat_tests)

module _ {X : Type 0} (key : X → ℕ) where
  next_above : (low k : ℕ) (d : X) (xs : List X) → Ascends low (map key xs) → k + 1 < length xs → key (get_or xs k d) < key (get_or xs (k + 1) d)
  next_above low k d [] up within = absurd (omega arith)
  next_above low zero d (x ∷ []) up within = absurd (omega arith)
  next_above low zero d (x ∷ y ∷ xs) up within = let h = up.1.0 in omega arith
  next_above low (suc k) d (x ∷ xs) up within =
      let e : suc (k + 1) ≡ suc k + 1 = omega arith in
      subst (λ (j : ℕ). key (get_or xs k d) < key (get_or (x ∷ xs) j d)) e (next_above (key x + 1) k d xs up.1 (omega arith))

  sorted : (xs : List X) → Ascends 0 (map key xs) → IsSortedBy (λ a b. is_lt (nat_cmp (key a) (key b))) xs
  sorted xs up k d low within = not_less (key (get_or xs (k + 1) d)) (key (get_or xs k d)) (next_above 0 k d xs up within)

  found : (i n : ℕ) (xs : List X) → i < length xs → ((d : X) → key (get_or xs i d) ≡ n) → is_among n (map key xs) ≡ true
  found i n [] within is = absurd (omega arith)
  found zero n (x ∷ xs) within is = let e : (key x == n) ≡ true = (let s = is x in grind (arith, nat_tests)) in
      let z : ◌≡◌ {A = ℕ} (if key x == n then 1 else 0) 1 = ap (λ (b : Bool). if b then 1 else 0) e in
      some (times n (key x ∷ map key xs)) (omega arith)
    where
      some : (m : ℕ) → 1 ≤ m → not (m == 0) ≡ true
      some m le = grind (arith, nat_tests)
  found (suc i) n (x ∷ xs) within is =
      more (times n (map key xs)) (times n (key x ∷ map key xs)) (omega arith) (found i n xs (omega arith) is)
    where
      more : (m k : ℕ) → m ≤ k → not (m == 0) ≡ true → not (k == 0) ≡ true
      more m k le some = grind (arith, nat_tests)

  -- between the lower and the higher keys
  abbrev Lower : List X → ℕ → ℕ → Type 0
  Lower xs i n = (k : ℕ) (d : X) → k < i → key (get_or xs k d) < n

  abbrev Higher : List X → ℕ → ℕ → Type 0
  Higher xs i n = (k : ℕ) (d : X) → i ≤ k → k < length xs → n < key (get_or xs k d)

  missing : (i n : ℕ) (xs : List X) → Lower xs i n → Higher xs i n → times n (map key xs) ≡ 0
  missing i n [] low high = refl
  missing zero n (x ∷ xs) low high =
      let h = high 0 x (omega arith) (omega arith) in
      let ih = missing zero n xs (λ k d lt. absurd (omega arith)) (λ k d le lt. high (suc k) d (omega arith) (omega arith)) in
      let z : ◌≡◌ {A = ℕ} (if key x == n then 1 else 0) 0 = grind (arith, nat_tests) in
      omega arith
  missing (suc i) n (x ∷ xs) low high =
      let h = low 0 x (omega arith) in
      let ih = missing i n xs (λ k d lt. low (suc k) d (omega arith)) (λ k d le lt. high (suc k) d (omega arith) (omega arith)) in
      let z : ◌≡◌ {A = ℕ} (if key x == n then 1 else 0) 0 = grind (arith, nat_tests) in
      omega arith

  placed : (i : ℕ) (v : X) (xs : List X) → i ≤ length xs → Lower xs i (key v) → Higher xs i (key v) → put_by key v xs ≡ insert xs i v
  placed zero v [] le low high = refl
  placed (suc i) v [] le low high = absurd (omega arith)
  placed zero v (x ∷ xs) le low high =
      let h = high 0 x (omega arith) (omega arith) in
      let e : nat_lt (key v) (key x) ≡ true = grind (arith, nat_tests) in
      rw e refl
  placed (suc i) v (x ∷ xs) le low high =
      let h = low 0 x (omega arith) in
      let e : nat_lt (key v) (key x) ≡ false = grind (arith, nat_tests) in
      let f : nat_lt (key x) (key v) ≡ true = grind (arith, nat_tests) in
      let ih = placed i v xs (omega arith) (λ k d lt. low (suc k) d (omega arith)) (λ k d l lt. high (suc k) d (omega arith) (omega arith)) in
      rw (e, f) (ap (λ (r : List X). x ∷ r) ih)

  -- a key that is among them stays
  pub put_again : (v : X) (xs : List X) (low : ℕ) → Ascends low (map key xs) → is_among (key v) (map key xs) ≡ true → put_by key v xs ≡ xs
  put_again v [] low up there = absurd (cc)
  put_again v (x ∷ xs) low up there = tested (nat_lt (key v) (key x)) refl (nat_lt (key x) (key v)) refl (put_again v xs (key x + 1) up.1)
    where
      gone : times (key v) (key x ∷ map key xs) ≡ 0 → is_among (key v) (key x ∷ map key xs) ≡ false
      gone e = ap (λ (m : ℕ). not (m == 0)) e

      tested : (a : Bool) → nat_lt (key v) (key x) ≡ a → (b : Bool) → nat_lt (key x) (key v) ≡ b → (is_among (key v) (map key xs) ≡ true → put_by key v xs ≡ xs) →
          (if a then v ∷ x ∷ xs else (if b then x ∷ put_by key v xs else x ∷ xs)) ≡ x ∷ xs
      tested true e b f ih =
          let l : key v < key x = grind (arith, nat_tests) in
          let z = times-below (key x) (key v) (key x ∷ map key xs) l (omega arith, up.1) in
          let g = gone z in
          absurd (cc)
      tested false e true f ih =
          let l : key x < key v = grind (arith, nat_tests) in
          let z : ◌≡◌ {A = ℕ} (if key x == key v then 1 else 0) 0 = grind (arith, nat_tests) in
          let s : times (key v) (key x ∷ map key xs) ≡ times (key v) (map key xs) = omega arith in
          ap (λ (r : List X). x ∷ r) (ih (sym (ap (λ (m : ℕ). not (m == 0)) s) ∙ there))
      tested false e false f ih = refl

  pub searched : (n len : ℕ) (xs : List X) (r : Result ℕ ℕ) → Ascends 0 (map key xs) → len ≡ length xs → IsSearchInRange r len → IsBinarySearchResult (λ y. nat_cmp (key y) n) xs r → IsPlaceBy key n xs r
  searched n len xs (Ok i) up long bound is =
      let there = found i n xs (omega arith) (λ d. equal_is (key (get_or xs i d)) n (is d)) in
      (there, λ v same. put_again v xs 0 up (subst (λ (m : ℕ). is_among m (map key xs) ≡ true) (sym same) there))
  searched n len xs (Err i) up long bound is =
      let parts = is (searchable_from_sorted nat_cmp_total key xs n (sorted xs up)) in
      let low : Lower xs i n = λ k d lt. less_is (key (get_or xs k d)) n (parts.0 k d (omega arith) lt) in
      let high : Higher xs i n = λ k d le lt. greater_is (key (get_or xs k d)) n (parts.1 k d le lt) in
      let is_point : i ≤ length xs = omega arith in
      (none (times n (map key xs)) (missing i n xs low high), is_point, λ v same. placed i v xs is_point (subst (Lower xs i) (sym same) low) (subst (Higher xs i) (sym same) high))
    where
      none : (m : ℕ) → m ≡ 0 → not (m == 0) ≡ false
      none m e = grind (arith, nat_tests)

pub searched_numbers : (n len : ℕ) (xs : List ℕ) (r : Result ℕ ℕ) → Ascends 0 xs → len ≡ length xs → IsSearchInRange r len → IsBinarySearchResult (λ y. nat_cmp y n) xs r → IsPlace n xs r
searched_numbers n len xs (Ok i) up long bound is =
    let p = searched (λ (m : ℕ). m) n len xs (Ok i) (subst (Ascends 0) (sym (map_id xs)) up) long bound is in
    (subst (λ (ys : List ℕ). is_among n ys ≡ true) (map_id xs) p.0, p.1 n refl)
searched_numbers n len xs (Err i) up long bound is =
    let p = searched (λ (m : ℕ). m) n len xs (Err i) (subst (Ascends 0) (sym (map_id xs)) up) long bound is in
    (subst (λ (ys : List ℕ). is_among n ys ≡ false) (map_id xs) p.0, p.1, p.2 n refl)
