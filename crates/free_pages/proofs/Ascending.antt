-- Lists whose keys ascend.
use Rattle.std.proofs.Common.{◌≡◌, ◌≢◌, ℕ, zero, suc, ◌+◌, ◌-◌, ◌≤◌, ◌<◌, Bool, true, false, cond, List, [], ◌∷◌, length, refl, sym, ap, subst, ◌∙◌, arith}
use Rattle.std.specs.Prelude.{◌==◌, nat_lt, not, map, filter, take, if◌then◌else◌}
use Rattle.std.specs.List.{AllByRecursion, range_with_len}
use Rattle.std.proofs.lemmas.Bool.Decides.{nat_tests}
use Rattle.metric_laws.proofs.Published.{all_weaker, all_filter}
use Rattle.tree_shape.specs.Tree.{times}
use Rattle.page_store.specs.Numbers.{Ascends, AreNumbers}
use Rattle.page_store.specs.Reading.{IsWithin}
use Rattle.free_pages.specs.Keeping.{put_by, with_page, with_pages}

pub ascends_weaker : (low high : ℕ) (xs : List ℕ) → low ≤ high → Ascends high xs → Ascends low xs
ascends_weaker low high [] le up = tt
ascends_weaker low high (x ∷ xs) le up = (let h = up.0 in omega arith, up.1)

-- what ascends from a number on, and isn't below another, ascends from that
raised : (low high : ℕ) (xs : List ℕ) → AllByRecursion (λ x. high ≤ x) xs → Ascends low xs → Ascends high xs
raised low high [] all up = tt
raised low high (x ∷ xs) all up = (all.0, up.1)

-- nothing below its first number stands in such a list
pub times-below : (low k : ℕ) (xs : List ℕ) → k < low → Ascends low xs → times k xs ≡ 0
times-below low k [] less up = refl
times-below low k (x ∷ xs) less up =
    let h = up.0 in
    let ih = times-below (x + 1) k xs (omega arith) up.1 in
    let z : ◌≡◌ {A = ℕ} (if x == k then 1 else 0) 0 = grind (arith, nat_tests) in
    omega arith

ascends_take : (n low : ℕ) (xs : List ℕ) → Ascends low xs → Ascends low (take n xs)
ascends_take zero low xs up = tt
ascends_take (suc n) low [] up = tt
ascends_take (suc n) low (x ∷ xs) up = (up.0, ascends_take n (x + 1) xs up.1)

all_take : (P : ℕ → Type 0) (n : ℕ) (xs : List ℕ) → AllByRecursion P xs → AllByRecursion P (take n xs)
all_take P zero xs all = tt
all_take P (suc n) [] all = tt
all_take P (suc n) (x ∷ xs) all = (all.0, all_take P n xs all.1)

pub least_numbers : (pages n : ℕ) (free : List ℕ) → Ascends 0 free → AllByRecursion (IsWithin pages) free → AreNumbers pages (take n free)
least_numbers pages n free up within = record {
  ascending = ascends_take n 3 free (raised 0 3 free (all_weaker (IsWithin pages) (λ (x : ℕ). 3 ≤ x) free (λ x both. both.0) within) up);
  below = all_take (λ (x : ℕ). x < pages) n free (all_weaker (IsWithin pages) (λ (x : ℕ). x < pages) free (λ x both. both.1) within);
}

-- ---- numbers that pass a test

range_filter : (p : ℕ → Bool) (n low a : ℕ) → low ≤ a → Ascends low (filter p (range_with_len a n))
range_filter p zero low a le = tt
range_filter p (suc n) low a le =
    elim (p a) as (λ b. Ascends low (cond b (a ∷ filter p (range_with_len (a + 1) n)) (filter p (range_with_len (a + 1) n)))) [
      | true ↦ (le, range_filter p n (a + 1) (a + 1) (omega arith))
      | false ↦ range_filter p n low (a + 1) (omega arith)
    ]

range_below : (n a end : ℕ) → a + n ≤ end → AllByRecursion (λ x. x < end) (range_with_len a n)
range_below zero a end le = tt
range_below (suc n) a end le = (omega arith, range_below n (a + 1) end (omega arith))

pub outside_numbers : (p : ℕ → Bool) (pages : ℕ) → AreNumbers pages (filter p (range_with_len 3 (pages - 3)))
outside_numbers p zero = record { ascending = tt; below = tt }
outside_numbers p (suc zero) = record { ascending = tt; below = tt }
outside_numbers p (suc (suc zero)) = record { ascending = tt; below = tt }
outside_numbers p (suc (suc (suc n))) = record {
  ascending = range_filter p (suc (suc (suc n)) - 3) 3 3 (omega arith);
  below = all_filter (λ (x : ℕ). x < suc (suc (suc n))) p (range_with_len 3 (suc (suc (suc n)) - 3)) (range_below (suc (suc (suc n)) - 3) 3 (suc (suc (suc n))) (omega arith));
}

-- ---- values by their keys

module _ {X : Type 0} (key : X → ℕ) where
  pub ascends_put : (low : ℕ) (v : X) (xs : List X) → low ≤ key v → Ascends low (map key xs) → Ascends low (map key (put_by key v xs))
  ascends_put low v [] le up = (le, tt)
  ascends_put low v (x ∷ xs) le up = tested (nat_lt (key v) (key x)) refl (nat_lt (key x) (key v)) refl (ascends_put (key x + 1) v xs)
    where
      tested : (a : Bool) → nat_lt (key v) (key x) ≡ a → (b : Bool) → nat_lt (key x) (key v) ≡ b → (key x + 1 ≤ key v → Ascends (key x + 1) (map key xs) → Ascends (key x + 1) (map key (put_by key v xs))) →
          Ascends low (map key (if a then v ∷ x ∷ xs else (if b then x ∷ put_by key v xs else x ∷ xs)))
      tested true e b f ih = let l : key v < key x = grind (arith, nat_tests) in (le, (omega arith, up.1))
      tested false e true f ih = let l : key x < key v = grind (arith, nat_tests) in (up.0, ih (omega arith) up.1)
      tested false e false f ih = up

  pub length-put : (v : X) (xs : List X) → length (put_by key v xs) ≤ length xs + 1
  length-put v [] = omega arith
  length-put v (x ∷ xs) = tested (nat_lt (key v) (key x)) (nat_lt (key x) (key v)) (length-put v xs)
    where
      tested : (a b : Bool) → length (put_by key v xs) ≤ length xs + 1 → length (if a then v ∷ x ∷ xs else (if b then x ∷ put_by key v xs else x ∷ xs)) ≤ suc (length xs) + 1
      tested true b ih = omega arith
      tested false true ih = omega arith
      tested false false ih = omega arith

  -- another key stands as often as before
  pub times-put : (k : ℕ) (v : X) (xs : List X) → key v ≢ k → times k (map key (put_by key v xs)) ≡ times k (map key xs)
  times-put k v [] other = let z : (key v == k) ≡ false = grind (arith, nat_tests) in rw z refl
  times-put k v (x ∷ xs) other = tested (nat_lt (key v) (key x)) (nat_lt (key x) (key v)) (times-put k v xs other)
    where
      none : ◌≡◌ {A = ℕ} (if key v == k then 1 else 0) 0
      none = let z : (key v == k) ≡ false = grind (arith, nat_tests) in ap (λ (b : Bool). if b then 1 else 0) z

      tested : (a b : Bool) → times k (map key (put_by key v xs)) ≡ times k (map key xs) →
          times k (map key (if a then v ∷ x ∷ xs else (if b then x ∷ put_by key v xs else x ∷ xs))) ≡ times k (key x ∷ map key xs)
      tested true b ih = let z = none in omega arith
      tested false true ih = omega arith
      tested false false ih = refl

  pub ascends_filter : (p : X → Bool) (low : ℕ) (xs : List X) → Ascends low (map key xs) → Ascends low (map key (filter p xs))
  ascends_filter p low [] up = tt
  ascends_filter p low (x ∷ xs) up =
      let rest = ascends_filter p (key x + 1) xs up.1 in
      elim (p x) as (λ b. Ascends low (map key (cond b (x ∷ filter p xs) (filter p xs)))) [
        | true ↦ (up.0, rest)
        | false ↦ ascends_weaker low (key x + 1) (map key (filter p xs)) (let h = up.0 in omega arith) rest
      ]

  -- values whose keys ascend from a number on have no lower key
  pub all_from : (low : ℕ) (xs : List X) → Ascends low (map key xs) → AllByRecursion (λ x. low ≤ key x) xs
  all_from low [] up = tt
  all_from low (x ∷ xs) up = (up.0, all_weaker (λ y. key x + 1 ≤ key y) (λ y. low ≤ key y) xs (λ y le. let h = up.0 in omega arith) (all_from (key x + 1) xs up.1))

  -- of those that pass a test no key stands among the others'
  pub parted : (p : X → Bool) (low : ℕ) (xs : List X) → Ascends low (map key xs) → AllByRecursion (λ x. times (key x) (map key (filter (λ y. not (p y)) xs)) ≡ 0) (filter p xs)
  parted p low [] up = tt
  parted p low (x ∷ xs) up =
      let rest = parted p (key x + 1) xs up.1 in
      let q = λ (y : X). not (p y) in
      let above = all_filter (λ y. key x + 1 ≤ key y) p xs (all_from (key x + 1) xs up.1) in
      elim (p x) as (λ b. AllByRecursion (λ y. times (key y) (map key (cond (not b) (x ∷ filter q xs) (filter q xs))) ≡ 0) (cond b (x ∷ filter p xs) (filter p xs))) [
        | true ↦ (times-below (key x + 1) (key x) (map key (filter q xs)) (omega arith) (ascends_filter q (key x + 1) xs up.1), rest)
        | false ↦ both (filter p xs) (map key (filter q xs)) above rest
      ]
    where
      both : (ys : List X) (ks : List ℕ) → AllByRecursion (λ y. key x + 1 ≤ key y) ys → AllByRecursion (λ y. times (key y) ks ≡ 0) ys → AllByRecursion (λ y. times (key y) (key x ∷ ks) ≡ 0) ys
      both [] ks a r = tt
      both (y ∷ ys) ks a r =
          (let h = a.0 in let i = r.0 in let z : ◌≡◌ {A = ℕ} (if key x == key y then 1 else 0) 0 = grind (arith, nat_tests) in omega arith, both ys ks a.1 r.1)

-- ---- more pages

pub map_id : (xs : List ℕ) → map (λ n. n) xs ≡ xs
map_id [] = refl
map_id (x ∷ xs) = ap (λ (r : List ℕ). x ∷ r) (map_id xs)

pub ascends_with_page : (page : ℕ) (xs : List ℕ) → Ascends 0 xs → Ascends 0 (with_page page xs)
ascends_with_page page xs up = subst (Ascends 0) (map_id (with_page page xs)) (ascends_put (λ n. n) 0 page xs (omega arith) (subst (Ascends 0) (sym (map_id xs)) up))

pub times-with_page : (k page : ℕ) (xs : List ℕ) → page ≢ k → times k (with_page page xs) ≡ times k xs
times-with_page k page xs other = ap (times k) (sym (map_id (with_page page xs))) ∙ times-put (λ n. n) k page xs other ∙ ap (times k) (map_id xs)

pub ascends_with_pages : (more xs : List ℕ) → Ascends 0 xs → Ascends 0 (with_pages more xs)
ascends_with_pages [] xs up = up
ascends_with_pages (page ∷ more) xs up = ascends_with_pages more (with_page page xs) (ascends_with_page page xs up)

pub times-with_pages : (k : ℕ) (more xs : List ℕ) → times k more ≡ 0 → times k (with_pages more xs) ≡ times k xs
times-with_pages k [] xs none = refl
times-with_pages k (page ∷ more) xs none =
    times-with_pages k more (with_page page xs) (omega arith) ∙ times-with_page k page xs other
  where
    other : page ≢ k
    other same = let e : (page == k) ≡ true = grind (arith, nat_tests) in let z : ◌≡◌ {A = ℕ} (if page == k then 1 else 0) 1 = ap (λ (b : Bool). if b then 1 else 0) e in absurd (omega arith)
