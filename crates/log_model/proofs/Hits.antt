-- Lists of hits in order: their near part, their first k, and the last of them.
use Rattle.std.proofs.Common.{◌≡◌, ℕ, zero, suc, ◌-◌, ◌≤◌, Bool, true, false, cond, List, [], ◌∷◌, refl, ap, inl, inr, arith, ◌∙◌, length, min, take, Option, Some, None, sub-one}
use Rattle.std.specs.Prelude.{IsTrue, filter, slice_get}
use Rattle.std.specs.List.{AllByRecursion}
use Rattle.std.specs.Option.{option_map_or}
use Rattle.std.proofs.lemmas.Bool.Decides.{nat_tests}
use Rattle.metric_laws.specs.Space.{bound}
use Rattle.metric_laws.specs.Lists.{IsIn}
use Rattle.metric_laws.proofs.Published.{filter_none, filter_all, all_weaker, all_in}
use Rattle.scan_model.specs.declared.hit.Hit.{Hit}
use Rattle.scan_model.specs.Scan.{is_within}
use Rattle.scan_model.specs.Laws.{Ascends}
use Rattle.log_model.specs.InOrder.{hit_before}
use Rattle.log_model.specs.Sound.{last_dist}
use Rattle.log_model.proofs.Order.{IsRising, before_all}
use Rattle.log_model.proofs.Orders.{hit_order}

abbrev pub Rising : List Hit → Type 0
Rising xs = IsRising hit_before hit_order xs

-- no further than r
abbrev pub AllWithin : ℕ → List Hit → Type 0
AllWithin r hs = AllByRecursion (λ h. h.dist ≤ r) hs

pub before_within : (r : ℕ) (x y : Hit) → IsTrue (hit_before x y) → is_within r x ≡ false → is_within r y ≡ false
before_within r x y h out = grind (arith, nat_tests)

-- the first k of the near ones are the first k, where there are at least k near ones
pub take-near : (r k : ℕ) (xs : List Hit) → Rising xs → k ≤ length (filter (is_within r) xs) → take k (filter (is_within r) xs) ≡ take k xs
take-near r zero xs up many = refl
take-near r (suc k) [] up many = refl
take-near r (suc k) (x ∷ xs) up many = cases (is_within r x) refl (take-near r k xs up.1) many
  where
    cases : (b : Bool) → is_within r x ≡ b → (k ≤ length (filter (is_within r) xs) → take k (filter (is_within r) xs) ≡ take k xs) →
        suc k ≤ length (cond b (x ∷ filter (is_within r) xs) (filter (is_within r) xs)) → take (suc k) (cond b (x ∷ filter (is_within r) xs) (filter (is_within r) xs)) ≡ take (suc k) (x ∷ xs)
    cases true e ih many = ap (λ t. x ∷ t) (ih (omega arith))
    cases false e ih many =
        let none : filter (is_within r) xs ≡ [] =
        filter_none (is_within r) xs (all_weaker (λ y. IsTrue (hit_before x y)) (λ y. is_within r y ≡ false) xs (λ y b. before_within r x y b e) up.0) in
        let short : suc k ≤ 0 = rw none at many in
        absurd (omega arith)

-- where the first k are near, the first k of the near ones are the first k
pub take_near : (r k : ℕ) (xs : List Hit) → AllWithin r (take k xs) → take k (filter (is_within r) xs) ≡ take k xs
take_near r zero xs near = refl
take_near r (suc k) [] near = refl
take_near r (suc k) (x ∷ xs) near =
    let here : is_within r x ≡ true = (let n = near.0 in grind (arith, nat_tests)) in
    rw here (ap (λ t. x ∷ t) (take_near r k xs near.1))

pub whole_near : (r : ℕ) (xs : List Hit) → AllWithin r xs → filter (is_within r) xs ≡ xs
whole_near r xs near = filter_all (is_within r) xs (all_weaker (λ h. h.dist ≤ r) (λ h. is_within r h ≡ true) xs (λ h n. grind (arith, nat_tests)) near)

pub all_take : {X : Type 0} (P : X → Type 0) (k : ℕ) (xs : List X) → AllByRecursion P xs → AllByRecursion P (take k xs)
all_take P zero xs all = tt
all_take P (suc k) [] all = tt
all_take P (suc k) (x ∷ xs) all = (all.0, all_take P k xs all.1)

pub ascends_take : {X : Type 0} (P : X → X → Type 0) (k : ℕ) (xs : List X) → Ascends P xs → Ascends P (take k xs)
ascends_take P zero xs up = tt
ascends_take P (suc k) [] up = tt
ascends_take P (suc k) (x ∷ xs) up = (all_take (P x) k xs up.0, ascends_take P k xs up.1)

pub last_bounded : (hs : List Hit) → last_dist hs ≤ bound
last_bounded hs = cases (slice_get hs (length hs - 1))
  where
    cases : (o : Option Hit) → option_map_or (λ h. min h.dist bound) o bound ≤ bound
    cases None = omega arith
    cases (Some h) = omega arith

-- the last of an ascending list is the furthest
abbrev pub IsLast : List Hit → Hit → Type 0
IsLast xs h = (slice_get xs (length xs - 1) ≡ Some h) × IsIn h xs × AllWithin h.dist xs

pub last_is : (x : Hit) (xs : List Hit) → Rising (x ∷ xs) → (h : Hit) × IsLast (x ∷ xs) h
last_is x [] up = (x, (refl, inl refl, (omega arith, tt)))
last_is x (y ∷ ys) up =
    let deep = last_is y ys up.1 in
    let low : x.dist ≤ deep.0.dist = near deep.0 (before_all hit_before hit_order x (y ∷ ys) up.0 deep.0 deep.1.1) in
    (deep.0, (rw sub-one (rw sub-one at deep.1.0), inr deep.1.1, (low, deep.1.2)))
  where
    near : (h : Hit) → IsTrue (hit_before x h) → x.dist ≤ h.dist
    near h b = grind (arith, nat_tests)

-- none of an ascending list is further than the last
pub last_covers : (xs : List Hit) → Rising xs → AllWithin bound xs → AllWithin (last_dist xs) xs
last_covers [] up low = tt
last_covers (x ∷ xs) up low =
    let last = last_is x xs up in
    let short : last.0.dist ≤ bound = all_in (λ (h : Hit). h.dist ≤ bound) (x ∷ xs) last.0 low last.1.1 in
    let value : last_dist (x ∷ xs) ≡ min last.0.dist bound = ap (λ (o : Option Hit). option_map_or (λ h. min h.dist bound) o bound) last.1.0 in
    let same : last_dist (x ∷ xs) ≡ last.0.dist = value ∙ least last.0.dist short in
    all_weaker (λ h. h.dist ≤ last.0.dist) (λ h. h.dist ≤ last_dist (x ∷ xs)) (x ∷ xs) (λ h n. rw same n) last.1.2
  where
    least : (d : ℕ) → d ≤ bound → min d bound ≡ d
    least d low = omega arith
