-- An insertion adds its object and loses none.
use Rattle.std.proofs.Common.{◌≡◌, ℕ, zero, suc, ◌+◌, ◌<◌, Bool, true, false, cond, List, [], ◌∷◌, ◌++◌, refl, ap, arith, length, inl, inr}
use Rattle.std.specs.Prelude.{map, if◌then◌else◌, nat_le, nat_lt, filter, count_by}
use Rattle.std.specs.List.{AllByRecursion, flat_map}
use Rattle.std.proofs.lemmas.List.{length-map}
use Rattle.std.proofs.lemmas.List.Recursion.{is_count_by}
use Rattle.metric_laws.specs.Space.{Space}
use Rattle.metric_laws.specs.Lists.{IsIn}
use Rattle.metric_laws.proofs.Published.{in-filter}
use Rattle.tree_growth.specs.declared.rules.Aim.{Aim}
use Rattle.tree_shape.specs.Plain.{Object, Branch, Plain, Tall, objects_in, objects_of}
use Rattle.tree_growth.specs.Dealing.{Ball, first_least, least_from}
use Rattle.tree_growth.specs.Insertion.{aims, is_inside, is_outside, excess, place_of, or_else, chosen, Rules, rules, Grown, One, Two, taken, left, branch, fit, with_grown, grown_at, object_ball, branch_ball, inserted, new_root, placed, HasEntries}

pub least_in : {X : Type 0} (f : X → ℕ) (x : X) (xs : List X) → IsIn (least_from f x xs) (x ∷ xs)
least_in f x [] = inl refl
least_in {X} f x (y ∷ ys) = cases (nat_lt (f y) (f x)) (least_in f x ys) (least_in f y ys)
  where
    cases : (b : Bool) → IsIn (least_from f x ys) (x ∷ ys) → IsIn (least_from f y ys) (y ∷ ys) → IsIn (least_from f (if b then y else x) ys) (x ∷ y ∷ ys)
    cases true old new = inr new
    cases false old new = elim old [ inl e ↦ inl e | inr w ↦ inr (inr w) ]

-- the chosen place is a place
pub aims_low : (s : Space) (p : List ℕ) (i : ℕ) (bs : List Ball) (a : Aim) → IsIn a (aims s p i bs) → a.place < i + length bs
aims_low s p i [] a w = absurd w
aims_low s p i (b ∷ bs) a w = elim w [ inl e ↦ (let f = ap (λ (x : Aim). x.place) e in omega arith) | inr v ↦ (let ih = aims_low s p (i + 1) bs a v in omega arith) ]

pub chosen_low : (s : Space) (bs : List Ball) (p : List ℕ) → 0 < length bs → chosen s bs p < length bs
chosen_low s bs p some = cases (filter is_inside (aims s p 0 bs)) (filter is_outside (aims s p 0 bs)) (λ a k. low a (in-filter is_inside (aims s p 0 bs) a k).0) (λ a k. low a (in-filter is_outside (aims s p 0 bs) a k).0)
  where
    low : (a : Aim) → IsIn a (aims s p 0 bs) → a.place < length bs
    low a k = let h = aims_low s p 0 bs a k in omega arith

    cases : (xs ys : List Aim) → ((a : Aim) → IsIn a xs → a.place < length bs) → ((a : Aim) → IsIn a ys → a.place < length bs) →
        place_of (or_else (first_least (λ a. a.dist) xs) (first_least excess ys)) < length bs
    cases [] [] f g = some
    cases [] (y ∷ ys) f g = g (least_from excess y ys) (least_in excess y ys)
    cases (x ∷ xs) ys f g = f (least_from (λ a. a.dist) x xs) (least_in (λ a. a.dist) x xs)

-- how many objects are of a kind
abbrev pub one : Bool → ℕ
one b = if b then 1 else 0

module _ (kind : Object → Bool) where
  abbrev pub tally : List Object → ℕ
  tally [] = 0
  tally (o ∷ os) = one (kind o) + tally os

  pub tally_is : (os : List Object) → tally os ≡ count_by kind os
  tally_is os = is_count_by tally kind refl (λ x xs. step (kind x) (tally xs)) os
    where
      step : (b : Bool) (n : ℕ) → one b + n ≡ cond b (1 + n) n
      step true n = omega arith
      step false n = omega arith

  pub tally_append : (xs ys : List Object) → tally (xs ++ ys) ≡ tally xs + tally ys
  tally_append [] ys = omega arith
  tally_append (x ∷ xs) ys = let ih = tally_append xs ys in omega arith

  -- a mask parts a list
  pub tally_parts : (ms : List Bool) (xs : List Object) → tally (taken ms xs) + tally (left ms xs) ≡ tally xs
  tally_parts [] xs = omega arith
  tally_parts (m ∷ ms) [] = omega arith
  tally_parts (true ∷ ms) (x ∷ xs) = let ih = tally_parts ms xs in omega arith
  tally_parts (false ∷ ms) (x ∷ xs) = let ih = tally_parts ms xs in omega arith

  -- how many stand below a branch, and below some branches
  abbrev pub below : (h : ℕ) → Branch (Plain h) → ℕ
  below h b = tally (objects_in h b.below)

  abbrev pub all_below : (h : ℕ) → List (Branch (Plain h)) → ℕ
  all_below h [] = 0
  all_below h (b ∷ bs) = below h b + all_below h bs

  pub all_below_append : (h : ℕ) (xs ys : List (Branch (Plain h))) → all_below h (xs ++ ys) ≡ all_below h xs + all_below h ys
  all_below_append h [] ys = omega arith
  all_below_append h (x ∷ xs) ys = let ih = all_below_append h xs ys in omega arith

  pub all_below_parts : (h : ℕ) (ms : List Bool) (xs : List (Branch (Plain h))) → all_below h (taken ms xs) + all_below h (left ms xs) ≡ all_below h xs
  all_below_parts h [] xs = omega arith
  all_below_parts h (m ∷ ms) [] = omega arith
  all_below_parts h (true ∷ ms) (x ∷ xs) = let ih = all_below_parts h ms xs in omega arith
  all_below_parts h (false ∷ ms) (x ∷ xs) = let ih = all_below_parts h ms xs in omega arith

  pub tally_node : (h : ℕ) (bs : List (Branch (Plain h))) → tally (objects_in (suc h) bs) ≡ all_below h bs
  tally_node h [] = refl
  tally_node h (b ∷ bs) =
      let a = tally_append (objects_in h b.below) (flat_map (λ (c : Branch (Plain h)). objects_in h c.below) bs) in
      let ih = tally_node h bs in omega arith

  abbrev pub grown_tally : (h : ℕ) → Grown (Plain h) → ℕ
  grown_tally h (One t) = tally (objects_in h t)
  grown_tally h (Two c d) = below h c + below h d

  pub fit_objects : (R : Rules) (os : List Object) → grown_tally zero (fit R object_ball os) ≡ tally os
  fit_objects R os = cases (nat_le (length os) R.most)
    where
      cases : (b : Bool) → grown_tally zero (if b then One os else Two (branch (R.split (map object_ball os)).first (taken (R.split (map object_ball os)).mask os))
          (branch (R.split (map object_ball os)).second (left (R.split (map object_ball os)).mask os))) ≡ tally os
      cases true = refl
      cases false = tally_parts (R.split (map object_ball os)).mask os

  pub fit_branches : (R : Rules) (h : ℕ) (bs : List (Branch (Plain h))) → grown_tally (suc h) (fit R branch_ball bs) ≡ all_below h bs
  fit_branches R h bs = cases (nat_le (length bs) R.most)
    where
      cases : (b : Bool) → grown_tally (suc h) (if b then One bs else Two (branch (R.split (map branch_ball bs)).first (taken (R.split (map branch_ball bs)).mask bs))
          (branch (R.split (map branch_ball bs)).second (left (R.split (map branch_ball bs)).mask bs))) ≡ all_below h bs
      cases true = tally_node h bs
      cases false =
          let m : List Bool = (R.split (map branch_ball bs)).mask in
          let t = tally_node h (taken m bs) in
          let l = tally_node h (left m bs) in
          let p = all_below_parts h m bs in omega arith

  pub with_grown_tally : (h more d : ℕ) (b : Branch (Plain h)) (g : Grown (Plain h)) (bs : List (Branch (Plain h))) → grown_tally h g ≡ below h b + more →
      all_below h (with_grown d b g bs) ≡ (below h b + all_below h bs) + more
  with_grown_tally h more d b (One x) bs is = omega arith
  with_grown_tally h more d b (Two c f) bs is = let a = all_below_append h bs (f ∷ []) in omega arith

  pub grown_at_tally : (h more : ℕ) (grow : Plain h → Grown (Plain h)) (far : List ℕ → ℕ) (i : ℕ) (bs : List (Branch (Plain h))) → i < length bs →
      AllByRecursion (λ b. grown_tally h (grow b.below) ≡ below h b + more) bs → all_below h (grown_at grow far i bs) ≡ all_below h bs + more
  grown_at_tally h more grow far i [] low all = absurd (omega arith)
  grown_at_tally h more grow far zero (b ∷ bs) low all = with_grown_tally h more (far b.point) b (grow b.below) bs all.0
  grown_at_tally h more grow far (suc i) (b ∷ bs) low all = let ih = grown_at_tally h more grow far i bs (omega arith) all.1 in omega arith

  module _ (R : Rules) (chooses : (bs : List Ball) (p : List ℕ) → 0 < length bs → R.choose bs p < length bs) (o : Object) where
    pub inserted_tally : (h : ℕ) (t : Plain h) → HasEntries h t → grown_tally h (inserted R o h t) ≡ tally (objects_in h t) + one (kind o)
    inserted_tally zero os some =
        let f = fit_objects R (os ++ o ∷ []) in let a = tally_append os (o ∷ []) in omega arith
    inserted_tally (suc h) bs some =
        let i : ℕ = R.choose (map branch_ball bs) o.point in
        let low : i < length bs = rw length-map at (chooses (map branch_ball bs) o.point (rw length-map some.0)) in
        let f = fit_branches R h (grown_at (inserted R o h) (R.dist o.point) i bs) in
        let g = grown_at_tally h (one (kind o)) (inserted R o h) (R.dist o.point) i bs low (each bs some.1 (λ t u. inserted_tally h t u)) in
        let n = tally_node h bs in omega arith
      where
        each : (cs : List (Branch (Plain h))) → AllByRecursion (λ b. HasEntries h b.below) cs →
            ((t : Plain h) → HasEntries h t → grown_tally h (inserted R o h t) ≡ tally (objects_in h t) + one (kind o)) →
            AllByRecursion (λ b. grown_tally h (inserted R o h b.below) ≡ below h b + one (kind o)) cs
        each [] all ih = tt
        each (c ∷ cs) all ih = (ih c.below all.0, each cs all.1 ih)

  pub new_root_tally : (h : ℕ) (g : Grown (Plain h)) → tally (objects_of (new_root h g)) ≡ grown_tally h g
  new_root_tally h (One t) = refl
  new_root_tally h (Two c d) = let n = tally_node h (c ∷ d ∷ []) in omega arith

pub insertion_adds_one : (s : Space) (promote split : ℕ) (o : Object) (t : Tall) → HasEntries t.height t.tree → (kind : Object → Bool) →
    count_by kind (objects_of (placed s promote split o t)) ≡ count_by kind (objects_of t) + (if kind o then 1 else 0)
insertion_adds_one s promote split o t some kind =
    let R : Rules = rules s promote split in
    let new = tally_is kind (objects_of (placed s promote split o t)) in
    let old = tally_is kind (objects_of t) in
    let grown = inserted_tally kind R (λ bs p k. chosen_low s bs p k) o t.height t.tree some in
    let root = new_root_tally kind t.height (inserted R o t.height t.tree) in omega arith
