-- The final radius is the radius that the answers give.
use Rattle.std.proofs.Common.{◌≡◌, ℕ, zero, suc, ◌+◌, ◌-◌, ◌<◌, ◌≤◌, Bool, true, false, cond, List, [], ◌∷◌, refl, sym, ap, inl, inr, arith, ◌∙◌, length, min, take, subst, Option, Some, sub-one, length-take}
use Rattle.std.specs.Prelude.{IsTrue, map, filter, nat_lt, if◌then◌else◌, ◌==◌, slice_get}
use Rattle.std.specs.List.{AllByRecursion}
use Rattle.std.specs.Option.{option_map_or}
use Rattle.std.proofs.lemmas.Bool.Decides.{nat_tests}
use Rattle.metric_laws.specs.Space.{Space, IsSpace, bound}
use Rattle.metric_laws.specs.Lists.{IsIn}
use Rattle.metric_laws.proofs.Published.{in-filter, in-map}
use Rattle.scan_model.specs.declared.hit.Hit.{Hit}
use Rattle.scan_model.specs.declared.query.Query.TheVariants.{Nearest}
use Rattle.log_model.specs.InOrder.{put_once, in_order, hit_before}
use Rattle.log_model.specs.Sound.{last_dist, pruning_radius}
use Rattle.log_model.proofs.Published.{before_all, rising-in_order, in-in_order, hit_order, Rising, is_answer, answers_in, AreIds}
use Rattle.tree_shape.specs.declared.entry.LeafEntry.{LeafEntry}
use Rattle.tree_shape.specs.Tree.{times}
use Rattle.tree_shape.proofs.Published.{ids_of}
use Rattle.log_model.specs.Walk.{Search, search_at, hit_of}
use Rattle.nearest_search.specs.Counts.{one_within, within}
use Rattle.nearest_search.specs.Machine.{count_near, IsFinal}
use Rattle.nearest_search.proofs.Totals.{within_all}
use Rattle.nearest_search.proofs.Near.{leaf_covered}

abbrev pub dists : List Hit → List ℕ
dists hs = map (λ h. h.dist) hs

abbrev pub hit_ids : List Hit → List ℕ
hit_ids hs = map (λ h. h.id) hs

pub counted_hit : (hs : List Hit) (h : Hit) → IsIn h hs → 1 ≤ times h.id (hit_ids hs)
counted_hit [] h k = absurd k
counted_hit (x ∷ xs) h k = elim k [ inl same ↦ first (ap (λ o. o.id) same) | inr w ↦ (let ih = counted_hit xs h w in omega arith) ]
  where
    first : h.id ≡ x.id → 1 ≤ (if x.id == h.id then 1 else 0) + times h.id (hit_ids xs)
    first same = grind (arith, nat_tests)

-- a new hit is counted once more
pub put_once_within : (r : ℕ) (h : Hit) (xs : List Hit) → (IsIn h xs → ⊥) → within r (dists (put_once hit_before h xs)) ≡ one_within r h.dist + within r (dists xs)
put_once_within r h [] fresh = refl
put_once_within r h (x ∷ xs) fresh =
    cases (hit_before h x) (hit_before x h) (put_once hit_before h xs) refl refl (put_once_within r h xs (λ k. fresh (inr k)))
  where
    cases : (b c : Bool) (rest : List Hit) → hit_before h x ≡ b → hit_before x h ≡ c → within r (dists rest) ≡ one_within r h.dist + within r (dists xs) →
        within r (dists (if b then h ∷ x ∷ xs else (if c then x ∷ rest else x ∷ xs))) ≡ one_within r h.dist + (one_within r x.dist + within r (dists xs))
    cases true c rest e f ih = refl
    cases false true rest e f ih = omega arith
    cases false false rest e f ih = absurd (fresh (inl (hit_order.total h x e f)))

-- an order of hits with different ids keeps their number
pub in_order_within : (r : ℕ) (hs : List Hit) → ((id : ℕ) → times id (hit_ids hs) ≤ 1) → within r (dists (in_order hit_before hs)) ≡ within r (dists hs)
in_order_within r [] once = refl
in_order_within r (h ∷ hs) once =
    put_once_within r h (in_order hit_before hs) fresh ∙ ap (λ n. one_within r h.dist + n) (in_order_within r hs (λ id. let o = once id in omega arith))
  where
    fresh : IsIn h (in_order hit_before hs) → ⊥
    fresh k = let there = counted_hit hs h (in-in_order hit_before hit_order hs h k) in let o = once h.id in
        let one : ◌≡◌ {A = ℕ} (if h.id == h.id then 1 else 0) 1 = grind (arith, nat_tests) in omega arith

pub ids_once : (f : Search) (es : List LeafEntry) (id : ℕ) → times id (hit_ids (answers_in f es)) ≤ times id (ids_of es)
ids_once f [] id = omega arith
ids_once f (e ∷ es) id = cases (is_answer f e) (ids_once f es id)
  where
    cases : (b : Bool) → times id (hit_ids (answers_in f es)) ≤ times id (ids_of es) →
        times id (hit_ids (map (hit_of f) (cond b (e ∷ filter (is_answer f) es) (filter (is_answer f) es)))) ≤ (if e.id == id then 1 else 0) + times id (ids_of es)
    cases true ih = omega arith
    cases false ih = omega arith

-- the last of an ascending list is the furthest
abbrev pub IsLast : List Hit → Hit → Type 0
IsLast xs h = (slice_get xs (length xs - 1) ≡ Some h) × IsIn h xs × AllByRecursion (λ x. x ≤ h.dist) (dists xs)

pub last_is : (x : Hit) (xs : List Hit) → Rising (x ∷ xs) → (h : Hit) × IsLast (x ∷ xs) h
last_is x [] up = (x, (refl, inl refl, (omega arith, tt)))
last_is x (y ∷ ys) up =
    let deep = last_is y ys up.1 in
    let low : x.dist ≤ deep.0.dist = near deep.0 (before_all hit_before hit_order x (y ∷ ys) up.0 deep.0 deep.1.1) in
    (deep.0, (rw sub-one (rw sub-one at deep.1.0), inr deep.1.1, (low, deep.1.2)))
  where
    near : (h : Hit) → IsTrue (hit_before x h) → x.dist ≤ h.dist
    near h b = grind (arith, nat_tests)

pub in-take : {X : Type 0} (k : ℕ) (xs : List X) (x : X) → IsIn x (take k xs) → IsIn x xs
in-take zero xs x i = absurd i
in-take (suc k) [] x i = absurd i
in-take (suc k) (y ∷ ys) x i = elim i [ inl e ↦ inl e | inr w ↦ inr (in-take k ys x w) ]

pub all_take : (P : Hit → Type 0) (k : ℕ) (xs : List Hit) → AllByRecursion P xs → AllByRecursion P (take k xs)
all_take P zero xs all = tt
all_take P (suc k) [] all = tt
all_take P (suc k) (x ∷ xs) all = (all.0, all_take P k xs all.1)

pub rising-take : (k : ℕ) (xs : List Hit) → Rising xs → Rising (take k xs)
rising-take zero xs up = tt
rising-take (suc k) [] up = tt
rising-take (suc k) (x ∷ xs) up = (all_take (λ y. IsTrue (hit_before x y)) k xs up.0, rising-take k xs up.1)

pub within-take : (r k : ℕ) (xs : List Hit) → within r (dists (take k xs)) ≤ within r (dists xs)
within-take r zero xs = omega arith
within-take r (suc k) [] = omega arith
within-take r (suc k) (x ∷ xs) = let ih = within-take r k xs in omega arith

pub all_dists : (r : ℕ) (xs : List Hit) → ((x : Hit) → IsIn x xs → x.dist ≤ r) → AllByRecursion (λ d. d ≤ r) (dists xs)
all_dists r [] h = tt
all_dists r (x ∷ xs) h = (h x (inl refl), all_dists r xs (λ y k. h y (inr k)))

pub length-dists : (xs : List Hit) → length (dists xs) ≡ length xs
length-dists [] = refl
length-dists (x ∷ xs) = ap suc (length-dists xs)

module _ (s : Space) (axioms : IsSpace s) (q : List ℕ) (q_fits : IsTrue (s.is_point q)) (es : List LeafEntry) (count k rho : ℕ) (ids : AreIds es count) (some : 1 ≤ k)
    (final : IsFinal k (λ r. count_near (search_at s q 0) r es) rho) where
  abbrev pub found : List Hit
  found = in_order hit_before (answers_in (search_at s q rho) es)

  pub found_near : (h : Hit) → IsIn h found → h.dist ≤ rho
  found_near h i =
      let from = in-map (hit_of (search_at s q rho)) (filter (is_answer (search_at s q rho)) es) h (in-in_order hit_before hit_order (answers_in (search_at s q rho) es) h i) in
      let near = in-filter (is_answer (search_at s q rho)) es from.0 from.1 in
      low from.0 (ap (λ z. z.dist) from.2) near.1
    where
      low : (e : LeafEntry) → h.dist ≡ s.dist e.point q → is_answer (search_at s q rho) e ≡ true → h.dist ≤ rho
      low e same near = grind (arith, nat_tests)

  pub found_count : (r : ℕ) → r ≤ rho → within r (dists found) ≡ count_near (search_at s q 0) r es
  found_count r low =
      in_order_within r (answers_in (search_at s q rho) es) (λ id. let a = ids_once (search_at s q rho) es id in let b = ids id in grind (arith, nat_tests))
      ∙ sym (leaf_covered (search_at s q rho) axioms q_fits es r low)

  pub found_length : length found ≡ count_near (search_at s q 0) rho es
  found_length = sym (length-dists found) ∙ sym (within_all rho (dists found) (all_dists rho found found_near)) ∙ found_count rho (omega arith)

  -- the distance of the k-th answer
  pub last_at : (xs : List Hit) → xs ≡ take k found → length xs ≡ k → last_dist xs ≡ rho
  last_at [] is long = absurd (omega arith)
  last_at (x ∷ xs) is long =
      let last = last_is x xs (rw (← is) at (rising-take k found (rising-in_order hit_before hit_order (answers_in (search_at s q rho) es)))) in
      let there : IsIn last.0 (take k found) = subst (λ (ys : List Hit). IsIn last.0 ys) is last.1.1 in
      let near : last.0.dist ≤ rho = found_near last.0 (in-take k found last.0 there) in
      let all : within last.0.dist (dists (x ∷ xs)) ≡ length (dists (x ∷ xs)) = within_all last.0.dist (dists (x ∷ xs)) last.1.2 in
      let long2 = length-dists (x ∷ xs) in
      let few : within last.0.dist (dists (x ∷ xs)) ≤ within last.0.dist (dists found) =
      subst (λ (ys : List Hit). within last.0.dist (dists ys) ≤ within last.0.dist (dists found)) (sym is) (within-take last.0.dist k found) in
      let value : last_dist (x ∷ xs) ≡ min last.0.dist bound = ap (λ (o : Option Hit). option_map_or (λ h. min h.dist bound) o bound) last.1.0 in
      value ∙ equal last.0.dist near (let c = found_count last.0.dist near in omega arith)
    where
      equal : (d : ℕ) → d ≤ rho → k ≤ count_near (search_at s q 0) d es → min d bound ≡ rho
      equal d near many = cases (nat_lt d rho) refl
        where
          cases : (b : Bool) → nat_lt d rho ≡ b → min d bound ≡ rho
          cases true e = let less : d < rho = grind (arith, nat_tests) in let f = final.fewer d less in absurd (omega arith)
          cases false e = let same : d ≡ rho = grind (arith, nat_tests) in let b = final.bounded in omega arith

  -- the radius that prunes, by the first k of what was found
  pub radius_at : pruning_radius (Nearest q k) (take k found) ≡ rho
  radius_at = cases (length (take k found) == k) refl
    where
      cases : (b : Bool) → (length (take k found) == k) ≡ b → (if b then last_dist (take k found) else bound) ≡ rho
      cases true e = last_at (take k found) refl (let l : length (take k found) ≡ k = grind (arith, nat_tests) in l)
      cases false e =
          let l : length (take k found) ≡ k → ⊥ = λ t. (let u : (length (take k found) == k) ≡ true = grind (arith, nat_tests) in cc) in
          whole (nat_lt rho bound) refl l
        where
          whole : (c : Bool) → nat_lt rho bound ≡ c → (length (take k found) ≡ k → ⊥) → bound ≡ rho
          whole true e l =
              let many = final.enough (let t : rho < bound = grind (arith, nat_tests) in t) in
              let m = found_length in let n = length-take k found in absurd (l (omega arith))
          whole false e l = let b = final.bounded in let t : bound ≤ rho = grind (arith, nat_tests) in omega arith
