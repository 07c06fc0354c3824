-- How many objects the groups have.
use Rattle.std.proofs.Common.{◌≡◌, ℕ, zero, suc, ◌+◌, ◌-◌, ◌*◌, ◌/◌, ◌<◌, ◌≤◌, ◌⊎◌, inl, inr, Bool, true, false, List, [], ◌∷◌, refl, sym, ap, ◌∙◌, arith, length, get_or, subst, Option, Some, None}
use Rattle.std.specs.Prelude.{◌==◌, if◌then◌else◌, nat_lt, nat_le, not, ◌&&◌, replicate}
use Rattle.std.specs.List.{AllByRecursion}
use Rattle.std.proofs.Math.ListN.{set}
use Rattle.std.proofs.lemmas.Bool.Decides.{nat_tests}
use Rattle.std.proofs.Math.Nat.{div-mul-le_self, mul-div_cancel_left}
use Rattle.std.proofs.lemmas.Nat.{le-div}
use Rattle.tree_growth.specs.Groups.{AreSized}
use Rattle.tree_growth.specs.declared.rules.Member.{Member}
use Rattle.tree_growth.specs.Groups.{Far, nearer, nearest_from, chosen, counted, one_more, placed_from, seeds_from, seed_of, member_of, in_group, is_candidate, candidate_from, moved_to, received, filled_from, grouped}

-- one where the test holds
abbrev pub one_if : Bool → ℕ
one_if b = if b then 1 else 0

-- the objects in the groups below g
abbrev pub in_groups : ℕ → List Member → ℕ
in_groups zero ps = 0
in_groups (suc g) ps = in_group g ps + in_groups g ps

in_groups-cons : (g : ℕ) (p : Member) (ps : List Member) → in_groups g (p ∷ ps) ≡ one_if (nat_lt p.group g) + in_groups g ps
in_groups-cons zero p ps = grind (arith, nat_tests)
in_groups-cons (suc g) p ps = let ih = in_groups-cons g p ps in step (one_if (p.group == g)) (one_if (nat_lt p.group g)) (one_if (nat_lt p.group (suc g))) (in_group g ps) (in_groups g (p ∷ ps)) (in_groups g ps) one ih
  where
    one : one_if (p.group == g) + one_if (nat_lt p.group g) ≡ one_if (nat_lt p.group (suc g))
    one = grind (arith, nat_tests)

    step : (a b c t u v : ℕ) → a + b ≡ c → u ≡ b + v → (a + t) + u ≡ c + (t + v)
    step a b c t u v e f = omega arith

pub in_groups_all : (g : ℕ) (ps : List Member) → AllByRecursion (λ p. p.group < g) ps → in_groups g ps ≡ length ps
in_groups_all g [] all = none g
  where
    none : (g : ℕ) → in_groups g [] ≡ 0
    none zero = refl
    none (suc g) = let ih = none g in omega arith
in_groups_all g (p ∷ ps) all = in_groups-cons g p ps ∙ (let ih = in_groups_all g ps all.1 in let low = all.0 in let one : ◌≡◌ {A = ℕ} (one_if (nat_lt p.group g)) 1 = grind (arith, nat_tests) in omega arith)

-- a group that is too small leaves less than enough for all
pub in_groups_short : (g least : ℕ) (ps : List Member) (a : ℕ) → a < g → in_group a ps < least → ((b : ℕ) → b < g → in_group b ps ≤ least) → in_groups g ps < g * least
in_groups_short zero least ps a low short few = absurd (omega arith)
in_groups_short (suc g) least ps a low short few = cases (a == g) refl
  where
    most : (k : ℕ) → k ≤ suc g → in_groups k ps ≤ k * least
    most zero le = omega arith
    most (suc k) le = let ih = most k (omega arith) in let h = few k (omega arith) in omega arith

    below : (k : ℕ) → k ≤ suc g → a < k → in_groups k ps < k * least
    below zero le l = absurd (omega arith)
    below (suc k) le l = split (a == k) refl (below k (omega arith))
      where
        split : (b : Bool) → (a == k) ≡ b → (a < k → in_groups k ps < k * least) → in_groups (suc k) ps < suc k * least
        split true e ih = let s : a ≡ k = grind (arith, nat_tests) in let m = most k (omega arith) in let q : in_group k ps < least = subst (λ (j : ℕ). in_group j ps < least) s short in omega arith
        split false e ih = let s : a < k = grind (arith, nat_tests) in let h = few k (omega arith) in let m = ih s in omega arith

    cases : (b : Bool) → (a == g) ≡ b → in_groups (suc g) ps < suc g * least
    cases b e = below (suc g) (omega arith) low

-- the seeds of a group
abbrev pub seeds_of : ℕ → List Member → ℕ
seeds_of a [] = 0
seeds_of a (p ∷ ps) = one_if (p.is_seed && (p.group == a)) + seeds_of a ps

-- where no object may be taken, no group has more than enough objects, or more than its seeds
pub no_candidate : (far : Far) (least a : ℕ) (all : List Member) (k : ℕ) (ps : List Member) → candidate_from far least a all k None ps ≡ None → AllByRecursion (λ p. is_candidate least all p ≡ false) ps
no_candidate far least a all k [] e = tt
no_candidate far least a all k (p ∷ ps) e = cases (is_candidate least all p) refl (no_candidate far least a all (k + 1) ps) e
  where
    stays : (k : ℕ) (d i : ℕ) (ps : List Member) → candidate_from far least a all k (Some (d, i)) ps ≡ None → ⊥
    stays k d i [] e = cc
    stays k d i (p ∷ ps) e = go (is_candidate least all p) refl (nat_lt (far k a) d) refl (stays (k + 1) (far k a) k ps) (stays (k + 1) d i ps) e
      where
        go : (b : Bool) → is_candidate least all p ≡ b → (c : Bool) → nat_lt (far k a) d ≡ c → (candidate_from far least a all (k + 1) (Some (far k a, k)) ps ≡ None → ⊥) → (candidate_from far least a all (k + 1) (Some (d, i)) ps ≡ None → ⊥) →
            candidate_from far least a all (k + 1) (nearer (is_candidate least all p) (far k a) k (Some (d, i))) ps ≡ None → ⊥
        go false is c near new old e = old (subst (λ b. candidate_from far least a all (k + 1) (nearer b (far k a) k (Some (d, i))) ps ≡ None) is e)
        go true is true near new old e = new (subst (λ c. candidate_from far least a all (k + 1) (if c then Some (far k a, k) else Some (d, i)) ps ≡ None) near (subst (λ b. candidate_from far least a all (k + 1) (nearer b (far k a) k (Some (d, i))) ps ≡ None) is e))
        go true is false near new old e = old (subst (λ c. candidate_from far least a all (k + 1) (if c then Some (far k a, k) else Some (d, i)) ps ≡ None) near (subst (λ b. candidate_from far least a all (k + 1) (nearer b (far k a) k (Some (d, i))) ps ≡ None) is e))

    cases : (b : Bool) → is_candidate least all p ≡ b → (candidate_from far least a all (k + 1) None ps ≡ None → AllByRecursion (λ p. is_candidate least all p ≡ false) ps) →
        candidate_from far least a all (k + 1) (nearer (is_candidate least all p) (far k a) k None) ps ≡ None → AllByRecursion (λ p. is_candidate least all p ≡ false) (p ∷ ps)
    cases false is ih e = (is, ih (subst (λ b. candidate_from far least a all (k + 1) (nearer b (far k a) k None) ps ≡ None) is e))
    cases true is ih e = absurd (stays (k + 1) (far k a) k ps (subst (λ b. candidate_from far least a all (k + 1) (nearer b (far k a) k None) ps ≡ None) is e))

pub seeds_only : (least b : ℕ) (all ps : List Member) → AllByRecursion (λ p. is_candidate least all p ≡ false) ps → least < in_group b all → in_group b ps ≤ seeds_of b ps
seeds_only least b all [] none more = omega arith
seeds_only least b all (p ∷ ps) none more = cases (p.group == b) refl p.is_seed refl (seeds_only least b all ps none.1 more)
  where
    cases : (c : Bool) → (p.group == b) ≡ c → (s : Bool) → p.is_seed ≡ s → in_group b ps ≤ seeds_of b ps → in_group b (p ∷ ps) ≤ seeds_of b (p ∷ ps)
    cases false e s is ih = rw e (omega arith)
    cases true e true is ih = rw (e, is) (omega arith)
    cases true e false is ih = absurd (clash (let h = none.0 in h))
      where
        clash : is_candidate least all p ≡ false → ⊥
        clash h = let g : p.group ≡ b = grind (arith, nat_tests) in let t : nat_lt least (in_group p.group all) ≡ true = rw g (grind (arith, nat_tests)) in cc

-- a move: one less in the old group, and one more in the new
pub in_group-set : (b k : ℕ) (ps : List Member) (q d : Member) → k < length ps → in_group b (set ps k q) + one_if ((get_or ps k d).group == b) ≡ in_group b ps + one_if (q.group == b)
in_group-set b k [] q d low = absurd (omega arith)
in_group-set b zero (p ∷ ps) q d low = omega arith
in_group-set b (suc k) (p ∷ ps) q d low = let ih = in_group-set b k ps q d (omega arith) in omega arith

pub seeds_of-set : (b k : ℕ) (ps : List Member) (q d : Member) → k < length ps → q.is_seed ≡ false → seeds_of b (set ps k q) ≤ seeds_of b ps
seeds_of-set b k [] q d low plain = absurd (omega arith)
seeds_of-set b zero (p ∷ ps) q d low plain = rw plain (omega arith)
seeds_of-set b (suc k) (p ∷ ps) q d low plain = let ih = seeds_of-set b k ps q d (omega arith) plain in omega arith

pub length_set : (k : ℕ) (ps : List Member) (q : Member) → length (set ps k q) ≡ length ps
length_set k [] q = refl
length_set zero (p ∷ ps) q = refl
length_set (suc k) (p ∷ ps) q = ap suc (length_set k ps q)

pub low_set : (g k : ℕ) (ps : List Member) (q : Member) → q.group < g → AllByRecursion (λ p. p.group < g) ps → AllByRecursion (λ p. p.group < g) (set ps k q)
low_set g k [] q low all = tt
low_set g zero (p ∷ ps) q low all = (low, all.1)
low_set g (suc k) (p ∷ ps) q low all = (all.0, low_set g k ps q low all.1)

pub nearer_cases : (c : Bool) (d i : ℕ) (best : Option (ℕ × ℕ)) → (nearer c d i best ≡ best) ⊎ ((c ≡ true) × (nearer c d i best ≡ Some (d, i)))
nearer_cases false d i best = inl refl
nearer_cases true d i None = inr (refl, refl)
nearer_cases true d i (Some b) = go (nat_lt d b.0)
  where
    go : (c : Bool) → ((if c then Some (d, i) else Some b) ≡ Some b) ⊎ ((true ≡ true) × ((if c then Some (d, i) else Some b) ≡ Some (d, i)))
    go true = inr (refl, refl)
    go false = inl refl

-- a candidate that was found, by its place
pub record IsFound (least : ℕ) (all : List Member) (k : ℕ) (ps : List Member) (d : Member) (b : ℕ × ℕ) : Type 0 where
  pub place : ℕ
  pub inside : place < length ps
  pub is : b.1 ≡ k + place
  pub candidate : is_candidate least all (get_or ps place d) ≡ true

pub candidate_some : (far : Far) (least a : ℕ) (all : List Member) (k : ℕ) (best : Option (ℕ × ℕ)) (ps : List Member) (d : Member) (b : ℕ × ℕ) → candidate_from far least a all k best ps ≡ Some b → (best ≡ Some b) ⊎ IsFound least all k ps d b
candidate_some far least a all k best [] d b e = inl e
candidate_some far least a all k best (p ∷ ps) d b e =
    elim (candidate_some far least a all (k + 1) (nearer (is_candidate least all p) (far k a) k best) ps d b e) [
      | inr w ↦ inr (record { place = suc w.place; inside = (let h = w.inside in omega arith); is = (let h = w.is in omega arith); candidate = w.candidate })
      | inl s ↦ elim (nearer_cases (is_candidate least all p) (far k a) k best) [
        | inl same ↦ inl (sym same ∙ s)
        | inr new ↦ inr (record { place = 0; inside = omega arith; is = (let t : Some (far k a, k) ≡ Some b = sym new.1 ∙ s in let u : (far k a, k) ≡ b = cc in let v = ap (λ (x : ℕ × ℕ). x.1) u in omega arith); candidate = new.0 })
      ]
    ]

-- what the filling keeps
pub record Holds (room g n : ℕ) (ps : List Member) : Type 0 where
  pub long : length ps ≡ n
  pub low : AllByRecursion (λ p. p.group < g) ps
  pub few : (a : ℕ) → a < g → in_group a ps ≤ room
  pub seeds : (a : ℕ) → seeds_of a ps ≤ 1

-- a group that is too small receives an object, and no group falls below enough
pub record Receives (least room g n a : ℕ) (ps new : List Member) : Type 0 where
  pub holds : Holds room g n new
  pub one : in_group a new ≡ in_group a ps + 1
  pub others : (b : ℕ) → b < g → least ≤ in_group b ps → least ≤ in_group b new

pub receives : (far : Far) (least room g n a : ℕ) (ps : List Member) → 0 < least → least ≤ room → g * least ≤ n → Holds room g n ps → a < g → in_group a ps < least →
    Receives least room g n a ps (moved_to a (candidate_from far least a ps 0 None ps) ps)
receives far least room g n a ps some is_point enough holds here short = go (candidate_from far least a ps 0 None ps) refl
  where
    go : (best : Option (ℕ × ℕ)) → candidate_from far least a ps 0 None ps ≡ best → Receives least room g n a ps (moved_to a best ps)
    go None e = absurd (
        let none = no_candidate far least a ps 0 ps e in
        let all : (b : ℕ) → b < g → in_group b ps ≤ least = λ b low. cases b (nat_lt least (in_group b ps)) refl none in
        let total = in_groups_all g ps holds.low in let less = in_groups_short g least ps a here short all in let l = holds.long in omega arith)
      where
        cases : (b : ℕ) (c : Bool) → nat_lt least (in_group b ps) ≡ c → AllByRecursion (λ p. is_candidate least ps p ≡ false) ps → in_group b ps ≤ least
        cases b true is none = let more : least < in_group b ps = grind (arith, nat_tests) in let h = seeds_only least b ps ps none more in let s = holds.seeds b in omega arith
        cases b false is none = grind (arith, nat_tests)
    go (Some best) e = elim (candidate_some far least a ps 0 None ps (member_of a) best e) [
      | inl other ↦ absurd (let h : None ≡ Some best = other in cc)
      | inr f ↦ put best f
    ]
      where
        put : (best : ℕ × ℕ) → IsFound least ps 0 ps (member_of a) best → Receives least room g n a ps (set ps best.1 (member_of a))
        put best f = subst (λ (k : ℕ). Receives least room g n a ps (set ps k (member_of a))) (let e : f.place ≡ best.1 = let h = f.is in omega arith in e) (at f.place f.inside f.candidate)
          where
            at : (k : ℕ) → k < length ps → is_candidate least ps (get_or ps k (member_of a)) ≡ true → Receives least room g n a ps (set ps k (member_of a))
            at k inside candidate =
                let more : least < in_group (get_or ps k (member_of a)).group ps = second (not (get_or ps k (member_of a)).is_seed) (nat_lt least (in_group (get_or ps k (member_of a)).group ps)) refl candidate in
                record {
                  holds = record {
                    long = length_set k ps (member_of a) ∙ holds.long;
                    low = low_set g k ps (member_of a) here holds.low;
                    few = λ b low. let h = in_group-set b k ps (member_of a) (member_of a) inside in at_most b (holds.few b low) (a == b) refl h;
                    seeds = λ b. let h = seeds_of-set b k ps (member_of a) (member_of a) inside refl in let s = holds.seeds b in omega arith;
                  };
                  one = let h = in_group-set a k ps (member_of a) (member_of a) inside in grown (get_or ps k (member_of a)).group more h;
                  others = λ b low stays. let h = in_group-set b k ps (member_of a) (member_of a) inside in kept b stays (get_or ps k (member_of a)).group more ((get_or ps k (member_of a)).group == b) refl h;
                }
              where
                second : (x y : Bool) → y ≡ nat_lt least (in_group (get_or ps k (member_of a)).group ps) → (x && y) ≡ true → least < in_group (get_or ps k (member_of a)).group ps
                second true true e t = grind (arith, nat_tests)
                second true false e t = absurd (let h : false ≡ true = t in cc)
                second false y e t = absurd (let h : false ≡ true = t in cc)

                at_most : (b : ℕ) → in_group b ps ≤ room → (c : Bool) → (a == b) ≡ c → in_group b (set ps k (member_of a)) + one_if ((get_or ps k (member_of a)).group == b) ≡ in_group b ps + one_if (a == b) → in_group b (set ps k (member_of a)) ≤ room
                at_most b few true e h = let same : a ≡ b = grind (arith, nat_tests) in let s : in_group b ps < least = subst (λ (j : ℕ). in_group j ps < least) same short in let o : ◌≡◌ {A = ℕ} (one_if (a == b)) 1 = ap one_if e in omega arith
                at_most b few false e h = let o : ◌≡◌ {A = ℕ} (one_if (a == b)) 0 = ap one_if e in omega arith

                grown : (q : ℕ) → least < in_group q ps → in_group a (set ps k (member_of a)) + one_if (q == a) ≡ in_group a ps + one_if (a == a) → in_group a (set ps k (member_of a)) ≡ in_group a ps + 1
                grown q more h = turn (q == a) refl
                  where
                    itself : ◌≡◌ {A = ℕ} (one_if (a == a)) 1
                    itself = grind (arith, nat_tests)

                    turn : (c : Bool) → (q == a) ≡ c → in_group a (set ps k (member_of a)) ≡ in_group a ps + 1
                    turn true e = absurd (let same : q ≡ a = grind (arith, nat_tests) in let s : least < in_group a ps = subst (λ (j : ℕ). least < in_group j ps) same more in omega arith)
                    turn false e = let o : ◌≡◌ {A = ℕ} (one_if (q == a)) 0 = ap one_if e in let i = itself in omega arith

                kept : (b : ℕ) → least ≤ in_group b ps → (q : ℕ) → least < in_group q ps → (c : Bool) → (q == b) ≡ c → in_group b (set ps k (member_of a)) + one_if (q == b) ≡ in_group b ps + one_if (a == b) → least ≤ in_group b (set ps k (member_of a))
                kept b stays q more true e h = let same : q ≡ b = grind (arith, nat_tests) in let s : least < in_group b ps = subst (λ (j : ℕ). least < in_group j ps) same more in let o : ◌≡◌ {A = ℕ} (one_if (q == b)) 1 = ap one_if e in omega arith
                kept b stays q more false e h = let o : ◌≡◌ {A = ℕ} (one_if (q == b)) 0 = ap one_if e in omega arith

-- a group receives what it needs
pub record Filled (least room g n a : ℕ) (ps new : List Member) : Type 0 where
  pub holds : Holds room g n new
  pub enough : least ≤ in_group a new
  pub others : (b : ℕ) → b < g → least ≤ in_group b ps → least ≤ in_group b new

pub received_fills : (far : Far) (least room g n a need : ℕ) (ps : List Member) → 0 < least → least ≤ room → g * least ≤ n → Holds room g n ps → a < g → least ≤ in_group a ps + need → (in_group a ps < least → in_group a ps + need ≡ least) →
    (least ≤ in_group a ps → need ≡ 0) → Filled least room g n a ps (received far least a need ps)
received_fills far least room g n a zero ps some is_point enough holds here up exact done = record { holds = holds; enough = omega arith; others = λ b low h. h }
received_fills far least room g n a (suc need) ps some is_point enough holds here up exact done =
    let short : in_group a ps < least = go (nat_lt (in_group a ps) least) refl in
    let r = receives far least room g n a ps some is_point enough holds here short in
    let sum : in_group a ps + suc need ≡ least = exact short in
    let next : List Member = moved_to a (candidate_from far least a ps 0 None ps) ps in
    let rest : Filled least room g n a next (received far least a need next) =
    received_fills far least room g n a need next some is_point enough r.holds here (let o = r.one in omega arith) (λ s. let o = r.one in omega arith) (λ s. let o = r.one in omega arith) in
    record { holds = rest.holds; enough = rest.enough; others = λ b low h. rest.others b low (r.others b low h) }
  where
    go : (c : Bool) → nat_lt (in_group a ps) least ≡ c → in_group a ps < least
    go true e = grind (arith, nat_tests)
    go false e = let h : least ≤ in_group a ps = grind (arith, nat_tests) in let z = done h in absurd (omega arith)

-- all groups are filled
pub filled_fills : (far : Far) (least room g n a left : ℕ) (ps : List Member) → 0 < least → least ≤ room → g * least ≤ n → Holds room g n ps → a + left ≡ g → ((b : ℕ) → b < a → least ≤ in_group b ps) →
    Holds room g n (filled_from far least a left ps) × ((b : ℕ) → b < g → least ≤ in_group b (filled_from far least a left ps))
filled_fills far least room g n a zero ps some is_point enough holds sum before = (holds, λ b low. before b (omega arith))
filled_fills far least room g n a (suc left) ps some is_point enough holds sum before =
    let f = received_fills far least room g n a (least - in_group a ps) ps some is_point enough holds (omega arith) (omega arith) (λ s. omega arith) (λ s. omega arith) in
    filled_fills far least room g n (a + 1) left (received far least a (least - in_group a ps) ps) some is_point enough f.holds (omega arith) (λ b low. next b low f (b == a) refl)
  where
    next : (b : ℕ) → b < a + 1 → Filled least room g n a ps (received far least a (least - in_group a ps) ps) → (c : Bool) → (b == a) ≡ c → least ≤ in_group b (received far least a (least - in_group a ps) ps)
    next b low f true e = let same : b ≡ a = grind (arith, nat_tests) in subst (λ (j : ℕ). least ≤ in_group j (received far least a (least - in_group a ps) ps)) (sym same) f.enough
    next b low f false e = let l : b < a = grind (arith, nat_tests) in f.others b (omega arith) (before b l)

-- ---- the first placing

-- the seeds' places ascend, from k up to the end
abbrev pub Ascends : ℕ → ℕ → List ℕ → Type 0
Ascends k end [] = k ≤ end
Ascends k end (s ∷ ss) = (k ≤ s) × Ascends (s + 1) end ss

pub ascends_fit : (k end : ℕ) (ss : List ℕ) → Ascends k end ss → k + length ss ≤ end
ascends_fit k end [] up = omega arith
ascends_fit k end (s ∷ ss) up = let ih = ascends_fit (s + 1) end ss up.1 in let h = up.0 in omega arith

abbrev pub total : List ℕ → ℕ
total [] = 0
total (c ∷ cs) = c + total cs

pub total_full : (room : ℕ) (cs : List ℕ) → AllByRecursion (λ c. room ≤ c) cs → length cs * room ≤ total cs
total_full room [] all = omega arith
total_full room (c ∷ cs) all = let ih = total_full room cs all.1 in let h = all.0 in omega arith

pub total_more : (a : ℕ) (cs : List ℕ) → a < length cs → total (one_more a cs) ≡ total cs + 1
total_more a [] low = absurd (omega arith)
total_more zero (c ∷ cs) low = omega arith
total_more (suc a) (c ∷ cs) low = let ih = total_more a cs (omega arith) in omega arith

pub length_more : (a : ℕ) (cs : List ℕ) → length (one_more a cs) ≡ length cs
length_more a [] = refl
length_more zero (c ∷ cs) = refl
length_more (suc a) (c ∷ cs) = ap suc (length_more a cs)

pub get_more : (a b : ℕ) (cs : List ℕ) → a < length cs → get_or (one_more a cs) b 0 ≡ get_or cs b 0 + one_if (a == b)
get_more a b [] low = absurd (omega arith)
get_more zero zero (c ∷ cs) low = omega arith
get_more zero (suc b) (c ∷ cs) low = let z : ◌≡◌ {A = ℕ} (one_if (0 == suc b)) 0 = grind (arith, nat_tests) in omega arith
get_more (suc a) zero (c ∷ cs) low = let z : ◌≡◌ {A = ℕ} (one_if (suc a == 0)) 0 = grind (arith, nat_tests) in omega arith
get_more (suc a) (suc b) (c ∷ cs) low = let ih = get_more a b cs (omega arith) in let s : ◌≡◌ {A = ℕ} (one_if (suc a == suc b)) (one_if (a == b)) = grind (arith, nat_tests) in omega arith

-- a group with room, by its place
pub record HasRoom (room a : ℕ) (counts : List ℕ) (b : ℕ × ℕ) : Type 0 where
  pub place : ℕ
  pub inside : place < length counts
  pub is : b.1 ≡ a + place
  pub free : get_or counts place 0 < room

pub nearest_some : (far : Far) (room k a : ℕ) (best : Option (ℕ × ℕ)) (counts : List ℕ) (b : ℕ × ℕ) → nearest_from far room k a best counts ≡ Some b → (best ≡ Some b) ⊎ HasRoom room a counts b
nearest_some far room k a best [] b e = inl e
nearest_some far room k a best (c ∷ counts) b e =
    elim (nearest_some far room k (a + 1) (nearer (nat_lt c room) (far k a) a best) counts b e) [
      | inr w ↦ inr (record { place = suc w.place; inside = (let h = w.inside in omega arith); is = (let h = w.is in omega arith); free = w.free })
      | inl s ↦ elim (nearer_cases (nat_lt c room) (far k a) a best) [
        | inl same ↦ inl (sym same ∙ s)
        | inr new ↦ inr (record { place = 0; inside = omega arith; is = (let t : Some (far k a, a) ≡ Some b = sym new.1 ∙ s in let u : (far k a, a) ≡ b = cc in let v = ap (λ (x : ℕ × ℕ). x.1) u in omega arith); free = (let t = new.0 in grind (arith, nat_tests)) })
      ]
    ]

nearest_stays : (far : Far) (room k a d i : ℕ) (counts : List ℕ) → nearest_from far room k a (Some (d, i)) counts ≡ None → ⊥
nearest_stays far room k a d i [] e = cc
nearest_stays far room k a d i (c ∷ counts) e =
    elim (nearer_cases (nat_lt c room) (far k a) a (Some (d, i))) [
      | inl same ↦ nearest_stays far room k (a + 1) d i counts (subst (λ (o : Option (ℕ × ℕ)). nearest_from far room k (a + 1) o counts ≡ None) same e)
      | inr new ↦ nearest_stays far room k (a + 1) (far k a) a counts (subst (λ (o : Option (ℕ × ℕ)). nearest_from far room k (a + 1) o counts ≡ None) new.1 e)
    ]

pub nearest_none : (far : Far) (room k a : ℕ) (counts : List ℕ) → nearest_from far room k a None counts ≡ None → AllByRecursion (λ c. room ≤ c) counts
nearest_none far room k a [] e = tt
nearest_none far room k a (c ∷ counts) e = cases (nat_lt c room) refl (nearest_none far room k (a + 1) counts) e
  where
    cases : (t : Bool) → nat_lt c room ≡ t → (nearest_from far room k (a + 1) None counts ≡ None → AllByRecursion (λ c. room ≤ c) counts) →
        nearest_from far room k (a + 1) (nearer (nat_lt c room) (far k a) a None) counts ≡ None → AllByRecursion (λ c. room ≤ c) (c ∷ counts)
    cases true is ih e = absurd (nearest_stays far room k (a + 1) (far k a) a counts (subst (λ b. nearest_from far room k (a + 1) (nearer b (far k a) a None) counts ≡ None) is e))
    cases false is ih e = (grind (arith, nat_tests), ih (subst (λ b. nearest_from far room k (a + 1) (nearer b (far k a) a None) counts ≡ None) is e))

-- what was placed, from group i's seed on, over these counts
pub record IsPlaced (room g i left : ℕ) (counts : List ℕ) (ps : List Member) : Type 0 where
  pub long : length ps ≡ left
  pub low : AllByRecursion (λ p. p.group < g) ps
  pub few : (a : ℕ) → a < g → in_group a ps + get_or counts a 0 ≤ room + one_if (nat_le i a)
  pub seeds : (a : ℕ) → seeds_of a ps ≤ one_if (nat_le i a)

member_placed : (far : Far) (room g k i left : ℕ) (counts : List ℕ) (rest : List ℕ → List Member) → length counts ≡ g → ((a : ℕ) → a < g → get_or counts a 0 ≤ room) → total counts < g * room →
    ((cs : List ℕ) → length cs ≡ g → ((a : ℕ) → a < g → get_or cs a 0 ≤ room) → total cs ≡ total counts + 1 → IsPlaced room g i left cs (rest cs)) →
    IsPlaced room g i (suc left) counts (member_of (chosen (nearest_from far room k 0 None counts)) ∷ rest (counted (nearest_from far room k 0 None counts) counts))
member_placed far room g k i left counts rest long few spare rec = go (nearest_from far room k 0 None counts) refl
  where
    go : (best : Option (ℕ × ℕ)) → nearest_from far room k 0 None counts ≡ best → IsPlaced room g i (suc left) counts (member_of (chosen best) ∷ rest (counted best counts))
    go None e = absurd (let f = total_full room counts (nearest_none far room k 0 counts e) in let h : length counts * room ≡ g * room = ap (λ (x : ℕ). x * room) long in omega arith)
    go (Some b) e = elim (nearest_some far room k 0 None counts b e) [
      | inl other ↦ absurd (let h : None ≡ Some b = other in cc)
      | inr r ↦ put r
    ]
      where
        put : HasRoom room 0 counts b → IsPlaced room g i (suc left) counts (member_of b.1 ∷ rest (one_more b.1 counts))
        put r = subst (λ (x : ℕ). IsPlaced room g i (suc left) counts (member_of x ∷ rest (one_more x counts))) (let q : r.place ≡ b.1 = let h = r.is in omega arith in q) (at r.place r.inside r.free)
          where
            at : (x : ℕ) → x < length counts → get_or counts x 0 < room → IsPlaced room g i (suc left) counts (member_of x ∷ rest (one_more x counts))
            at x inside free =
                let R = rec (one_more x counts) (length_more x counts ∙ long) (λ a low. let h = get_more x a counts inside in room_left a (few a low) (x == a) refl h) (total_more x counts inside) in
                record {
                  long = ap suc R.long;
                  low = ((let h : x < g = omega arith in h), R.low);
                  few = λ a low. let h = R.few a low in let m = get_more x a counts inside in omega arith;
                  seeds = λ a. let h = R.seeds a in omega arith;
                }
              where
                room_left : (a : ℕ) → get_or counts a 0 ≤ room → (c : Bool) → (x == a) ≡ c → get_or (one_more x counts) a 0 ≡ get_or counts a 0 + one_if (x == a) → get_or (one_more x counts) a 0 ≤ room
                room_left a f true e h = let same : x ≡ a = grind (arith, nat_tests) in let s : get_or counts a 0 < room = subst (λ (j : ℕ). get_or counts j 0 < room) same free in let o : ◌≡◌ {A = ℕ} (one_if (x == a)) 1 = ap one_if e in omega arith
                room_left a f false e h = let o : ◌≡◌ {A = ℕ} (one_if (x == a)) 0 = ap one_if e in omega arith

seed_placed : (room g i left : ℕ) (counts : List ℕ) (ps : List Member) → i < g → IsPlaced room g (i + 1) left counts ps → IsPlaced room g i (suc left) counts (seed_of i ∷ ps)
seed_placed room g i left counts ps low p = record {
  long = ap suc p.long;
  low = (low, p.low);
  few = λ a l. let h = p.few a l in let s = split a in omega arith;
  seeds = λ a. let h = p.seeds a in let s = split a in omega arith;
}
  where
    split : (a : ℕ) → one_if (i == a) + one_if (nat_le (i + 1) a) ≤ one_if (nat_le i a)
    split a = grind (arith, nat_tests)

pub placed_is : (far : Far) (room g end k i : ℕ) (seeds counts : List ℕ) (left : ℕ) → k + left ≡ end → Ascends k end seeds → i + length seeds ≡ g → length counts ≡ g →
    ((a : ℕ) → a < g → get_or counts a 0 ≤ room) → total counts + left ≤ g * room + length seeds → IsPlaced room g i left counts (placed_from far room k seeds i counts left)
placed_is far room g end k i seeds counts zero sum up all long few spare = record { long = refl; low = tt; few = λ a low. let h = few a low in omega arith; seeds = λ a. omega arith }
placed_is far room g end k i [] counts (suc left) sum up all long few spare =
    member_placed far room g k i left counts (λ cs. placed_from far room (k + 1) [] i cs left) long few (omega arith)
    (λ cs l f t. placed_is far room g end (k + 1) i [] cs left (omega arith) (omega arith) all l f (omega arith))
placed_is far room g end k i (s ∷ seeds) counts (suc left) sum up all long few spare =
    cases (s == k) refl
    (λ same. placed_is far room g end (k + 1) (i + 1) seeds counts left (omega arith) (subst (λ (j : ℕ). Ascends (j + 1) end seeds) same up.1) (omega arith) long few (omega arith))
    (λ above cs l f t. placed_is far room g end (k + 1) i (s ∷ seeds) cs left (omega arith) (omega arith, up.1) all l f (omega arith))
  where
    cases : (b : Bool) → (s == k) ≡ b → (s ≡ k → IsPlaced room g (i + 1) left counts (placed_from far room (k + 1) seeds (i + 1) counts left)) →
        (k + 1 ≤ s → (cs : List ℕ) → length cs ≡ g → ((a : ℕ) → a < g → get_or cs a 0 ≤ room) → total cs ≡ total counts + 1 → IsPlaced room g i left cs (placed_from far room (k + 1) (s ∷ seeds) i cs left)) →
        IsPlaced room g i (suc left) counts (if b then seed_of i ∷ placed_from far room (k + 1) seeds (i + 1) counts left
        else member_of (chosen (nearest_from far room k 0 None counts)) ∷ placed_from far room (k + 1) (s ∷ seeds) i (counted (nearest_from far room k 0 None counts) counts) left)
    cases true e now later = seed_placed room g i left counts (placed_from far room (k + 1) seeds (i + 1) counts left) (omega arith) (now (grind (arith, nat_tests)))
    cases false e now later =
        let above : k + 1 ≤ s = let h = up.0 in grind (arith, nat_tests) in
        let is_point = ascends_fit (s + 1) end seeds up.1 in
        member_placed far room g k i left counts (λ cs. placed_from far room (k + 1) (s ∷ seeds) i cs left) long few (omega arith) (later above)

next_seed : (n g i : ℕ) → 0 < g → g ≤ n → i * n / g + 1 ≤ (i + 1) * n / g
next_seed n g i some big = le-div (i * n / g + 1) ((i + 1) * n) g some (let a = div-mul-le_self (i * n) g in up (i * n / g) (i * n) a)
  where
    up : (q m : ℕ) → q * g ≤ i * n → (q + 1) * g ≤ (i + 1) * n
    up q m a = omega arith

pub seeds_ascend : (n g i left k : ℕ) → 0 < g → g ≤ n → i + left ≡ g → k ≤ i * n / g → Ascends k n (seeds_from n g i left)
seeds_ascend n g i zero k some big sum low =
    let e : i * n / g ≡ n = ap (λ (x : ℕ). x * n / g) (let h : i ≡ g = omega arith in h) ∙ mul-div_cancel_left n some in omega arith
seeds_ascend n g i (suc left) k some big sum low = (low, seeds_ascend n g (i + 1) left (i * n / g + 1) some big (omega arith) (next_seed n g i some big))

pub length_seeds : (n g i left : ℕ) → length (seeds_from n g i left) ≡ left
length_seeds n g i zero = refl
length_seeds n g i (suc left) = ap suc (length_seeds n g (i + 1) left)

pub ones_long : (g : ℕ) → length {A = ℕ} (replicate g 1) ≡ g
ones_long zero = refl
ones_long (suc g) = ap suc (ones_long g)

pub ones_total : (g : ℕ) → total (replicate g 1) ≡ g
ones_total zero = refl
ones_total (suc g) = let ih = ones_total g in omega arith

pub ones_at : (g a : ℕ) → a < g → ◌≡◌ {A = ℕ} (get_or (replicate g 1) a 0) 1
ones_at zero a low = absurd (omega arith)
ones_at (suc g) zero low = refl
ones_at (suc g) (suc a) low = ones_at g a (omega arith)

cover : (g least : ℕ) → 0 < least → g ≤ g * least
cover g zero some = absurd (omega arith)
cover g (suc l) some = omega arith

pub groups_are_sized : (far : Far) (least room g n : ℕ) → 0 < least → least ≤ room → 0 < g → g * least ≤ n → n ≤ g * room → AreSized least room g n (grouped far least room g n)
groups_are_sized far least room g n some is_point groups enough spare =
    let ps : List Member = placed_from far room 0 (seeds_from n g 0 g) 0 (replicate g 1) n in
    let c = cover g least some in
    let ones = ones_total g in
    let seeds = length_seeds n g 0 g in
    let p : IsPlaced room g 0 n (replicate g 1) ps = placed_is far room g n 0 0 (seeds_from n g 0 g) (replicate g 1) n (omega arith) (seeds_ascend n g 0 g 0 groups (omega arith) (omega arith) (omega arith)) (omega arith) (ones_long g)
    (λ a low. let o = ones_at g a low in omega arith) (omega arith) in
    let holds : Holds room g n ps = record {
      long = p.long;
      low = p.low;
      few = λ a low. let h = p.few a low in let o = ones_at g a low in let t : ◌≡◌ {A = ℕ} (one_if (nat_le 0 a)) 1 = grind (arith, nat_tests) in omega arith;
      seeds = λ a. let h = p.seeds a in let t : ◌≡◌ {A = ℕ} (one_if (nat_le 0 a)) 1 = grind (arith, nat_tests) in omega arith;
    } in
    let f = filled_fills far least room g n 0 g ps some is_point enough holds (omega arith) (λ b low. absurd (omega arith)) in
    record { long = f.0.long; low = f.0.low; enough = f.1; few = f.0.few }
