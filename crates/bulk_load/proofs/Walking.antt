-- The walk over a small group's candidates, nearest first.
use Rattle.std.proofs.Common.{◌≡◌, ◌≢◌, ℕ, zero, suc, ◌+◌, ◌-◌, ◌<◌, ◌≤◌, inl, inr, Bool, true, false, List, [], ◌∷◌, refl, sym, ap, ◌∙◌, arith, length, get_or, subst, add-one, Option, Some, None}
use Rattle.std.specs.Prelude.{◌==◌, if◌then◌else◌, nat_lt, not, ◌&&◌, Contains, IfSome}
use Rattle.std.specs.List.{AllByRecursion}
use Rattle.std.specs.List.Sorted.{IsPermutation, IsSortedBy}
use Rattle.std.proofs.Math.ListN.{set}
use Rattle.std.proofs.lemmas.Bool.Decides.{nat_tests}
use Rattle.std.proofs.lemmas.List.{get_or-set_other, get_or-set_same}
use Rattle.std.proofs.lemmas.List.Sorted.{Contains-permutation, All-permutation}
use Rattle.std.proofs.lemmas.List.Elements.{All-from_recursion, recursion_from_All}
use Rattle.metric_laws.specs.Lists.{IsIn}
use Rattle.metric_laws.proofs.Published.{all_weaker, all_in}
use Rattle.tree_growth.specs.declared.rules.Member.{Member}
use Rattle.tree_growth.specs.Groups.{Far, nearer, member_of, in_group, is_candidate, candidate_from, moved_to, received}
use Rattle.tree_growth.proofs.Published.{one_if, in_group-set, length_set}
use Rattle.bulk_load.specs.Candidates.{candidates_from, is_nearer, NotAfter}
use Rattle.bulk_load.proofs.Received.{more_than}

-- what stands past the end of a list
abbrev pub nobody : Member
nobody = member_of 0

-- membership by place and by recursion
in-contains : {X : Type 0} (xs : List X) (x : X) → IsIn x xs → Contains xs x
in-contains [] x h = absurd h
in-contains (y ∷ ys) x h = elim h [
  | inl e ↦ (0, (let l : 0 < length (y ∷ ys) = omega arith in l), sym e)
  | inr w ↦ (let deep = in-contains ys x w in (suc deep.0, (let l : suc deep.0 < length (y ∷ ys) = omega (arith, deep.1) in l), deep.2))
]

contains-in : {X : Type 0} (xs : List X) (k : ℕ) (x : X) → k < length xs → get_or xs k x ≡ x → IsIn x xs
contains-in [] k x low is = absurd (omega arith)
contains-in (y ∷ ys) zero x low is = inl (sym is)
contains-in (y ∷ ys) (suc k) x low is = inr (contains-in ys k x (omega arith) is)

not_after-trans : (x y z : ℕ × ℕ) → NotAfter x y → NotAfter y z → NotAfter x z
not_after-trans x y z p q =
    let a = p.near in
    let b = q.near in
    record { near = omega arith; low = λ h. let c = p.low (omega arith) in let d = q.low (omega arith) in omega arith }

not_nearer : (x y : ℕ × ℕ) → is_nearer y x ≡ false → NotAfter x y
not_nearer x y e = record { near = grind (arith, nat_tests); low = λ h. grind (arith, nat_tests) }

-- each comes no later than those after it
abbrev pub Rises : List (ℕ × ℕ) → Type 0
Rises [] = Unit {0}
Rises (x ∷ xs) = AllByRecursion (NotAfter x) xs × Rises xs

rises : (xs : List (ℕ × ℕ)) → IsSortedBy is_nearer xs → Rises xs
rises [] up = tt
rises (x ∷ []) up = (tt, tt)
rises (x ∷ y ∷ ys) up =
    let rest = rises (y ∷ ys) (λ k d low high. let h = up (suc k) d (omega arith) (omega arith) in later k d h) in
    let first : NotAfter x y = not_nearer x y (up 0 x (omega arith) (omega arith)) in
    ((first, all_weaker (NotAfter y) (NotAfter x) ys (λ z h. not_after-trans x y z first h) rest.0), rest)
  where
    later : (k : ℕ) (d : ℕ × ℕ) → is_nearer (get_or (x ∷ y ∷ ys) (suc k + 1) d) (get_or (x ∷ y ∷ ys) (suc k) d) ≡ false →
        is_nearer (get_or (y ∷ ys) (k + 1) d) (get_or (y ∷ ys) k d) ≡ false
    later k d h = rw add-one (rw add-one at h)

-- the nearest candidate, found by a pass over all objects
module _ (far : Far) (least a : ℕ) (all : List Member) where
  stays : (k : ℕ) (b : ℕ × ℕ) (ps : List Member) → ((j q : ℕ) → q ≡ k + j → j < length ps → is_candidate least all (get_or ps j nobody) ≡ true → b.0 ≤ far q a) →
      candidate_from far least a all k (Some b) ps ≡ Some b
  stays k b [] h = refl
  stays k b (p ∷ ps) h = cases (is_candidate least all p) refl (stays (k + 1) b ps (λ j q is low may. h (suc j) q (omega arith) (omega arith) may))
    where
      kept : (t : Bool) → nat_lt (far k a) b.0 ≡ t → b.0 ≤ far k a → (if t then Some (far k a, k) else Some b) ≡ Some b
      kept true e le = absurd (let l : far k a < b.0 = grind (arith, nat_tests) in omega arith)
      kept false e le = refl

      cases : (c : Bool) → is_candidate least all p ≡ c → candidate_from far least a all (k + 1) (Some b) ps ≡ Some b →
          candidate_from far least a all (k + 1) (nearer (is_candidate least all p) (far k a) k (Some b)) ps ≡ Some b
      cases false e ih = rw e ih
      cases true e ih =
          ap (λ (c : Bool). candidate_from far least a all (k + 1) (nearer c (far k a) k (Some b)) ps) e
          ∙ ap (λ (o : Option (ℕ × ℕ)). candidate_from far least a all (k + 1) o ps) (kept (nat_lt (far k a) b.0) refl (h 0 k (omega arith) (omega arith) e)) ∙ ih

  found : (m k : ℕ) (best : Option (ℕ × ℕ)) (ps : List Member) (b : ℕ × ℕ) → m < length ps → b.1 ≡ k + m → b.0 ≡ far b.1 a → is_candidate least all (get_or ps m nobody) ≡ true →
      IfSome best (λ c. b.0 < c.0) → ((j q : ℕ) → q ≡ k + j → j < length ps → is_candidate least all (get_or ps j nobody) ≡ true → NotAfter b (far q a, q)) →
      candidate_from far least a all k best ps ≡ Some b
  found m k best [] b low at is may further h = absurd (omega arith)
  found zero k best (p ∷ ps) b low at is may further h =
      ap (λ (o : Option (ℕ × ℕ)). candidate_from far least a all (k + 1) o ps) (taken best further)
      ∙ stays (k + 1) b ps (λ j q e l c. (h (suc j) q (omega arith) (omega arith) c).near)
    where
      here : b.1 ≡ k
      here = omega arith

      pair : (far k a, k) ≡ b
      pair = ap (λ (i : ℕ). (far i a, i)) (sym here) ∙ ap (λ (d : ℕ). (d, b.1)) (sym is)

      near : far k a ≡ b.0
      near = ap (λ (c : ℕ × ℕ). c.0) pair

      closer : (c : ℕ × ℕ) (t : Bool) → nat_lt (far k a) c.0 ≡ t → b.0 < c.0 → (if t then Some (far k a, k) else Some c) ≡ Some b
      closer c true e l = ap Some pair
      closer c false e l = absurd (let f : c.0 ≤ far k a = grind (arith, nat_tests) in let n = near in omega arith)

      fresh : (o : Option (ℕ × ℕ)) → IfSome o (λ c. b.0 < c.0) → nearer true (far k a) k o ≡ Some b
      fresh None f = ap Some pair
      fresh (Some c) f = closer c (nat_lt (far k a) c.0) refl f

      taken : (o : Option (ℕ × ℕ)) → IfSome o (λ c. b.0 < c.0) → nearer (is_candidate least all p) (far k a) k o ≡ Some b
      taken o f = ap (λ (c : Bool). nearer c (far k a) k o) may ∙ fresh o f
  found (suc m) k best (p ∷ ps) b low at is may further h =
      found m (k + 1) (nearer (is_candidate least all p) (far k a) k best) ps b (omega arith) (omega arith) is may
      (beyond (is_candidate least all p) refl best further) (λ j q e l c. h (suc j) q (omega arith) (omega arith) c)
    where
      past : is_candidate least all p ≡ true → b.0 < far k a
      past c = let n = h 0 k (omega arith) (omega arith) c in let near = n.near in strict (nat_lt b.0 (far k a)) refl n
        where
          strict : (t : Bool) → nat_lt b.0 (far k a) ≡ t → NotAfter b (far k a, k) → b.0 < far k a
          strict true e n = grind (arith, nat_tests)
          strict false e n = absurd (let f : far k a ≤ b.0 = grind (arith, nat_tests) in let l = n.low f in omega arith)

      replaced : (c : ℕ × ℕ) (t : Bool) → b.0 < far k a → b.0 < c.0 → IfSome (if t then Some (far k a, k) else Some c) (λ c. b.0 < c.0)
      replaced c true l f = l
      replaced c false l f = f

      beyond : (c : Bool) → is_candidate least all p ≡ c → (o : Option (ℕ × ℕ)) → IfSome o (λ c. b.0 < c.0) → IfSome (nearer c (far k a) k o) (λ c. b.0 < c.0)
      beyond false e o f = f
      beyond true e None f = past e
      beyond true e (Some c) f = replaced c (nat_lt (far k a) c.0) (past e) f

  none_found : (k : ℕ) (ps : List Member) → ((j : ℕ) → j < length ps → is_candidate least all (get_or ps j nobody) ≡ false) → candidate_from far least a all k None ps ≡ None
  none_found k [] none = refl
  none_found k (p ∷ ps) none =
      ap (λ (c : Bool). candidate_from far least a all (k + 1) (nearer c (far k a) k None) ps) (none 0 (omega arith))
      ∙ none_found (k + 1) ps (λ j low. none (suc j) (omega arith))

  -- the candidates are listed
  listed_places : (n k : ℕ) (ps : List Member) → k + length ps ≡ n → AllByRecursion (λ (b : ℕ × ℕ). (b.1 < n) × (b.0 ≡ far b.1 a)) (candidates_from far least a all k ps)
  listed_places n k [] long = tt
  listed_places n k (p ∷ ps) long = cases (is_candidate least all p) (listed_places n (k + 1) ps (omega arith))
    where
      cases : (c : Bool) → AllByRecursion (λ (b : ℕ × ℕ). (b.1 < n) × (b.0 ≡ far b.1 a)) (candidates_from far least a all (k + 1) ps) →
          AllByRecursion (λ (b : ℕ × ℕ). (b.1 < n) × (b.0 ≡ far b.1 a)) (if c then (far k a, k) ∷ candidates_from far least a all (k + 1) ps else candidates_from far least a all (k + 1) ps)
      cases true rest = (((omega arith), refl), rest)
      cases false rest = rest

  listed : (k : ℕ) (ps : List Member) (j q : ℕ) → q ≡ k + j → j < length ps → is_candidate least all (get_or ps j nobody) ≡ true → IsIn (far q a, q) (candidates_from far least a all k ps)
  listed k [] j q is low may = absurd (omega arith)
  listed k (p ∷ ps) zero q is low may =
      subst (λ (c : Bool). IsIn (far q a, q) (if c then (far k a, k) ∷ candidates_from far least a all (k + 1) ps else candidates_from far least a all (k + 1) ps)) (sym may)
      (inl (ap (λ (i : ℕ). (far i a, i)) (let e : q ≡ k = omega arith in e)))
  listed k (p ∷ ps) (suc j) q is low may = cases (is_candidate least all p) (listed (k + 1) ps j q (omega arith) (omega arith) may)
    where
      cases : (c : Bool) → IsIn (far q a, q) (candidates_from far least a all (k + 1) ps) →
          IsIn (far q a, q) (if c then (far k a, k) ∷ candidates_from far least a all (k + 1) ps else candidates_from far least a all (k + 1) ps)
      cases true rest = inr rest
      cases false rest = rest

-- nobody is left who may be received
none_received : (far : Far) (least a n : ℕ) (ps : List Member) → ((j : ℕ) → j < length ps → is_candidate least ps (get_or ps j nobody) ≡ false) → received far least a n ps ≡ ps
none_received far least a zero ps none = refl
none_received far least a (suc n) ps none =
    ap (λ (o : Option (ℕ × ℕ)). received far least a n (moved_to a o ps)) (none_found far least a ps 0 ps none) ∙ none_received far least a n ps none

one_received : (far : Far) (least a need next : ℕ) (ps : List Member) (b : ℕ × ℕ) → need ≡ suc next → candidate_from far least a ps 0 None ps ≡ Some b →
    received far least a need ps ≡ received far least a next (set ps b.1 (member_of a))
one_received far least a need next ps b e found =
    ap (λ (k : ℕ). received far least a k ps) e ∙ ap (λ (o : Option (ℕ × ℕ)). received far least a next (moved_to a o ps)) found

-- where the walk over the sorted candidates stands: `rest` of them are left, and `first` were the members at its begin
pub record Walk (far : Far) (least a : ℕ) (first ps : List Member) (rest : List (ℕ × ℕ)) : Type 0 where
  pub few : in_group a ps ≤ least
  pub same : received far least a (least - in_group a ps) ps ≡ received far least a (least - in_group a first) first
  pub places : AllByRecursion (λ (b : ℕ × ℕ). (b.1 < length ps) × (b.0 ≡ far b.1 a)) rest
  pub rise : Rises rest
  pub each : (k : ℕ) → k < length ps → is_candidate least ps (get_or ps k nobody) ≡ true → IsIn (far k a, k) rest

pub walk_begins : (far : Far) (least a : ℕ) (ps : List Member) (near : List (ℕ × ℕ)) → in_group a ps ≤ least → IsPermutation (candidates_from far least a ps 0 ps) near → IsSortedBy is_nearer near →
    Walk far least a ps ps near
walk_begins far least a ps near few moved sorted = record {
  few = few;
  same = refl;
  places =
      recursion_from_All (λ (b : ℕ × ℕ). (b.1 < length ps) × (b.0 ≡ far b.1 a)) near
      (All-permutation (λ (b : ℕ × ℕ). (b.1 < length ps) × (b.0 ≡ far b.1 a)) (candidates_from far least a ps 0 ps) near moved
      (All-from_recursion (λ (b : ℕ × ℕ). (b.1 < length ps) × (b.0 ≡ far b.1 a)) (candidates_from far least a ps 0 ps) (listed_places far least a ps (length ps) 0 ps (omega arith))));
  rise = rises near sorted;
  each = λ k low may.
      let c = Contains-permutation (candidates_from far least a ps 0 ps) near (far k a, k) moved (in-contains (candidates_from far least a ps 0 ps) (far k a, k) (listed far least a ps 0 ps k k (omega arith) low may)) in
      contains-in near c.0 (far k a, k) c.1 c.2;
}

-- the group is full
pub walk_full : (far : Far) (least a : ℕ) (first ps : List Member) (rest : List (ℕ × ℕ)) → Walk far least a first ps rest → least ≤ in_group a ps → ps ≡ received far least a (least - in_group a first) first
walk_full far least a first ps rest w full = ap (λ (k : ℕ). received far least a k ps) (let e : 0 ≡ least - in_group a ps = omega arith in e) ∙ w.same

-- nobody is left
pub walk_ends : (far : Far) (least a : ℕ) (first ps : List Member) → Walk far least a first ps [] → ps ≡ received far least a (least - in_group a first) first
walk_ends far least a first ps w = sym (none_received far least a (least - in_group a ps) ps (λ j low. none j low (is_candidate least ps (get_or ps j nobody)) refl)) ∙ w.same
  where
    none : (j : ℕ) → j < length ps → (c : Bool) → is_candidate least ps (get_or ps j nobody) ≡ c → c ≡ false
    none j low true e = absurd (w.each j low e)
    none j low false e = refl

-- the next one is no candidate any more
walk_passes : (far : Far) (least a : ℕ) (first ps : List Member) (b : ℕ × ℕ) (rest : List (ℕ × ℕ)) → Walk far least a first ps (b ∷ rest) → is_candidate least ps (get_or ps b.1 nobody) ≡ false → Walk far least a first ps rest
walk_passes far least a first ps b rest w passed = record {
  few = w.few;
  same = w.same;
  places = w.places.1;
  rise = w.rise.1;
  each = λ k low may. elim (w.each k low may) [
    | inl e ↦ absurd (let at : k ≡ b.1 = ap (λ (c : ℕ × ℕ). c.1) e in let h : is_candidate least ps (get_or ps b.1 nobody) ≡ true = subst (λ (i : ℕ). is_candidate least ps (get_or ps i nobody) ≡ true) at may in cc)
    | inr i ↦ i
  ];
}

-- the next one is received
walk_moves : (far : Far) (least a : ℕ) (first ps : List Member) (b : ℕ × ℕ) (rest : List (ℕ × ℕ)) → Walk far least a first ps (b ∷ rest) → in_group a ps < least → is_candidate least ps (get_or ps b.1 nobody) ≡ true →
    Walk far least a first (set ps b.1 (member_of a)) rest
walk_moves far least a first ps b rest w short may = record {
  few = let n = grown in omega arith;
  same = sym (one_received far least a (least - in_group a ps) (least - in_group a new) ps b (let n = grown in omega arith) is_first) ∙ w.same;
  places = all_weaker (λ (c : ℕ × ℕ). (c.1 < length ps) × (c.0 ≡ far c.1 a)) (λ (c : ℕ × ℕ). (c.1 < length new) × (c.0 ≡ far c.1 a)) rest (λ c h. ((let l = h.0 in let n = long in omega arith), h.1)) w.places.1;
  rise = w.rise.1;
  each = λ k low c. left k (let l : k < length ps = let n = long in omega arith in l) c (k == b.1) refl;
}
  where
    new : List Member
    new = set ps b.1 (member_of a)

    inside : b.1 < length ps
    inside = w.places.0.0

    long : length new ≡ length ps
    long = length_set b.1 ps (member_of a)

    grown : in_group a new ≡ in_group a ps + 1
    grown = cases ((get_or ps b.1 nobody).group == a) refl (in_group-set a b.1 ps (member_of a) nobody inside) (more_than least ps (get_or ps b.1 nobody) may)
      where
        cases : (t : Bool) → ((get_or ps b.1 nobody).group == a) ≡ t → in_group a new + one_if ((get_or ps b.1 nobody).group == a) ≡ in_group a ps + one_if (a == a) →
            least < in_group (get_or ps b.1 nobody).group ps → in_group a new ≡ in_group a ps + 1
        cases true e h m = absurd (let g : (get_or ps b.1 nobody).group ≡ a = grind (arith, nat_tests) in let l : least < in_group a ps = subst (λ (i : ℕ). least < in_group i ps) g m in omega arith)
        cases false e h m = let o : ◌≡◌ {A = ℕ} (one_if (a == a)) 1 = grind (arith, nat_tests) in let z : ◌≡◌ {A = ℕ} (one_if ((get_or ps b.1 nobody).group == a)) 0 = ap one_if e in omega arith

    is_first : candidate_from far least a ps 0 None ps ≡ Some b
    is_first =
        found far least a ps b.1 0 None ps b inside (omega arith) w.places.0.1 may tt
        (λ j q is low c. subst (λ (i : ℕ). NotAfter b (far i a, i)) (let e : j ≡ q = omega arith in e) (elim (w.each j low c) [
          | inl e ↦ subst (NotAfter b) (sym e) (record { near = omega arith; low = λ h. omega arith })
          | inr i ↦ all_in (NotAfter b) rest (far j a, j) w.rise.0 i
        ]))

    -- every candidate of now was a candidate before
    was : (p : Member) → is_candidate least new p ≡ true → is_candidate least ps p ≡ true
    was p c = cases (p.group == a) refl (in_group-set p.group b.1 ps (member_of a) nobody inside) (more_than least new p c)
      where
        keeps : (s : Bool) (t u : Bool) → (not s && t) ≡ true → u ≡ true → (not s && u) ≡ true
        keeps false t u h e = e
        keeps true t u h e = h

        cases : (t : Bool) → (p.group == a) ≡ t → in_group p.group new + one_if ((get_or ps b.1 nobody).group == p.group) ≡ in_group p.group ps + one_if (a == p.group) →
            least < in_group p.group new → is_candidate least ps p ≡ true
        cases true e h m = absurd (let g : p.group ≡ a = grind (arith, nat_tests) in let l : least < in_group a new = subst (λ (i : ℕ). least < in_group i new) g m in let n = grown in omega arith)
        cases false e h m =
            let f : (a == p.group) ≡ false = grind (arith, nat_tests) in
            let z : ◌≡◌ {A = ℕ} (one_if (a == p.group)) 0 = ap one_if f in
            keeps p.is_seed (nat_lt least (in_group p.group new)) (nat_lt least (in_group p.group ps)) c (let l : least < in_group p.group ps = omega arith in grind (arith, nat_tests))

    left : (k : ℕ) → k < length ps → is_candidate least new (get_or new k nobody) ≡ true → (t : Bool) → (k == b.1) ≡ t → IsIn (far k a, k) rest
    left k low c true e =
        absurd (
        let at : b.1 ≡ k = grind (arith, nat_tests) in
        let is : get_or new k nobody ≡ member_of a = subst (λ (i : ℕ). get_or new i nobody ≡ member_of a) at (get_or-set_same ps b.1 (member_of a) nobody inside) in
        let h : least < in_group a new = subst (λ (p : Member). least < in_group p.group new) is (more_than least new (get_or new k nobody) c) in
        let n = grown in omega arith)
    left k low c false e =
        let other : k ≢ b.1 = grind (arith, nat_tests) in
        let is : get_or new k nobody ≡ get_or ps k nobody = get_or-set_other ps b.1 k (member_of a) nobody other in
        let h : is_candidate least ps (get_or ps k nobody) ≡ true = subst (λ (p : Member). is_candidate least ps p ≡ true) is (was (get_or new k nobody) c) in
        elim (w.each k low h) [
          | inl i ↦ absurd (let at : k ≡ b.1 = ap (λ (x : ℕ × ℕ). x.1) i in other at)
          | inr i ↦ i
        ]

-- one step of the walk
pub walk_step : (far : Far) (least a : ℕ) (first ps new : List Member) (b : ℕ × ℕ) (rest : List (ℕ × ℕ)) → Walk far least a first ps (b ∷ rest) → in_group a ps < least →
    new ≡ (if is_candidate least ps (get_or ps b.1 nobody) then set ps b.1 (member_of a) else ps) → Walk far least a first new rest
walk_step far least a first ps new b rest w short is = cases (is_candidate least ps (get_or ps b.1 nobody)) refl is
  where
    cases : (c : Bool) → is_candidate least ps (get_or ps b.1 nobody) ≡ c → new ≡ (if c then set ps b.1 (member_of a) else ps) → Walk far least a first new rest
    cases true e is = subst (λ (ms : List Member). Walk far least a first ms rest) (sym is) (walk_moves far least a first ps b rest w short e)
    cases false e is = subst (λ (ms : List Member). Walk far least a first ms rest) (sym is) (walk_passes far least a first ps b rest w e)
