-- A hint stays right while the groups grow.
use Rattle.std.proofs.Common.{◌≡◌, ℕ, zero, suc, ◌+◌, ◌-◌, ◌<◌, ◌≤◌, Bool, true, false, List, [], ◌∷◌, Option, Some, None, inl, inr, length, get_or, refl, sym, ap, ◌∙◌, arith, subst}
use Rattle.std.specs.Prelude.{if◌then◌else◌, nat_lt, IfSome, slice_get}
use Rattle.std.proofs.lemmas.Option.{slice_get_read}
use Rattle.std.proofs.lemmas.Bool.Decides.{nat_tests}
use Rattle.tree_growth.specs.Groups.{Far, nearer, nearest_from, counted, one_more}
use Rattle.tree_growth.proofs.Published.{nearest_some, length_more}
use Rattle.bulk_load.specs.Candidates.{NotAfter}
use Rattle.bulk_load.specs.Hints.{IsHint, AreHints, HaveGrown}

-- the group that was found comes no later than x
abbrev Found : Option (ℕ × ℕ) → ℕ × ℕ → Type 0
Found o x = (w : ℕ × ℕ) × (o ≡ Some w) × NotAfter w x

module _ (far : Far) (room k : ℕ) where
  -- the nearest comes no later than the best so far
  kept : (a : ℕ) (b x : ℕ × ℕ) (counts : List ℕ) → NotAfter b x → Found (nearest_from far room k a (Some b) counts) x
  kept a b x [] h = (b, refl, h)
  kept a b x (c ∷ counts) h = cases (nat_lt c room) (nat_lt (far k a) b.0) refl (λ best before. kept (a + 1) best x counts before)
    where
      cases : (may near : Bool) → nat_lt (far k a) b.0 ≡ near → ((best : ℕ × ℕ) → NotAfter best x → Found (nearest_from far room k (a + 1) (Some best) counts) x) →
          Found (nearest_from far room k (a + 1) (nearer may (far k a) a (Some b)) counts) x
      cases false near e rest = rest b h
      cases true true e rest =
          let less : far k a < b.0 = grind (arith, nat_tests) in
          let n = h.near in rw e (rest (far k a, a) (record { near = omega (arith, less, n); low = λ high. absurd (omega (arith, less, n, high)) }))
      cases true false e rest = rw e (rest b h)

  -- a group with room, as the best so far
  first : (a : ℕ) (best : Option (ℕ × ℕ)) (counts : List ℕ) → IfSome best (λ b. b.1 < a) → Found (nearest_from far room k (a + 1) (nearer true (far k a) a best) counts) (far k a, a)
  first a None counts below = kept (a + 1) (far k a, a) (far k a, a) counts (record { near = omega arith; low = λ high. omega arith })
  first a (Some b) counts below = cases (nat_lt (far k a) b.0) refl
    where
      cases : (near : Bool) → nat_lt (far k a) b.0 ≡ near → Found (nearest_from far room k (a + 1) (nearer true (far k a) a (Some b)) counts) (far k a, a)
      cases true e = rw e (kept (a + 1) (far k a, a) (far k a, a) counts (record { near = omega arith; low = λ high. omega arith }))
      cases false e =
          let least : b.0 ≤ far k a = grind (arith, nat_tests) in
          rw e (kept (a + 1) b (far k a, a) counts (record { near = least; low = λ high. omega (arith, below) }))

  best_below : (may : Bool) (a : ℕ) (best : Option (ℕ × ℕ)) → IfSome best (λ b. b.1 < a) → IfSome (nearer may (far k a) a best) (λ b. b.1 < a + 1)
  best_below false a None below = tt
  best_below false a (Some b) below = omega (arith, below)
  best_below true a None below = omega arith
  best_below true a (Some b) below = cases (nat_lt (far k a) b.0)
    where
      cases : (near : Bool) → IfSome (if near then Some (far k a, a) else Some b) (λ x. x.1 < a + 1)
      cases true = omega arith
      cases false = omega (arith, below)

  -- the nearest comes no later than any group with room
  found : (a : ℕ) (best : Option (ℕ × ℕ)) (counts : List ℕ) (i : ℕ) → IfSome best (λ b. b.1 < a) → i < length counts → get_or counts i 0 < room →
      Found (nearest_from far room k a best counts) (far k (a + i), a + i)
  found a best [] i below inside free = absurd (omega arith)
  found a best (c ∷ counts) zero below inside free =
      let may : nat_lt c room ≡ true = grind (arith, nat_tests) in
      rw may (subst (λ (j : ℕ). Found (nearest_from far room k (a + 1) (nearer true (far k a) a best) counts) (far k j, j)) (let e : a ≡ a + zero = omega arith in e) (first a best counts below))
  found a best (c ∷ counts) (suc i) below inside free =
      subst (λ (j : ℕ). Found (nearest_from far room k (a + 1) (nearer (nat_lt c room) (far k a) a best) counts) (far k j, j)) (let e : a + 1 + i ≡ a + suc i = omega arith in e)
      (found (a + 1) (nearer (nat_lt c room) (far k a) a best) counts i (best_below (nat_lt c room) a best below) (omega arith) free)

  -- its distance is its own
  own : (a : ℕ) (best : Option (ℕ × ℕ)) (counts : List ℕ) (w : ℕ × ℕ) → IfSome best (λ b. b.0 ≡ far k b.1) → nearest_from far room k a best counts ≡ Some w → w.0 ≡ far k w.1
  own a best [] w is e = subst (λ (o : Option (ℕ × ℕ)). IfSome o (λ b. b.0 ≡ far k b.1)) e is
  own a best (c ∷ counts) w is e = own (a + 1) (nearer (nat_lt c room) (far k a) a best) counts w (more (nat_lt c room) best is) e
    where
      more : (may : Bool) (best : Option (ℕ × ℕ)) → IfSome best (λ b. b.0 ≡ far k b.1) → IfSome (nearer may (far k a) a best) (λ b. b.0 ≡ far k b.1)
      more false None is = tt
      more false (Some b) is = is
      more true None is = refl
      more true (Some b) is = cases (nat_lt (far k a) b.0)
        where
          cases : (near : Bool) → IfSome (if near then Some (far k a, a) else Some b) (λ x. x.0 ≡ far k x.1)
          cases true = refl
          cases false = is

  -- the nearest group is a hint
  pub hint_of : (counts : List ℕ) (b : ℕ × ℕ) → nearest_from far room k 0 None counts ≡ Some b → IsHint far room k counts b.1
  hint_of counts b e = record {
    first = λ other inside free.
        let f = found 0 None counts other tt inside free in
        let same : b ≡ f.0 = let h : Some b ≡ Some f.0 = sym e ∙ f.1 in cc in
        let here : b ≡ (far k b.1, b.1) = ap (λ (x : ℕ). (x, b.1)) (own 0 None counts b tt e) in
        subst (λ (x : ℕ × ℕ). NotAfter x (far k other, other)) here (subst (λ (x : ℕ × ℕ). NotAfter x (far k other, other)) (sym same)
        (subst (λ (j : ℕ). NotAfter f.0 (far k j, j)) (let z : 0 + other ≡ other = omega arith in z) f.2));
  }

  -- a hint whose group has room is the nearest group
  pub hint_is : (counts : List ℕ) (group : ℕ) → IsHint far room k counts group → group < length counts → get_or counts group 0 < room → nearest_from far room k 0 None counts ≡ Some (far k group, group)
  hint_is counts group hint inside free =
      let f : Found (nearest_from far room k 0 None counts) (far k group, group) =
      subst (λ (j : ℕ). Found (nearest_from far room k 0 None counts) (far k j, j)) (let z : 0 + group ≡ group = omega arith in z) (found 0 None counts group tt inside free) in
      let mine = own 0 None counts f.0 tt f.1 in
      elim (nearest_some far room k 0 None counts f.0 f.1) [
        | inl none ↦ absurd (let e : None ≡ Some f.0 = none in cc)
        | inr w ↦
            (let at : f.0.1 ≡ w.place = let h = w.is in omega (arith, h) in
            let before = hint.first f.0.1 (subst (λ (j : ℕ). j < length counts) (sym at) w.inside) (subst (λ (j : ℕ). get_or counts j 0 < room) (sym at) w.free) in
            let near = before.near in
            let n = f.2.near in
            let low : f.0.1 ≤ group = let l = f.2.low (omega (arith, mine, near)) in omega (arith, l) in
            let high : group ≤ f.0.1 = before.low (omega (arith, mine, n)) in
            let same : f.0.1 ≡ group = omega (arith, low, high) in
            f.1 ∙ ap (λ (x : ℕ × ℕ). Some x) (ap (λ (x : ℕ). (x, f.0.1)) mine ∙ ap (λ (j : ℕ). (far k j, j)) same))
      ]

-- like `hint_is`, for an object that may have no hint
pub hinted : (far : Far) (room k : ℕ) (counts : List ℕ) (hint : Option ℕ) (group : ℕ) → IfSome hint (IsHint far room k counts) → hint ≡ Some group → group < length counts → get_or counts group 0 < room →
    nearest_from far room k 0 None counts ≡ Some (far k group, group)
hinted far room k counts hint group may is inside free = hint_is far room k counts group (subst (λ (o : Option ℕ). IfSome o (IsHint far room k counts)) is may) inside free

-- what a hint says stays so
pub hint_grows : (far : Far) (room k group : ℕ) (counts now : List ℕ) → IsHint far room k counts group → HaveGrown counts now → IsHint far room k now group
hint_grows far room k group counts now hint grown = record {
  first = λ other inside free. let g = grown.grown other in let s = grown.same in hint.first other (omega (arith, s, inside)) (omega (arith, g, free));
}

pub hints_grow : (far : Far) (room first : ℕ) (counts now : List ℕ) (hints : List (Option ℕ)) → AreHints far room first counts hints → HaveGrown counts now → AreHints far room first now hints
hints_grow far room first counts now hints are grown = record { each = λ i group is. hint_grows far room (first + i) group counts now (are.each i group is) grown }

pub not_grown : (counts : List ℕ) → HaveGrown counts counts
not_grown counts = record { same = refl; grown = λ group. omega arith }

-- a choice makes one group larger
pub choice_grows : (best : Option (ℕ × ℕ)) (counts : List ℕ) → HaveGrown counts (counted best counts)
choice_grows None counts = not_grown counts
choice_grows (Some b) counts = record { same = length_more b.1 counts; grown = λ group. more b.1 counts group }
  where
    more : (a : ℕ) (cs : List ℕ) (group : ℕ) → get_or cs group 0 ≤ get_or (one_more a cs) group 0
    more a [] group = omega arith
    more zero (c ∷ cs) zero = omega arith
    more zero (c ∷ cs) (suc group) = omega arith
    more (suc a) (c ∷ cs) zero = omega arith
    more (suc a) (c ∷ cs) (suc group) = more a cs group

-- what is read of a block's hints
pub hint_at : (far : Far) (room first place : ℕ) (counts : List ℕ) (hints : List (Option ℕ)) (hint : Option ℕ) → AreHints far room first counts hints → first ≤ place → place - first < length hints →
    hint ≡ get_or hints (place - first) hint → IfSome hint (IsHint far room place counts)
hint_at far room first place counts hints None are low inside e = tt
hint_at far room first place counts hints (Some group) are low inside e =
    subst (λ (k : ℕ). IsHint far room k counts group) (let same : first + (place - first) ≡ place = omega (arith, low) in same)
    (are.each (place - first) group (slice_get_read hints (length hints) (place - first) (Some group) refl inside e))

-- hints that were found one by one
pub hints_are : (far : Far) (room first : ℕ) (counts : List ℕ) (hints : List (Option ℕ)) → ((i : ℕ) (hint : Option ℕ) → slice_get hints i ≡ Some hint → IfSome hint (IsHint far room (first + i) counts)) → AreHints far room first counts hints
hints_are far room first counts hints each = record { each = λ i group is. each i (Some group) is }
