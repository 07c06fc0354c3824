-- The entries of an opened node, one after the other.
use Rattle.std.proofs.Common.{◌≡◌, ◌≢◌, ℕ, zero, suc, ◌+◌, ◌<◌, ◌≤◌, Bool, true, false, Option, Some, List, [], ◌∷◌, ◌++◌, map, drop, get_or, length, length-append, refl, sym, ap, ◌∙◌, append_assoc, drop-cons, arith, subst}
use Rattle.std.specs.Prelude.{◌-◌, replicate, if◌then◌else◌}
use Rattle.std.proofs.lemmas.List.{drop-drop, get_or-drop, length-drop, length-replicate}
use Rattle.metric_laws.specs.Space.{Space}
use Rattle.log_model.specs.declared.marks.Mark.{Mark}
use Rattle.log_model.specs.declared.marks.Mark.TheVariants.{Skip, Far, Near}
use Rattle.log_model.specs.declared.pairs.JoinNeed.{JoinNeed}
use Rattle.metric_laws.specs.Counts.{count_up}
use Rattle.log_model.specs.Counts.{measured_by}
use Rattle.log_model.specs.Walk.{near_ones}
use Rattle.log_model.specs.JoinWalk.{JoinSearch, Entry, opens_right, other, apart_of, centre_of, radius_of, far_apart, far_stored, with_entry, join_skips, least_for_entry}
use Rattle.log_model.specs.JoinSteps.{apart_from, paired, hits_among, needs_among}
use Rattle.log_model.proofs.Published.{paired_same, hits_append, needs_append, count_up_both}
use Rattle.metric_join.specs.declared.opening.Opening.{Opening}
use Rattle.metric_join.specs.Steps.{least_at, measured_at, marks_for, pairs_for, TakesEntries, CountsMarks}

-- an entry is as far from the other item as its point is
apart_same : (s : Space) (n : JoinNeed) (e : Entry) (point : List ℕ) → centre_of e.item ≡ Some point → (with_entry s n e).apart ≡ apart_from s n point
apart_same s n e point is = cases (opens_right n)
  where
    right : JoinNeed
    right = record { left = n.left; right = e.item; apart = apart_of s (centre_of n.left) (centre_of e.item) }

    left : JoinNeed
    left = record { left = e.item; right = n.right; apart = apart_of s (centre_of e.item) (centre_of n.right) }

    cases : (b : Bool) → (if b then right else left).apart ≡ (if b then apart_of s (centre_of n.left) (Some point) else apart_of s (Some point) (centre_of n.right))
    cases true = ap (apart_of s (centre_of n.left)) is
    cases false = ap (λ (c : Option _). apart_of s c (centre_of n.right)) is

-- so its least mark is the one at its point
least_same : (j : JoinSearch) (n : JoinNeed) (e : Entry) (point : List ℕ) → centre_of e.item ≡ Some point → least_for_entry j n e ≡ least_at j n point e.stored (radius_of e.item)
least_same j n e point is = rw (apart_same j.space n e point is) refl

-- the least mark of an entry that is not skipped is the one by its distance
pub least_unskipped : (j : JoinSearch) (n : JoinNeed) (point : List ℕ) (stored radius : ℕ) (mark : Mark) → far_stored n.apart stored j.rho (radius + radius_of (other n)) ≡ false →
    mark ≡ measured_at j n point radius → mark ≡ least_at j n point stored radius
least_unskipped j n point stored radius mark not is = is ∙ sym (ap (λ (b : Bool). if b then Skip else measured_at j n point radius) not)

-- and it costs one distance
pub measured_one : (j : JoinSearch) (n : JoinNeed) (point : List ℕ) (radius : ℕ) (mark : Mark) → mark ≡ measured_at j n point radius → measured_by (mark ∷ []) ≡ 1
measured_one j n point radius mark is = ap (λ (m : Mark). measured_by (m ∷ [])) is ∙ cases (far_apart (apart_from j.space n point) j.rho radius (radius_of (other n)))
  where
    cases : (b : Bool) → measured_by ((if b then Far else Near) ∷ []) ≡ 1
    cases true = refl
    cases false = refl

module _ (j : JoinSearch) (n : JoinNeed) (e : Entry) (point : List ℕ) (centre : centre_of e.item ≡ Some point) (mark : Mark) (least : mark ≡ least_at j n point e.stored (radius_of e.item)) (old new : Opening)
    (marked : new.marks.items ≡ old.marks.items ++ mark ∷ []) where
  is_least : mark ≡ least_for_entry j n e
  is_least = least ∙ sym (least_same j n e point centre)

  -- an entry that is ruled out leaves no pair
  pub takes_none : mark ≢ Near → new.matches.hits ≡ old.matches.hits → new.matches.needs ≡ old.matches.needs → TakesEntries j n (e ∷ []) old new
  takes_none far hits needs = record {
    marks = marked ∙ ap (λ (m : Mark). old.marks.items ++ m ∷ []) is_least;
    hits = rw (← is_least, none mark far) (ap (λ v. v.items) hits ∙ nothing old.matches.hits.items);
    needs = rw (← is_least, none mark far) (ap (λ v. v.items) needs ∙ nothing old.matches.needs.items);
  }
    where
      none : (m : Mark) → m ≢ Near → near_ones (e ∷ []) (m ∷ []) ≡ []
      none Skip differs = refl
      none Far differs = refl
      none Near differs = absurd (differs refl)

      nothing : {X : Type 0} (l : List X) → l ≡ l ++ []
      nothing [] = refl
      nothing (x ∷ xs) = ap (λ (ys : List _). x ∷ ys) (nothing xs)

  -- an entry that is marked Near leaves its pair
  pub takes_pair : mark ≡ Near → (pair : JoinNeed) (apart : Option ℕ) → apart ≡ apart_from j.space n point → pair ≡ paired n e.item apart →
      new.matches.hits.items ≡ old.matches.hits.items ++ hits_among (pair ∷ []) → new.matches.needs.items ≡ old.matches.needs.items ++ needs_among (pair ∷ []) → TakesEntries j n (e ∷ []) old new
  takes_pair near pair apart far is hits needs =
      let same : pair ≡ with_entry j.space n e = is ∙ ap (paired n e.item) (far ∙ sym (apart_same j.space n e point centre)) ∙ paired_same j.space n e in
      record {
        marks = marked ∙ ap (λ (m : Mark). old.marks.items ++ m ∷ []) is_least;
        hits = rw (← is_least, near) (hits ∙ ap (λ (p : JoinNeed). old.matches.hits.items ++ hits_among (p ∷ [])) same);
        needs = rw (← is_least, near) (needs ∙ ap (λ (p : JoinNeed). old.matches.needs.items ++ needs_among (p ∷ [])) same);
      }

-- entries one after the other
pairs_cons : (j : JoinSearch) (n : JoinNeed) (e : Entry) (es : List Entry) → pairs_for j n (e ∷ es) ≡ pairs_for j n (e ∷ []) ++ pairs_for j n es
pairs_cons j n e es = cases (least_for_entry j n e)
  where
    cases : (m : Mark) → map (with_entry j.space n) (near_ones (e ∷ es) (m ∷ marks_for j n es)) ≡ map (with_entry j.space n) (near_ones (e ∷ []) (m ∷ [])) ++ pairs_for j n es
    cases Skip = refl
    cases Far = refl
    cases Near = refl

hits_cons : (j : JoinSearch) (n : JoinNeed) (e : Entry) (es : List Entry) → hits_among (pairs_for j n (e ∷ es)) ≡ hits_among (pairs_for j n (e ∷ [])) ++ hits_among (pairs_for j n es)
hits_cons j n e es = ap hits_among (pairs_cons j n e es) ∙ hits_append (pairs_for j n (e ∷ [])) (pairs_for j n es)

needs_cons : (j : JoinSearch) (n : JoinNeed) (e : Entry) (es : List Entry) → needs_among (pairs_for j n (e ∷ es)) ≡ needs_among (pairs_for j n (e ∷ [])) ++ needs_among (pairs_for j n es)
needs_cons j n e es = ap needs_among (pairs_cons j n e es) ∙ needs_append (pairs_for j n (e ∷ [])) (pairs_for j n es)

onward : {X : Type 0} (a b c xs ys zs : List X) → b ≡ a ++ xs → c ≡ b ++ ys → zs ≡ xs ++ ys → c ≡ a ++ zs
onward a b c xs ys zs one two whole = two ∙ ap (λ (l : List _). l ++ ys) one ∙ append_assoc a xs ys ∙ ap (λ (l : List _). a ++ l) (sym whole)

takes_cons : (j : JoinSearch) (n : JoinNeed) (e : Entry) (es : List Entry) (a b c : Opening) → TakesEntries j n (e ∷ []) a b → TakesEntries j n es b c → TakesEntries j n (e ∷ es) a c
takes_cons j n e es a b c one rest = record {
  marks = onward _ _ _ _ _ _ one.marks rest.marks refl;
  hits = onward _ _ _ _ _ _ one.hits rest.hits (hits_cons j n e es);
  needs = onward _ _ _ _ _ _ one.needs rest.needs (needs_cons j n e es);
}

-- a loop that has taken the entries up to a place: what takes the others takes all
pub takes_next : {X : Type 0} (j h : JoinSearch) (n : JoinNeed) (entry : X → Entry) (es : List X) (i : ℕ) (e : X) (start old new : Opening) → h ≡ j → i < length es → e ≡ get_or es i e →
    TakesEntries h n (entry e ∷ []) old new →
    ((last : Opening) → TakesEntries j n (map entry (drop i es)) old last → TakesEntries j n (map entry es) start last) →
    (last : Opening) → TakesEntries j n (map entry (drop (i + 1) es)) new last → TakesEntries j n (map entry es) start last
takes_next j h n entry es i e start old new same low is one so_far last rest =
    so_far last
    (subst (λ (l : List _). TakesEntries j n (map entry l) old last) (sym drops)
    (takes_cons j n (entry e) (map entry (drop (i + 1) es)) old new last (subst (λ (k : JoinSearch). TakesEntries k n (entry e ∷ []) old new) same one) rest))
  where
    drops : drop i es ≡ e ∷ drop (i + 1) es
    drops = rw (drop-cons es i e low, ← is) (ap (λ (k : ℕ). e ∷ drop k es) (let k : suc i ≡ i + 1 = omega arith in k))

-- entries that stored distances rule out are marked Skip, and leave no pair
module _ {X : Type 0} (j : JoinSearch) (n : JoinNeed) (entry : X → Entry) where
  ruled_out : (e : Entry) → join_skips j.rho n e ≡ true → least_for_entry j n e ≡ Skip
  ruled_out e is = cases (join_skips j.rho n e) _ is
    where
      cases : (b : Bool) (m : Mark) → b ≡ true → (if b then Skip else m) ≡ Skip
      cases true m is = refl
      cases false m is = absurd (let no = is in cc)

  abbrev AreRuledOut : ℕ → List X → Type 0
  AreRuledOut k xs = (m : ℕ) (d : X) → m < k → join_skips j.rho n (entry (get_or xs m d)) ≡ true

  marks_run : (k : ℕ) (xs : List X) → k ≤ length xs → AreRuledOut k xs → marks_for j n (map entry xs) ≡ replicate k Skip ++ marks_for j n (map entry (drop k xs))
  marks_run zero xs few out = refl
  marks_run (suc k) [] few out = absurd (omega arith)
  marks_run (suc k) (x ∷ xs) few out =
      ap (λ (m : Mark). m ∷ marks_for j n (map entry xs)) (ruled_out (entry x) (out 0 x (omega arith)))
      ∙ ap (λ (ms : List Mark). Skip ∷ ms) (marks_run k xs (omega arith) (λ m d below. out (suc m) d (omega arith)))

  pairs_run : (k : ℕ) (xs : List X) → k ≤ length xs → AreRuledOut k xs → pairs_for j n (map entry xs) ≡ pairs_for j n (map entry (drop k xs))
  pairs_run zero xs few out = refl
  pairs_run (suc k) [] few out = absurd (omega arith)
  pairs_run (suc k) (x ∷ xs) few out =
      ap (λ (m : Mark). map (with_entry j.space n) (near_ones (entry x ∷ map entry xs) (m ∷ marks_for j n (map entry xs)))) (ruled_out (entry x) (out 0 x (omega arith)))
      ∙ pairs_run k xs (omega arith) (λ m d below. out (suc m) d (omega arith))

  takes_run : (k : ℕ) (xs : List X) → k ≤ length xs → AreRuledOut k xs → (old mid : Opening) → mid.marks.items ≡ old.marks.items ++ replicate k Skip → mid.matches ≡ old.matches →
      (last : Opening) → TakesEntries j n (map entry (drop k xs)) mid last → TakesEntries j n (map entry xs) old last
  takes_run k xs few out old mid skipped same last rest = record {
    marks = onward _ _ _ _ _ _ skipped rest.marks (marks_run k xs few out);
    hits = rest.hits ∙ ap (λ m. m.hits.items ++ hits_among (pairs_for j n (map entry (drop k xs)))) same
        ∙ ap (λ (ps : List JoinNeed). old.matches.hits.items ++ hits_among ps) (sym (pairs_run k xs few out));
    needs = rest.needs ∙ ap (λ m. m.needs.items ++ needs_among (pairs_for j n (map entry (drop k xs)))) same
        ∙ ap (λ (ps : List JoinNeed). old.matches.needs.items ++ needs_among ps) (sym (pairs_run k xs few out));
  }

  -- a loop that has taken the entries up to a place, and marks the next ones Skip: what takes the others takes all
  pub takes_skipped : (es : List X) (at next : ℕ) (start old mid : Opening) → at ≤ next → next ≤ length es →
      ((k : ℕ) (d : X) → at ≤ k → k < next → join_skips j.rho n (entry (get_or es k d)) ≡ true) →
      mid.marks.items ≡ old.marks.items ++ replicate (next - at) Skip → mid.matches ≡ old.matches →
      ((last : Opening) → TakesEntries j n (map entry (drop at es)) old last → TakesEntries j n (map entry es) start last) →
      (last : Opening) → TakesEntries j n (map entry (drop next es)) mid last → TakesEntries j n (map entry es) start last
  takes_skipped es at next start old mid low high out skipped same so_far last rest =
      so_far last (takes_run (next - at) (drop at es) (omega (arith, length-drop at es)) here old mid skipped same last
      (subst (λ (l : List X). TakesEntries j n (map entry l) mid last) there rest))
    where
      here : AreRuledOut (next - at) (drop at es)
      here m d below = subst (λ (x : X). join_skips j.rho n (entry x) ≡ true) (sym (get_or-drop at es m d)) (out (at + m) d (omega arith) (omega arith))

      there : drop next es ≡ drop (next - at) (drop at es)
      there = ap (λ (k : ℕ). drop k es) (let e : next ≡ at + (next - at) = omega arith in e) ∙ sym (drop-drop (next - at) at es)

-- how many entries are marked
pub long_skipped : (old new : List Mark) (next : ℕ) → new ≡ old ++ replicate (next - length old) Skip → length old ≤ next → length new ≡ next
long_skipped old new next is low = omega (arith, ap length is, length-append old (replicate (next - length old) Skip), length-replicate (next - length old) Skip)

pub long_next : (j : JoinSearch) (n : JoinNeed) (e : Entry) (old new : Opening) → TakesEntries j n (e ∷ []) old new → length new.marks.items ≡ length old.marks.items + 1
long_next j n e old new one = ap length one.marks ∙ length-append old.marks.items (marks_for j n (e ∷ []))

-- nothing is left to take
pub takes_nothing : (j : JoinSearch) (n : JoinNeed) (a : Opening) → TakesEntries j n [] a a
takes_nothing j n a = record { marks = nothing a.marks.items; hits = nothing a.matches.hits.items; needs = nothing a.matches.needs.items }
  where
    nothing : {X : Type 0} (l : List X) → l ≡ l ++ []
    nothing [] = refl
    nothing (x ∷ xs) = ap (λ (ys : List _). x ∷ ys) (nothing xs)

-- counts

measured_append : (ms : List Mark) (m : Mark) → measured_by (ms ++ m ∷ []) ≡ measured_by ms + measured_by (m ∷ [])
measured_append [] m = omega arith
measured_append (Skip ∷ ms) m = measured_append ms m
measured_append (Far ∷ ms) m = let ih = measured_append ms m in omega arith
measured_append (Near ∷ ms) m = let ih = measured_append ms m in omega arith

pub counts_one : (used used2 k : ℕ) (old new : List Mark) (m : Mark) → k ≤ measured_by (m ∷ []) → used2 ≡ count_up used k → new ≡ old ++ m ∷ [] → CountsMarks used used2 old new
counts_one used used2 k old new m few is added =
    let long = measured_append old m in
    (k, rw added (omega arith), is)

pub counts_both : (used used2 used3 : ℕ) (old mid new : List Mark) → CountsMarks used used2 old mid → CountsMarks used2 used3 mid new → CountsMarks used used3 old new
counts_both used used2 used3 old mid new one two =
    (one.0 + two.0, omega (arith, one.1, two.1), two.2 ∙ ap (λ (u : ℕ). count_up u two.0) one.2 ∙ count_up_both used one.0 two.0)

pub counts_skipped : (used k : ℕ) (old new : List Mark) → new ≡ old ++ replicate k Skip → CountsMarks used used old new
counts_skipped used k old new is = (0, rw is (omega (arith, more old)), refl)
  where
    none : (k : ℕ) → measured_by (replicate k Skip) ≡ 0
    none zero = refl
    none (suc k) = none k

    more : (ms : List Mark) → measured_by (ms ++ replicate k Skip) ≡ measured_by ms
    more [] = none k
    more (Skip ∷ ms) = more ms
    more (Far ∷ ms) = omega (arith, more ms)
    more (Near ∷ ms) = omega (arith, more ms)

pub counts_none : (used : ℕ) (old : List Mark) → CountsMarks used used old old
counts_none used old = (0, omega arith, refl)

-- a loop that has taken all entries
pub takes_all : {X : Type 0} (j : JoinSearch) (n : JoinNeed) (entry : X → Entry) (es : List X) (i : ℕ) (start old : Opening) → length es ≤ i →
    ((last : Opening) → TakesEntries j n (map entry (drop i es)) old last → TakesEntries j n (map entry es) start last) → TakesEntries j n (map entry es) start old
takes_all j n entry es i start old high so_far =
    so_far old (subst (λ (l : List _). TakesEntries j n (map entry l) old old) (sym (nothing_left es i high)) (takes_nothing j n old))
  where
    nothing_left : {X : Type 0} (xs : List X) (k : ℕ) → length xs ≤ k → drop k xs ≡ []
    nothing_left [] zero low = refl
    nothing_left [] (suc k) low = refl
    nothing_left (x ∷ xs) zero low = absurd (let e : ⊥ = omega arith in e)
    nothing_left (x ∷ xs) (suc k) low = nothing_left xs k (omega (arith, low))
