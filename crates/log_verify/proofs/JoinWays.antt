-- From one record of a join to the next: what the walk is, and why it stops.
use Rattle.std.proofs.Common.{◌≡◌, ℕ, suc, ◌+◌, ◌<◌, Bool, true, false, List, ◌∷◌, length, drop, get_or, Err, Result, sym, ap, ◌∙◌, arith, drop-cons}
use Rattle.std.specs.Prelude.{IsTrue}
use Rattle.scan_model.specs.declared.hit.Pair.{Pair}
use Rattle.page_store.specs.declared.pages.PageFault.{PageFault}
use Rattle.page_store.specs.Reading.{Read}
use Rattle.page_store.specs.Shelf.{Shelf, HoldsSame}
use Rattle.log_model.specs.declared.marks.JoinRecord.{JoinRecord}
use Rattle.log_model.specs.declared.pairs.JoinNeed.{JoinNeed}
use Rattle.log_model.specs.JoinWalk.{JoinSearch, opens_right, opened, page_of}
use Rattle.log_verify.specs.declared.faults.JoinVerdict.{JoinVerdict}
use Rattle.log_verify.specs.declared.faults.JoinVerdict.TheVariants.{OtherState, Page, WrongPage, WrongCount, WrongMark, WrongAnswer, LeftOver, Memory}
use Rattle.log_verify.specs.JoinJudged.{is_of, read_of, join_walked}
use Rattle.log_verify.specs.Causes.{IsJoinPageVerdict, HasJoinCause}
use Rattle.log_verify.proofs.Ways.{refusal_kept}
use Rattle.page_store.proofs.Published.{holds_none}

refused : (j : JoinSearch) (lr rr : Read) (named : List Pair) (n : JoinNeed) (ns : List JoinNeed) (r : JoinRecord) (rs : List JoinRecord) (i : ℕ) (right : Bool) (fault : PageFault)
    → opens_right n ≡ right → is_of n r ≡ true → read_of lr rr right (page_of (opened n)) ≡ Err fault → join_walked j lr rr named (n ∷ ns) (r ∷ rs) i ≡ Err (Page right fault)
refused j lr rr named n ns r rs i right fault side of gives =
    let there : read_of lr rr (opens_right n) (page_of (opened n)) ≡ Err fault = ap (λ (b : Bool). read_of lr rr b (page_of (opened n))) side ∙ gives in
    rw (of, there) (ap (λ (b : Bool). Err (Page b fault)) side)

-- the walk stops at a page that is refused
pub page_stops : (j : JoinSearch) (l l2 r r2 : Shelf) (named : List Pair) (stack : List JoinNeed) (n : JoinNeed) (ns : List JoinNeed) (told : JoinRecord) (i : ℕ) (v : JoinVerdict)
    → stack ≡ n ∷ ns → is_of n told ≡ true → IsJoinPageVerdict l l2 r r2 n v
    → HasJoinCause l l2 r r2 v ((rs : List JoinRecord) → join_walked j l.read r.read named stack (told ∷ rs) i ≡ Err v)
page_stops j l l2 r r2 named stack n ns told i Memory is of cause = tt
page_stops j l l2 r r2 named stack n ns told i (Page false fault) is of cause =
    refusal_kept l l l2 fault (l.read (page_of (opened n)) ≡ Err fault) (IsTrue r.is_known → (rs : List JoinRecord) → join_walked j l.read r.read named stack (told ∷ rs) i ≡ Err (Page false fault)) (holds_none l)
    (λ is_known gives other rs. ap (λ (st : List JoinNeed). join_walked j l.read r.read named st (told ∷ rs) i) is ∙ refused j l.read r.read named n ns told rs i false fault cause.0 of gives) cause.1
page_stops j l l2 r r2 named stack n ns told i (Page true fault) is of cause =
    refusal_kept r r r2 fault (r.read (page_of (opened n)) ≡ Err fault) (IsTrue l.is_known → (rs : List JoinRecord) → join_walked j l.read r.read named stack (told ∷ rs) i ≡ Err (Page true fault)) (holds_none r)
    (λ is_known gives other rs. ap (λ (st : List JoinNeed). join_walked j l.read r.read named st (told ∷ rs) i) is ∙ refused j l.read r.read named n ns told rs i true fault cause.0 of gives) cause.1
page_stops j l l2 r r2 named stack n ns told i (OtherState right a b) is of cause = absurd cause
page_stops j l l2 r r2 named stack n ns told i (WrongPage k) is of cause = absurd cause
page_stops j l l2 r r2 named stack n ns told i (WrongCount k) is of cause = absurd cause
page_stops j l l2 r r2 named stack n ns told i (WrongMark k e) is of cause = absurd cause
page_stops j l l2 r r2 named stack n ns told i (WrongAnswer k) is of cause = absurd cause
page_stops j l l2 r r2 named stack n ns told i (LeftOver k) is of cause = absurd cause

-- a cause since the pages were in an earlier state
pub join_cause_kept : (l lm ln r rm rn : Shelf) (v : JoinVerdict) (F G : Type 0) → HoldsSame l lm → HoldsSame r rm → (IsTrue l.is_known → IsTrue r.is_known → F → G)
    → HasJoinCause lm ln rm rn v F → HasJoinCause l ln r rn v G
join_cause_kept l lm ln r rm rn Memory F G one two implies cause = tt
join_cause_kept l lm ln r rm rn (Page false fault) F G one two implies cause =
    refusal_kept l lm ln fault (IsTrue rm.is_known → F) (IsTrue r.is_known → G) one (λ is_known f other. implies is_known other (f (two.is_known ∙ other))) cause
join_cause_kept l lm ln r rm rn (Page true fault) F G one two implies cause =
    refusal_kept r rm rn fault (IsTrue lm.is_known → F) (IsTrue l.is_known → G) two (λ is_known f other. implies other is_known (f (one.is_known ∙ other))) cause
join_cause_kept l lm ln r rm rn (OtherState right a b) F G one two implies cause = λ x y. implies x y (cause (one.is_known ∙ x) (two.is_known ∙ y))
join_cause_kept l lm ln r rm rn (WrongPage k) F G one two implies cause = λ x y. implies x y (cause (one.is_known ∙ x) (two.is_known ∙ y))
join_cause_kept l lm ln r rm rn (WrongCount k) F G one two implies cause = λ x y. implies x y (cause (one.is_known ∙ x) (two.is_known ∙ y))
join_cause_kept l lm ln r rm rn (WrongMark k e) F G one two implies cause = λ x y. implies x y (cause (one.is_known ∙ x) (two.is_known ∙ y))
join_cause_kept l lm ln r rm rn (WrongAnswer k) F G one two implies cause = λ x y. implies x y (cause (one.is_known ∙ x) (two.is_known ∙ y))
join_cause_kept l lm ln r rm rn (LeftOver k) F G one two implies cause = λ x y. implies x y (cause (one.is_known ∙ x) (two.is_known ∙ y))

module _ (f g : JoinSearch) (l lm r rm : Shelf) (hits : List Pair) (stack : List JoinNeed) (records : List JoinRecord) (i taken : ℕ) (told : JoinRecord) (total : Result (List Pair) JoinVerdict)
    (searches : g ≡ f) (one : HoldsSame l lm) (two : HoldsSame r rm) (low : i < length records) (is : told ≡ get_or records i told)
    (way : IsTrue l.is_known → IsTrue r.is_known → join_walked f l.read r.read hits stack (drop i records) taken ≡ total) where
  here : IsTrue l.is_known → IsTrue r.is_known → join_walked g lm.read rm.read hits stack (told ∷ drop (suc i) records) taken ≡ total
  here x y =
      ap (λ (h : JoinSearch). join_walked h lm.read rm.read hits stack (told ∷ drop (suc i) records) taken) searches
      ∙ ap (λ (read : Read). join_walked f read rm.read hits stack (told ∷ drop (suc i) records) taken) one.read
      ∙ ap (λ (read : Read). join_walked f l.read read hits stack (told ∷ drop (suc i) records) taken) two.read
      ∙ ap (λ (e : JoinRecord). join_walked f l.read r.read hits stack (e ∷ drop (suc i) records) taken) is
      ∙ ap (λ (rs : List JoinRecord). join_walked f l.read r.read hits stack rs taken) (sym (drop-cons records i told low))
      ∙ way x y

  -- one record further
  pub join_next : (hits2 : List Pair) (stack2 : List JoinNeed) (taken2 : ℕ)
      → (IsTrue lm.is_known → IsTrue rm.is_known → (rs : List JoinRecord) → join_walked g lm.read rm.read hits stack (told ∷ rs) taken ≡ join_walked g lm.read rm.read hits2 stack2 rs taken2)
      → IsTrue l.is_known → IsTrue r.is_known → join_walked f l.read r.read hits2 stack2 (drop (i + 1) records) taken2 ≡ total
  join_next hits2 stack2 taken2 step x y =
      ap (λ (k : ℕ). join_walked f l.read r.read hits2 stack2 (drop k records) taken2) (let k : i + 1 ≡ suc i = omega arith in k)
      ∙ ap (λ (h : JoinSearch). join_walked h l.read r.read hits2 stack2 (drop (suc i) records) taken2) (sym searches)
      ∙ ap (λ (read : Read). join_walked g read r.read hits2 stack2 (drop (suc i) records) taken2) (sym one.read)
      ∙ ap (λ (read : Read). join_walked g lm.read read hits2 stack2 (drop (suc i) records) taken2) (sym two.read)
      ∙ sym (step (one.is_known ∙ x) (two.is_known ∙ y) (drop (suc i) records)) ∙ here x y

  -- the walk stops at this record
  pub join_ends : (ln rn : Shelf) (v : JoinVerdict) → HasJoinCause lm ln rm rn v ((rs : List JoinRecord) → join_walked g lm.read rm.read hits stack (told ∷ rs) taken ≡ Err v)
      → HasJoinCause l ln r rn v (total ≡ Err v)
  join_ends ln rn v cause =
      join_cause_kept l lm ln r rm rn v ((rs : List JoinRecord) → join_walked g lm.read rm.read hits stack (told ∷ rs) taken ≡ Err v) (total ≡ Err v) one two
      (λ x y stops. sym (here x y) ∙ stops (drop (suc i) records)) cause
