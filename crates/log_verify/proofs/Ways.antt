-- From one record to the next: what the walk is, why it stops, and what it costs.
use Rattle.std.proofs.Common.{◌≡◌, ℕ, zero, suc, ◌+◌, ◌<◌, ◌≤◌, List, [], ◌∷◌, length, drop, take, get_or, Ok, Err, Result, refl, sym, ap, subst, ◌∙◌, arith, drop-cons}
use Rattle.std.specs.Prelude.{IsTrue}
use Rattle.metric_laws.specs.Counts.{next_count, count_up, CountsUpTo}
use Rattle.scan_model.specs.declared.hit.Hit.{Hit}
use Rattle.page_store.specs.declared.pages.PageFault.{PageFault}
use Rattle.page_store.specs.declared.pages.PageFault.TheVariants as pages
use Rattle.page_store.specs.Reading.{Read, IsWithin, is_within}
use Rattle.page_store.specs.Shelf.{Shelf, HoldsSame}
use Rattle.log_model.specs.declared.marks.Record.{Record}
use Rattle.log_model.specs.declared.marks.Need.{Need}
use Rattle.log_model.specs.Counts.{measured_by, measured}
use Rattle.log_model.specs.Walk.{Search}
use Rattle.log_verify.specs.declared.faults.Verdict.{Verdict}
use Rattle.log_verify.specs.declared.faults.Verdict.TheVariants.{OtherState, Point, Page, WrongPage, WrongCount, WrongMark, WrongAnswer, LeftOver, Memory}
use Rattle.log_verify.specs.Judged.{walked}
use Rattle.log_verify.specs.Causes.{HasRefusal, HasCause}
use Rattle.log_verify.proofs.Counting.{count_up-add}

-- ---- causes

pub refusal_kept : (old mid new : Shelf) (fault : PageFault) (F G : Type 0) → HoldsSame old mid → (IsTrue old.is_known → F → G) → HasRefusal mid new fault F → HasRefusal old new fault G
refusal_kept old mid new pages.Disk F G same implies rose = omega (arith, same.faults, rose)
refusal_kept old mid new (pages.Bad page fault) F G same implies cause =
    (subst (λ (n : ℕ). IsWithin n page) same.pages cause.0, λ is_known. implies is_known (cause.1 (same.is_known ∙ is_known)))
refusal_kept old mid new (pages.Outside page) F G same implies cause =
    (ap (λ (n : ℕ). is_within n page) (sym same.pages) ∙ cause.0, λ is_known. implies is_known (cause.1 (same.is_known ∙ is_known)))
refusal_kept old mid new pages.Memory F G same implies cause = cause
refusal_kept old mid new (pages.Repeats page) F G same implies cause = cause
refusal_kept old mid new (pages.Level page) F G same implies cause = cause

-- a cause since the pages were in an earlier state
pub cause_kept : (old mid new : Shelf) (v : Verdict) (F G : Type 0) → HoldsSame old mid → (IsTrue old.is_known → F → G) → HasCause mid new v F → HasCause old new v G
cause_kept old mid new Memory F G same implies cause = tt
cause_kept old mid new (Page fault) F G same implies cause = refusal_kept old mid new fault F G same implies cause
cause_kept old mid new (OtherState named live) F G same implies cause = λ is_known. implies is_known (cause (same.is_known ∙ is_known))
cause_kept old mid new Point F G same implies cause = λ is_known. implies is_known (cause (same.is_known ∙ is_known))
cause_kept old mid new (WrongPage i) F G same implies cause = λ is_known. implies is_known (cause (same.is_known ∙ is_known))
cause_kept old mid new (WrongCount i) F G same implies cause = λ is_known. implies is_known (cause (same.is_known ∙ is_known))
cause_kept old mid new (WrongMark i j) F G same implies cause = λ is_known. implies is_known (cause (same.is_known ∙ is_known))
cause_kept old mid new (WrongAnswer i) F G same implies cause = λ is_known. implies is_known (cause (same.is_known ∙ is_known))
cause_kept old mid new (LeftOver i) F G same implies cause = λ is_known. implies is_known (cause (same.is_known ∙ is_known))

-- ---- the walk

module _ (f g : Search) (old mid : Shelf) (hits : List Hit) (stack : List Need) (records : List Record) (i taken : ℕ) (r : Record) (total : Result (List Hit) Verdict)
    (searches : g ≡ f) (same : HoldsSame old mid) (low : i < length records) (is : r ≡ get_or records i r)
    (way : IsTrue old.is_known → walked f old.read hits stack (drop i records) taken ≡ total) where
  here : IsTrue old.is_known → walked g mid.read hits stack (r ∷ drop (suc i) records) taken ≡ total
  here is_known =
      ap (λ (h : Search). walked h mid.read hits stack (r ∷ drop (suc i) records) taken) searches
      ∙ ap (λ (read : Read). walked f read hits stack (r ∷ drop (suc i) records) taken) same.read
      ∙ ap (λ (e : Record). walked f old.read hits stack (e ∷ drop (suc i) records) taken) is
      ∙ ap (λ (rs : List Record). walked f old.read hits stack rs taken) (sym (drop-cons records i r low))
      ∙ way is_known

  -- one record further
  pub way_next : (hits2 : List Hit) (stack2 : List Need) (taken2 : ℕ)
      → (IsTrue mid.is_known → (rs : List Record) → walked g mid.read hits stack (r ∷ rs) taken ≡ walked g mid.read hits2 stack2 rs taken2)
      → IsTrue old.is_known → walked f old.read hits2 stack2 (drop (i + 1) records) taken2 ≡ total
  way_next hits2 stack2 taken2 step is_known =
      ap (λ (k : ℕ). walked f old.read hits2 stack2 (drop k records) taken2) (let k : i + 1 ≡ suc i = omega arith in k)
      ∙ ap (λ (h : Search). walked h old.read hits2 stack2 (drop (suc i) records) taken2) (sym searches)
      ∙ ap (λ (read : Read). walked g read hits2 stack2 (drop (suc i) records) taken2) (sym same.read)
      ∙ sym (step (same.is_known ∙ is_known) (drop (suc i) records)) ∙ here is_known

  -- the walk stops at this record
  pub way_ends : (new : Shelf) (v : Verdict) → HasCause mid new v ((rs : List Record) → walked g mid.read hits stack (r ∷ rs) taken ≡ Err v) → HasCause old new v (total ≡ Err v)
  way_ends new v cause =
      cause_kept old mid new v ((rs : List Record) → walked g mid.read hits stack (r ∷ rs) taken ≡ Err v) (total ≡ Err v) same (λ is_known stops. sym (here is_known) ∙ stops (drop (suc i) records)) cause

-- no record is left
pub way_done : (f : Search) (read : Read) (hits : List Hit) (stack : List Need) (records : List Record) (i taken : ℕ) (total : Result (List Hit) Verdict) → length records ≤ i → length stack ≡ 0
    → walked f read hits stack (drop i records) taken ≡ total → total ≡ Ok hits
way_done f read hits [] records i taken total all none way = sym way ∙ ap (λ (rs : List Record). walked f read hits [] rs taken) (drop_past records i all)
  where
    drop_past : (rs : List Record) (k : ℕ) → length rs ≤ k → drop k rs ≡ []
    drop_past [] zero past = refl
    drop_past [] (suc k) past = refl
    drop_past (r ∷ rs) zero past = absurd (let e : ⊥ = omega arith in e)
    drop_past (r ∷ rs) (suc k) past = drop_past rs k (omega arith)
way_done f read hits (n ∷ ns) records i taken total all none way = absurd (let e : ⊥ = omega arith in e)

pub way_short : (f : Search) (read : Read) (hits : List Hit) (stack : List Need) (records : List Record) (i taken : ℕ) (total : Result (List Hit) Verdict) → length records ≤ i → 0 < length stack
    → walked f read hits stack (drop i records) taken ≡ total → total ≡ Err (WrongPage taken)
way_short f read hits [] records i taken total all some way = absurd (let e : ⊥ = omega arith in e)
way_short f read hits (n ∷ ns) records i taken total all some way = sym way ∙ ap (λ (rs : List Record). walked f read hits (n ∷ ns) rs taken) (drop_past records i all)
  where
    drop_past : (rs : List Record) (k : ℕ) → length rs ≤ k → drop k rs ≡ []
    drop_past [] zero past = refl
    drop_past [] (suc k) past = refl
    drop_past (r ∷ rs) zero past = absurd (let e : ⊥ = omega arith in e)
    drop_past (r ∷ rs) (suc k) past = drop_past rs k (omega arith)

-- ---- costs

measured_so_far : (records : List Record) (i : ℕ) (r : Record) → i < length records → r ≡ get_or records i r → measured (take (i + 1) records) ≡ measured (take i records) + measured_by r.marks
measured_so_far [] i r low is = absurd (let e : ⊥ = omega arith in e)
measured_so_far (x ∷ xs) zero r low is = ap (λ (y : Record). measured_by y.marks + 0) (sym is) ∙ omega arith
measured_so_far (x ∷ xs) (suc i) r low is =
    let ih = measured_so_far xs i r (omega arith) is in
    let e : suc i + 1 ≡ suc (i + 1) = omega arith in
    ap (λ (k : ℕ). measured (take k (x ∷ xs))) e ∙ omega (arith, ih)

measured_front : (records : List Record) (n : ℕ) → measured (take n records) ≤ measured records
measured_front records zero = omega arith
measured_front [] (suc n) = omega arith
measured_front (x ∷ xs) (suc n) = omega (arith, measured_front xs n)

pub asked_next : (start mid new i : ℕ) → mid ≡ count_up start i → new ≡ next_count mid → new ≡ count_up start (i + 1)
asked_next start mid new i so_far one = one ∙ ap next_count so_far ∙ sym (count_up-add start i 1)

pub asked_ends : (start mid new i most : ℕ) → i < most → mid ≡ count_up start i → CountsUpTo mid new 1 → CountsUpTo start new most
asked_ends start mid new i most low so_far few = (i + few.0, omega (arith, few.1), few.2 ∙ ap (λ (c : ℕ). count_up c few.0) so_far ∙ sym (count_up-add start i few.0))

pub cost_next : (start mid new : ℕ) (records : List Record) (i : ℕ) (r : Record) → i < length records → r ≡ get_or records i r → mid ≡ count_up start (measured (take i records))
    → new ≡ count_up mid (measured_by r.marks) → new ≡ count_up start (measured (take (i + 1) records))
cost_next start mid new records i r low is so_far one =
    one ∙ ap (λ (c : ℕ). count_up c (measured_by r.marks)) so_far ∙ sym (count_up-add start (measured (take i records)) (measured_by r.marks)) ∙ ap (count_up start) (sym (measured_so_far records i r low is))

pub cost_ends : (start mid new : ℕ) (records : List Record) (i : ℕ) (r : Record) → i < length records → r ≡ get_or records i r → mid ≡ count_up start (measured (take i records))
    → CountsUpTo mid new (measured_by r.marks) → CountsUpTo start new (measured records)
cost_ends start mid new records i r low is so_far few = (
  measured (take i records) + few.0,
  omega (arith, few.1, measured_so_far records i r low is, measured_front records (i + 1)),
  few.2 ∙ ap (λ (c : ℕ). count_up c few.0) so_far ∙ sym (count_up-add start (measured (take i records)) few.0),
)

pub cost_front : (start now : ℕ) (records : List Record) (i : ℕ) → now ≡ count_up start (measured (take i records)) → CountsUpTo start now (measured records)
cost_front start now records i is = (measured (take i records), measured_front records i, is)
