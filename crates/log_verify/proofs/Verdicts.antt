-- Verdicts and their causes.
use Rattle.std.proofs.Common.{◌≡◌, ℕ, ◌+◌, Bool, true, false, List, [], ◌∷◌, Option, Some, None, Ok, Err, sym, ap, ◌∙◌}
use Rattle.std.specs.Prelude.{IsTrue, if◌then◌else◌, ◌==◌, ◌&&◌}
use Rattle.metric_laws.specs.Space.{Space}
use Rattle.scan_model.specs.declared.hit.Hit.{Hit}
use Rattle.tree_shape.specs.declared.live.Live.{Live}
use Rattle.page_store.specs.declared.pages.PageFault.{PageFault}
use Rattle.page_store.specs.declared.pages.PageFault.TheVariants as pages
use Rattle.page_store.specs.Reading.{Read, nodes_of}
use Rattle.page_store.specs.Shelf.{Shelf}
use Rattle.log_model.specs.declared.logs.Log.{Log}
use Rattle.log_model.specs.Grammar.{query_point}
use Rattle.log_model.specs.Walk.{Search, root_need}
use Rattle.log_model.specs.Sound.{search_for, selected, IsSoundLog}
use Rattle.log_verify.specs.declared.faults.Verdict.{Verdict}
use Rattle.log_verify.specs.declared.faults.Verdict.TheVariants.{OtherState, Point, Page, WrongPage, WrongCount, WrongMark, WrongAnswer, LeftOver, Memory}
use Rattle.log_verify.specs.Judged.{walked, first_difference, walk_of, log_fault}
use Rattle.log_verify.specs.Causes.{HasCause, IsPassing}
use Rattle.log_verify.proofs.Soundness.{both_same, walked_from_follows, none_from_sound}

-- a difference is a wrong answer
difference_is : (i : ℕ) (xs ys : List Hit) (v : Verdict) → first_difference i xs ys ≡ Some v → (k : ℕ) × (v ≡ WrongAnswer k)
difference_is i [] [] v is = absurd cc
difference_is i [] (y ∷ ys) v is = (i, (let e : v ≡ WrongAnswer i = cc in e))
difference_is i (x ∷ xs) [] v is = (i, (let e : v ≡ WrongAnswer i = cc in e))
difference_is i (x ∷ xs) (y ∷ ys) v is = cases ((x.id == y.id) && (x.dist == y.dist)) (difference_is (i + 1) xs ys v) is
  where
    cases : (b : Bool) → (first_difference (i + 1) xs ys ≡ Some v → (k : ℕ) × (v ≡ WrongAnswer k)) → (if b then first_difference (i + 1) xs ys else Some (WrongAnswer i)) ≡ Some v → (k : ℕ) × (v ≡ WrongAnswer k)
    cases true later is = later is
    cases false later is = (i, (let e : v ≡ WrongAnswer i = cc in e))

pub difference_cause : (old new : Shelf) (v : Verdict) (F : Type 0) (i : ℕ) (xs ys : List Hit) → first_difference i xs ys ≡ Some v → (IsTrue old.is_known → F) → HasCause old new v F
difference_cause old new v F i xs ys is fault = caused v (difference_is i xs ys v is)
  where
    caused : (w : Verdict) → (k : ℕ) × (w ≡ WrongAnswer k) → HasCause old new w F
    caused (WrongAnswer k) found = fault
    caused Memory found = tt
    caused (Page p) found = absurd (let e : Page p ≡ WrongAnswer found.0 = found.1 in clash p found.0 e)
      where
        clash : (p : PageFault) (k : ℕ) → Page p ≡ WrongAnswer k → ⊥
        clash p k e = cc
    caused (OtherState named live) found = fault
    caused Point found = fault
    caused (WrongPage k) found = fault
    caused (WrongCount k) found = fault
    caused (WrongMark k j) found = fault
    caused (LeftOver k) found = fault

-- the log's fault where its walk has none is the first difference of the answers
pub fault_differs : (s : Space) (read : Read) (live : Live) (log : Log) (f : Search) (hits : List Hit) (d : Option Verdict) → f ≡ search_for s log.query log.answers → log.generation ≡ live.generation
    → log.root ≡ live.root → s.is_point (query_point log.query) ≡ true → walked f read [] (root_need live.root ∷ []) log.records 0 ≡ Ok hits → first_difference 0 log.answers (selected log.query hits) ≡ d
    → log_fault s read live log ≡ d
fault_differs s read live log f hits d searches generation root is_point walk differs =
    let whole : walk_of s read live log ≡ Ok hits = ap (λ (g : Search). walked g read [] (root_need live.root ∷ []) log.records 0) (sym searches) ∙ walk in
    rw (both_same log.generation live.generation log.root live.root generation root, is_point, whole) differs

-- a sound log's walk has no fault
pub sound_walks : (s : Space) (read : Read) (live : Live) (log : Log) (f : Search) (v : Verdict) → f ≡ search_for s log.query log.answers → IsSoundLog s (nodes_of read) live log
    → walked f read [] (root_need live.root ∷ []) log.records 0 ≡ Err v → ⊥
sound_walks s read live log f v searches wise fault =
    clash wise.hits v (sym (walked_from_follows (search_for s log.query log.answers) read [] (root_need live.root ∷ []) log.records 0 wise.hits wise.walk)
    ∙ ap (λ (g : Search). walked g read [] (root_need live.root ∷ []) log.records 0) (sym searches) ∙ fault)
  where
    clash : (hits : List Hit) (v : Verdict) → Ok hits ≡ Err v → ⊥
    clash hits v e = cc

-- a sound log has no fault
pub sound_faults : (s : Space) (read : Read) (live : Live) (log : Log) (v : Verdict) → IsSoundLog s (nodes_of read) live log → log_fault s read live log ≡ Some v → ⊥
sound_faults s read live log v wise fault = (let none = none_from_sound s read live log wise in clash v (sym none ∙ fault))
  where
    clash : (v : Verdict) → None ≡ Some v → ⊥
    clash v e = cc

-- what may come where the log has no fault
pub passing : (old new : Shelf) (v : Verdict) (F : Type 0) → HasCause old new v F → IsTrue old.is_known → (F → ⊥) → IsPassing v
passing old new Memory F cause is_known never = tt
passing old new (Page pages.Disk) F cause is_known never = tt
passing old new (Page (pages.Bad page fault)) F cause is_known never = never (cause.1 is_known)
passing old new (Page (pages.Outside page)) F cause is_known never = never (cause.1 is_known)
passing old new (Page pages.Memory) F cause is_known never = cause
passing old new (Page (pages.Repeats page)) F cause is_known never = cause
passing old new (Page (pages.Level page)) F cause is_known never = cause
passing old new (OtherState named live) F cause is_known never = never (cause is_known)
passing old new Point F cause is_known never = never (cause is_known)
passing old new (WrongPage i) F cause is_known never = never (cause is_known)
passing old new (WrongCount i) F cause is_known never = never (cause is_known)
passing old new (WrongMark i j) F cause is_known never = never (cause is_known)
passing old new (WrongAnswer i) F cause is_known never = never (cause is_known)
passing old new (LeftOver i) F cause is_known never = never (cause is_known)
