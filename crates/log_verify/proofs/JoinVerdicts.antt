-- Verdicts on a join's log and their causes.
use Rattle.std.proofs.Common.{◌≡◌, ℕ, ◌+◌, Bool, true, false, List, [], ◌∷◌, Option, Some, None, Ok, Err, reverse, sym, ap, ◌∙◌}
use Rattle.std.specs.Prelude.{IsTrue, if◌then◌else◌, ◌==◌, ◌&&◌}
use Rattle.metric_laws.specs.Space.{Space}
use Rattle.scan_model.specs.declared.hit.Pair.{Pair}
use Rattle.tree_shape.specs.declared.live.Live.{Live}
use Rattle.page_store.specs.declared.pages.PageFault.{PageFault}
use Rattle.page_store.specs.declared.pages.PageFault.TheVariants as pages
use Rattle.page_store.specs.Reading.{Read, nodes_of}
use Rattle.page_store.specs.Shelf.{Shelf}
use Rattle.log_model.specs.declared.pairs.JoinNeed.{JoinNeed}
use Rattle.log_model.specs.declared.logs.JoinLog.{JoinLog}
use Rattle.log_model.specs.InOrder.{in_order, pair_before}
use Rattle.log_model.specs.JoinWalk.{JoinSearch}
use Rattle.log_model.specs.SoundJoin.{join_at, root_pair, IsSoundJoinLog}
use Rattle.log_model.specs.JoinSteps.{search_within}
use Rattle.log_verify.specs.declared.faults.JoinVerdict.{JoinVerdict}
use Rattle.log_verify.specs.declared.faults.JoinVerdict.TheVariants.{OtherState, Page, WrongPage, WrongCount, WrongMark, WrongAnswer, LeftOver, Memory}
use Rattle.log_verify.specs.JoinJudged.{join_walked, pair_difference, join_walk_of, names, join_fault}
use Rattle.log_verify.specs.Causes.{HasJoinCause, IsJoinPassing}
use Rattle.log_verify.proofs.JoinSoundness.{walked_from_join, join_none_from_sound}

-- a difference is a wrong answer
difference_is : (i : ℕ) (xs ys : List Pair) (v : JoinVerdict) → pair_difference i xs ys ≡ Some v → (k : ℕ) × (v ≡ WrongAnswer k)
difference_is i [] [] v is = absurd cc
difference_is i [] (y ∷ ys) v is = (i, (let e : v ≡ WrongAnswer i = cc in e))
difference_is i (x ∷ xs) [] v is = (i, (let e : v ≡ WrongAnswer i = cc in e))
difference_is i (x ∷ xs) (y ∷ ys) v is = cases ((x.left == y.left) && ((x.right == y.right) && (x.dist == y.dist))) (difference_is (i + 1) xs ys v) is
  where
    cases : (b : Bool) → (pair_difference (i + 1) xs ys ≡ Some v → (k : ℕ) × (v ≡ WrongAnswer k)) → (if b then pair_difference (i + 1) xs ys else Some (WrongAnswer i)) ≡ Some v → (k : ℕ) × (v ≡ WrongAnswer k)
    cases true later is = later is
    cases false later is = (i, (let e : v ≡ WrongAnswer i = cc in e))

pub difference_cause : (l l2 r r2 : Shelf) (v : JoinVerdict) (F : Type 0) (i : ℕ) (xs ys : List Pair) → pair_difference i xs ys ≡ Some v → (IsTrue l.is_known → IsTrue r.is_known → F) → HasJoinCause l l2 r r2 v F
difference_cause l l2 r r2 v F i xs ys is fault = caused v (difference_is i xs ys v is)
  where
    clash : (b : Bool) (p : PageFault) (k : ℕ) → Page b p ≡ WrongAnswer k → ⊥
    clash b p k e = cc

    caused : (w : JoinVerdict) → (k : ℕ) × (w ≡ WrongAnswer k) → HasJoinCause l l2 r r2 w F
    caused (WrongAnswer k) found = fault
    caused Memory found = tt
    caused (Page false p) found = absurd (clash false p found.0 found.1)
    caused (Page true p) found = absurd (clash true p found.0 found.1)
    caused (OtherState right a b) found = fault
    caused (WrongPage k) found = fault
    caused (WrongCount k) found = fault
    caused (WrongMark k e) found = fault
    caused (LeftOver k) found = fault

-- the walk that the code begins is the log's
pub begun_is : (s : Space) (lr rr : Read) (l r : Live) (log : JoinLog) (rho : ℕ) (hits : List Pair) (stack : List JoinNeed) → search_within s rho ≡ join_at s log.r → hits ≡ [] → stack ≡ root_pair l r ∷ []
    → join_walked (search_within s rho) lr rr hits (reverse stack) log.records 0 ≡ join_walk_of s lr rr l r log
begun_is s lr rr l r log rho hits stack searches none root =
    ap (λ (f : JoinSearch). join_walked f lr rr hits (reverse stack) log.records 0) searches
    ∙ ap (λ (hs : List Pair). join_walked (join_at s log.r) lr rr hs (reverse stack) log.records 0) none
    ∙ ap (λ (st : List JoinNeed). join_walked (join_at s log.r) lr rr [] (reverse st) log.records 0) root

-- the log's fault where its walk has none is the first difference of the answers
pub fault_differs : (s : Space) (lr rr : Read) (l r : Live) (log : JoinLog) (hits : List Pair) (d : Option JoinVerdict) → names log.left l ≡ true → names log.right r ≡ true
    → join_walk_of s lr rr l r log ≡ Ok hits → pair_difference 0 log.answers (in_order pair_before hits) ≡ d → join_fault s lr rr l r log ≡ d
fault_differs s lr rr l r log hits d one two walk differs = rw (one, two, walk) differs

-- a sound log's walk has no fault
pub sound_walks : (s : Space) (lr rr : Read) (l r : Live) (log : JoinLog) (v : JoinVerdict) → IsSoundJoinLog s (nodes_of lr) (nodes_of rr) l r log → join_walk_of s lr rr l r log ≡ Err v → ⊥
sound_walks s lr rr l r log v wise fault =
    clash wise.hits v (sym (walked_from_join (join_at s log.r) lr rr [] (root_pair l r ∷ []) log.records 0 wise.hits wise.walk) ∙ fault)
  where
    clash : (hits : List Pair) (v : JoinVerdict) → Ok hits ≡ Err v → ⊥
    clash hits v e = cc

-- a sound log has no fault
pub sound_faults : (s : Space) (lr rr : Read) (l r : Live) (log : JoinLog) (v : JoinVerdict) → IsSoundJoinLog s (nodes_of lr) (nodes_of rr) l r log → join_fault s lr rr l r log ≡ Some v → ⊥
sound_faults s lr rr l r log v wise fault = (let none = join_none_from_sound s lr rr l r log wise in clash v (sym none ∙ fault))
  where
    clash : (v : JoinVerdict) → None ≡ Some v → ⊥
    clash v e = cc

-- what may come where the log has no fault
pub passing : (l l2 r r2 : Shelf) (v : JoinVerdict) (F : Type 0) → HasJoinCause l l2 r r2 v F → IsTrue l.is_known → IsTrue r.is_known → (F → ⊥) → IsJoinPassing v
passing l l2 r r2 Memory F cause x y never = tt
passing l l2 r r2 (Page false pages.Disk) F cause x y never = tt
passing l l2 r r2 (Page true pages.Disk) F cause x y never = tt
passing l l2 r r2 (Page false (pages.Bad page fault)) F cause x y never = never (cause.1 x y)
passing l l2 r r2 (Page true (pages.Bad page fault)) F cause x y never = never (cause.1 y x)
passing l l2 r r2 (Page false (pages.Outside page)) F cause x y never = never (cause.1 x y)
passing l l2 r r2 (Page true (pages.Outside page)) F cause x y never = never (cause.1 y x)
passing l l2 r r2 (Page false pages.Memory) F cause x y never = cause
passing l l2 r r2 (Page true pages.Memory) F cause x y never = cause
passing l l2 r r2 (Page false (pages.Repeats page)) F cause x y never = cause
passing l l2 r r2 (Page true (pages.Repeats page)) F cause x y never = cause
passing l l2 r r2 (Page false (pages.Level page)) F cause x y never = cause
passing l l2 r r2 (Page true (pages.Level page)) F cause x y never = cause
passing l l2 r r2 (OtherState right a b) F cause x y never = never (cause x y)
passing l l2 r r2 (WrongPage k) F cause x y never = never (cause x y)
passing l l2 r r2 (WrongCount k) F cause x y never = never (cause x y)
passing l l2 r r2 (WrongMark k e) F cause x y never = never (cause x y)
passing l l2 r r2 (WrongAnswer k) F cause x y never = never (cause x y)
passing l l2 r r2 (LeftOver k) F cause x y never = never (cause x y)
