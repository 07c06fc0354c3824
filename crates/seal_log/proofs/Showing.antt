-- What an accepted carried log shows.
use Rattle.std.proofs.Common.{◌≡◌, ◌⊎◌, ℕ, ◌+◌, ◌*◌, ◌^◌, ◌<◌, ◌≤◌, ◌==◌, ◌&&◌, ◌||◌, nat_lt, nat_le, Bool, true, false, cond, List, [], ◌∷◌, length, Option, Some, None, Err, refl, sym, ap, subst, ◌∙◌, arith, inl, inr}
use Rattle.std.specs.List.{AllByRecursion}
use Rattle.std.proofs.lemmas.Bool.{eqb-true, eqb-false, ltb-true, lt-ltb}
use Rattle.metric_laws.specs.Space.{Space, IsSpace}
use Rattle.tree_shape.specs.declared.live.Live.{Live}
use Rattle.node_page.specs.declared.head.Head.{Head}
use Rattle.node_page.specs.declared.node.Version.TheVariants.{Second}
use Rattle.node_page.specs.Heads.{SpellsHead}
use Rattle.node_page.specs.Nodes.{fault_in, node_in}
use Rattle.node_page.specs.Opening.{page_of, OpensTo}
use Rattle.node_page.proofs.Published.{head_is, live_is}
use Rattle.page_store.proofs.Published.{length-page_of}
use Rattle.page_store.specs.Files.{IsSoundFile, nodes_in, points_in}
use Rattle.page_store.specs.Reading.{is_within, judged, reading_in, reading}
use Rattle.page_store.specs.declared.pages.PageFault.TheVariants.{Outside}
use Rattle.log_model.specs.declared.marks.Record.{Record}
use Rattle.log_model.specs.declared.logs.Log.{Log}
use Rattle.log_model.specs.Laws.{scan_answers}
use Rattle.log_model.proofs.Published.{sound_complete}
use Rattle.log_verify.specs.declared.faults.Verdict.{Verdict}
use Rattle.log_verify.specs.declared.faults.Verdict.TheVariants as verdicts
use Rattle.log_verify.specs.Causes.{HasCause}
use Rattle.log_verify.specs.Judged.{log_fault}
use Rattle.page_store.specs.Shelves.{image_shelf}
use Rattle.page_store.specs.declared.pages.PageFault.TheVariants as pages
use Rattle.log_verify.proofs.Published.{sound_from_none}
use Rattle.seal_log.specs.declared.faults.ProofFault.{ProofFault}
use Rattle.seal_log.specs.declared.faults.ProofFault.TheVariants as faults
use Rattle.seal_log.specs.declared.parts.CarriedPage.{CarriedPage}
use Rattle.seal_log.specs.Digests.{hashed_for}
use Rattle.seal_log.specs.Collisions.{Collide}
use Rattle.seal_log.specs.Spelling.{is_behind, may_follow, AreInPlace}
use Rattle.seal_log.specs.Judged.{bytes_of, carried_file, CarriedLog, file_of, IsCarried, path_fault, is_carried, missing_from, first_fault, after_verdict, fault_by, judged_fault, hashed_in}
use Rattle.seal_log.specs.Opened.{IsLiveOf}
use Rattle.seal_log.specs.Laws.{ShowsAnswers}
use Rattle.seal_log.proofs.CarriedFiles.{and-both, pages-below, page-carried}
use Rattle.seal_log.proofs.OpenedFiles.{live_opens, opens_live}
use Rattle.seal_log.proofs.Hashed.{AllOwn, shown_by, pages_own, count_own}
use Rattle.seal_log.proofs.Agreeing.{SameOn, same_verdict}

-- ---- no fault of the log

pub first-none : (a b : Option ProofFault) → first_fault a b ≡ None → (a ≡ None) × (b ≡ None)
first-none None b e = (refl, e)
first-none (Some f) b e = absurd cc

pub verdict-none : (v : Option Verdict) → after_verdict v ≡ None → v ≡ None
verdict-none None e = refl
verdict-none (Some v) e = absurd cc

-- the page of each record is carried
abbrev pub AllCarried : List CarriedPage → List Record → Type 0
AllCarried ps records = AllByRecursion (λ (r : Record). is_carried ps r.page ≡ true) records

pub none-missing : (ps : List CarriedPage) (records : List Record) (i : ℕ) → missing_from ps records i ≡ None → AllCarried ps records
unfolding missing_from
none-missing ps [] i none = tt
none-missing ps (r ∷ rs) i none = let both = told (is_carried ps r.page) i (missing_from ps rs (i + 1)) none in (both.0, none-missing ps rs (i + 1) both.1)
  where
    told : (b : Bool) (i : ℕ) (next : Option ProofFault) → cond b next (Some (faults.Missing i)) ≡ None → (b ≡ true) × (next ≡ None)
    told true i next e = (refl, e)
    told false i next e = absurd cc

-- ---- carried pages that are the file's own

-- the bytes of such a page are the file's
pub own_bytes : (file : List ℕ) (ps : List CarriedPage) (page : ℕ) → AllOwn file ps → is_carried ps page ≡ true → bytes_of ps page ≡ page_of file page
unfolding bytes_of
own_bytes file [] page own is = absurd cc
own_bytes file (p ∷ ps) page own is = by_test (p.page == page) (eqb-true p.page page) is (own_bytes file ps page own.1)
  where
    by_test : (b : Bool) → (b ≡ true → p.page ≡ page) → b || is_carried ps page ≡ true → (is_carried ps page ≡ true → bytes_of ps page ≡ page_of file page) → cond b p.bytes (bytes_of ps page) ≡ page_of file page
    by_test true same is others = own.0 ∙ ap (page_of file) (same refl)
    by_test false same is others = others is

pub same_page_of : (file : List ℕ) (n : ℕ) (ps : List CarriedPage) (page : ℕ) → AllOwn file ps → is_carried ps page ≡ true → page < n → page_of (carried_file n ps) page ≡ page_of file page
same_page_of file n ps page own is within = page-carried n ps page (page_of file page) within (length-page_of file page) (own_bytes file ps page own is)

-- such a page holds the same node
pub same_reading : (dim n : ℕ) (one other : List ℕ) (page : ℕ) → (page < n → page_of one page ≡ page_of other page) → reading dim n one page ≡ reading dim n other page
unfolding reading_in is_within
same_reading dim n one other page same = by_test (nat_le 3 page && nat_lt page n) (λ e. same (ltb-true page n (and-both (nat_le 3 page) (nat_lt page n) e).1))
  where
    by_test : (b : Bool) → (b ≡ true → page_of one page ≡ page_of other page)
        → cond b (judged page (fault_in Second dim (page_of one page)) (node_in Second dim (page_of one page))) (Err (Outside page)) ≡ cond b (judged page (fault_in Second dim (page_of other page)) (node_in Second dim (page_of other page))) (Err (Outside page))
    by_test true same = ap (λ (b : List ℕ). judged page (fault_in Second dim b) (node_in Second dim b)) (same refl)
    by_test false same = refl

pub same_records : (dim n : ℕ) (file : List ℕ) (ps : List CarriedPage) (records : List Record) → AllOwn file ps → AllCarried ps records → SameOn (reading dim n (carried_file n ps)) (reading dim n file) records
same_records dim n file ps [] own all = tt
same_records dim n file ps (r ∷ rs) own all = (same_reading dim n (carried_file n ps) file r.page (same_page_of file n ps r.page own all.0), same_records dim n file ps rs own all.1)

-- ---- the first three pages

behind-first : (pages : ℕ) (p : CarriedPage) → may_follow pages None p.page ≡ true → p.page ≡ 0
behind-first pages p follows = eqb-true p.page 0 (and-both (nat_lt p.page pages) (is_behind None p.page) follows).1

behind-next : (pages last : ℕ) (p : CarriedPage) → last < 2 → may_follow pages (Some last) p.page ≡ true → p.page ≡ last + 1
behind-next pages last p few follows =
    told (nat_lt last 2) (p.page == last + 1) (nat_lt last p.page) (lt-ltb last 2 few) (eqb-true p.page (last + 1)) (and-both (nat_lt p.page pages) (is_behind (Some last) p.page) follows).1
  where
    told : {P : Type 0} (small next other : Bool) → small ≡ true → (next ≡ true → P) → cond small next other ≡ true → P
    told true next other e h is = h is
    told false next other e h is = absurd cc

first_three : (pages : ℕ) (ps : List CarriedPage) (page : ℕ) → AreInPlace pages None ps → 3 ≤ length ps → page < 3 → is_carried ps page ≡ true
first_three pages [] page placed some few = absurd (omega arith)
first_three pages (a ∷ []) page placed some few = absurd (omega arith)
first_three pages (a ∷ b ∷ []) page placed some few = absurd (omega arith)
first_three pages (a ∷ b ∷ c ∷ ps) page placed some few =
    let a-is = behind-first pages a placed.0 in
    let b-is = behind-next pages a.page b (omega (arith, a-is)) placed.1.0 in
    let c-is = behind-next pages b.page c (omega (arith, a-is, b-is)) placed.1.1.0 in
    one_of (a.page == page) (b.page == page) (c.page == page) (is_carried ps page) (λ na nb nc. omega (arith, eqb-false a.page page na, eqb-false b.page page nb, eqb-false c.page page nc, a-is, b-is, c-is))
  where
    one_of : (a b c others : Bool) → (a ≡ false → b ≡ false → c ≡ false → ⊥) → a || (b || (c || others)) ≡ true
    one_of true b c others never = refl
    one_of false true c others never = refl
    one_of false false true others never = refl
    one_of false false false others never = absurd (never refl refl refl)

pub carried_front : (c : CarriedLog) (page : ℕ) → IsCarried c → page < 3 → is_carried c.carried page ≡ true
carried_front c page is few = first_three c.live.pages c.carried page is.parts.in_place is.parts.some few

-- a file with the same first three pages that is long enough opens as the carried file does
pub opens_too : (c : CarriedLog) (file : List ℕ) → IsCarried c → AllOwn file c.carried → 4096 * c.live.pages ≤ length file → OpensTo file c.head c.live
opens_too c file is own room =
    let same = λ (page : ℕ) (few : page < 3). same_page_of file c.live.pages c.carried page own (carried_front c page is few) (enough page few) in
    let zeroth : page_of (file_of c) 0 ≡ page_of file 0 = same 0 (omega arith) in
    let first : page_of (file_of c) 1 ≡ page_of file 1 = same 1 (omega arith) in
    let second : page_of (file_of c) 2 ≡ page_of file 2 = same 2 (omega arith) in
    let slots = opens_live (file_of c) c.live.pages c.head c.live is.opens refl in
    let here = subst (λ (b : List ℕ). IsLiveOf (page_of file 1) b c.head.limit c.live.pages c.live) second (subst (λ (a : List ℕ). IsLiveOf a (page_of (file_of c) 2) c.head.limit c.live.pages c.live) first slots) in
    (live_opens file c.live.pages c.head c.live room (omega (arith, enough 2)) (subst (λ (p : List ℕ). SpellsHead p c.head) zeroth is.opens.spells_head) here).0
  where
    enough : (page : ℕ) → page < 3 → page < c.live.pages
    enough page few = let low = is.opens.valid.low_pages in omega arith

-- ---- the answers

shows_own : (s : Space) (c : CarriedLog) (file : List ℕ) (head : Head) (live : Live) → IsSpace s → IsCarried c → judged_fault s c ≡ None → IsSoundFile s head live file → c.live.pages ≡ live.pages → AllOwn file c.carried
    → c.log.answers ≡ scan_answers s c.log.query (points_in head.dim live file)
unfolding judged_fault
shows_own s c file head live space is none sound count own =
    let both = first-none (missing_from c.carried c.log.records 0) (after_verdict (log_fault s (reading c.head.dim c.live.pages (file_of c)) c.live c.log)) none in
    let opens = opens_too c file is own (omega (arith, sound.opens.valid.room, count)) in
    let head-is : c.head ≡ head = sym (head_is (page_of file 0) c.head opens.spells_head) ∙ head_is (page_of file 0) head sound.opens.spells_head in
    let live-is : c.live ≡ live = sym (live_is file c.head c.live opens) ∙ live_is file head live sound.opens in
    let same = same_records c.head.dim c.live.pages file c.carried c.log.records own (none-missing c.carried c.log.records 0 both.0) in
    let judged = sym (same_verdict s (reading c.head.dim c.live.pages (file_of c)) (reading c.head.dim c.live.pages file) c.live c.log same)
    ∙ verdict-none (log_fault s (reading c.head.dim c.live.pages (file_of c)) c.live c.log) both.1 in
    let here = subst (λ (l : Live). log_fault s (reading head.dim l.pages file) l c.log ≡ None) live-is (subst (λ (h : Head). log_fault s (reading h.dim c.live.pages file) c.live c.log ≡ None) head-is judged) in
    sound_complete s (nodes_in head.dim live file) live c.log space sound.tree (sound_from_none s (reading head.dim live.pages file) live c.log here)

pub shows : (s : Space) (c : CarriedLog) → IsSpace s → IsCarried c → judged_fault s c ≡ None → ShowsAnswers s c
unfolding hashed_in
shows s c space is none file head live sound root =
    let below = pages-below c.live.pages None c.carried is.parts.in_place in
    let paths = subst (λ (r : List ℕ). path_fault r c.live.pages c.carried ≡ None) (sym root) is.paths in
    let small : live.pages < 2 ^ 32 = omega (arith, sound.opens.valid.high_pages) in
    told file head live sound (count_own file live.pages c.live.pages c.carried (omega (arith, is.parts.some)) below is.parts.pages small paths) (pages_own file live.pages c.live.pages c.carried below is.parts.pages small paths)
  where
    told : (file : List ℕ) (head : Head) (live : Live) → IsSoundFile s head live file → (c.live.pages ≡ live.pages) ⊎ Collide (hashed_for file live.pages) (shown_by c.live.pages c.carried) → AllOwn file c.carried ⊎ Collide (hashed_for file live.pages) (shown_by c.live.pages c.carried)
        → (c.log.answers ≡ scan_answers s c.log.query (points_in head.dim live file)) ⊎ Collide (hashed_for file live.pages) (shown_by c.live.pages c.carried)
    told file head live sound (inl count) (inl own) = inl (shows_own s c file head live space is none sound count own)
    told file head live sound (inr found) own = inr found
    told file head live sound (inl count) (inr found) = inr found

-- ---- what a call answered

pub missing-first : (s : Space) (c : CarriedLog) (fault : ProofFault) → missing_from c.carried c.log.records 0 ≡ Some fault → judged_fault s c ≡ Some fault
unfolding judged_fault
missing-first s c fault is = rw is refl

pub verdict-next : (s : Space) (c : CarriedLog) (verdict : Verdict) → missing_from c.carried c.log.records 0 ≡ None → log_fault s (reading c.head.dim c.live.pages (file_of c)) c.live c.log ≡ Some verdict → judged_fault s c ≡ Some (faults.Verdict verdict)
unfolding judged_fault
verdict-next s c verdict none is = rw (none, is) refl

pub judged-none : (s : Space) (c : CarriedLog) → missing_from c.carried c.log.records 0 ≡ None → log_fault s (reading c.head.dim c.live.pages (file_of c)) c.live c.log ≡ None → judged_fault s c ≡ None
unfolding judged_fault
judged-none s c none is = rw (none, is) refl

-- a verdict on carried pages, which tell and don't fail, is the first fault
pub verdict_told : (s : Space) (c : CarriedLog) (asked dim n again : ℕ) (file : List ℕ) (verdict : Verdict) → missing_from c.carried c.log.records 0 ≡ None
    → HasCause (image_shelf c.head.dim c.live.pages (file_of c) asked) (image_shelf dim n file again) verdict (log_fault s (reading c.head.dim c.live.pages (file_of c)) c.live c.log ≡ Some verdict)
    → (fault_by verdict ≡ faults.Memory) ⊎ (judged_fault s c ≡ Some (fault_by verdict))
verdict_told s c asked dim n again file verdicts.Memory none cause = inl refl
verdict_told s c asked dim n again file (verdicts.Page pages.Disk) none cause = absurd (let never : ⊥ = omega (arith, cause) in never)
verdict_told s c asked dim n again file (verdicts.Page (pages.Bad page fault)) none cause = inr (verdict-next s c (verdicts.Page (pages.Bad page fault)) none (cause.1 refl))
verdict_told s c asked dim n again file (verdicts.Page (pages.Outside page)) none cause = inr (verdict-next s c (verdicts.Page (pages.Outside page)) none (cause.1 refl))
verdict_told s c asked dim n again file (verdicts.Page pages.Memory) none cause = absurd cause
verdict_told s c asked dim n again file (verdicts.Page (pages.Repeats page)) none cause = absurd cause
verdict_told s c asked dim n again file (verdicts.Page (pages.Level page)) none cause = absurd cause
verdict_told s c asked dim n again file (verdicts.OtherState named live) none cause = inr (verdict-next s c (verdicts.OtherState named live) none (cause refl))
verdict_told s c asked dim n again file verdicts.Point none cause = inr (verdict-next s c verdicts.Point none (cause refl))
verdict_told s c asked dim n again file (verdicts.WrongPage r) none cause = inr (verdict-next s c (verdicts.WrongPage r) none (cause refl))
verdict_told s c asked dim n again file (verdicts.WrongCount r) none cause = inr (verdict-next s c (verdicts.WrongCount r) none (cause refl))
verdict_told s c asked dim n again file (verdicts.WrongMark r e) none cause = inr (verdict-next s c (verdicts.WrongMark r e) none (cause refl))
verdict_told s c asked dim n again file (verdicts.WrongAnswer r) none cause = inr (verdict-next s c (verdicts.WrongAnswer r) none (cause refl))
verdict_told s c asked dim n again file (verdicts.LeftOver r) none cause = inr (verdict-next s c (verdicts.LeftOver r) none (cause refl))

-- the same for the carried live slot, log and metric
pub verdict_of : {M : Type 0} (space : M → Space) (m metric : M) (live : Live) (log : Log) (c : CarriedLog) (asked dim n again : ℕ) (file : List ℕ) (verdict : Verdict) → m ≡ metric → live ≡ c.live → log ≡ c.log → missing_from c.carried c.log.records 0 ≡ None
    → HasCause (image_shelf c.head.dim c.live.pages (file_of c) asked) (image_shelf dim n file again) verdict (log_fault (space m) (reading c.head.dim c.live.pages (file_of c)) live log ≡ Some verdict)
    → (fault_by verdict ≡ faults.Memory) ⊎ (judged_fault (space metric) c ≡ Some (fault_by verdict))
verdict_of {M} space m metric live log c asked dim n again file verdict same-metric same-live same-log none cause =
    verdict_told (space metric) c asked dim n again file verdict none
    (subst (λ (l : Log). HasCause (image_shelf c.head.dim c.live.pages (file_of c) asked) (image_shelf dim n file again) verdict (log_fault (space metric) (reading c.head.dim c.live.pages (file_of c)) c.live l ≡ Some verdict)) same-log
    (subst (λ (v : Live). HasCause (image_shelf c.head.dim c.live.pages (file_of c) asked) (image_shelf dim n file again) verdict (log_fault (space metric) (reading c.head.dim c.live.pages (file_of c)) v log ≡ Some verdict)) same-live
    (subst (λ (x : M). HasCause (image_shelf c.head.dim c.live.pages (file_of c) asked) (image_shelf dim n file again) verdict (log_fault (space x) (reading c.head.dim c.live.pages (file_of c)) live log ≡ Some verdict)) same-metric cause)))
