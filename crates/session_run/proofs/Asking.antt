-- What a query of a session answers.
use Rattle.std.proofs.Common.{◌≡◌, ℕ, ◌+◌, ◌≤◌, Bool, true, false, List, ◌++◌, length, min, refl, sym, ap, subst, ◌∙◌, arith, Option, Some, None, Result, Ok, Err}
use Rattle.std.specs.Prelude.{MatchOption, IfErr, codes, flat_map}
use Rattle.metric_laws.specs.Space.{Space, bound}
use Rattle.outside_io.specs.Causes.{Rose}
use Rattle.disk_model.specs.Disk.{DiskState}
use Rattle.scan_model.specs.declared.hit.Hit.{Hit}
use Rattle.scan_model.specs.declared.query.Query.{Query}
use Rattle.rows_text.specs.declared.command.Command.{Command}
use Rattle.rows_text.specs.declared.reply.Reply.TheVariants as reply
use Rattle.rows_text.specs.Meaning.{Holdings, hits_reply, step, tags_of, TagsAre}
use Rattle.rows_text.specs.Texts.{counted, hit_line, text}
use Rattle.plain_scan.specs.OpenCursors.{OpenCursors}
use Rattle.page_store.specs.declared.pages.PageFault.{PageFault}
use Rattle.page_store.specs.declared.pages.PageFault.TheVariants as page
use Rattle.log_model.specs.declared.logs.Found.{Found}
use Rattle.log_model.specs.Grammar.{IsValidLog, query_point}
use Rattle.log_model.specs.Laws.{scan_answers}
use Rattle.log_model.proofs.Published.{least_sound}
use Rattle.hit_tags.proofs.Published.{shown_tags}
use Rattle.range_search.specs.Searched.{HasWalkCause}
use Rattle.nearest_search.specs.Searched.{HasNearestCause}
use Rattle.metric_laws.specs.Counts.{count_up}
use Rattle.log_model.specs.Walk.{search_at}
use Rattle.index_core.specs.declared.faults.IndexFault.{IndexFault}
use Rattle.index_core.specs.declared.faults.IndexFault.TheVariants as fault
use Rattle.index_core.specs.Answers.{HasRangeCause, HasReachCause, HasSearched, IsSoundOn, points_on}
use Rattle.page_store.specs.Shelf.{IsDamage as IsWalkDamage}
use Rattle.index_core.specs.Causes.{HasReadCause, MayComeAnytime}
use Rattle.index_core.specs.Damage.{BlamesDamage}
use Rattle.index_core.specs.Files.{IsValidFile, OnlyReads, nodes_on, pages_on}
use Rattle.index_core.specs.Index.{OpenIndex, StandsAlone}
use Rattle.session_run.specs.declared.answer.Answer.{Answer}
use Rattle.session_run.specs.declared.stop.SessionStop.{SessionStop}
use Rattle.session_run.specs.Session.{IsDamage, records_in, setting_of, state_on}
use Rattle.session_run.specs.Steps.{HasStepCause, HasStepped, IsShownAs, answer_of_fault}
use Rattle.answer_texts.specs.Answered.{if_any}
use Rattle.answer_texts.specs.Asked.{HasLog, answered_query}
use Rattle.session_run.specs.Turns.{held_on}
use Rattle.session_run.proofs.Faults.{blames_stands}
use Rattle.session_run.proofs.Reading.{read_stepped, read_stopped, read_taken}

-- what ends a walk ends the session with the same cause
pub fault_cause : {Sound : Type 0} (before after : DiskState) (walk : PageFault → Type 0) (why : IndexFault) → HasReadCause walk why → (walk page.Disk → Rose before.faults after.faults) →
    (Sound → MayComeAnytime why) → IfErr (answer_of_fault why) (HasStepCause Sound before after)
fault_cause before after walk fault.Disk cause rose undamaged = rose cause
fault_cause before after walk (fault.Damaged f) cause rose undamaged = (damage f cause.0, λ sound. undamaged sound)
  where
    damage : (f : PageFault) → IsWalkDamage f → IsDamage f
    damage (page.Bad p n) is = tt
    damage (page.Outside p) is = tt
    damage (page.Repeats p) is = tt
    damage (page.Level p) is = absurd is
    damage page.Disk is = absurd is
    damage page.Memory is = absurd is
fault_cause before after walk fault.Memory cause rose undamaged = tt
fault_cause before after walk fault.Full cause rose undamaged = absurd cause
fault_cause before after walk fault.NotEmpty cause rose undamaged = absurd cause
fault_cause before after walk (fault.NoRoom pages needed) cause rose undamaged = absurd cause
fault_cause before after walk fault.Worn cause rose undamaged = absurd cause
fault_cause before after walk fault.Stopped cause rose undamaged = absurd cause
fault_cause before after walk fault.Commit cause rose undamaged = absurd cause

-- a fault that ends the session gives no answer
pub fault_ends : (walk : PageFault → Type 0) (why : IndexFault) → HasReadCause walk why → (end : SessionStop) × (answer_of_fault why ≡ Err end)
fault_ends walk fault.Disk cause = (_, refl)
fault_ends walk (fault.Damaged f) cause = (_, refl)
fault_ends walk fault.Memory cause = (_, refl)
fault_ends walk fault.Full cause = absurd cause
fault_ends walk fault.NotEmpty cause = absurd cause
fault_ends walk (fault.NoRoom pages needed) cause = absurd cause
fault_ends walk fault.Worn cause = absurd cause
fault_ends walk fault.Stopped cause = absurd cause
fault_ends walk fault.Commit cause = absurd cause

pub fault_stepped : {M : Type 0} (s : Space) (show : Bool) (old new : OpenIndex M) (cursors : OpenCursors) (before after : DiskState) (c : Command) (walk : PageFault → Type 0) (why : IndexFault) →
    IsValidFile s.dimension old.file → StandsAlone old before → OnlyReads old.file new.file before after → HasReadCause walk why → (walk page.Disk → Rose before.faults after.faults) →
    (IsSoundOn s old.file before → MayComeAnytime why) → BlamesDamage old.file before why → HasStepped s show old new cursors cursors before after c (answer_of_fault why)
fault_stepped s show old new cursors before after c walk why valid alone reads cause rose undamaged blames =
    let ends = fault_ends walk why cause in
    let is = fault_cause {Sound = IsSoundOn s old.file before} before after walk why cause rose undamaged in
    let stands = blames_stands old.file before after alone.stands.opens reads.same.same_known why (λ f e. reads.same.same_bytes) blames in
    subst (λ (r : Result Answer SessionStop). HasStepped s show old new cursors cursors before after c r) (sym ends.1)
    (read_stopped s show old new cursors cursors before after c ends.0 valid alone reads (rw ends.1 at is) (rw ends.1 at stands))

-- hits have one text, shown with the same tags, or hidden
same_text : (show : Bool) (hits scanned : List Hit) (tags meant : List ℕ) → hits ≡ scanned → (show ≡ true → tags ≡ meant) → text show (reply.Hits hits tags) ≡ text show (reply.Hits scanned meant)
same_text true hits scanned tags meant same shown = (λ i. text true (reply.Hits (same i) (shown refl i)))
same_text false hits scanned tags meant same shown = (λ i. counted (codes "hits ") (length (same i)) ++ flat_map hit_line (same i))

-- a query that is answered
pub query_stepped : {M : Type 0} (s : Space) (show : Bool) (old new : OpenIndex M) (cursors : OpenCursors) (before after : DiskState) (c : Command) (asked : Query) (found : Found) (a : Answer) →
    IsValidFile s.dimension old.file → StandsAlone old before → new.stopped ≡ false → OnlyReads old.file new.file before after → HasSearched s old.file asked before after (Ok found) → IsShownAs show found a →
    answered_query s c ≡ Some asked →
    step (setting_of s old.file) (state_on old.file before cursors) c
    ≡ record { reply = hits_reply (state_on old.file before cursors).objects (scan_answers s asked (points_on old.file before)); state = state_on old.file before cursors } →
    HasStepped s show old new cursors cursors before after c (Ok a)
query_stepped {M} s show old new cursors before after c asked found a valid alone going reads searched shown answered meaning =
    read_stepped s show old new cursors cursors before after c a valid alone going reads
    (subst (λ (x : Answer). MatchOption x.log (Unit {0}) IsValidLog) (sym shown.is) searched.log.valid)
    (λ asks. subst (λ (x : Answer). TagsAre x.reply) (sym shown.is) (shown.each asks))
    (λ sound. read_taken s show old new.file cursors cursors before after c a None (hits_reply objects (scan_answers s asked objects.points)) valid alone reads sound meaning refl tt (logged sound) (same sound)
    (λ asks. subst (λ (x : Answer). after.reads ≤ before.reads + records_in (if_any x.log)) (sym shown.is) (let few = (searched.answer sound).reads in omega (arith, few))))
  where
    objects : Holdings
    objects = (state_on old.file before cursors).objects

    logged : IsSoundOn s old.file before → HasLog s (held_on old.file before) (answered_query s c) a.log
    logged sound = subst (λ (q : Option Query). HasLog s (held_on old.file before) q a.log) (sym answered)
        (subst (λ (x : Answer). HasLog s (held_on old.file before) (Some asked) x.log) (sym shown.is) (searched.answer sound).least)

    own_tags : IsSoundOn s old.file before → show ≡ true → shown.tags ≡ tags_of objects (scan_answers s asked objects.points)
    own_tags sound asks =
        shown.met asks s (query_point asked) (nodes_on old.file before) old.file.live (searched.tagged sound.0)
        ∙ shown_tags s (nodes_on old.file before) old.file.live found (record {
          tree = sound.1;
          log = least_sound s (nodes_on old.file before) old.file.live asked found.log (searched.answer sound).least;
          hits_are = searched.log.hits_are;
        })
        ∙ ap (λ (hits : List Hit). tags_of objects hits) (searched.answer sound).hits

    same : IsSoundOn s old.file before → text show a.reply ≡ text show (hits_reply objects (scan_answers s asked objects.points))
    same sound = ap (λ (x : Answer). text show x.reply) shown.is
        ∙ same_text show found.hits (scan_answers s asked objects.points) shown.tags (tags_of objects (scan_answers s asked objects.points)) (searched.answer sound).hits (own_tags sound)

-- a search that was refused
pub range_fault : {M : Type 0} (s : Space) (show : Bool) (old new : OpenIndex M) (cursors : OpenCursors) (before after : DiskState) (c : Command) (q : List ℕ) (r : ℕ) (why : IndexFault) →
    IsValidFile s.dimension old.file → StandsAlone old before → OnlyReads old.file new.file before after → HasRangeCause s old.file q r before after why → (IsSoundOn s old.file before → MayComeAnytime why) → BlamesDamage old.file before why →
    HasStepped s show old new cursors cursors before after c (answer_of_fault why)
range_fault s show old new cursors before after c q r why valid alone reads cause undamaged blames = fault_stepped s show old new cursors before after c
    (HasWalkCause (search_at s q (min r bound)) old.file.live (pages_on old.file before 0) (pages_on old.file after (count_up 0 old.file.live.pages))) why valid alone reads cause (λ rose. rose) undamaged blames

pub reach_fault : {M : Type 0} (s : Space) (show : Bool) (old new : OpenIndex M) (cursors : OpenCursors) (before after : DiskState) (c : Command) (why : IndexFault) →
    IsValidFile s.dimension old.file → StandsAlone old before → OnlyReads old.file new.file before after → HasReachCause old.file before after why → (IsSoundOn s old.file before → MayComeAnytime why) → BlamesDamage old.file before why →
    HasStepped s show old new cursors cursors before after c (answer_of_fault why)
reach_fault s show old new cursors before after c why valid alone reads cause undamaged blames = fault_stepped s show old new cursors before after c
    (HasNearestCause old.file.live (pages_on old.file before 0) (pages_on old.file after (count_up 0 old.file.live.pages))) why valid alone reads cause (λ rose. rose) undamaged blames
