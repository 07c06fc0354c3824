-- Loads of a session, by what the index says of them.
use Rattle.std.proofs.Common.{◌≡◌, ◌≢◌, ℕ, ◌-◌, ◌^◌, ◌≤◌, Bool, true, false, List, length, refl, sym, ap, subst, ◌∙◌, arith, Option, Some, None, Result, Ok, Err}
use Rattle.std.specs.Prelude.{IsTrue, IfErr, nat_lt, ◌==◌}
use Rattle.metric_laws.specs.Space.{Space}
use Rattle.disk_model.specs.Disk.{DiskState}
use Rattle.metric_laws.specs.Rows.{Table}
use Rattle.rows_text.specs.declared.command.Command.{Command}
use Rattle.rows_text.specs.declared.command.Command.TheVariants as command
use Rattle.rows_text.specs.declared.refusal.Refusal.TheVariants as refusal
use Rattle.rows_text.specs.declared.reply.Reply.TheVariants as reply
use Rattle.rows_text.specs.Meaning.{State, Step, execute, has_points_of, load_step, step}
use Rattle.plain_scan.specs.OpenCursors.{OpenCursors, with_cursors}
use Rattle.page_store.specs.declared.pages.PageFault.{PageFault}
use Rattle.index_core.specs.declared.faults.IndexFault.{IndexFault}
use Rattle.index_core.specs.declared.faults.IndexFault.TheVariants as fault
use Rattle.index_core.specs.Answers.{IsSoundOn, points_on}
use Rattle.index_core.specs.Causes.{BlamesNoPage}
use Rattle.index_core.specs.Damage.{BlamesDamage}
use Rattle.index_core.specs.Files.{IsValidFile}
use Rattle.index_core.specs.Index.{OpenIndex, StandsAlone}
use Rattle.index_core.specs.Loading.{HasLoadingCause, ids, load_fault}
use Rattle.index_core.specs.Writing.{Loads, HasWritten}
use Rattle.session_run.specs.Session.{setting_of, state_on}
use Rattle.session_run.specs.Steps.{HasStepCause, HasStepped, answer_of_fault, written_answer}
use Rattle.answer_texts.specs.Asked.{answered_query, query_of}
use Rattle.session_run.specs.Turns.{Hinders, held_on, write_of}
use Rattle.session_run.proofs.Faults.{result_stands}
use Rattle.session_run.proofs.Inserts.{count_is, ids_are, walk_damage}
use Rattle.session_run.proofs.Writes.{write_stepped}

some_of : (n count : ℕ) → n ≡ count → (count == 0) ≡ false → nat_lt 0 n ≡ true
some_of n count is some = grind arith

zero_of : (n count : ℕ) → n ≡ count → (count == 0) ≡ true → nat_lt 0 n ≡ false
zero_of n count is none = grind arith

last_of : (n last : ℕ) → (n == last) ≡ true → n ≡ last
last_of n last is = grind arith

module _ {M : Type 0} (s : Space) (show : Bool) (old new : OpenIndex M) (cursors : OpenCursors) (before after : DiskState) (c : Command) (rows : List (List ℕ)) (labels : List ℕ)
    (valid : IsValidFile s.dimension old.file) (alone : StandsAlone old before) (going : old.stopped ≡ false) (told : after.is_known ≡ before.is_known) (later : before.faults ≤ after.faults) where
  count_on : length (points_on old.file before) ≡ old.file.live.count
  count_on = count_is s show old new cursors before after c valid alone going told later

  filled_fault : (old.file.live.count == 0) ≡ false → load_fault old (length rows) ≡ Some fault.NotEmpty
  filled_fault some = rw (going, some) refl

  full_fault : (old.file.live.count == 0) ≡ true → nat_lt old.file.head.limit (length rows) ≡ true → load_fault old (length rows) ≡ Some fault.Full
  full_fault none many = rw (going, none, many) refl

  worn_fault : (old.file.live.count == 0) ≡ true → nat_lt old.file.head.limit (length rows) ≡ false → (old.file.live.generation == 2 ^ 48 - 1) ≡ true → load_fault old (length rows) ≡ Some fault.Worn
  worn_fault none few last = rw (going, none, few, last) refl

  no_fault : (old.file.live.count == 0) ≡ true → nat_lt old.file.head.limit (length rows) ≡ false → (old.file.live.generation == 2 ^ 48 - 1) ≡ false → load_fault old (length rows) ≡ None
  no_fault none few more = rw (going, none, few, more) refl

  abbrev state : State
  state = state_on old.file before cursors

  abbrev loaded_step : Step
  loaded_step = record { reply = reply.Loaded (length rows); state = with_cursors (record { points = rows; tags = labels }) cursors }

  -- ---- by the meaning
  some_objects : (old.file.live.count == 0) ≡ false → load_step old.file.head.limit state rows labels ≡ record { reply = reply.Refused refusal.NotEmpty; state = state }
  some_objects some = let more : nat_lt 0 (length (points_on old.file before)) ≡ true = some_of (length (points_on old.file before)) old.file.live.count count_on some in rw more refl

  too_many : (old.file.live.count == 0) ≡ true → nat_lt old.file.head.limit (length rows) ≡ true → load_step old.file.head.limit state rows labels ≡ record { reply = reply.Refused refusal.Full; state = state }
  too_many none many = let no : nat_lt 0 (length (points_on old.file before)) ≡ false = zero_of (length (points_on old.file before)) old.file.live.count count_on none in rw (no, many) refl

  accepted : (old.file.live.count == 0) ≡ true → nat_lt old.file.head.limit (length rows) ≡ false → load_step old.file.head.limit state rows labels ≡ loaded_step
  accepted none few = let no : nat_lt 0 (length (points_on old.file before)) ≡ false = zero_of (length (points_on old.file before)) old.file.live.count count_on none in rw (no, few) refl

  load_cause : (why : IndexFault) → (load_fault old (length rows) ≡ None → HasLoadingCause s old rows labels before after.faults why) → (load_fault old (length rows) ≡ None) →
      (IsSoundOn s old.file before → BlamesNoPage why) → IfErr (answer_of_fault why) (HasStepCause (IsSoundOn s old.file before) before after)
  load_cause fault.Disk cause none undamaged = (cause none).1
  load_cause (fault.Damaged f) cause none undamaged = (walk_damage f (cause none).1.0, undamaged)
  load_cause fault.Memory cause none undamaged = tt
  load_cause fault.Full cause none undamaged = tt
  load_cause fault.NotEmpty cause none undamaged = tt
  load_cause (fault.NoRoom pages needed) cause none undamaged = tt
  load_cause fault.Worn cause none undamaged = tt
  load_cause fault.Stopped cause none undamaged = absurd (cause none).1
  load_cause fault.Commit cause none undamaged = cause none

  hinders : (pages needed : ℕ) → HasLoadingCause s old rows labels before after.faults (fault.NoRoom pages needed) → Hinders s old.file.head (held_on old.file before) refusal.NoRoom (Loads rows labels)
  hinders pages needed (f, is, (other, at, exact, over)) = (length f.free, rw (at, exact) at over)

  -- a load
  pub load_stepped : (result : Result ℕ IndexFault) → HasWritten s (Loads rows labels) old new before after result →
      ((why : IndexFault) → load_fault old (length rows) ≡ Some why → result ≡ Err why) →
      (load_fault old (length rows) ≡ None → IfErr result (HasLoadingCause s old rows labels before after.faults)) →
      IfErr result (λ why. IsSoundOn s old.file before → BlamesNoPage why) → IfErr result (BlamesDamage old.file before) →
      write_of old.file.live.count c ≡ Some (Loads rows labels) → answered_query s c ≡ None →
      step (setting_of s old.file) state c ≡ load_step old.file.head.limit state rows labels →
      HasStepped s show old new cursors cursors before after c (written_answer (λ count. reply.Loaded count) result)
  load_stepped result written refused cause undamaged blames writes unasked meaning =
      write_stepped s show old new cursors before after c (Loads rows labels) (λ count. reply.Loaded count) valid alone going result written (record {
        writes = writes;
        unasked = unasked;
        accepting = λ room filled. meaning ∙ accepting room filled (old.file.live.count == 0) refl (nat_lt old.file.head.limit (length rows)) refl;
        full = λ is. meaning ∙ full is (old.file.live.count == 0) refl (nat_lt old.file.head.limit (length rows)) refl (old.file.live.generation == 2 ^ 48 - 1) refl;
        filled = λ is. meaning ∙ filled is (old.file.live.count == 0) refl (nat_lt old.file.head.limit (length rows)) refl (old.file.live.generation == 2 ^ 48 - 1) refl;
        worn = λ is. worn is (old.file.live.count == 0) refl (nat_lt old.file.head.limit (length rows)) refl (old.file.live.generation == 2 ^ 48 - 1) refl;
        room = λ pages needed is sound. room pages needed is (load_fault old (length rows)) refl;
        cause = causes result refl (load_fault old (length rows)) refl;
        stands = result_stands old.file before after alone.stands.opens told result unchanged blames;
        accepts_says = λ n. refl;
        tags_says = λ n. tt;
        is_known = told;
        later = later;
      })
    where
      accepting : result ≢ Err fault.Full → result ≢ Err fault.NotEmpty → (none : Bool) → (old.file.live.count == 0) ≡ none → (many : Bool) → nat_lt old.file.head.limit (length rows) ≡ many →
          load_step old.file.head.limit state rows labels ≡ loaded_step
      accepting room filled false n many m = absurd (filled (refused fault.NotEmpty (filled_fault n)))
      accepting room filled true n true m = absurd (room (refused fault.Full (full_fault n m)))
      accepting room filled true n false m = accepted n m

      full : result ≡ Err fault.Full → (none : Bool) → (old.file.live.count == 0) ≡ none → (many : Bool) → nat_lt old.file.head.limit (length rows) ≡ many → (last : Bool) →
          (old.file.live.generation == 2 ^ 48 - 1) ≡ last → load_step old.file.head.limit state rows labels ≡ record { reply = reply.Refused refusal.Full; state = state }
      full is false n many m last l = absurd (let e = sym is ∙ refused fault.NotEmpty (filled_fault n) in cc)
      full is true n true m last l = too_many n m
      full is true n false m true l = absurd (let e = sym is ∙ refused fault.Worn (worn_fault n m l) in cc)
      full is true n false m false l = let no = rw is at cause (no_fault n m l) in absurd (no.1)

      filled : result ≡ Err fault.NotEmpty → (none : Bool) → (old.file.live.count == 0) ≡ none → (many : Bool) → nat_lt old.file.head.limit (length rows) ≡ many → (last : Bool) →
          (old.file.live.generation == 2 ^ 48 - 1) ≡ last → load_step old.file.head.limit state rows labels ≡ record { reply = reply.Refused refusal.NotEmpty; state = state }
      filled is false n many m last l = some_objects n
      filled is true n true m last l = absurd (let e = sym is ∙ refused fault.Full (full_fault n m) in cc)
      filled is true n false m true l = absurd (let e = sym is ∙ refused fault.Worn (worn_fault n m l) in cc)
      filled is true n false m false l = let no = rw is at cause (no_fault n m l) in absurd (no.1)

      worn : result ≡ Err fault.Worn → (none : Bool) → (old.file.live.count == 0) ≡ none → (many : Bool) → nat_lt old.file.head.limit (length rows) ≡ many → (last : Bool) →
          (old.file.live.generation == 2 ^ 48 - 1) ≡ last → old.file.live.generation ≡ 2 ^ 48 - 1
      worn is false n many m last l = absurd (let e = sym is ∙ refused fault.NotEmpty (filled_fault n) in cc)
      worn is true n true m last l = absurd (let e = sym is ∙ refused fault.Full (full_fault n m) in cc)
      worn is true n false m true l = last_of old.file.live.generation (2 ^ 48 - 1) l
      worn is true n false m false l = let no = rw is at cause (no_fault n m l) in absurd (no.1)

      room : (pages needed : ℕ) → result ≡ Err (fault.NoRoom pages needed) → (f : Option IndexFault) → load_fault old (length rows) ≡ f →
          Hinders s old.file.head (held_on old.file before) refusal.NoRoom (Loads rows labels)
      room pages needed is None l = hinders pages needed (rw is at cause l)
      room pages needed is (Some why) l = absurd (only why l)
        where
          only : (why : IndexFault) → load_fault old (length rows) ≡ Some why → ⊥
          only why l = by_cases (old.file.live.count == 0) refl (nat_lt old.file.head.limit (length rows)) refl (old.file.live.generation == 2 ^ 48 - 1) refl
            where
              by_cases : (none : Bool) → (old.file.live.count == 0) ≡ none → (many : Bool) → nat_lt old.file.head.limit (length rows) ≡ many → (last : Bool) → (old.file.live.generation == 2 ^ 48 - 1) ≡ last → ⊥
              by_cases false n many m last e = let x = sym is ∙ refused fault.NotEmpty (filled_fault n) in cc
              by_cases true n true m last e = let x = sym is ∙ refused fault.Full (full_fault n m) in cc
              by_cases true n false m true e = let x = sym is ∙ refused fault.Worn (worn_fault n m e) in cc
              by_cases true n false m false e = let x = sym l ∙ no_fault n m e in cc

      unchanged : (f : PageFault) → result ≡ Err (fault.Damaged f) → after.bytes ≡ before.bytes
      unchanged f is = let done : HasWritten s (Loads rows labels) old new before after (Err (fault.Damaged f)) = subst (HasWritten s (Loads rows labels) old new before after) is written in
          (done.refused (λ e. absurd (cc))).same.same_bytes

      causes : (r : Result ℕ IndexFault) → result ≡ r → (f : Option IndexFault) → load_fault old (length rows) ≡ f → IfErr r (λ why. IfErr (answer_of_fault why) (HasStepCause (IsSoundOn s old.file before) before after))
      causes (Ok n) is f l = tt
      causes (Err why) is None l = load_cause why (λ none. rw is at cause none) l (rw is at undamaged)
      causes (Err why) is (Some g) l = once (old.file.live.count == 0) refl (nat_lt old.file.head.limit (length rows)) refl (old.file.live.generation == 2 ^ 48 - 1) refl
        where
          free : (h : IndexFault) → result ≡ Err h → IfErr (answer_of_fault h) (HasStepCause (IsSoundOn s old.file before) before after) → IfErr (answer_of_fault why) (HasStepCause (IsSoundOn s old.file before) before after)
          free h e has = let same : why ≡ h = (let x = sym is ∙ e in cc) in rw same has

          once : (none : Bool) → (old.file.live.count == 0) ≡ none → (many : Bool) → nat_lt old.file.head.limit (length rows) ≡ many → (last : Bool) → (old.file.live.generation == 2 ^ 48 - 1) ≡ last →
              IfErr (answer_of_fault why) (HasStepCause (IsSoundOn s old.file before) before after)
          once false n many m last e = free fault.NotEmpty (refused fault.NotEmpty (filled_fault n)) tt
          once true n true m last e = free fault.Full (refused fault.Full (full_fault n m)) tt
          once true n false m true e = free fault.Worn (refused fault.Worn (worn_fault n m e)) tt
          once true n false m false e = absurd (let x = sym l ∙ no_fault n m e in cc)

-- the commands `load` and `tload`
module _ {M : Type 0} (s : Space) (show : Bool) (old new : OpenIndex M) (cursors : OpenCursors) (before after : DiskState) (c : Command) (rows : Table) (valid : IsValidFile s.dimension old.file)
    (alone : StandsAlone old before) (going : old.stopped ≡ false) (told : after.is_known ≡ before.is_known) (later : before.faults ≤ after.faults) (points : IsTrue (has_points_of s c)) where
  unasked : query_of c ≡ None → answered_query s c ≡ None
  unasked none = rw points none

  executed : (d : Command) → c ≡ d → step (setting_of s old.file) (state_on old.file before cursors) c ≡ execute (setting_of s old.file) (state_on old.file before cursors) d
  executed d is = rw points (ap (λ (e : Command). execute (setting_of s old.file) (state_on old.file before cursors) e) is)

  pub loaded_stepped : (result : Result ℕ IndexFault) → c ≡ command.Load rows → HasWritten s (Loads rows.points (ids (length rows.points))) old new before after result →
      ((why : IndexFault) → load_fault old (length rows.points) ≡ Some why → result ≡ Err why) →
      (load_fault old (length rows.points) ≡ None → IfErr result (HasLoadingCause s old rows.points (ids (length rows.points)) before after.faults)) →
      IfErr result (λ why. IsSoundOn s old.file before → BlamesNoPage why) → IfErr result (BlamesDamage old.file before) → HasStepped s show old new cursors cursors before after c (written_answer (λ count. reply.Loaded count) result)
  loaded_stepped result is written refused cause undamaged blames =
      load_stepped s show old new cursors before after c rows.points (ids (length rows.points)) valid alone going told later result written refused cause undamaged blames
      (rw is (ap (λ (l : List ℕ). Some (Loads rows.points l)) (ids_are 0 (length rows.points)))) (unasked (rw is refl))
      (executed (command.Load rows) is ∙ ap (λ (l : List ℕ). load_step old.file.head.limit (state_on old.file before cursors) rows.points l) (ids_are 0 (length rows.points)))

  pub tag_loaded_stepped : (tags : List ℕ) (result : Result ℕ IndexFault) → c ≡ command.TagLoad tags rows → HasWritten s (Loads rows.points tags) old new before after result →
      ((why : IndexFault) → load_fault old (length rows.points) ≡ Some why → result ≡ Err why) →
      (load_fault old (length rows.points) ≡ None → IfErr result (HasLoadingCause s old rows.points tags before after.faults)) →
      IfErr result (λ why. IsSoundOn s old.file before → BlamesNoPage why) → IfErr result (BlamesDamage old.file before) → HasStepped s show old new cursors cursors before after c (written_answer (λ count. reply.Loaded count) result)
  tag_loaded_stepped tags result is written refused cause undamaged blames =
      load_stepped s show old new cursors before after c rows.points tags valid alone going told later result written refused cause undamaged blames (rw is refl) (unasked (rw is refl)) (executed (command.TagLoad tags rows) is)
