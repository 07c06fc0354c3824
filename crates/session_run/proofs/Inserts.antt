-- Inserts and loads of a session, by what the index says of them.
use Rattle.std.proofs.Common.{◌≡◌, ◌≢◌, ◌↔◌, ℕ, zero, suc, ◌+◌, ◌-◌, ◌^◌, ◌≤◌, ◌<◌, Bool, true, false, List, [], ◌∷◌, ◌++◌, length, inl, inr, refl, sym, ap, subst, ◌∙◌, arith, Some, None, Result, Ok, Err}
use Rattle.std.specs.Prelude.{IsTrue, IfErr, nat_lt}
use Rattle.std.specs.List.{range_with_len}
use Rattle.metric_laws.specs.Space.{Space}
use Rattle.disk_model.specs.Disk.{DiskState}
use Rattle.rows_text.specs.declared.command.Command.{Command}
use Rattle.rows_text.specs.declared.command.Command.TheVariants as command
use Rattle.rows_text.specs.declared.refusal.Refusal.TheVariants as refusal
use Rattle.rows_text.specs.declared.reply.Reply.TheVariants as reply
use Rattle.rows_text.specs.Meaning.{Step, execute, has_points_of, insert_step, numbers_from, step}
use Rattle.plain_scan.specs.OpenCursors.{OpenCursors, with_cursors}
use Rattle.tree_shape.specs.Plain.{Object}
use Rattle.tree_shape.specs.Tree.{objects}
use Rattle.page_store.specs.declared.pages.PageFault.{PageFault}
use Rattle.page_store.specs.declared.pages.PageFault.TheVariants as page
use Rattle.log_model.proofs.Published.{length-points}
use Rattle.index_core.specs.declared.faults.IndexFault.{IndexFault}
use Rattle.index_core.specs.declared.faults.IndexFault.TheVariants as fault
use Rattle.index_core.specs.Answers.{IsSoundOn, points_on, tags_on}
use Rattle.page_store.specs.Shelf.{IsDamage as IsWalkDamage}
use Rattle.index_core.specs.Causes.{BlamesNoPage, HasInsertCause, IsPathDamage, offered_pages}
use Rattle.index_core.specs.Damage.{BlamesDamage}
use Rattle.index_core.specs.Files.{IsValidFile, nodes_on}
use Rattle.index_core.specs.Index.{OpenIndex, StandsAlone}
use Rattle.index_core.specs.Writing.{Inserts, HasWritten}
use Rattle.session_run.specs.Session.{IsDamage, setting_of, state_on}
use Rattle.session_run.specs.Steps.{HasStepCause, HasStepped, answer_of_fault, written_answer}
use Rattle.answer_texts.specs.Asked.{answered_query, query_of}
use Rattle.session_run.specs.Turns.{Hinders, held_on, write_of}
use Rattle.session_run.proofs.Faults.{result_stands}
use Rattle.session_run.proofs.Writes.{write_stepped}

-- ids from 0 on
pub ids_are : (first n : ℕ) → numbers_from first n ≡ range_with_len first n
ids_are first zero = refl
ids_are first (suc n) = ap (λ (l : List ℕ). first ∷ l) (ids_are (first + 1) n)

path_damage : (f : PageFault) → IsPathDamage f → IsDamage f
path_damage (page.Bad p n) is = tt
path_damage (page.Outside p) is = tt
path_damage (page.Repeats p) is = tt
path_damage (page.Level p) is = tt
path_damage page.Disk is = absurd is
path_damage page.Memory is = absurd is

pub walk_damage : (f : PageFault) → IsWalkDamage f → IsDamage f
walk_damage (page.Bad p n) is = tt
walk_damage (page.Outside p) is = tt
walk_damage (page.Repeats p) is = tt
walk_damage (page.Level p) is = absurd is
walk_damage page.Disk is = absurd is
walk_damage page.Memory is = absurd is

few_of : (n count limit : ℕ) → n ≡ count → count ≤ limit → count ≢ limit → nat_lt n limit ≡ true
few_of n count limit is most other = grind arith

none_of : (n count limit : ℕ) → n ≡ count → count ≡ limit → nat_lt n limit ≡ false
none_of n count limit is all = grind arith

module _ {M : Type 0} (s : Space) (show : Bool) (old new : OpenIndex M) (cursors : OpenCursors) (before after : DiskState) (c : Command) (valid : IsValidFile s.dimension old.file) (alone : StandsAlone old before)
    (going : old.stopped ≡ false) (told : after.is_known ≡ before.is_known) (later : before.faults ≤ after.faults) where
  pub count_is : length (points_on old.file before) ≡ old.file.live.count
  count_is = length-points (objects (nodes_on old.file before) old.file.live) 0 old.file.live.count

  insert_cause : (o : Object) (why : IndexFault) → HasInsertCause s old o before after why → (IsSoundOn s old.file before → BlamesNoPage why) →
      IfErr (answer_of_fault why) (HasStepCause (IsSoundOn s old.file before) before after)
  insert_cause o fault.Disk cause undamaged = cause
  insert_cause o (fault.Damaged f) cause undamaged = (
    elim cause [
      | inl listed ↦ walk_damage f listed.1.0
      | inr walked ↦ path_damage f walked.0
    ],
    undamaged,
  )
  insert_cause o fault.Memory cause undamaged = tt
  insert_cause o fault.Full cause undamaged = tt
  insert_cause o fault.NotEmpty cause undamaged = absurd cause
  insert_cause o (fault.NoRoom pages needed) cause undamaged = tt
  insert_cause o fault.Worn cause undamaged = tt
  insert_cause o fault.Stopped cause undamaged = absurd (let e : true ≡ false = sym cause ∙ going in cc)
  insert_cause o fault.Commit cause undamaged = cause

  no_filled : (o : Object) (result : Result ℕ IndexFault) → IfErr result (HasInsertCause s old o before after) → result ≡ Err fault.NotEmpty → ⊥
  no_filled o result cause is = rw is at cause

  -- an insert
  pub insert_stepped : (point : List ℕ) (tag : ℕ) (result : Result ℕ IndexFault) → HasWritten s (Inserts point tag) old new before after result →
      (result ≡ Err fault.Full) ↔ (old.file.live.count ≡ old.file.head.limit) →
      (result ≡ Err fault.Worn) ↔ ((old.file.live.count ≢ old.file.head.limit) × (old.file.live.generation ≡ 2 ^ 48 - 1)) →
      IfErr result (HasInsertCause s old (record { id = old.file.live.count; tag = tag; point = point }) before after) →
      IfErr result (λ why. IsSoundOn s old.file before → BlamesNoPage why) → IfErr result (BlamesDamage old.file before) →
      write_of old.file.live.count c ≡ Some (Inserts point tag) → answered_query s c ≡ None →
      step (setting_of s old.file) (state_on old.file before cursors) c ≡ insert_step old.file.head.limit (state_on old.file before cursors) point tag →
      HasStepped s show old new cursors cursors before after c (written_answer (λ id. reply.Id id) result)
  insert_stepped point tag result written full worn cause undamaged blames writes unasked meaning =
      write_stepped s show old new cursors before after c (Inserts point tag) (λ id. reply.Id id) valid alone going result written (record {
        writes = writes;
        unasked = unasked;
        accepting = λ room filled. meaning ∙ accepted (few (λ e. room (full.1 e)));
        full = λ is. meaning ∙ no_room (full.0 is);
        filled = λ is. absurd (no_filled _ result cause is);
        worn = λ is. (worn.0 is).1;
        room = λ pages needed is sound. hinders pages needed (rw is at cause) sound;
        cause = causes result cause undamaged;
        stands = result_stands old.file before after alone.stands.opens told result same blames;
        accepts_says = λ n. refl;
        tags_says = λ n. tt;
        is_known = told;
        later = later;
      })
    where
      few : (old.file.live.count ≢ old.file.head.limit) → nat_lt (length (points_on old.file before)) old.file.head.limit ≡ true
      few less = few_of (length (points_on old.file before)) old.file.live.count old.file.head.limit count_is valid.live.1.count less

      accepted : nat_lt (length (points_on old.file before)) old.file.head.limit ≡ true →
          insert_step old.file.head.limit (state_on old.file before cursors) point tag ≡ record {
            reply = reply.Id old.file.live.count;
            state = with_cursors (record { points = points_on old.file before ++ point ∷ []; tags = tags_on old.file before ++ tag ∷ [] }) cursors;
          }
      accepted less = rw less (ap (λ (n : ℕ). (let done : Step = record {
        reply = reply.Id n;
        state = with_cursors (record { points = points_on old.file before ++ point ∷ []; tags = tags_on old.file before ++ tag ∷ [] }) cursors;
      } in done)) count_is)

      no_room : old.file.live.count ≡ old.file.head.limit → insert_step old.file.head.limit (state_on old.file before cursors) point tag ≡ record { reply = reply.Refused refusal.Full; state = state_on old.file before cursors }
      no_room all = let no : nat_lt (length (points_on old.file before)) old.file.head.limit ≡ false = none_of (length (points_on old.file before)) old.file.live.count old.file.head.limit count_is all in rw no refl

      room_of : (pages needed made given : ℕ) → pages ≡ old.file.live.pages → needed ≡ made - given → 2 ^ 24 < pages + needed → 2 ^ 24 < old.file.live.pages + (made - given)
      room_of pages needed made given at exact over = rw (sym at, sym exact) over

      hinders : (pages needed : ℕ) → HasInsertCause s old (record { id = old.file.live.count; tag = tag; point = point }) before after (fault.NoRoom pages needed) → IsSoundOn s old.file before →
          Hinders s old.file.head (held_on old.file before) refusal.NoRoom (Inserts point tag)
      hinders pages needed (f, is, cause) sound =
          let exact = (cause.2 sound.0).1 in
          (length (offered_pages old.file.live f), room_of pages needed _ (length (offered_pages old.file.live f)) cause.0 exact cause.1)

      same : (f : PageFault) → result ≡ Err (fault.Damaged f) → after.bytes ≡ before.bytes
      same f is =
          let done : HasWritten s (Inserts point tag) old new before after (Err (fault.Damaged f)) = subst (HasWritten s (Inserts point tag) old new before after) is written in
          (done.refused (λ e. absurd (cc))).same.same_bytes

      causes : (result : Result ℕ IndexFault) → IfErr result (HasInsertCause s old (record { id = old.file.live.count; tag = tag; point = point }) before after) →
          IfErr result (λ why. IsSoundOn s old.file before → BlamesNoPage why) → IfErr result (λ why. IfErr (answer_of_fault why) (HasStepCause (IsSoundOn s old.file before) before after))
      causes (Ok n) cause undamaged = tt
      causes (Err why) cause undamaged = insert_cause _ why cause undamaged

  unasked : IsTrue (has_points_of s c) → query_of c ≡ None → answered_query s c ≡ None
  unasked points none = rw points none

  executed : IsTrue (has_points_of s c) → step (setting_of s old.file) (state_on old.file before cursors) c ≡ execute (setting_of s old.file) (state_on old.file before cursors) c
  executed points = rw points refl

  -- the command `insert`
  pub inserted_stepped : (point : List ℕ) (result : Result ℕ IndexFault) → IsTrue (has_points_of s c) → c ≡ command.Insert point → HasWritten s (Inserts point old.file.live.count) old new before after result →
      (result ≡ Err fault.Full) ↔ (old.file.live.count ≡ old.file.head.limit) →
      (result ≡ Err fault.Worn) ↔ ((old.file.live.count ≢ old.file.head.limit) × (old.file.live.generation ≡ 2 ^ 48 - 1)) →
      IfErr result (HasInsertCause s old (record { id = old.file.live.count; tag = old.file.live.count; point = point }) before after) →
      IfErr result (λ why. IsSoundOn s old.file before → BlamesNoPage why) → IfErr result (BlamesDamage old.file before) → HasStepped s show old new cursors cursors before after c (written_answer (λ id. reply.Id id) result)
  inserted_stepped point result points is written full worn cause undamaged blames =
      insert_stepped point old.file.live.count result written full worn cause undamaged blames (rw is refl) (unasked points (rw is refl))
      (executed points ∙ ap (λ (d : Command). execute (setting_of s old.file) (state_on old.file before cursors) d) is
      ∙ ap (λ (n : ℕ). insert_step old.file.head.limit (state_on old.file before cursors) point n) count_is)

  -- and `tinsert`
  pub tag_inserted_stepped : (point : List ℕ) (tag : ℕ) (result : Result ℕ IndexFault) → IsTrue (has_points_of s c) → c ≡ command.TagInsert tag point → HasWritten s (Inserts point tag) old new before after result →
      (result ≡ Err fault.Full) ↔ (old.file.live.count ≡ old.file.head.limit) →
      (result ≡ Err fault.Worn) ↔ ((old.file.live.count ≢ old.file.head.limit) × (old.file.live.generation ≡ 2 ^ 48 - 1)) →
      IfErr result (HasInsertCause s old (record { id = old.file.live.count; tag = tag; point = point }) before after) →
      IfErr result (λ why. IsSoundOn s old.file before → BlamesNoPage why) → IfErr result (BlamesDamage old.file before) → HasStepped s show old new cursors cursors before after c (written_answer (λ id. reply.Id id) result)
  tag_inserted_stepped point tag result points is written full worn cause undamaged blames =
      insert_stepped point tag result written full worn cause undamaged blames (rw is refl) (unasked points (rw is refl))
      (executed points ∙ ap (λ (d : Command). execute (setting_of s old.file) (state_on old.file before cursors) d) is)
