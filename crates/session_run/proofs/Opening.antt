-- The commands that touch no disk.
use Rattle.std.proofs.Common.{◌≡◌, ℕ, Bool, true, false, refl, sym, ap, subst, ◌∙◌, arith, Option, None, Ok}
use Rattle.std.specs.Prelude.{IsTrue, not}
use Rattle.metric_laws.specs.Space.{Space}
use Rattle.disk_model.specs.Disk.{DiskState}
use Rattle.scan_model.specs.declared.query.Query.{Query}
use Rattle.rows_text.specs.declared.command.Command.{Command}
use Rattle.rows_text.specs.declared.command.Command.TheVariants as command
use Rattle.rows_text.specs.declared.refusal.Refusal.{Refusal}
use Rattle.rows_text.specs.declared.refusal.Refusal.TheVariants as refusal
use Rattle.rows_text.specs.declared.reply.Reply.{Reply}
use Rattle.rows_text.specs.declared.reply.Reply.TheVariants as reply
use Rattle.rows_text.specs.Meaning.{Step, accepts, execute, has_points_of, step, TagsAre}
use Rattle.plain_scan.specs.OpenCursors.{OpenCursors, opened}
use Rattle.tree_shape.specs.Tree.{objects}
use Rattle.page_store.specs.Kept.{unchanged_by_none}
use Rattle.log_model.proofs.Published.{length-points}
use Rattle.index_core.specs.Answers.{IsSoundOn}
use Rattle.index_core.specs.Files.{OpenFile, IsValidFile, OnlyReads, nodes_on}
use Rattle.index_core.specs.Index.{OpenIndex, StandsAlone}
use Rattle.index_core.specs.Lending.{same_room_by_none}
use Rattle.session_run.specs.Session.{setting_of, state_on}
use Rattle.session_run.specs.Steps.{HasStepped, plain_answer}
use Rattle.answer_texts.specs.Asked.{Held, HasLog, answered_query, query_of}
use Rattle.session_run.specs.Turns.{held_on}
use Rattle.session_run.proofs.Reading.{read_stepped, read_taken}

-- no call reads nothing
pub reads_none : {M : Type 0} (file : OpenFile M) (disk : DiskState) → OnlyReads file file disk disk
reads_none file disk = record { rest = refl; room = same_room_by_none file.kept; same = unchanged_by_none disk; later = omega arith }

pub unlogged : {q : Option Query} (s : Space) (v : Held) → q ≡ None → HasLog s v q None
unlogged s v none = subst (λ (o : Option Query). HasLog s v o None) (sym none) refl

-- a command that touches no disk
pub still_stepped : {M : Type 0} (s : Space) (show : Bool) (old : OpenIndex M) (opened cursors : OpenCursors) (disk : DiskState) (c : Command) (meant : Reply) → IsValidFile s.dimension old.file → StandsAlone old disk → old.stopped ≡ false →
    (show ≡ true → TagsAre meant) → answered_query s c ≡ None → accepts meant ≡ false →
    (IsSoundOn s old.file disk → step (setting_of s old.file) (state_on old.file disk opened) c ≡ record { reply = meant; state = state_on old.file disk cursors }) →
    HasStepped s show old old opened cursors disk disk c (Ok (plain_answer meant))
still_stepped s show old opened cursors disk c meant valid alone going tagged unasked none meaning =
    read_stepped s show old old opened cursors disk disk c (plain_answer meant) valid alone going (reads_none old.file disk) tt tagged
    (λ sound. read_taken s show old old.file opened cursors disk disk c (plain_answer meant) None meant valid alone (reads_none old.file disk) sound (meaning sound) none tt (unlogged s (held_on old.file disk) unasked) refl (λ asks. omega arith))

-- ---- commands that touch no disk

unasked : (s : Space) (c : Command) → IsTrue (has_points_of s c) → query_of c ≡ None → answered_query s c ≡ None
unasked s c points none = rw points none

module _ {M : Type 0} (s : Space) (show : Bool) (old : OpenIndex M) (opened cursors : OpenCursors) (disk : DiskState) (c : Command) (valid : IsValidFile s.dimension old.file) (alone : StandsAlone old disk)
    (going : old.stopped ≡ false) where
  executed : (d : Command) → IsTrue (has_points_of s c) → c ≡ d → step (setting_of s old.file) (state_on old.file disk opened) c ≡ execute (setting_of s old.file) (state_on old.file disk opened) d
  executed d points is = rw points (ap (λ (e : Command). execute (setting_of s old.file) (state_on old.file disk opened) e) is)

  pub counted_stepped : IsTrue (has_points_of s c) → c ≡ command.Count → HasStepped s show old old opened opened disk disk c (Ok (plain_answer (reply.Count old.file.live.count)))
  counted_stepped points is =
      still_stepped s show old opened opened disk c (reply.Count old.file.live.count) valid alone going (λ asks. tt) (unasked s c points (rw is refl)) refl
      (λ sound. executed command.Count points is ∙ ap (λ (n : ℕ). (let done : Step = record { reply = reply.Count n; state = state_on old.file disk opened } in done))
      (length-points (objects (nodes_on old.file disk) old.file.live) 0 old.file.live.count))

  pub bad_stepped : (why : Refusal) → IsTrue (has_points_of s c) → c ≡ command.Bad why → HasStepped s show old old opened opened disk disk c (Ok (plain_answer (reply.Refused why)))
  bad_stepped why points is =
      still_stepped s show old opened opened disk c (reply.Refused why) valid alone going (λ asks. tt) (unasked s c points (rw is refl)) refl (λ sound. executed (command.Bad why) points is)

  pub unfit_stepped : has_points_of s c ≡ false → HasStepped s show old old opened opened disk disk c (Ok (plain_answer (reply.Refused refusal.Unfit)))
  unfit_stepped none =
      still_stepped s show old opened opened disk c (reply.Refused refusal.Unfit) valid alone going (λ asks. tt) (rw none refl) refl (λ sound. rw none refl)

pub not_less : (b : Bool) → not b ≡ true → b ≡ false
not_less true is = absurd (let e : false ≡ true = is in cc)
not_less false is = refl

pub not_full : (b : Bool) → not b ≡ false → b ≡ true
not_full true is = refl
not_full false is = absurd (let e : true ≡ false = is in cc)
