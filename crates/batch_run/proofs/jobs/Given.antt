-- Outcomes that are given with tags, or without them where they are not shown.
use Rattle.std.proofs.Common.{◌≡◌, ℕ, List, Bool, true, false, Option, refl, sym, subst, ◌∙◌}
use Rattle.metric_laws.specs.Space.{Space}
use Rattle.rows_text.specs.declared.command.Command.{Command}
use Rattle.rows_text.specs.declared.reply.Reply.{Reply}
use Rattle.rows_text.specs.declared.reply.Reply.TheVariants as reply
use Rattle.rows_text.specs.Texts.{text}
use Rattle.log_model.specs.declared.logs.Log.{Log}
use Rattle.tree_shape.specs.declared.live.Live.{Live}
use Rattle.image_answers.specs.declared.outcome.Outcome.{Outcome}
use Rattle.image_answers.specs.declared.outcome.Outcome.TheVariants as outcome
use Rattle.image_answers.specs.Outcomes.{as_wanted, without_tags, CanBeShown, IsGivenOf, IsValid, IsLogged}
use Rattle.batch_run.specs.declared.jobs.piles.Mark.{Mark}
use Rattle.batch_run.specs.declared.jobs.piles.Mark.TheVariants as mark
use Rattle.batch_run.specs.declared.jobs.piles.Pile.{Pile}
use Rattle.batch_run.specs.Jobs.Preparing.{HasMore, HasMoreFor, IsMarked}

-- ---- where tags are not shown, a reply without them has the same text

same_text : (r : Reply) → text false (without_tags r) ≡ text false r
same_text (reply.Id id) = refl
same_text (reply.Loaded count) = refl
same_text (reply.Hits hits tags) = refl
same_text (reply.Pairs pairs) = refl
same_text (reply.Count count) = refl
same_text (reply.Refused why) = refl
same_text (reply.Cursor number) = refl
same_text (reply.Next hits tags) = refl
same_text (reply.Closed number) = refl

same_logged : (r : Reply) (log : Option Log) → IsLogged r log → IsLogged (without_tags r) log
same_logged (reply.Id id) log is = is
same_logged (reply.Loaded count) log is = is
same_logged (reply.Hits hits tags) log is = is
same_logged (reply.Pairs pairs) log is = is
same_logged (reply.Count count) log is = is
same_logged (reply.Refused why) log is = is
same_logged (reply.Cursor number) log is = is
same_logged (reply.Next hits tags) log is = is
same_logged (reply.Closed number) log is = is

-- ---- what is given can be shown, and shows the whole outcome

can_be_shown : (show : Bool) (o : Outcome) → IsValid o → CanBeShown show (as_wanted show o)
can_be_shown true (outcome.Done r log) valid = (λ e. valid.0, valid.1)
can_be_shown false (outcome.Done r log) valid = (λ e. absurd (cc), same_logged r log valid.1)
can_be_shown true (outcome.Damaged fault) valid = valid
can_be_shown false (outcome.Damaged fault) valid = valid

shows_whole : (show : Bool) (o : Outcome) (pile : Pile) (m : Mark) → IsMarked show (as_wanted show o) pile m → IsMarked show o pile m
shows_whole true o pile m is = is
shows_whole false (outcome.Done r log) pile (mark.Said reply frame) is = ((is.0.0, sym (same_text r) ∙ is.0.1), is.1)
shows_whole false (outcome.Done r log) pile (mark.Damaged named) is = absurd is
shows_whole false (outcome.Damaged fault) pile (mark.Said reply frame) is = absurd is
shows_whole false (outcome.Damaged fault) pile (mark.Damaged named) is = is

module _ (s : Space) (live : Live) (image : List ℕ) (c : Command) (show : Bool) (given : Outcome) (is : IsGivenOf show s live image c given) where
  pub given_can : CanBeShown show given
  given_can = subst (CanBeShown show) (sym is.2) (can_be_shown show is.0 is.1.valid)

  pub given_more : (pile0 pile1 : Pile) → HasMore show given pile0 pile1 → HasMoreFor s live image show c pile0 pile1
  given_more pile0 pile1 more = (
    is.0,
    is.1,
    record {
      mark = more.mark;
      added = more.added;
      marked = shows_whole show is.0 pile1 more.mark (subst (λ (o : Outcome). IsMarked show o pile1 more.mark) is.2 more.marked);
      replies = more.replies;
      frames = more.frames;
    },
  )
