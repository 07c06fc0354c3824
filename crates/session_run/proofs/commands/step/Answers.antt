use Rattle.std.proofs.Common.{◌≡◌, false, sym, ◌∙◌, subst, Ok}
use Rattle.rows_text.specs.Meaning.{has_points_of}
use Rattle.rows_text.specs.declared.refusal.Refusal.TheVariants as refusal
use Rattle.rows_text.specs.declared.reply.Reply.TheVariants as reply
use Rattle.session_run.specs.Steps.{plain_answer}
use Rattle.session_run.proofs.Carrying.{carried, keeps_none}
use Rattle.session_run.proofs.Opening.{unfit_stepped}
use Rattle.session_run.proofs.commands.step.Goals as goal

pub returns-then-not-has_points_of-clause-done : goal.returns-then-not-has_points_of-clause-done
returns-then-not-has_points_of-clause-done g c = rw c.plain.ensures
    (carried (g.M.Metric.space c.args.index.now.file.metric) c.args.show c.args.index.now c.args.index.now c.args.cursors.now (g.D.Disk.state c.args.disk.now) (g.D.Disk.state c.args.disk.now) c.args.command.now (Ok (plain_answer (reply.Refused refusal.Unfit)))
    (λ cursors. unfit_stepped (g.M.Metric.space c.args.index.now.file.metric) c.args.show c.args.index.now cursors cursors (g.D.Disk.state c.args.disk.now) c.args.command.now c.is_valid.ensures (c.requires.stands c.requires.going) c.requires.going
    (subst (λ (m : g.row.M.Denot). has_points_of (g.M.Metric.space m) c.args.command.now ≡ false) c.metric.ensures (sym c.has_points_of.ensures ∙ c.if-not-has_points_of.true)))
    c.requires.kept (keeps_none c.args.index.now (g.D.Disk.state c.args.disk.now)))
