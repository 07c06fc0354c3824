use Rattle.std.proofs.Common.{◌≡◌, ◌∙◌, ℕ, List, [], ◌∷◌, ap, subst, Some, None}
use Rattle.std.proofs.lemmas.Result.{err_from_is_err_and}
use Rattle.job_files.specs.declared.logs.report.Report.TheVariants as report
use Rattle.job_files.specs.Logs.JobReports.{are_sound, end_text}
use Rattle.job_files.specs.Logs.Jobs.{Puts}
use Rattle.job_show_joins.specs.Steps.{fault_by}
use Rattle.job_show.proofs.Published.{both_put, stopped_put}
use Rattle.job_show_joins.proofs.frames.show_all.Goals as goal

pub returns-in_err-put_head-clause-puts : goal.returns-in_err-put_head-clause-puts
returns-in_err-put_head-clause-puts g c t u =
    let p = err_from_is_err_and c.from_residual.result c.from_residual.ensures.1 in
    rw (p.1, p.2) (stopped_put _ _ _ _ c.in_err-put_head.field-0.0 (stopped_put _ _ _ _ c.in_err-put_head.field-0.0 c.in_err-put_head.ensures.puts))

pub returns-in_err-sound-clause-puts : goal.returns-in_err-sound-clause-puts
returns-in_err-sound-clause-puts g c t u =
    let p = err_from_is_err_and c.from_residual-in_err-sound.result c.from_residual-in_err-sound.ensures.1 in
    let w1 = (g.K.Sink.state c.put_head.new.out).written in
    rw (p.1, p.2) (stopped_put _ _ _ _ c.in_err-sound.field-0.0 (both_put _ _ _ w1 _ (Some c.in_err-sound.field-0.0) c.in_ok-put_head.ensures.puts (c.in_err-sound.ensures.puts t u)))

pub returns-in_err-put-clause-puts : goal.returns-in_err-put-clause-puts
returns-in_err-put-clause-puts g c t u =
    let p = err_from_is_err_and c.from_residual-in_err-put.result c.from_residual-in_err-put.ensures.1 in
    let w1 = (g.K.Sink.state c.put_head.new.out).written in
    let w2 = (g.K.Sink.state c.show_frames.new.out).written in
    let w3 = (g.K.Sink.state c.put.new.out).written in
    let line : c.end_text.result.now ≡ end_text report.Verdicts (are_sound (fault_by c.args.view.now (g.P.Pages.shelf c.args.left.now).read (g.Q.Pages.shelf c.args.right.now).read) c.args.logs.items) =
    c.end_text.ensures ∙ ap (λ b. end_text report.Verdicts b) (c.in_ok-sound.ensures.sound t u) in
    rw (p.1, p.2)
    (both_put _ _ _ w2 w3 (Some c.in_err-put.field-0.0) (both_put _ _ _ w1 w2 None c.in_ok-put_head.ensures.puts (c.in_ok-sound.ensures.puts t u))
    (subst (λ (t : List ℕ). Puts (t ∷ []) w2 w3 (Some c.in_err-put.field-0.0)) line c.in_err-put.ensures.puts))

pub returns-clause-puts : goal.returns-clause-puts
returns-clause-puts g c t u =
    let w1 = (g.K.Sink.state c.put_head.new.out).written in
    let w2 = (g.K.Sink.state c.show_frames.new.out).written in
    let w3 = (g.K.Sink.state c.put.new.out).written in
    let line : c.end_text.result.now ≡ end_text report.Verdicts (are_sound (fault_by c.args.view.now (g.P.Pages.shelf c.args.left.now).read (g.Q.Pages.shelf c.args.right.now).read) c.args.logs.items) =
    c.end_text.ensures ∙ ap (λ b. end_text report.Verdicts b) (c.in_ok-sound.ensures.sound t u) in
    both_put _ _ _ w2 w3 None (both_put _ _ _ w1 w2 None c.in_ok-put_head.ensures.puts (c.in_ok-sound.ensures.puts t u))
    (subst (λ (t : List ℕ). Puts (t ∷ []) w2 w3 None) line c.in_ok-put.ensures.puts)
