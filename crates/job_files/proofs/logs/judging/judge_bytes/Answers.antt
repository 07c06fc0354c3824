use Rattle.std.proofs.Common.{◌≡◌, List, ℕ, [], ◌∷◌, ◌∙◌, ap, subst, Some, None}
use Rattle.std.proofs.lemmas.Result.{err_from_is_err_and}
use Rattle.job_files.specs.Logs.JobReports.{are_sound, end_text}
use Rattle.job_files.specs.Logs.Jobs.{Puts}
use Rattle.job_files.proofs.logs.Puts.{has_put, then_put, stopped_put}
use Rattle.job_files.proofs.logs.judging.judge_bytes.Goals as goal

pub returns-in_err-sound-clause-puts : goal.returns-in_err-sound-clause-puts
returns-in_err-sound-clause-puts g c is_known =
    let p = err_from_is_err_and c.from_residual-in_err-sound.result c.from_residual-in_err-sound.ensures.1 in
    rw (p.1, p.2, c.in-Ok.ensures.gives) (stopped_put _ _ _ _ c.in_err-sound.field-0.0 (c.in_err-sound.ensures.puts is_known))

pub returns-in_err-put-clause-puts : goal.returns-in_err-put-clause-puts
returns-in_err-put-clause-puts g c is_known =
    let p = err_from_is_err_and c.from_residual-in_err-put.result c.from_residual-in_err-put.ensures.1 in
    let w1 = (g.K.Sink.state c.judge_frames.new.out).written in
    let w2 = (g.K.Sink.state c.put-2.new.out).written in
    let line : c.end_text.result.now ≡ end_text c.args.report (are_sound (g.C.Checker.judges c.args.checker.now) c.in-Ok.logs.items) =
    c.end_text.ensures ∙ ap (λ b. end_text c.args.report b) (c.in_ok-sound.ensures.sound is_known) in
    rw (p.1, p.2, c.in-Ok.ensures.gives)
    (then_put _ _ _ w1 w2 (Some c.in_err-put.field-0.0) (has_put _ _ _ w1 (c.in_ok-sound.ensures.puts is_known))
    (subst (λ (t : List ℕ). Puts (t ∷ []) w1 w2 (Some c.in_err-put.field-0.0)) line c.in_err-put.ensures.puts))

pub returns-clause-puts : goal.returns-clause-puts
returns-clause-puts g c is_known =
    let w1 = (g.K.Sink.state c.judge_frames.new.out).written in
    let w2 = (g.K.Sink.state c.put-2.new.out).written in
    let line : c.end_text.result.now ≡ end_text c.args.report (are_sound (g.C.Checker.judges c.args.checker.now) c.in-Ok.logs.items) =
    c.end_text.ensures ∙ ap (λ b. end_text c.args.report b) (c.in_ok-sound.ensures.sound is_known) in
    rw c.in-Ok.ensures.gives
    (then_put _ _ _ w1 w2 None (has_put _ _ _ w1 (c.in_ok-sound.ensures.puts is_known))
    (subst (λ (t : List ℕ). Puts (t ∷ []) w1 w2 None) line c.in_ok-put.ensures.puts))
