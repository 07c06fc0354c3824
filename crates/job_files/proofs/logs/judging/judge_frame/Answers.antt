use Rattle.std.proofs.lemmas.Result.{err_from_is_err_and}
use Rattle.job_files.proofs.logs.Puts.{memory_put, none_put}
use Rattle.job_files.proofs.logs.judging.judge_frame.Goals as goal

pub returns-in_err-fault-clause-puts : goal.returns-in_err-fault-clause-puts
returns-in_err-fault-clause-puts g c is_known =
    let p = err_from_is_err_and c.from_residual.result c.from_residual.ensures.1 in
    rw (p.1, p.2) (none_put _ _ c.in_err-fault.field-0.0 c.in_err-fault.ensures.not_sink)

pub returns-in_err-text-clause-puts : goal.returns-in_err-text-clause-puts
returns-in_err-text-clause-puts g c is_known =
    let p = err_from_is_err_and c.from_residual-in_err-text.result c.from_residual-in_err-text.ensures.1 in
    rw (p.1, p.2) (memory_put _ _)
