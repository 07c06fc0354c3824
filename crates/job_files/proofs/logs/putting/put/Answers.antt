use Rattle.std.proofs.lemmas.Result.{err_from_is_err_and}
use Rattle.job_files.proofs.logs.Puts.{whole_put, cut_put}
use Rattle.job_files.proofs.logs.putting.put.Goals as goal

pub returns-clause-puts : goal.returns-clause-puts
returns-clause-puts g c = whole_put _ _ c.args.text.now c.in_ok-put.ensures.ok

pub returns-in_err-put-clause-puts : goal.returns-in_err-put-clause-puts
returns-in_err-put-clause-puts g c =
    let p = err_from_is_err_and c.from_residual.result c.from_residual.ensures.1 in
    rw (p.1, p.2) (cut_put _ _ c.args.text.now c.in_err-put.ensures.err)
