use Rattle.std.proofs.lemmas.Result.{err_from_is_err_and}
use Rattle.job_join.proofs.Ending.{other_refuses}
use Rattle.job_join.proofs.jobs.open_both.Goals as goal

pub returns-in_err-right-clause-refuses : goal.returns-in_err-right-clause-refuses
returns-in_err-right-clause-refuses g c =
    let p = err_from_is_err_and c.from_residual-in_err-right.result c.from_residual-in_err-right.ensures.1 in
    rw (p.1, p.2)
    (other_refuses (g.D.Disk.state c.args.index.now) (g.D.Disk.state c.open_index.new.disk) (g.E.Disk.state c.args.other.now) (g.E.Disk.state c.open_index-2.new.disk) c.in_ok-left.left _ _ _
    (λ t. record { opens = c.in_ok-left.ensures.opens t; version = c.in_ok-left.ensures.version }) (rw c.in_ok-left.ensures.silent at c.in_err-right.ensures.refuses))
