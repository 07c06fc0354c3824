use Rattle.job_make.proofs.Asked.{HasAsked}
use Rattle.job_make.proofs.asking.ask_all.Given as goal

abbrev pub invariant-loop-t : goal.invariant-loop-t
invariant-loop-t g l = HasAsked (g.M.Metric.space l.fn.index.file.metric) l.fn.index l.index (g.D.Disk.state l.fn.disk) (g.D.Disk.state l.disk) l.rows.points l.t l.tally
