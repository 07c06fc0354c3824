use Rattle.std.proofs.Common.{subst}
use Rattle.index_core.specs.Answers.{IsSoundOn}
use Rattle.index_core.specs.Causes.{HasListCause}
use Rattle.index_core.specs.Index.{OpenIndex}
use Rattle.index_core.specs.Writing.{IsExactFor}
use Rattle.index_core.proofs.index.Index.take_free.Goals as goal

pub returns-in-Err-clause-cause : goal.returns-in-Err-clause-cause
returns-in-Err-clause-cause g c =
    subst (λ (i : OpenIndex g.row.M.Denot). HasListCause i.file (g.D.Disk.state c.args.disk.now) (g.D.Disk.state c.list_free.new.disk).faults c.in-Err.fault) c.self.view_is c.in-Err.ensures.cause

pub returns-clause-exact : goal.returns-clause-exact
returns-clause-exact g c = λ sound exact.
    subst (λ (i : OpenIndex g.row.M.Denot). IsSoundOn (g.M.Metric.space i.file.metric) i.file (g.D.Disk.state c.args.disk.now) → IsExactFor i.file c.in-Ok.free (g.D.Disk.state c.args.disk.now))
    c.self.view_is c.in-Ok.ensures.exact sound
