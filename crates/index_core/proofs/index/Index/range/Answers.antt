use Rattle.std.proofs.Common.{subst}
use Rattle.std.specs.Prelude.{IfErr}
use Rattle.index_core.specs.Damage.{BlamesDamage}
use Rattle.index_core.specs.Index.{OpenIndex}
use Rattle.index_core.proofs.Damaged.{range_blames}
use Rattle.index_core.proofs.index.Index.range.Goals as goal

pub returns-clause-damage : goal.returns-clause-damage
returns-clause-damage g c =
    subst (λ (i : OpenIndex g.row.M.Denot). IfErr c.range.result (BlamesDamage i.file (g.D.Disk.state c.args.disk.now))) c.self.view_is
    (range_blames c.self.inside.view (g.D.Disk.state c.args.disk.now) (g.D.Disk.state c.range.new.disk) (g.M.Metric.space c.self.inside.view.metric) c.args.q.now c.args.r c.range.result c.range.ensures.cause)
