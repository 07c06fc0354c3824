use Rattle.std.proofs.Common.{subst}
use Rattle.std.specs.Prelude.{IfErr}
use Rattle.index_core.specs.Damage.{BlamesDamage}
use Rattle.index_core.specs.Index.{OpenIndex}
use Rattle.index_core.proofs.Damaged.{reach_blames}
use Rattle.index_core.proofs.index.Index.nearest.Goals as goal

pub returns-clause-damage : goal.returns-clause-damage
returns-clause-damage g c =
    subst (λ (i : OpenIndex g.row.M.Denot). IfErr c.nearest.result (BlamesDamage i.file (g.D.Disk.state c.args.disk.now))) c.self.view_is
    (reach_blames c.self.inside.view (g.D.Disk.state c.args.disk.now) (g.D.Disk.state c.nearest.new.disk) c.nearest.result c.nearest.ensures.cause)
