use Rattle.std.proofs.Common.{subst}
use Rattle.std.specs.Prelude.{IfErr}
use Rattle.index_core.specs.Damage.{BlamesDamage}
use Rattle.index_core.specs.Index.{OpenIndex}
use Rattle.index_core.proofs.Damaged.{tag_blames}
use Rattle.index_core.proofs.index.Index.tags.Goals as goal

pub returns-clause-damage : goal.returns-clause-damage
returns-clause-damage g c =
    subst (λ (i : OpenIndex g.row.M.Denot). IfErr c.tags.result (BlamesDamage i.file (g.D.Disk.state c.args.disk.now))) c.self.view_is
    (tag_blames c.self.inside.view (g.D.Disk.state c.args.disk.now) (g.D.Disk.state c.tags.new.disk) c.args.found.now c.tags.result c.tags.ensures.tagged.cause)
