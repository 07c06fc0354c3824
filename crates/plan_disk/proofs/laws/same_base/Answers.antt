use Rattle.plan_disk.proofs.Bases.{bases_same}
use Rattle.plan_disk.proofs.laws.same_base.Goals as goal

pub returns : goal.returns
returns g c = bases_same c.args.old.now c.args.new.now _ c.requires
