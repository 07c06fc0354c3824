use Rattle.plan_disk.proofs.Firsts.{within_step}
use Rattle.plan_disk.proofs.laws.crash_in_step.Goals as goal

pub returns : goal.returns
returns c = within_step c.args.disk.now
