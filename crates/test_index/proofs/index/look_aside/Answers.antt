use Rattle.index_core.proofs.Published.{stands_still}
use Rattle.test_index.proofs.index.look_aside.Goals as goal

pub returns : goal.returns
returns g c = stands_still c.args.view.now (g.D.Disk.state c.args.disk.now) (g.D.Disk.state c.size.new.self) c.size.ensures.same c.size.ensures.cause.later c.requires
