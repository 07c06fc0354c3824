use Rattle.seal_log.proofs.OpenedFiles.{other_version}
use Rattle.seal_log.proofs.opening.read_head.Goals as goal

pub returns-then-head-ne2-clause-fault : goal.returns-then-head-ne2-clause-fault
returns-then-head-ne2-clause-fault c = other_version c.args.page.now c.in-Ok.head c.in-Ok.ensures.ok c.if-head-ne2.true
