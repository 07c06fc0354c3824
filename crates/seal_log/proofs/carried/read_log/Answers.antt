use Rattle.std.proofs.Common.{ap}
use Rattle.seal_log.specs.Judged.{after_log}
use Rattle.seal_log.proofs.Faultless.{spelled-faultless}
use Rattle.seal_log.proofs.carried.read_log.Goals as goal

pub returns-in-Ok-clause-faultless : goal.returns-in-Ok-clause-faultless
returns-in-Ok-clause-faultless c =
    ap after_log (spelled-faultless c.args.bytes.now c.in-Ok.log (record { valid = c.in-Ok.ensures.valid; in_range = c.in-Ok.ensures.in_range; spelled = c.in-Ok.ensures.ok }))
