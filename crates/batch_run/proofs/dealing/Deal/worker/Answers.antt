use Rattle.batch_run.proofs.Seats.{wound_low}
use Rattle.batch_run.proofs.dealing.Deal.worker.Goals as goal

pub returns-then-shift-turn-clause-is : goal.returns-then-shift-turn-clause-is
returns-then-shift-turn-clause-is c = wound_low c.args.self.now.workers c.args.turn c.args.shift c.if-shift-turn.true c.requires.turn
