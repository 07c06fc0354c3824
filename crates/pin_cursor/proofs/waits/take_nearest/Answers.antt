use Rattle.pin_cursor.proofs.Nearest.{taken_first}
use Rattle.pin_cursor.proofs.Tried.{ok_taken, taken_moves}
use Rattle.pin_cursor.proofs.waits.take_nearest.Goals as goal

pub returns-clause-first : goal.returns-clause-first
returns-clause-first c = ok_taken c.take_first.result c.take_first.ensures.first (taken_first c.args.candidates.now.waits)

pub returns-clause-some : goal.returns-clause-some
returns-clause-some c = ok_taken c.take_first.result c.take_first.ensures.some (taken_moves c.args.candidates.now.waits c.take_first.new.self.waits)
