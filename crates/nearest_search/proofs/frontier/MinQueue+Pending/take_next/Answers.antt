use Rattle.std.proofs.Common.{arith}
use Rattle.nearest_search.proofs.Waits.{next_is, all_beyond_first}
use Rattle.nearest_search.proofs.frontier.MinQueue+Pending.take_next.Goals as goal

pub returns-then-first-rho-clause-none : goal.returns-then-first-rho-clause-none
returns-then-first-rho-clause-none c = all_beyond_first c.args.rho c.args.self.now c.in-Some.first.now c.in-Some.ensures.some (omega arith)

pub returns-clause-some : goal.returns-clause-some
returns-clause-some c =
    next_is c.args.rho c.args.self.now c.take_first.new.self c.in-Some.first.now c.take_first.result c.take_first.ensures.some c.take_first.ensures.first c.in-Some.ensures.some.among (omega arith)
