use Rattle.std.proofs.Common.{rules}
use Rattle.pin_cursor.proofs.Nearest.{all_beyond, taken_within}
use Rattle.pin_cursor.proofs.Tried.{ok_taken, taken_moves}
use Rattle.pin_cursor.proofs.waits.take_within.Goals as goal

pub returns-then-is_beyond-clause-none : goal.returns-then-is_beyond-clause-none
returns-then-is_beyond-clause-none c = all_beyond c.args.reach c.args.subtrees.now.waits c.in-Some.first.now c.in-Some.ensures.some (search rules)

pub returns-clause-within : goal.returns-clause-within
returns-clause-within c =
    ok_taken c.take_first.result c.take_first.ensures.first
    (λ taken least. taken_within c.args.reach c.args.subtrees.now.waits c.in-Some.first.now taken least c.in-Some.ensures.some.among (search rules))

pub returns-clause-some : goal.returns-clause-some
returns-clause-some c = ok_taken c.take_first.result c.take_first.ensures.some (taken_moves c.args.subtrees.now.waits c.take_first.new.self.waits)
