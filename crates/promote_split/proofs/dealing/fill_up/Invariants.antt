use Rattle.std.proofs.Common.{◌≡◌, ◌-◌}
use Rattle.tree_growth.specs.Dealing.{in_turn, received, filled_up}
use Rattle.promote_split.proofs.dealing.fill_up.Given as goal

abbrev pub invariant-loop-turn : goal.invariant-loop-turn
invariant-loop-turn l =
    in_turn (l.least - l._turn) (received l.matrix l.pair.a l.pair.b l.step.own l.step.from l.step.to) (received l.matrix l.pair.a l.pair.b l.step.own l.step.from l.step.to) l.sides
    ≡ filled_up l.matrix l.pair.a l.pair.b l.least l.step.own l.step.from l.step.to l.fn.sides
