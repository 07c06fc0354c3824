use Rattle.std.proofs.Common.{◌-◌}
use Rattle.job_stats.proofs.Levels.{StandAbove}
use Rattle.job_stats.proofs.numbers.levels_of.Given as goal

-- the levels so far are those above the next one
abbrev pub invariant-loop-above : goal.invariant-loop-above
invariant-loop-above l = StandAbove l.lines l.height (l.height - l.above) l.levels.items
