use Rattle.std.proofs.Common.{◌≡◌, ◌++◌, take}
use Rattle.std.specs.Prelude.{flat_map}
use Rattle.job_stats.specs.Jobs.{level_text}
use Rattle.job_stats.proofs.lines.push_levels.Given as goal

-- the lines of the levels so far are written
abbrev pub invariant-loop-numbers : goal.invariant-loop-numbers
invariant-loop-numbers l = l.out.items ≡ l.fn.out.items ++ flat_map level_text (take l.numbers-index l.levels)
