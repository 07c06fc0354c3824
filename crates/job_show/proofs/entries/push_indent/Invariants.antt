use Rattle.std.proofs.Common.{◌≡◌, ◌++◌}
use Rattle.job_show.specs.Walks.{indent}
use Rattle.job_show.proofs.entries.push_indent.Given as goal

-- the blanks of the steps so far
abbrev pub invariant-loop-step : goal.invariant-loop-step
invariant-loop-step l = l.out.items ≡ l.fn.out.items ++ indent l._step
