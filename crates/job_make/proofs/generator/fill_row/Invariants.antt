use Rattle.std.proofs.Common.{◌≡◌}
use Rattle.job_make.specs.Generator.{generated_row}
use Rattle.job_make.proofs.generator.fill_row.Given as goal

abbrev pub invariant-loop-j : goal.invariant-loop-j
invariant-loop-j l = l.row.items ≡ generated_row l.seed l.j l.i
