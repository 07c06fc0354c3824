use Rattle.std.proofs.Common.{◌≡◌}
use Rattle.job_make.specs.Generator.{generated_rows}
use Rattle.job_make.proofs.generator.generated_rows.Given as goal

abbrev pub invariant-loop-i : goal.invariant-loop-i
invariant-loop-i l = l.rows ≡ record { dimension = l.dim; points = generated_rows l.seed l.dim l.i }
