use Rattle.std.proofs.Common.{◌≡◌}
use Rattle.metric_laws.specs.Rows.{rows_of}
use Rattle.session_run.proofs.given_rows.rows_from.Given as goal

abbrev pub invariant-loop-i : goal.invariant-loop-i
invariant-loop-i l = l.rows ≡ record { dimension = l.width; points = rows_of l.width l.i l.cells }
