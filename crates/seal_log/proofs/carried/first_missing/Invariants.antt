use Rattle.std.proofs.Common.{◌≡◌, drop}
use Rattle.seal_log.specs.Judged.{missing_from}
use Rattle.seal_log.proofs.carried.first_missing.Given as goal

abbrev pub invariant-loop-i : goal.invariant-loop-i
invariant-loop-i l = missing_from l.carried (drop l.i l.records) l.i ≡ missing_from l.carried l.records 0
