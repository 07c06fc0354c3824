use Rattle.std.proofs.Common.{◌≡◌, ◌≤◌, length, drop}
use Rattle.log_verify.specs.JoinJudged.{pair_difference}
use Rattle.log_verify.proofs.judging.compare_pairs.Given as goal

-- what is left to compare
abbrev pub invariant-loop-i : goal.invariant-loop-i
invariant-loop-i l = record {
  short : l.i ≤ length l.named;
  left : pair_difference l.i (drop l.i l.told) (drop l.i l.named) ≡ pair_difference 0 l.told l.named;
}
