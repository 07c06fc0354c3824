use Rattle.std.proofs.Common.{◌≤◌, ◌-◌}
use Rattle.node_page.specs.Bytes.{AreZero}
use Rattle.node_page.proofs.bytes.are_zero.Given as goal

-- the bytes up to this one are 0
abbrev pub invariant-loop-at : goal.invariant-loop-at
invariant-loop-at l = record {
  low : l.from ≤ l.at;
  zeros : AreZero l.from l.at l.page;
}

abbrev pub decreases-loop-at : goal.decreases-loop-at
decreases-loop-at l = l.last - l.at
