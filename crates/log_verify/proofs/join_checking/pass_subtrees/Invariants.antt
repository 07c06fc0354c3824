use Rattle.std.proofs.Common.{◌≡◌, ◌+◌, ◌-◌, ◌≤◌, ◌<◌, ℕ, true, length, get_or}
use Rattle.tree_shape.specs.declared.entry.InnerEntry.{InnerEntry}
use Rattle.log_model.specs.declared.marks.Mark.TheVariants.{Skip}
use Rattle.log_model.specs.JoinWalk.{far_stored, other, radius_of}
use Rattle.log_verify.proofs.join_checking.pass_subtrees.Given as goal

-- those up to this one are rightly marked Skip
abbrev pub invariant-loop-at : goal.invariant-loop-at
invariant-loop-at l = record {
  low : l.from ≤ l.at;
  high : l.at ≤ length l.subtrees;
  marked : (k : ℕ) → l.from ≤ k → k < l.at → get_or l.marks k Skip ≡ Skip;
  skipped : (k : ℕ) (e : InnerEntry) → l.from ≤ k → k < l.at → far_stored l.probe.need.now.apart (get_or l.subtrees k e).parent l.probe.rho ((get_or l.subtrees k e).radius + radius_of (other l.probe.need.now)) ≡ true;
}

abbrev pub decreases-loop-at : goal.decreases-loop-at
decreases-loop-at l = length l.subtrees - l.at
