use Rattle.std.proofs.Common.{◌≡◌, ◌-◌, ◌≤◌, ◌<◌, ◌+◌, ℕ, true, length, get_or}
use Rattle.tree_shape.specs.declared.entry.InnerEntry.{InnerEntry}
use Rattle.log_model.specs.JoinWalk.{far_stored, other, radius_of}
use Rattle.metric_join.proofs.opening.next_subtree.Given as goal

-- those up to this one are ruled out
abbrev pub invariant-loop-at : goal.invariant-loop-at
invariant-loop-at l = record {
  low : l.from ≤ l.at;
  high : l.at ≤ length l.subtrees;
  out : (k : ℕ) (e : InnerEntry) → l.from ≤ k → k < l.at → far_stored l.probe.need.now.apart (get_or l.subtrees k e).parent l.probe.rho ((get_or l.subtrees k e).radius + radius_of (other l.probe.need.now)) ≡ true;
}

abbrev pub decreases-loop-at : goal.decreases-loop-at
decreases-loop-at l = length l.subtrees - l.at
