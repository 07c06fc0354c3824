use Rattle.std.proofs.Common.{◌≡◌, ◌-◌, ◌≤◌, ◌<◌, ℕ, true, length, get_or}
use Rattle.tree_shape.specs.declared.entry.LeafEntry.{LeafEntry}
use Rattle.log_model.specs.JoinWalk.{object_entry, join_skips}
use Rattle.metric_join.proofs.opening.next_object.Given as goal

-- those up to this one are ruled out
abbrev pub invariant-loop-at : goal.invariant-loop-at
invariant-loop-at l = record {
  low : l.from ≤ l.at;
  high : l.at ≤ length l.objects;
  out : (k : ℕ) (e : LeafEntry) → l.from ≤ k → k < l.at → join_skips l.probe.rho l.probe.need.now (object_entry (get_or l.objects k e)) ≡ true;
}

abbrev pub decreases-loop-at : goal.decreases-loop-at
decreases-loop-at l = length l.objects - l.at
