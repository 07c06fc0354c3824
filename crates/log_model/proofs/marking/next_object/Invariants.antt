use Rattle.std.proofs.Common.{◌≡◌, ◌-◌, ◌≤◌, ◌<◌, ℕ, true, length, get_or}
use Rattle.tree_shape.specs.declared.entry.LeafEntry.{LeafEntry}
use Rattle.metric_laws.specs.Pruning.{parent_rules_out}
use Rattle.log_model.proofs.marking.next_object.Given as goal

-- those up to this one are ruled out
abbrev pub invariant-loop-at : goal.invariant-loop-at
invariant-loop-at l = record {
  low : l.from ≤ l.at;
  high : l.at ≤ length l.objects;
  out : (k : ℕ) (e : LeafEntry) → l.from ≤ k → k < l.at → parent_rules_out l.dist (get_or l.objects k e).parent l.rho 0 ≡ true;
}

abbrev pub decreases-loop-at : goal.decreases-loop-at
decreases-loop-at l = length l.objects - l.at
