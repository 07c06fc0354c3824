use Rattle.std.proofs.Common.{◌≡◌, ◌+◌, ◌-◌, ◌≤◌, ◌<◌, ℕ, true, length, get_or}
use Rattle.tree_shape.specs.declared.entry.LeafEntry.{LeafEntry}
use Rattle.log_model.specs.declared.marks.Mark.TheVariants.{Skip}
use Rattle.log_model.specs.JoinWalk.{far_stored, other, radius_of}
use Rattle.log_verify.proofs.join_checking.pass_objects.Given as goal

-- those up to this one are rightly marked Skip
abbrev pub invariant-loop-at : goal.invariant-loop-at
invariant-loop-at l = record {
  low : l.from ≤ l.at;
  high : l.at ≤ length l.objects;
  marked : (k : ℕ) → l.from ≤ k → k < l.at → get_or l.marks k Skip ≡ Skip;
  skipped : (k : ℕ) (e : LeafEntry) → l.from ≤ k → k < l.at → far_stored l.probe.need.now.apart (get_or l.objects k e).parent l.probe.rho (0 + radius_of (other l.probe.need.now)) ≡ true;
}

abbrev pub decreases-loop-at : goal.decreases-loop-at
decreases-loop-at l = length l.objects - l.at
