use Rattle.std.proofs.Common.{◌≡◌, ◌<◌, ◌-◌, length, slice_index_or}
use Rattle.std.specs.Prelude.{filter, IfSome}
use Rattle.std.specs.List.{range_with_len}
use Rattle.tree_growth.specs.Dealing.{first_least, may_leave}
use Rattle.promote_split.specs.Steps.{later}
use Rattle.promote_split.proofs.dealing.nearest.Given as goal

abbrev pub invariant-loop-i : goal.invariant-loop-i
invariant-loop-i l = record {
  low : IfSome l.best (λ j. j < length l.sides);
  nearest : later (λ k. slice_index_or l.row k 0) l.best (filter (may_leave l.pair.a l.pair.b l.from l.sides) (range_with_len l.i (length l.sides - l.i)))
      ≡ first_least (λ k. slice_index_or l.row k 0) (filter (may_leave l.pair.a l.pair.b l.from l.sides) (range_with_len 0 (length l.sides)));
}
