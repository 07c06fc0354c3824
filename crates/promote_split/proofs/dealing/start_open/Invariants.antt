use Rattle.std.proofs.Common.{◌≡◌, ◌++◌, ◌-◌, map, length}
use Rattle.std.specs.List.{range_with_len}
use Rattle.tree_growth.specs.Dealing.{only_promoted}
use Rattle.promote_split.proofs.dealing.start_open.Given as goal

abbrev pub invariant-loop-i : goal.invariant-loop-i
invariant-loop-i l = record {
  sides : l.sides.items ++ map (only_promoted l.pair.a l.pair.b) (range_with_len l.i (l.count - l.i)) ≡ map (only_promoted l.pair.a l.pair.b) (range_with_len 0 l.count);
  long : length l.sides.items ≡ l.i;
}
