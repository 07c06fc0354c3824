use Rattle.std.proofs.Common.{◌≡◌, ◌++◌, ◌-◌, map, length}
use Rattle.std.specs.List.{range_with_len}
use Rattle.tree_growth.specs.Dealing.{size}
use Rattle.tree_growth.specs.Dealing.{nearer, by_nearer}
use Rattle.promote_split.proofs.dealing.start_by_nearer.Given as goal

abbrev pub invariant-loop-i : goal.invariant-loop-i
invariant-loop-i l = record {
  sides : l.sides.items ++ map (nearer l.matrix l.pair.a l.pair.b) (range_with_len l.i (size l.matrix - l.i)) ≡ by_nearer l.matrix l.pair.a l.pair.b;
  long : length l.sides.items ≡ l.i;
}
