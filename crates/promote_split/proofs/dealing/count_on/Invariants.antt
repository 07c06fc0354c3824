use Rattle.std.proofs.Common.{◌≡◌, ◌≤◌, take}
use Rattle.tree_growth.specs.Dealing.{count_on}
use Rattle.promote_split.proofs.dealing.count_on.Given as goal

abbrev pub invariant-loop-i : goal.invariant-loop-i
invariant-loop-i l = (l.count ≤ l.i) × (l.count ≡ count_on l.on (take l.i l.sides))
