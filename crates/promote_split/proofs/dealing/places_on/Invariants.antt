use Rattle.std.proofs.Common.{◌≡◌, ◌++◌, ◌-◌, length}
use Rattle.std.specs.Prelude.{filter}
use Rattle.std.specs.List.{range_with_len}
use Rattle.tree_growth.specs.Dealing.{is_on, side_at, members}
use Rattle.promote_split.proofs.dealing.places_on.Given as goal

abbrev pub invariant-loop-i : goal.invariant-loop-i
invariant-loop-i l = l.places.items ++ filter (λ i. is_on l.on (side_at l.sides i)) (range_with_len l.i (length l.sides - l.i)) ≡ members l.on l.sides
