use Rattle.std.proofs.Common.{◌≡◌, ◌≤◌, ◌-◌, map, length}
use Rattle.std.specs.Prelude.{filter, max}
use Rattle.std.specs.List.{range_with_len}
use Rattle.metric_laws.specs.Space.{bound}
use Rattle.tree_growth.specs.Dealing.{is_on}
use Rattle.tree_growth.specs.Dealing.{side_at, greatest, group_radius, reach}
use Rattle.promote_split.proofs.promoting.radius_of.Given as goal

abbrev pub invariant-loop-i : goal.invariant-loop-i
invariant-loop-i l = record {
  radius : max l.radius (greatest (map (reach l.matrix l.to) (filter (λ i. is_on l.on (side_at l.sides i)) (range_with_len l.i (length l.sides - l.i))))) ≡ group_radius l.matrix l.to l.on l.sides;
  within : l.radius ≤ bound;
}
