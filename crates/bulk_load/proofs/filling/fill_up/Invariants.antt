use Rattle.std.proofs.Common.{◌≡◌, ◌<◌, ◌-◌, length}
use Rattle.std.specs.Prelude.{All}
use Rattle.tree_growth.specs.declared.rules.Member.{Member}
use Rattle.tree_growth.specs.Groups.{filled_from, entry}
use Rattle.bulk_load.specs.Candidates.{AreCounts}
use Rattle.bulk_load.proofs.filling.fill_up.Given as goal

abbrev pub invariant-loop-group : goal.invariant-loop-group
invariant-loop-group g l =
    (filled_from (entry l.distances.table) l.least l.group (l.distances.width - l.group) l.placed ≡ filled_from (entry l.distances.table) l.least 0 l.distances.width l.fn.placed)
    × AreCounts l.counts l.placed × (length l.counts ≡ l.distances.width) × (length l.placed ≡ length l.fn.placed) × All (λ (p : Member). p.group < l.distances.width) l.placed
