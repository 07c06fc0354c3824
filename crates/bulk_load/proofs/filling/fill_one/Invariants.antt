use Rattle.std.proofs.Common.{◌≡◌, ◌<◌, length}
use Rattle.std.specs.Prelude.{All}
use Rattle.tree_growth.specs.declared.rules.Member.{Member}
use Rattle.tree_growth.specs.Groups.{entry}
use Rattle.bulk_load.specs.Candidates.{AreCounts}
use Rattle.bulk_load.proofs.Walking.{Walk}
use Rattle.bulk_load.proofs.filling.fill_one.Given as goal

abbrev pub invariant-loop-place : goal.invariant-loop-place
invariant-loop-place g l =
    Walk (entry l.distances.table) l.least l.group l.fn.placed l.placed l.place-iterator.rest.items
    × AreCounts l.counts l.placed × (length l.counts ≡ l.distances.width) × (length l.placed ≡ length l.fn.placed) × All (λ (p : Member). p.group < l.distances.width) l.placed
