use Rattle.std.proofs.Common.{◌≡◌, ◌++◌, drop}
use Rattle.tree_growth.specs.Groups.{entry}
use Rattle.bulk_load.specs.Candidates.{candidates_from}
use Rattle.bulk_load.proofs.filling.candidates.Given as goal

abbrev pub invariant-loop-place : goal.invariant-loop-place
invariant-loop-place g l =
    l.near.items ++ candidates_from (entry l.distances.table) l.least l.group l.placed l.place (drop l.place l.placed) ≡ candidates_from (entry l.distances.table) l.least l.group l.placed 0 l.placed
