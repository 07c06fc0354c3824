use Rattle.std.proofs.Common.{◌≡◌, ◌<◌, drop, get_or, None}
use Rattle.std.specs.Prelude.{IfSome}
use Rattle.tree_growth.specs.Groups.{nearest_from, entry}
use Rattle.bulk_load.proofs.placing.nearest.Given as goal

abbrev pub invariant-loop-group : goal.invariant-loop-group
invariant-loop-group g l =
    let far = entry l.distances.table in
    (nearest_from far l.room l.place l.group l.best (drop l.group l.counts) ≡ nearest_from far l.room l.place 0 None l.counts)
    × IfSome l.best (λ b. (b.1 < l.distances.width) × (get_or l.counts b.1 0 < l.room) × (b.0 ≡ far l.place b.1))
