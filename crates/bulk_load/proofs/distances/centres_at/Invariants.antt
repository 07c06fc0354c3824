use Rattle.std.proofs.Common.{◌≡◌, ◌++◌, drop}
use Rattle.bulk_load.specs.Measured.{points_of}
use Rattle.bulk_load.proofs.distances.centres_at.Given as goal

abbrev pub invariant-loop-seed : goal.invariant-loop-seed
invariant-loop-seed l =
    l.centres.items ++ points_of (points_of l.rows.points l.set) (drop l.seed-index l.seeds) ≡ points_of (points_of l.rows.points l.set) l.seeds
