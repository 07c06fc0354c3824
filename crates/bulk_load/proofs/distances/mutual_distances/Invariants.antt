use Rattle.std.proofs.Common.{◌≡◌, ◌++◌, map, drop}
use Rattle.std.specs.List.{flat_map}
use Rattle.bulk_load.specs.Measured.{all_apart}
use Rattle.bulk_load.proofs.distances.mutual_distances.Given as goal

abbrev pub invariant-loop-from : goal.invariant-loop-from
invariant-loop-from g l =
    let s = g.M.Metric.space l.metric in
    l.apart.items ++ flat_map (λ c. map (s.dist c) l.centres) (drop l.from-index l.centres) ≡ all_apart s l.centres
