use Rattle.std.proofs.Common.{◌≡◌, ◌++◌, map, drop}
use Rattle.bulk_load.proofs.distances.add_distances.Given as goal

abbrev pub invariant-loop-to : goal.invariant-loop-to
invariant-loop-to g l =
    l.apart.items ++ map ((g.M.Metric.space l.metric).dist l.from) (drop l.to-index l.centres)
    ≡ l.fn.apart.items ++ map ((g.M.Metric.space l.metric).dist l.from) l.centres
