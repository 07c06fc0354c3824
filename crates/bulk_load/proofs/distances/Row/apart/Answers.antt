use Rattle.std.proofs.Common.{arith}
use Rattle.bulk_load.proofs.Spared.{by_way_of, stands_inside}
use Rattle.bulk_load.proofs.distances.Row.apart.Goals as goal

pub overflow_mul-result : goal.overflow_mul-result
overflow_mul-result g c =
    let low = stands_inside (g.M.Metric.space c.self.inside.metric) c.self.inside.object.now c.self.inside.centres.now c.self.inside.apart.now c.args.self.now c.self.invariant
    c.self.view_is c.args.first c.args.second c.requires.first c.requires.second in
    let a = c.self.told in let b = c.self.told2 in let d = c.self.told3 in omega (arith, low, a, b, d)

pub overflow_add-result : goal.overflow_add-result
overflow_add-result g c =
    let low = stands_inside (g.M.Metric.space c.self.inside.metric) c.self.inside.object.now c.self.inside.centres.now c.self.inside.apart.now c.args.self.now c.self.invariant
    c.self.view_is c.args.first c.args.second c.requires.first c.requires.second in
    let a = c.self.told in let b = c.self.told2 in let d = c.self.told3 in omega (arith, low, a, b, d)

pub offset_bounds-self-inside-first : goal.offset_bounds-self-inside-first
offset_bounds-self-inside-first g c =
    let low = stands_inside (g.M.Metric.space c.self.inside.metric) c.self.inside.object.now c.self.inside.centres.now c.self.inside.apart.now c.args.self.now c.self.invariant
    c.self.view_is c.args.first c.args.second c.requires.first c.requires.second in
    let a = c.self.told in let b = c.self.told2 in let d = c.self.told3 in omega (arith, low, a, b, d)

pub bounds-self-inside-first : goal.bounds-self-inside-first
bounds-self-inside-first g c =
    stands_inside (g.M.Metric.space c.self.inside.metric) c.self.inside.object.now c.self.inside.centres.now c.self.inside.apart.now c.args.self.now c.self.invariant c.self.view_is
    c.args.first c.args.second c.requires.first c.requires.second

pub returns : goal.returns
returns g c =
    by_way_of (g.M.Metric.space c.self.inside.metric) c.self.inside.object.now c.self.inside.centres.now c.self.inside.apart.now c.args.self.now c.self.invariant c.self.view_is
    c.args.first c.args.second c.requires.first c.requires.second (g.M.Metric.axioms c.self.inside.metric)
