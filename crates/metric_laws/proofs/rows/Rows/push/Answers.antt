use Rattle.std.proofs.Common.{◌≡◌, ◌+◌, ap, arith}
use Rattle.metric_laws.specs.Rows.{Table, rows_of}
use Rattle.metric_laws.proofs.RowsLemmas.{table_push}
use Rattle.metric_laws.proofs.rows.Rows.push.Goals as goal

pub returns-clause-ok : goal.returns-clause-ok
returns-clause-ok c =
    let one : c.in_ok-count.count ≡ c.self.inside.count + 1 = grind arith in
    let dimension : c.self.inside.dimension ≡ c.args.self.now.dimension = ap (λ (t : Table). t.dimension) c.self.view_is in
    let points : rows_of c.self.inside.dimension c.self.inside.count c.self.inside.cells.items ≡ c.args.self.now.points = ap (λ (t : Table). t.points) c.self.view_is in
    let grown = table_push c.self.inside.dimension c.self.inside.count c.in_ok-count.count c.self.inside.cells.items c.extend_from_slice.new.self.items c.args.p.now c.args.self.now dimension points c.self.invariant c.requires one c.in_ok-extend_from_slice.ensures.items in
    λ i. record { dimension = dimension i; points = grown i }
