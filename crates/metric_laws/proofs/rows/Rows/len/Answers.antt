use Rattle.std.proofs.Common.{sym, ◌∙◌, ap, length}
use Rattle.metric_laws.specs.Rows.{Table}
use Rattle.metric_laws.proofs.RowsLemmas.{length-rows_of}
use Rattle.metric_laws.proofs.rows.Rows.len.Goals as goal

pub returns : goal.returns
returns c = sym (length-rows_of c.self.inside.dimension c.self.inside.count c.self.inside.cells.items) ∙ ap (λ (t : Table). length t.points) c.self.view_is
