use Rattle.std.proofs.Common.{◌≡◌, ◌<◌, ℕ, List, [], sym, ap, ◌∙◌, length, get_or, subst}
use Rattle.std.specs.Prelude.{map}
use Rattle.metric_laws.proofs.Published.{length_map}
use Rattle.bulk_load.specs.Measured.{Measured, points_of}
use Rattle.bulk_load.proofs.Measuring.{row_is}
use Rattle.bulk_load.proofs.distances.Distances.of.Goals as goal

pub returns-clause-row : goal.returns-clause-row
returns-clause-row g c =
    let s = g.M.Metric.space c.self.inside.metric in
    let rows : List (List ℕ) = c.self.inside.rows.now.points in
    let places : List ℕ = c.self.inside.set.now in
    let centres : List (List ℕ) = c.self.inside.centres.now in
    let long : length c.args.self.now.table ≡ length places =
    sym (ap (λ (m : Measured). length m.table) c.self.view_is) ∙ length_map (λ p. map (s.dist p) centres) (points_of rows places) ∙ length_map (λ i. get_or rows i []) places in
    let low : c.args.place < length places = subst (λ (n : ℕ). c.args.place < n) long c.requires in
    row_is s rows places centres c.args.place c.point.result.now low c.point.ensures
    ∙ ap (λ (m : Measured). get_or m.table c.args.place []) c.self.view_is
