use Rattle.std.proofs.Common.{◌≡◌, ℕ, List, All, length, sym, ap, subst, ◌∙◌, arith}
use Rattle.metric_laws.specs.Rows.{Table}
use Rattle.session_run.proofs.RowLists.{each_has, rows_are_as_many, rows_are_wide}
use Rattle.session_run.proofs.given_rows.GivenRows.new.Goals as goal

pub invariant_of-result : goal.invariant_of-result
invariant_of-result c =
    let points = ap (λ (t : Table). t.points) c.in_ok-rows.ensures in
    let many : length c.in_ok-rows.rows.points ≡ c.args.count = ap length points ∙ rows_are_as_many c.args.width c.args.count c.args.cells.now in
    record {
      as_wide = ap (λ (t : Table). t.dimension) c.in_ok-rows.ensures;
      wide = subst (All (λ (p : List ℕ). length p ≡ c.args.width)) (sym points) (rows_are_wide c.args.width c.args.count c.args.cells.now (omega (arith, c.requires.whole)));
      few = omega (arith, many, c.requires.few);
      each = λ ts is. each_has c.args.tagged c.args.tags.now ts c.args.count c.requires.each (sym c.in_ok-tags.ensures ∙ is) ∙ sym many;
    }
