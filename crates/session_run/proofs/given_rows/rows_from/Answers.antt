use Rattle.std.proofs.Common.{◌≡◌, ℕ, ◌+◌, ◌-◌, ◌*◌, List, [], ◌∷◌, ◌++◌, take, drop, sym, ap, ◌∙◌, arith}
use Rattle.metric_laws.specs.Rows.{Table, rows_of}
use Rattle.session_run.proofs.RowLists.{one_row_more}
use Rattle.session_run.proofs.given_rows.rows_from.Goals as goal

pub loop-i-preserved : goal.loop-i-preserved
loop-i-preserved c =
    let width = c.args.width in
    let i = c.loop-i.i in
    let cells = c.args.cells.now in
    let long : i * width + width - i * width ≡ width = omega arith in
    c.in_ok-push.ensures.ok
    ∙ ap (λ (t : Table). record t { points = t.points ++ take (i * width + width - i * width) (drop (i * width) cells) ∷ [] }) c.loop-i.invariant
    ∙ ap (λ (n : ℕ). record { dimension = width; points = rows_of width i cells ++ take n (drop (i * width) cells) ∷ [] }) long
    ∙ ap (λ (ps : List (List ℕ)). record { dimension = width; points = ps }) (sym (one_row_more width i cells))
