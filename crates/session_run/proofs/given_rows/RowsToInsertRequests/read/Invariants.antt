use Rattle.std.proofs.Common.{◌≡◌, All, length}
use Rattle.node_page.specs.Nodes.{firsts}
use Rattle.rows_text.specs.Readable.{IsReadable}
use Rattle.session_run.specs.GivenRows.{insert_at}
use Rattle.session_run.proofs.given_rows.RowsToInsertRequests.read.Given as goal

abbrev pub invariant-loop-i : goal.invariant-loop-i
invariant-loop-i l =
    (l.commands.items ≡ firsts (insert_at l.given.rows l.given.tags l.dimension) l.i) × (All (IsReadable l.dimension) l.commands.items × (length l.commands.items ≡ l.i))
