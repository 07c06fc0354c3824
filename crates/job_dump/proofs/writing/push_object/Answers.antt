use Rattle.std.proofs.Common.{sym, subst}
use Rattle.tree_shape.specs.declared.entry.Node.{Node}
use Rattle.tree_shape.specs.Entries.{leaf_of}
use Rattle.page_store.specs.Shelf.{IsNodeOf}
use Rattle.job_dump.proofs.Reading.{row_read}
use Rattle.job_dump.proofs.writing.push_object.Goals as goal

pub returns-clause-row : goal.returns-clause-row
returns-clause-row g c =
    let shelf = g.P.Pages.shelf c.args.pages.now in
    let told = c.in-Some.ensures.some in
    let e = leaf_of c.in-Some.entry in
    let node = c.as_ref.result.now in
    let is = subst (λ (n : Node). IsNodeOf shelf c.of-page.result.0 n) (sym c.as_ref.ensures) c.in_ok-node.ensures.ok in (
      (e.tag, e.point),
      c.in_ok-push_row.ensures,
      λ live low.
          row_read shelf c.args.places.now c.args.id c.of-page.result.0 c.of-page.result.1 c.of-page.ensures.page c.of-page.ensures.number node e is told.1 live low,
    )
