use Rattle.std.proofs.Common.{take}
use Rattle.metric_laws.specs.Rows.{rows_of}
use Rattle.page_store.specs.Images.{bytes_in}
use Rattle.mtree_c.specs.Each.{AnswersTo, IsOpened}
use Rattle.mtree_c.proofs.each.answer_rows.Given as goal

abbrev pub invariant-loop-i : goal.invariant-loop-i
invariant-loop-i l = record {
  opened : IsOpened (bytes_in l.fn.pages.inner.image) l.opened.0 l.opened.1 l.pages;
  answered : AnswersTo (bytes_in l.fn.pages.inner.image) l.ask (take l.i (rows_of l.opened.0.dim l.rows l.points)) l.joined.hits.items l.joined.counts.items;
}
