use Rattle.std.proofs.Common.{◌≤◌, length, reverse, arith}
use Rattle.log_model.specs.Walk.{Search}
use Rattle.page_store.proofs.Published.{holds_both}
use Rattle.job_show.specs.Steps.{search_by}
use Rattle.job_show.proofs.FewMarks.{few_next, few_small, short_at}
use Rattle.job_show.proofs.ShownSteps.{way_next}
use Rattle.job_show.proofs.walking.show_records.Goals as goal

pub show_record-requires-clause-small : goal.show_record-requires-clause-small
show_record-requires-clause-small g c =
    few_small c.loop-told.told-index c.told-item.result.marks c.loop-told.walk.counts (omega (arith, c.requires.few, c.loop-told-test.true))
    (short_at c.args.records.now c.loop-told.told-index c.told-item.result c.loop-told-test.true c.told-item.is c.requires.marks) c.loop-told.invariant.few

pub returns-in_err-show_record-clause-keeps : goal.returns-in_err-show_record-clause-keeps
returns-in_err-show_record-clause-keeps g c =
    g.met.P.Pages.keeps_both c.args.pages.now c.loop-told.pages c.show_record.new.pages c.loop-told.invariant.keeps c.show_record.ensures.keeps

pub loop-told-preserved : goal.loop-told-preserved
loop-told-preserved g c =
    let f : Search = search_by c.args.gauge in
    let i = c.loop-told.told-index in
    let r = c.told-item.result in
    let before = c.loop-told.invariant in
    let walk = c.loop-told.walk in
    let after = c.show_record.new.walk in
    let told = c.in_ok-show_record.ensures in
    let short : length r.marks ≤ 32 = short_at c.args.records.now i r c.loop-told-test.true c.told-item.is c.requires.marks in
    record {
      same = holds_both _ _ _ before.same c.show_record.ensures.same;
      keeps = g.met.P.Pages.keeps_both c.args.pages.now c.loop-told.pages c.show_record.new.pages before.keeps c.show_record.ensures.keeps;
      depths = told.depths i before.depths;
      few = few_next i r.marks walk.counts after.counts short before.few told.counts;
      way = way_next f (g.P.Pages.shelf c.args.pages.now) (g.P.Pages.shelf c.loop-told.pages) before.same c.args.records.now i r c.loop-told-test.true c.told-item.is _
          walk.lines.items after.lines.items walk.counts after.counts (reverse walk.stack.items) (reverse after.stack.items) told.shown before.way;
    }
