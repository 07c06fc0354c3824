use Rattle.std.proofs.Common.{sym, ◌∙◌}
use Rattle.seal_log.specs.Judged.{missing_from}
use Rattle.seal_log.proofs.Found.{missing-goes_on, missing-here, missing-done, not-not, not-is}
use Rattle.seal_log.proofs.carried.first_missing.Goals as goal

pub returns-then-is_none : goal.returns-then-is_none
returns-then-is_none c =
    missing-here c.args.carried.now c.args.records.now c.loop-i.i c.index-records-i.result _ (missing_from c.args.carried.now c.args.records.now 0) c.loop-i-test.true c.index-records-i.is
    (sym c.find_page.ensures.test ∙ not-is _ c.is_none.result c.is_none.ensures c.if-is_none.true) c.loop-i.invariant

pub loop-i-preserved : goal.loop-i-preserved
loop-i-preserved c =
    missing-goes_on c.args.carried.now c.args.records.now c.loop-i.i c.index-records-i.result _ (missing_from c.args.carried.now c.args.records.now 0) c.loop-i-test.true c.index-records-i.is
    (sym c.find_page.ensures.test ∙ not-not _ c.is_none.result c.is_none.ensures c.if-is_none.false) c.loop-i.invariant

pub returns : goal.returns
returns c = missing-done c.args.carried.now c.args.records.now c.loop-i.i (missing_from c.args.carried.now c.args.records.now 0) c.loop-i-test.false c.loop-i.invariant
