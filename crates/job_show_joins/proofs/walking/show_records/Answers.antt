use Rattle.std.proofs.Common.{◌≤◌, length, arith}
use Rattle.log_model.specs.JoinWalk.{JoinSearch}
use Rattle.job_show.proofs.Published.{few_next, few_small}
use Rattle.job_show_joins.specs.Steps.{search_by}
use Rattle.job_show_joins.proofs.PairSteps.{hold_both, short_at, way_next}
use Rattle.job_show_joins.proofs.walking.show_records.Goals as goal

pub show_record-requires-clause-short : goal.show_record-requires-clause-short
show_record-requires-clause-short g c = short_at c.args.records.now c.loop-told.told-index c.told-item.result c.loop-told-test.true c.told-item.is c.requires.marks

pub show_record-requires-clause-small : goal.show_record-requires-clause-small
show_record-requires-clause-small g c =
    few_small c.loop-told.told-index c.told-item.result.marks c.loop-told.walk.counts (omega (arith, c.requires.few, c.loop-told-test.true))
    (short_at c.args.records.now c.loop-told.told-index c.told-item.result c.loop-told-test.true c.told-item.is c.requires.marks) c.loop-told.invariant.few

pub returns-in_err-show_record-clause-left_keeps : goal.returns-in_err-show_record-clause-left_keeps
returns-in_err-show_record-clause-left_keeps g c =
    g.met.P.Pages.keeps_both c.args.left.now c.loop-told.left c.show_record.new.left c.loop-told.invariant.left_keeps c.show_record.ensures.left_keeps

pub returns-in_err-show_record-clause-right_keeps : goal.returns-in_err-show_record-clause-right_keeps
returns-in_err-show_record-clause-right_keeps g c =
    g.met.Q.Pages.keeps_both c.args.right.now c.loop-told.right c.show_record.new.right c.loop-told.invariant.right_keeps c.show_record.ensures.right_keeps

pub loop-told-preserved : goal.loop-told-preserved
loop-told-preserved g c =
    let j : JoinSearch = search_by c.args.search in
    let i = c.loop-told.told-index in
    let r = c.told-item.result in
    let before = c.loop-told.invariant in
    let told = c.in_ok-show_record.ensures in
    let short : length r.marks ≤ 32 = short_at c.args.records.now i r c.loop-told-test.true c.told-item.is c.requires.marks in
    record {
      same = hold_both _ _ _ _ _ _ before.same c.show_record.ensures.same;
      left_keeps = g.met.P.Pages.keeps_both c.args.left.now c.loop-told.left c.show_record.new.left before.left_keeps c.show_record.ensures.left_keeps;
      right_keeps = g.met.Q.Pages.keeps_both c.args.right.now c.loop-told.right c.show_record.new.right before.right_keeps c.show_record.ensures.right_keeps;
      depths = told.depths i before.depths;
      few = few_next i r.marks c.loop-told.walk.counts c.show_record.new.walk.counts short before.few told.counts;
      measured = omega (arith, before.measured, told.measured);
      way = way_next j (g.P.Pages.shelf c.args.left.now) (g.P.Pages.shelf c.loop-told.left) (g.Q.Pages.shelf c.args.right.now) (g.Q.Pages.shelf c.loop-told.right) before.same
          c.args.records.now i r c.loop-told-test.true c.told-item.is _ c.loop-told.walk c.show_record.new.walk told.shown before.way;
    }
