use Rattle.std.proofs.Common.{ap}
use Rattle.std.specs.Prelude.{Err}
use Rattle.disk_model.specs.Moments.{then_unchanged}
use Rattle.job_files.proofs.Published.{judged_all, judged_none, judged_some}
use Rattle.job_show_joins.proofs.PairEnding.{either_before, shows_all, shows_some}
use Rattle.job_show_joins.proofs.jobs.show_indexes.Goals as goal

pub returns-in-Ok-show_trees-clause-shows : goal.returns-in-Ok-show_trees-clause-shows
returns-in-Ok-show_trees-clause-shows g c =
    let d0 = g.D.Disk.state c.args.index.now in
    let d1 = g.D.Disk.state c.open_both.new.index in
    let d2 = g.D.Disk.state c.count_both.new.index in
    let d3 = g.D.Disk.state c.show_trees.new.index in
    let e0 = g.E.Disk.state c.args.other.now in
    let e1 = g.E.Disk.state c.open_both.new.other in
    let e2 = g.E.Disk.state c.count_both.new.other in
    let e3 = g.E.Disk.state c.show_trees.new.other in
    let first = c.in-Ok.ensures in
    let counted = c.in-Ok-count_both.ensures in
    let told = c.in-Ok-show_trees.ensures in
    let status = c.in-Ok-show_trees.status.0 in
    judged_all _ _ _ _ (then_unchanged d0 d1 d3 first.same (then_unchanged d1 d2 d3 counted.same told.same), then_unchanged e0 e1 e3 first.other_same (then_unchanged e1 e2 e3 counted.other_same told.other_same)) _ _ status told.statuses
    (shows_all c.args.marks d0 d1 d2 e0 e1 e2 c.args.bytes.now c.in-Ok.trees.left c.in-Ok.trees.right c.in-Ok-count_both.nodes first.same counted.same first.other_same counted.other_same
    first.opens first.other_opens counted.nodes counted.other_nodes _ _ status told.statuses (rw first.silent at told.puts) told.status)

pub returns-in-Err-show_trees-clause-shows : goal.returns-in-Err-show_trees-clause-shows
returns-in-Err-show_trees-clause-shows g c =
    let d0 = g.D.Disk.state c.args.index.now in
    let d1 = g.D.Disk.state c.open_both.new.index in
    let d2 = g.D.Disk.state c.count_both.new.index in
    let d3 = g.D.Disk.state c.show_trees.new.index in
    let e0 = g.E.Disk.state c.args.other.now in
    let e1 = g.E.Disk.state c.open_both.new.other in
    let e2 = g.E.Disk.state c.count_both.new.other in
    let e3 = g.E.Disk.state c.show_trees.new.other in
    let first = c.in-Ok.ensures in
    let counted = c.in-Ok-count_both.ensures in
    let w1 = g.K.Sink.state c.show_trees.new.out in
    let w2 = g.K.Sink.state c.end_stopped-in-Err-show_trees.new.out in
    let told = c.in-Err-show_trees.ensures in
    let why = c.in-Err-show_trees.why in
    let status = c.end_stopped-in-Err-show_trees.result.0 in
    let ends = c.end_stopped-in-Err-show_trees.ensures.ends in
    judged_some _ _ _ _ (then_unchanged d0 d1 d3 first.same (then_unchanged d1 d2 d3 counted.same told.same), then_unchanged e0 e1 e3 first.other_same (then_unchanged e1 e2 e3 counted.other_same told.other_same)) why _ w1 w2 status ends
    (shows_some c.args.marks d0 d1 d2 e0 e1 e2 c.args.bytes.now c.in-Ok.trees.left c.in-Ok.trees.right c.in-Ok-count_both.nodes first.same counted.same first.other_same counted.other_same
    first.opens first.other_opens counted.nodes counted.other_nodes (g.K.Sink.state c.args.out.now) w1 w2 status why (rw first.silent at told.later) (rw first.silent at told.puts) ends)
    (λ is. either_before d0 d1 d3 e0 e1 e3 first.later first.other_later (either_before d1 d2 d3 e1 e2 e3 counted.later counted.other_later (told.disk (ap (λ w. Err w) is))))

pub returns-in-Err-clause-shows : goal.returns-in-Err-clause-shows
returns-in-Err-clause-shows g c =
    let refuses = c.in-Err.ensures.refuses in
    judged_none _ _ _ _ (c.in-Err.ensures.same, c.in-Err.ensures.other_same) _ _ c.in-Err.status.0 refuses.statuses refuses.disk refuses.not_index
