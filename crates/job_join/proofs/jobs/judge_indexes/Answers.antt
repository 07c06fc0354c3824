use Rattle.std.proofs.Common.{ap}
use Rattle.std.specs.Prelude.{Err}
use Rattle.disk_model.specs.Moments.{then_unchanged}
use Rattle.job_files.specs.Logs.Jobs.{Writes}
use Rattle.job_files.proofs.Published.{judged_all, judged_some, judged_none, said_all, said_some}
use Rattle.job_join.specs.Trees.{tree_of, said_of}
use Rattle.job_join.proofs.Ending.{Opened, either_before, on_trees}
use Rattle.job_join.proofs.jobs.judge_indexes.Goals as goal

pub returns-in-Ok-report_on-clause-judges : goal.returns-in-Ok-report_on-clause-judges
returns-in-Ok-report_on-clause-judges g c =
    let first = c.in-Ok.ensures in
    let told = c.in-Ok-report_on.ensures in
    let d0 = g.D.Disk.state c.args.index.now in
    let d1 = g.D.Disk.state c.open_both.new.index in
    let d2 = g.D.Disk.state c.report_on.new.index in
    let e0 = g.E.Disk.state c.args.other.now in
    let e1 = g.E.Disk.state c.open_both.new.other in
    let e2 = g.E.Disk.state c.report_on.new.other in
    let l = c.in-Ok.trees.left in
    let r = c.in-Ok.trees.right in
    let w0 = g.K.Sink.state c.args.out.now in
    let w1 = g.K.Sink.state c.report_on.new.out in
    let status = c.in-Ok-report_on.status.0 in
    let opened : Opened d0 d1 e0 e1 l r =
    record { same = first.same; other_same = first.other_same; opens = first.opens; other_opens = first.other_opens; later = first.later; other_later = first.other_later } in
    judged_all _ _ _ _ (then_unchanged d0 d1 d2 first.same told.same, then_unchanged e0 e1 e2 first.other_same told.other_same) w0 w1 status told.statuses
    (on_trees (λ t u. Writes status (said_of c.args.report t u c.args.bytes.now) w0 w1) d0 d1 e0 e1 l r opened
    (λ t u. said_all (said_of c.args.report (tree_of d1 l) (tree_of e1 r) c.args.bytes.now) w0 w1 status told.statuses (told.status t u) (rw first.silent at told.puts t u)))

pub returns-in-Err-report_on-clause-judges : goal.returns-in-Err-report_on-clause-judges
returns-in-Err-report_on-clause-judges g c =
    let first = c.in-Ok.ensures in
    let told = c.in-Err-report_on.ensures in
    let d0 = g.D.Disk.state c.args.index.now in
    let d1 = g.D.Disk.state c.open_both.new.index in
    let d2 = g.D.Disk.state c.report_on.new.index in
    let e0 = g.E.Disk.state c.args.other.now in
    let e1 = g.E.Disk.state c.open_both.new.other in
    let e2 = g.E.Disk.state c.report_on.new.other in
    let l = c.in-Ok.trees.left in
    let r = c.in-Ok.trees.right in
    let w0 = g.K.Sink.state c.args.out.now in
    let w1 = g.K.Sink.state c.report_on.new.out in
    let w2 = g.K.Sink.state c.end_stopped.new.out in
    let why = c.in-Err-report_on.why in
    let status = c.end_stopped.result.0 in
    let ends = c.end_stopped.ensures.ends in
    let opened : Opened d0 d1 e0 e1 l r =
    record { same = first.same; other_same = first.other_same; opens = first.opens; other_opens = first.other_opens; later = first.later; other_later = first.other_later } in
    judged_some _ _ _ _ (then_unchanged d0 d1 d2 first.same told.same, then_unchanged e0 e1 e2 first.other_same told.other_same) why w0 w1 w2 status ends
    (on_trees (λ t u. Writes status (said_of c.args.report t u c.args.bytes.now) w0 w2) d0 d1 e0 e1 l r opened
    (λ t u. said_some (said_of c.args.report (tree_of d1 l) (tree_of e1 r) c.args.bytes.now) w0 w1 w2 status why (rw first.silent at told.later) (rw first.silent at told.puts t u) ends))
    (λ is. either_before d0 d1 d2 e0 e1 e2 l r opened (told.disk (ap (λ w. Err w) is)))

pub returns-in-Err-clause-judges : goal.returns-in-Err-clause-judges
returns-in-Err-clause-judges g c =
    let refuses = c.in-Err.ensures.refuses in
    judged_none _ _ _ _ (c.in-Err.ensures.same, c.in-Err.ensures.other_same) _ _ c.in-Err.status.0 refuses.statuses refuses.disk refuses.not_index
