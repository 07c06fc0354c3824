use Rattle.std.proofs.Common.{ap}
use Rattle.std.specs.Prelude.{Err}
use Rattle.disk_model.specs.Moments.{then_unchanged}
use Rattle.outside_io.proofs.Published.{rose_before}
use Rattle.job_files.proofs.Published.{judged_all, judged_some}
use Rattle.job_show.proofs.Ending.{shows_all, shows_some}
use Rattle.job_show.proofs.jobs.show_index.Goals as goal

pub returns-in-Ok-show_opened-clause-shows : goal.returns-in-Ok-show_opened-clause-shows
returns-in-Ok-show_opened-clause-shows g c =
    let d0 = g.D.Disk.state c.args.index.now in
    let d1 = g.D.Disk.state c.open_index.new.disk in
    let d2 = g.D.Disk.state c.count_opened.new.index in
    let d3 = g.D.Disk.state c.show_opened.new.index in
    let first = c.in-Ok.ensures in
    let counted = c.in-Ok-count_opened.ensures in
    let told = c.in-Ok-show_opened.ensures in
    let r = c.in-Ok-show_opened.status.0 in
    judged_all _ _ _ _ (then_unchanged d0 d1 d3 first.same (then_unchanged d1 d2 d3 counted.same told.same)) _ _ r told.statuses
    (shows_all c.args.marks d0 d1 d2 c.args.bytes.now c.in-Ok.opened.0 c.in-Ok.opened.1 c.in-Ok-count_opened.nodes first.same counted.same first.opens first.version counted.nodes _ _ r told.statuses (rw first.silent at told.puts) told.status)

pub returns-in-Err-show_opened-clause-shows : goal.returns-in-Err-show_opened-clause-shows
returns-in-Err-show_opened-clause-shows g c =
    let d0 = g.D.Disk.state c.args.index.now in
    let d1 = g.D.Disk.state c.open_index.new.disk in
    let d2 = g.D.Disk.state c.count_opened.new.index in
    let d3 = g.D.Disk.state c.show_opened.new.index in
    let w1 = g.K.Sink.state c.show_opened.new.out in
    let w2 = g.K.Sink.state c.end_stopped-in-Err-show_opened.new.out in
    let first = c.in-Ok.ensures in
    let counted = c.in-Ok-count_opened.ensures in
    let told = c.in-Err-show_opened.ensures in
    let why = c.in-Err-show_opened.why in
    let r = c.end_stopped-in-Err-show_opened.result.0 in
    let ends = c.end_stopped-in-Err-show_opened.ensures.ends in
    judged_some _ _ _ _ (then_unchanged d0 d1 d3 first.same (then_unchanged d1 d2 d3 counted.same told.same)) why _ w1 w2 r ends
    (shows_some c.args.marks d0 d1 d2 c.args.bytes.now c.in-Ok.opened.0 c.in-Ok.opened.1 c.in-Ok-count_opened.nodes first.same counted.same first.opens first.version counted.nodes
    (g.K.Sink.state c.args.out.now) w1 w2 r why (rw first.silent at told.later) (rw first.silent at told.puts) ends)
    (λ is. rose_before d0.faults d1.faults d3.faults first.later (rose_before d1.faults d2.faults d3.faults counted.later (told.disk (ap (λ w. Err w) is))))
