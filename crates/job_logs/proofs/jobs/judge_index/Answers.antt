use Rattle.std.proofs.Common.{ap, inl}
use Rattle.std.specs.Prelude.{Err}
use Rattle.disk_model.specs.Moments.{then_unchanged}
use Rattle.job_files.proofs.Published.{judged_all, judged_some, judged_none}
use Rattle.job_logs.proofs.Ending.{says_all, says_some, read_once}
use Rattle.job_logs.proofs.jobs.judge_index.Goals as goal
use Rattle.outside_io.proofs.Published.{rose_before}

pub returns-in-Ok-report_on-clause-judges : goal.returns-in-Ok-report_on-clause-judges
returns-in-Ok-report_on-clause-judges g c =
    let d0 = g.D.Disk.state c.args.index.now in
    let d1 = g.D.Disk.state c.open_index.new.disk in
    let d2 = g.D.Disk.state c.report_on.new.index in
    let first = c.in-Ok.ensures in
    let told = c.in-Ok-report_on.ensures in
    let r = c.in-Ok-report_on.status.0 in
    let opened = c.in-Ok.opened in
    let reads = read_once c.args.report d0 d1 d2 c.args.bytes.now opened.0 opened.1 first.opens first.version first.some first.pages first.reads told.reads in
    judged_all _ _ _ _ (then_unchanged d0 d1 d2 first.same told.same, reads) _ _ r told.statuses
    (says_all c.args.report d0 d1 c.args.bytes.now c.in-Ok.opened.0 c.in-Ok.opened.1 _ _ r first.same first.opens first.version told.statuses (rw first.silent at told.puts) told.status)

pub returns-in-Err-report_on-clause-judges : goal.returns-in-Err-report_on-clause-judges
returns-in-Err-report_on-clause-judges g c =
    let d0 = g.D.Disk.state c.args.index.now in
    let d1 = g.D.Disk.state c.open_index.new.disk in
    let d2 = g.D.Disk.state c.report_on.new.index in
    let w1 = g.K.Sink.state c.report_on.new.out in
    let w2 = g.K.Sink.state c.end_stopped.new.out in
    let first = c.in-Ok.ensures in
    let told = c.in-Err-report_on.ensures in
    let why = c.in-Err-report_on.why in
    let r = c.end_stopped.result.0 in
    let ends = c.end_stopped.ensures.ends in
    let opened = c.in-Ok.opened in
    let reads = read_once c.args.report d0 d1 d2 c.args.bytes.now opened.0 opened.1 first.opens first.version first.some first.pages first.reads told.reads in
    judged_some _ _ _ _ (then_unchanged d0 d1 d2 first.same told.same, reads) why _ w1 w2 r ends
    (says_some c.args.report d0 d1 c.args.bytes.now c.in-Ok.opened.0 c.in-Ok.opened.1 (g.K.Sink.state c.args.out.now) w1 w2 r why first.same first.opens first.version (rw first.silent at told.later) (rw first.silent at told.puts) ends)
    (λ is. rose_before d0.faults d1.faults d2.faults first.later (told.disk (ap (λ w. Err w) is)))

pub returns-in-Err-clause-judges : goal.returns-in-Err-clause-judges
returns-in-Err-clause-judges g c =
    let refuses = c.in-Err.ensures.refuses in
    judged_none _ _ _ _ (c.in-Err.ensures.same, inl c.in-Err.ensures.reads) _ _ c.in-Err.status.0 refuses.statuses refuses.disk refuses.not_index
