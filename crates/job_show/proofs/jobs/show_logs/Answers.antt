use Rattle.page_store.specs.Kept.{unchanged_by_none}
use Rattle.job_files.proofs.Published.{judged_late, read_all, read_none}
use Rattle.job_show.proofs.jobs.show_logs.Goals as goal

pub returns-in-Ok-clause-shows : goal.returns-in-Ok-clause-shows
returns-in-Ok-clause-shows g c =
    let first = c.in-Ok.ensures in
    let told = c.show_index.ensures in
    read_all _ _ _ _ told.shows.unchanged c.in-Ok.bytes.items _ _ c.show_index.result.0 first.takes told.statuses (rw (first.silent, c.deref.ensures.value) at told.shows)

pub returns-in-Err-clause-shows : goal.returns-in-Err-clause-shows
returns-in-Err-clause-shows g c =
    let same = unchanged_by_none (g.D.Disk.state c.args.index.now) in
    read_none _ _ _ _ same _ _ c.in-Err.status.0 c.in-Err.ensures.unread (λ bytes is line. judged_late _ _ _ _ same _ _ c.in-Err.status.0 is line)
