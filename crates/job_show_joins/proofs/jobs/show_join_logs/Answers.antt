use Rattle.disk_model.specs.Disk.{IsUnchanged}
use Rattle.page_store.specs.Kept.{unchanged_by_none}
use Rattle.job_files.proofs.Published.{judged_late, read_all, read_none}
use Rattle.job_show_joins.proofs.jobs.show_join_logs.Goals as goal

pub returns-in-Ok-clause-shows : goal.returns-in-Ok-clause-shows
returns-in-Ok-clause-shows g c =
    let first = c.in-Ok.ensures in
    let told = c.show_indexes.ensures in
    read_all _ _ _ _ told.shows.unchanged c.in-Ok.bytes.items _ _ c.show_indexes.result.0 first.takes told.statuses (rw (first.silent, c.deref.ensures.value) at told.shows)

pub returns-in-Err-clause-shows : goal.returns-in-Err-clause-shows
returns-in-Err-clause-shows g c =
    let index = g.D.Disk.state c.args.index.now in
    let other = g.E.Disk.state c.args.other.now in
    let same : IsUnchanged index index × IsUnchanged other other = (unchanged_by_none index, unchanged_by_none other) in
    read_none _ _ _ _ same _ _ c.in-Err.status.0 c.in-Err.ensures.unread (λ bytes is line. judged_late _ _ _ _ same _ _ c.in-Err.status.0 is line)
