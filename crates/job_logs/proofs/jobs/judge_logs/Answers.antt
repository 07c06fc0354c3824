use Rattle.std.proofs.Common.{inl, arith}
use Rattle.page_store.specs.Kept.{unchanged_by_none}
use Rattle.job_files.proofs.Published.{judged_late, read_all, read_none}
use Rattle.job_logs.proofs.jobs.judge_logs.Goals as goal

pub returns-in-Ok-clause-judges : goal.returns-in-Ok-clause-judges
returns-in-Ok-clause-judges g c =
    let first = c.in-Ok.ensures in
    let told = c.judge_index.ensures in
    read_all _ _ _ _ told.judges.unchanged.0 c.in-Ok.bytes.items _ _ c.judge_index.result.0 first.takes told.statuses (rw (first.silent, c.deref.ensures.value) at told.judges)

pub returns-in-Err-clause-judges : goal.returns-in-Err-clause-judges
returns-in-Err-clause-judges g c =
    let same = unchanged_by_none (g.D.Disk.state c.args.index.now) in
    read_none _ _ _ _ same _ _ c.in-Err.status.0 c.in-Err.ensures.unread (λ bytes is line. judged_late _ _ _ _ (same, inl (omega arith)) _ _ c.in-Err.status.0 is line)
