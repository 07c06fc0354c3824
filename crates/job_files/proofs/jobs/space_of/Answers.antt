use Rattle.job_files.proofs.Spaces.{space_by_head}
use Rattle.job_files.proofs.jobs.space_of.Goals as goal

pub unreachable-requires : goal.unreachable-requires
unreachable-requires c =
    let has = space_by_head c.args.head.now.kind c.args.head.now.dim c.requires.space in
    cc (c.in-Err.ensures.ok.1 (has.low_kind, has.high_kind, has.valid))
