use Rattle.job_make.proofs.OldFiles.{nodes_within}
use Rattle.job_files.proofs.Published.{space_by_head}
use Rattle.job_make.proofs.migrating.audited_objects.Goals as goal

pub of_version-pages-requires-clause-some : goal.of_version-pages-requires-clause-some
of_version-pages-requires-clause-some g c = (space_by_head c.args.head.now.kind c.args.head.now.dim c.requires.head.space).low_dim

pub of_version-pages-requires-clause-few : goal.of_version-pages-requires-clause-few
of_version-pages-requires-clause-few g c = (space_by_head c.args.head.now.kind c.args.head.now.dim c.requires.head.space).high_dim

pub audited-requires-clause-within : goal.audited-requires-clause-within
audited-requires-clause-within g c = λ κs within.
    rw (c.of_version-pages.ensures.version, c.of_version-pages.ensures.dim, c.of_version-pages.ensures.pages) (nodes_within c.args.head.now c.args.live.now (g.D.Disk.state c.of_version-pages.result.disk.now).bytes)
