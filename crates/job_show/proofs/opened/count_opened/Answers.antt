use Rattle.job_files.proofs.Published.{space_by_head}
use Rattle.job_show.proofs.opened.count_opened.Goals as goal

pub new-pages-requires-clause-some : goal.new-pages-requires-clause-some
new-pages-requires-clause-some g c = (space_by_head c.args.opened.now.0.kind c.args.opened.now.0.dim c.requires.head.space).low_dim

pub new-pages-requires-clause-few : goal.new-pages-requires-clause-few
new-pages-requires-clause-few g c = (space_by_head c.args.opened.now.0.kind c.args.opened.now.0.dim c.requires.head.space).high_dim
