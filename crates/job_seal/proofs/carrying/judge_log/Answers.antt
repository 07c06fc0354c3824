use Rattle.seal_log.proofs.Published.{valid-dim}
use Rattle.job_seal.proofs.carrying.judge_log.Goals as goal

pub new-pages-requires-clause-some : goal.new-pages-requires-clause-some
new-pages-requires-clause-some g c = (valid-dim c.args.opened.now.0 c.requires.head).0

pub new-pages-requires-clause-few : goal.new-pages-requires-clause-few
new-pages-requires-clause-few g c = (valid-dim c.args.opened.now.0 c.requires.head).1
