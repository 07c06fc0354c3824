use Rattle.batch_run.proofs.Parts.{tried_if_ok}
use Rattle.batch_run.proofs.auditing.try_parts.Goals as goal

pub returns : goal.returns
returns g c = tried_if_ok (g.M.Metric.space c.args.metric) c.args.live.now (g.D.Disk.state c.args.disk.now) c.args.entries.now c.share.result (rw c.len.ensures at c.share.ensures.len) c.share.ensures.each
