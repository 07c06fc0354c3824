use Rattle.batch_run.proofs.jobs.Whole.{unread, whole}
use Rattle.batch_run.proofs.jobs.batch_job.run_batch.Goals as goal

pub returns-in-Ok-clause-runs : goal.returns-in-Ok-clause-runs
returns-in-Ok-clause-runs g c =
    whole c.args.show_tags (g.S.Source.left c.args.input.now) (g.S.Source.left c.read_all.new.source) c.deref.result.now (g.D.Disk.state c.args.index.now) (g.D.Disk.state c.run_on_index.new.index)
    (g.K.Sink.state c.args.out.now) (g.K.Sink.state c.run_on_index.new.out) (g.T.Sink.state c.args.log_out.now) (g.T.Sink.state c.run_on_index.new.log_out) c.run_on_index.result.0
    (rw c.deref.ensures.value c.in-Ok.ensures.ok) c.in-Ok.ensures.end c.run_on_index.ensures.opened

pub returns-in-Err-clause-runs : goal.returns-in-Err-clause-runs
returns-in-Err-clause-runs g c =
    unread c.args.show_tags (g.S.Source.left c.args.input.now) (g.D.Disk.state c.args.index.now) (g.K.Sink.state c.args.out.now) (g.K.Sink.state c.end_unread.new.out) (g.T.Sink.state c.args.log_out.now)
    c.end_unread.result.0 c.end_unread.ensures.input c.end_unread.ensures.long c.end_unread.ensures.memory c.end_unread.ensures.statuses
