use Rattle.std.proofs.Common.{Err, ap, ◌∙◌}
use Rattle.session_run.proofs.Jobs.{not_read_session, unread_complete, ran_complete, ran_session}
use Rattle.session_run.proofs.job.run_session.Goals as goal

pub returns-in-Err-clause-runs : goal.returns-in-Err-clause-runs
returns-in-Err-clause-runs g c =
    not_read_session c.args.show_tags (g.S.Source.left c.args.input.now) (g.D.Disk.state c.args.index.now) (g.K.Sink.state c.args.out.now) (g.K.Sink.state c.end_unread.new.out)
    (g.T.Sink.state c.args.log_out.now) c.end_unread.result.0 c.end_unread.ensures.input c.end_unread.ensures.long c.end_unread.ensures.memory c.end_unread.ensures.statuses

pub returns-in-Err-clause-complete : goal.returns-in-Err-clause-complete
returns-in-Err-clause-complete g c =
    unread_complete (g.S.Source.left c.args.input.now) (g.S.Source.left c.read_all.new.source) (g.D.Disk.state c.args.index.now) _ _ _ c.end_unread.result.0 c.in-Err.ensures.too_long
    (λ is. c.in-Err.ensures.fault (ap Err (c.end_unread.ensures.input is).0)) (λ is. ap Err (c.end_unread.ensures.long is).0) c.end_unread.ensures.statuses

pub returns-in-Ok-clause-runs : goal.returns-in-Ok-clause-runs
returns-in-Ok-clause-runs g c =
    ran_session c.args.show_tags (g.S.Source.left c.args.input.now) (g.S.Source.left c.read_all.new.source) c.in-Ok.bytes.items c.new.result.bytes.now (g.D.Disk.state c.args.index.now) (g.D.Disk.state c.run_requests.new.index) (g.K.Sink.state c.args.out.now) (g.K.Sink.state c.run_requests.new.out) (g.T.Sink.state c.args.log_out.now)
    (g.T.Sink.state c.run_requests.new.log_out) c.run_requests.result.0
    c.in-Ok.ensures.ok c.in-Ok.ensures.end (c.new.ensures ∙ c.deref.ensures.value) c.run_requests.ensures.runs c.run_requests.ensures.reads c.run_requests.ensures.ends

pub returns-in-Ok-clause-complete : goal.returns-in-Ok-clause-complete
returns-in-Ok-clause-complete g c =
    ran_complete c.args.show_tags (g.S.Source.left c.args.input.now) (g.D.Disk.state c.args.index.now) (g.D.Disk.state c.run_requests.new.index) (g.K.Sink.state c.args.out.now) (g.K.Sink.state c.run_requests.new.out) (g.T.Sink.state c.args.log_out.now)
    (g.T.Sink.state c.run_requests.new.log_out) c.run_requests.result.0 _
    (ran_session c.args.show_tags (g.S.Source.left c.args.input.now) (g.S.Source.left c.read_all.new.source) c.in-Ok.bytes.items c.new.result.bytes.now (g.D.Disk.state c.args.index.now) (g.D.Disk.state c.run_requests.new.index) (g.K.Sink.state c.args.out.now) (g.K.Sink.state c.run_requests.new.out) (g.T.Sink.state c.args.log_out.now)
    (g.T.Sink.state c.run_requests.new.log_out) c.run_requests.result.0
    c.in-Ok.ensures.ok c.in-Ok.ensures.end (c.new.ensures ∙ c.deref.ensures.value) c.run_requests.ensures.runs c.run_requests.ensures.reads c.run_requests.ensures.ends) c.run_requests.ensures.ends
