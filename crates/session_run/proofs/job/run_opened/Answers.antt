use Rattle.std.proofs.Common.{ap, ◌∙◌, [], arith}
use Rattle.metric_mix.specs.MixKinds.{mix_dim, mix_kind}
use Rattle.metric_mix.specs.MixSpaces.{mix_space}
use Rattle.index_core.specs.Answers.{IsSoundOn}
use Rattle.answer_texts.proofs.Published.{memory_ends}
use Rattle.session_run.specs.Job.{LeavesAll, state_in}
use Rattle.session_run.proofs.Jobs.{done_finished, few_read, finished, held, is_done, is_stopped, memory_finished, not_done, nothing_left, unread}
use Rattle.session_run.proofs.job.run_opened.Goals as goal

pub returns-in-None-clause-runs : goal.returns-in-None-clause-runs
returns-in-None-clause-runs g c = λ is_known kind dim sound.
    is_done (mix_space (mix_kind c.args.opened.now.file.metric) (mix_dim c.args.opened.now.file.metric)) c.args.show_tags (g.S.Requests.commands c.args.requests) c.args.opened.now c.session-ended.new.index
    (g.D.Disk.state c.args.index.now) (g.D.Disk.state c.session-ended.new.disk) (g.K.Sink.state c.args.out.now) (g.K.Sink.state c.session-ended.new.out) (g.T.Sink.state c.args.log_out.now)
    (g.T.Sink.state c.session-ended.new.log_out) c.deref.result.now c.session-ended.result.acknowledged c.session-ended.result.stopped (λ i. mix_space (kind i) (dim i))
    (c.deref.ensures.value ∙ c.in-Ok.ensures.commands ∙ ap (g.S.Requests.commands c.args.requests) (c.dimension.ensures ∙ ap mix_dim c.metric.ensures ∙ dim)) c.session-ended.ensures.out_later
    c.session-ended.ensures.is_known c.session-ended.ensures.run c.in-None.is (c.session-ended.ensures.head c.in-None.is) (c.session-ended.ensures.stands (c.session-ended.ensures.going c.in-None.is)) is_known sound

pub returns-clause-runs : goal.returns-clause-runs
returns-clause-runs g c = λ is_known kind dim sound.
    is_stopped (mix_space (mix_kind c.args.opened.now.file.metric) (mix_dim c.args.opened.now.file.metric)) c.args.show_tags (g.S.Requests.commands c.args.requests) c.args.opened.now c.session-ended.new.index
    (g.D.Disk.state c.args.index.now) (g.D.Disk.state c.session-ended.new.disk) (g.K.Sink.state c.args.out.now) (g.K.Sink.state c.session-ended.new.out) (g.T.Sink.state c.args.log_out.now)
    (g.T.Sink.state c.session-ended.new.log_out) c.deref.result.now c.session-ended.result.acknowledged c.session-ended.result.stopped (λ i. mix_space (kind i) (dim i))
    (c.deref.ensures.value ∙ c.in-Ok.ensures.commands ∙ ap (g.S.Requests.commands c.args.requests) (c.dimension.ensures ∙ ap mix_dim c.metric.ensures ∙ dim)) c.session-ended.ensures.out_later
    c.session-ended.ensures.is_known c.session-ended.ensures.run (g.K.Sink.state c.end_stopped.new.out) c.in-Some.why c.end_stopped.result.0 c.in-Some.is c.end_stopped.ensures.ended c.session-ended.ensures.cause is_known sound

pub returns-in_default-clause-runs : goal.returns-in_default-clause-runs
returns-in_default-clause-runs g c = λ is_known kind dim sound.
    let head = c.args.opened.now.file.head in
    let live = c.args.opened.now.file.live in
    let disk = g.D.Disk.state c.args.index.now in
    unread c.args.show_tags (g.S.Requests.commands c.args.requests) head live disk.bytes disk disk (g.K.Sink.state c.args.out.now) (g.K.Sink.state c.end_with.new.out) (g.T.Sink.state c.args.log_out.now) _
    (LeavesAll head (state_in head live disk.bytes) disk disk) c.end_with.ensures.line
    (nothing_left head live disk.bytes disk (g.S.Requests.commands c.args.requests head.dim) (held c.args.opened.now disk (mix_dim c.args.opened.now.file.metric) dim c.is_valid.ensures (c.requires.stands c.requires.going) is_known sound))
    c.end_with.result.0 (λ rest line. memory_ends _ _ _ rest [] c.end_with.result.0 c.end_with.ensures.status line) (λ e. absurd (omega (arith, c.end_with.ensures.status)))

pub returns-clause-finished : goal.returns-clause-finished
returns-clause-finished g c =
    finished (IsSoundOn (mix_space (mix_kind c.args.opened.now.file.metric) (mix_dim c.args.opened.now.file.metric)) c.args.opened.now.file (g.D.Disk.state c.args.index.now)) c.args.opened.now.file.head
    (g.D.Disk.state c.args.index.now)
    (g.D.Disk.state c.session-ended.new.disk) (g.K.Sink.state c.args.out.now) (g.K.Sink.state c.session-ended.new.out) (g.K.Sink.state c.end_stopped.new.out) (g.T.Sink.state c.args.log_out.now)
    (g.T.Sink.state c.session-ended.new.log_out) c.in-Some.why c.end_stopped.result.0 c.end_stopped.ensures.later c.end_stopped.ensures.ended (rw c.in-Some.is at c.session-ended.ensures.cause)
    (rw c.in-Some.is at c.session-ended.ensures.damage) c.session-ended.ensures.is_known c.session-ended.ensures.grew c.session-ended.ensures.out_later

pub returns-in-None-clause-finished : goal.returns-in-None-clause-finished
returns-in-None-clause-finished g c =
    done_finished c.args.opened.now.file.head (g.D.Disk.state c.args.index.now) (g.D.Disk.state c.session-ended.new.disk) (g.K.Sink.state c.args.out.now) (g.K.Sink.state c.session-ended.new.out)
    (g.T.Sink.state c.args.log_out.now) (g.T.Sink.state c.session-ended.new.log_out) c.session-ended.ensures.is_known

pub returns-in_default-clause-finished : goal.returns-in_default-clause-finished
returns-in_default-clause-finished g c =
    memory_finished c.args.opened.now.file.head (g.D.Disk.state c.args.index.now) (g.K.Sink.state c.args.out.now) (g.K.Sink.state c.end_with.new.out) (g.T.Sink.state c.args.log_out.now)
    c.end_with.result.0 c.end_with.ensures.status c.end_with.ensures.line

pub returns-in-None-clause-reads : goal.returns-in-None-clause-reads
returns-in-None-clause-reads g c = λ zero is_known kind dim sound asks.
    few_read (mix_space (mix_kind c.args.opened.now.file.metric) (mix_dim c.args.opened.now.file.metric)) c.args.show_tags (g.S.Requests.commands c.args.requests) c.args.opened.now c.session-ended.new.index
    (g.D.Disk.state c.args.index.now) (g.D.Disk.state c.session-ended.new.disk) (g.K.Sink.state c.args.out.now) (g.K.Sink.state c.session-ended.new.out) (g.T.Sink.state c.args.log_out.now)
    (g.T.Sink.state c.session-ended.new.log_out) c.deref.result.now c.session-ended.result.acknowledged c.session-ended.result.stopped (λ i. mix_space (kind i) (dim i))
    (c.deref.ensures.value ∙ c.in-Ok.ensures.commands ∙ ap (g.S.Requests.commands c.args.requests) (c.dimension.ensures ∙ ap mix_dim c.metric.ensures ∙ dim)) c.session-ended.ensures.out_later
    c.session-ended.ensures.is_known c.session-ended.ensures.run c.in-None.is is_known sound asks

pub returns-clause-reads : goal.returns-clause-reads
returns-clause-reads g c = λ zero. absurd (not_done c.in-Some.why (g.K.Sink.state c.session-ended.new.out) (g.K.Sink.state c.end_stopped.new.out) c.end_stopped.result.0 c.end_stopped.ensures.ended zero)

pub returns-in_default-clause-reads : goal.returns-in_default-clause-reads
returns-in_default-clause-reads g c = λ zero. absurd (omega (arith, zero, c.end_with.ensures.status))
