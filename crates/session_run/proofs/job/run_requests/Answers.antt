use Rattle.std.proofs.Common.{inl, inr, ap, ◌∙◌, arith}
use Rattle.metric_mix.specs.MixKinds.{mix_dim, mix_kind}
use Rattle.metric_mix.specs.declared.mix_space.MixSpace.{MixSpace}
use Rattle.index_core.specs.Index.{OpenIndex}
use Rattle.outside_io.proofs.Published.{rose_before}
use Rattle.session_run.proofs.Jobs.{disk_ends_it, disk_runs, head_is, memory_ends_it, memory_runs, reads_since, refused_ends, refused_of, refused_runs, since_opening}
use Rattle.session_run.proofs.job.run_requests.Goals as goal

pub returns-in-Err-clause-runs : goal.returns-in-Err-clause-runs
returns-in-Err-clause-runs g c =
    refused_runs c.fault_is_not_open.ensures c.one_live_slot.ensures c.args.show_tags (g.S.Requests.commands c.args.requests) (g.D.Disk.state c.args.index.now) (g.D.Disk.state c.open_index.new.disk) (g.K.Sink.state c.args.out.now)
    (g.K.Sink.state c.open_index.new.out) (g.T.Sink.state c.args.log_out.now) c.in-Err.status.0 c.in-Err.ensures.same c.in-Err.ensures.refuses

pub returns-in-Err-clause-ends : goal.returns-in-Err-clause-ends
returns-in-Err-clause-ends g c =
    refused_ends (g.D.Disk.state c.args.index.now) (g.D.Disk.state c.open_index.new.disk) (g.K.Sink.state c.args.out.now) (g.K.Sink.state c.open_index.new.out) (g.T.Sink.state c.args.log_out.now) c.in-Err.status.0
    c.in-Err.ensures.refuses

pub returns-in_default-clause-ends : goal.returns-in_default-clause-ends
returns-in_default-clause-ends g c =
    memory_ends_it (g.D.Disk.state c.args.index.now) (g.D.Disk.state c.of_opened.new.disk) (g.K.Sink.state c.args.out.now) (g.K.Sink.state c.end_with-in_default.new.out) (g.T.Sink.state c.args.log_out.now) c.end_with-in_default.result.0
    c.end_with-in_default.ensures.status (rw c.in-Ok.ensures.silent at c.end_with-in_default.ensures.line)

pub returns-in-Err-of_opened-clause-runs : goal.returns-in-Err-of_opened-clause-runs
returns-in-Err-of_opened-clause-runs g c =
    disk_runs c.args.show_tags (g.S.Requests.commands c.args.requests) (g.D.Disk.state c.args.index.now) (g.D.Disk.state c.open_index.new.disk) (g.D.Disk.state c.of_opened.new.disk) (g.K.Sink.state c.args.out.now)
    (g.K.Sink.state c.end_with.new.out) (g.T.Sink.state c.args.log_out.now) c.end_with.result.0 c.in-Ok.ensures.same c.of_opened.ensures.time c.end_with.ensures.status (rw c.in-Ok.ensures.silent at c.end_with.ensures.line)

pub returns-in-Err-of_opened-clause-ends : goal.returns-in-Err-of_opened-clause-ends
returns-in-Err-of_opened-clause-ends g c =
    disk_ends_it (g.D.Disk.state c.args.index.now) (g.D.Disk.state c.of_opened.new.disk) (g.K.Sink.state c.args.out.now) (g.K.Sink.state c.end_with.new.out) (g.T.Sink.state c.args.log_out.now) c.end_with.result.0
    c.end_with.ensures.status (rose_before _ _ _ c.in-Ok.ensures.later c.in-Err-of_opened.ensures.cause.failed) (rw c.in-Ok.ensures.silent at c.end_with.ensures.line)

pub returns-in_default-clause-runs : goal.returns-in_default-clause-runs
returns-in_default-clause-runs g c =
    memory_runs c.args.show_tags (g.S.Requests.commands c.args.requests) (g.D.Disk.state c.args.index.now) (g.D.Disk.state c.open_index.new.disk) (g.D.Disk.state c.of_opened.new.disk) (g.K.Sink.state c.args.out.now)
    (g.K.Sink.state c.end_with-in_default.new.out) (g.T.Sink.state c.args.log_out.now) c.end_with-in_default.result.0 c.in-Ok.ensures.same c.of_opened.ensures.time c.end_with-in_default.ensures.status (rw c.in-Ok.ensures.silent at c.end_with-in_default.ensures.line)

pub returns-clause-runs : goal.returns-clause-runs
returns-clause-runs g c =
    let head_is = ap (λ (i : OpenIndex MixSpace). i.file.head) c.in-Ok-use_cache.ensures.ok ∙ ap (λ (i : OpenIndex MixSpace). i.file.head) c.set_workers.ensures in
    let live_is = ap (λ (i : OpenIndex MixSpace). i.file.live) c.in-Ok-use_cache.ensures.ok ∙ ap (λ (i : OpenIndex MixSpace). i.file.live) c.set_workers.ensures in
    let metric_is = ap (λ (i : OpenIndex MixSpace). i.file.metric) c.in-Ok-use_cache.ensures.ok ∙ ap (λ (i : OpenIndex MixSpace). i.file.metric) c.set_workers.ensures
    ∙ ap (λ (i : OpenIndex MixSpace). i.file.metric) c.in-Ok-of_opened.ensures.opened in
    since_opening mix_kind mix_dim c.one_live_slot.ensures c.args.show_tags (g.S.Requests.commands c.args.requests) c.use_cache.new.self c.in-Ok.opened (g.D.Disk.state c.args.index.now) (g.D.Disk.state c.open_index.new.disk)
    (g.D.Disk.state c.of_opened.new.disk) (g.D.Disk.state c.run_opened.new.index) (g.K.Sink.state c.args.out.now) (g.K.Sink.state c.run_opened.new.out) (g.T.Sink.state c.args.log_out.now)
    (g.T.Sink.state c.run_opened.new.log_out) c.run_opened.result.0 c.in-Ok.ensures.same c.of_opened.ensures.time c.of_opened.ensures.bytes c.of_opened.ensures.is_known
    (λ is_known. rw (head_is, live_is) (c.in-Ok-of_opened.ensures.stands.stands.opens is_known)) c.in-Ok.ensures.opens (ap mix_kind metric_is ∙ c.space_of.ensures.kind) (ap mix_dim metric_is ∙ c.space_of.ensures.dim)
    (rw c.in-Ok.ensures.silent at c.run_opened.ensures.runs)

pub returns-clause-reads : goal.returns-clause-reads
returns-clause-reads g c =
    let head_is = ap (λ (i : OpenIndex MixSpace). i.file.head) c.in-Ok-use_cache.ensures.ok ∙ ap (λ (i : OpenIndex MixSpace). i.file.head) c.set_workers.ensures in
    let live_is = ap (λ (i : OpenIndex MixSpace). i.file.live) c.in-Ok-use_cache.ensures.ok ∙ ap (λ (i : OpenIndex MixSpace). i.file.live) c.set_workers.ensures in
    let metric_is = ap (λ (i : OpenIndex MixSpace). i.file.metric) c.in-Ok-use_cache.ensures.ok ∙ ap (λ (i : OpenIndex MixSpace). i.file.metric) c.set_workers.ensures
    ∙ ap (λ (i : OpenIndex MixSpace). i.file.metric) c.in-Ok-of_opened.ensures.opened in
    reads_since mix_kind mix_dim c.one_live_slot.ensures c.args.show_tags (g.S.Requests.commands c.args.requests) c.use_cache.new.self c.in-Ok.opened (g.D.Disk.state c.args.index.now) (g.D.Disk.state c.open_index.new.disk)
    (g.D.Disk.state c.of_opened.new.disk) (g.D.Disk.state c.run_opened.new.index) (g.K.Sink.state c.args.out.now) (g.K.Sink.state c.run_opened.new.out) (g.T.Sink.state c.args.log_out.now)
    (g.T.Sink.state c.run_opened.new.log_out) c.run_opened.result.0 c.in-Ok.ensures.same c.of_opened.ensures.time c.of_opened.ensures.bytes c.of_opened.ensures.is_known
    (λ is_known. rw (head_is, live_is) (c.in-Ok-of_opened.ensures.stands.stands.opens is_known)) c.in-Ok.ensures.opens (ap mix_kind metric_is ∙ c.space_of.ensures.kind) (ap mix_dim metric_is ∙ c.space_of.ensures.dim)
    c.open_index.ensures.reads c.of_opened.ensures.reads c.run_opened.ensures.reads

pub returns-clause-ends : goal.returns-clause-ends
returns-clause-ends g c =
    let head_here = ap (λ (i : OpenIndex MixSpace). i.file.head) c.in-Ok-use_cache.ensures.ok ∙ ap (λ (i : OpenIndex MixSpace). i.file.head) c.set_workers.ensures in
    let live_here = ap (λ (i : OpenIndex MixSpace). i.file.live) c.in-Ok-use_cache.ensures.ok ∙ ap (λ (i : OpenIndex MixSpace). i.file.live) c.set_workers.ensures in
    refused_of c.use_cache.new.self.file.head c.in-Ok.opened (g.D.Disk.state c.args.index.now) (g.D.Disk.state c.of_opened.new.disk) (g.D.Disk.state c.run_opened.new.index) (g.K.Sink.state c.args.out.now)
    (g.K.Sink.state c.run_opened.new.out) (g.T.Sink.state c.args.log_out.now) (g.T.Sink.state c.run_opened.new.log_out) c.run_opened.result.0 (omega (arith, c.in-Ok.ensures.later, c.of_opened.ensures.cause.later))
    (c.of_opened.ensures.is_known ∙ c.in-Ok.ensures.same.same_known) c.in-Ok.ensures.opens c.in-Ok.ensures.version
    (λ is_known head live is.
    (head_is c.one_live_slot.ensures c.use_cache.new.self c.in-Ok.opened (g.D.Disk.state c.args.index.now) (g.D.Disk.state c.open_index.new.disk) (g.D.Disk.state c.of_opened.new.disk) c.in-Ok.ensures.same
    c.of_opened.ensures.bytes c.of_opened.ensures.is_known (λ told. rw (head_here, live_here) (c.in-Ok-of_opened.ensures.stands.stands.opens told)) c.in-Ok.ensures.opens is_known head live is))
    (rw c.in-Ok.ensures.silent at c.run_opened.ensures.finished)

pub returns-in-Err-clause-reads : goal.returns-in-Err-clause-reads
returns-in-Err-clause-reads g c = λ zero. elim c.in-Err.ensures.refuses.statuses [ inl five ↦ absurd (omega (arith, zero, five)) | inr six ↦ absurd (omega (arith, zero, six)) ]

pub returns-in-Err-of_opened-clause-reads : goal.returns-in-Err-of_opened-clause-reads
returns-in-Err-of_opened-clause-reads g c = λ zero. absurd (omega (arith, zero, c.end_with.ensures.status))

pub returns-in_default-clause-reads : goal.returns-in_default-clause-reads
returns-in_default-clause-reads g c = λ zero. absurd (omega (arith, zero, c.end_with-in_default.ensures.status))
