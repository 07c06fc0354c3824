use Rattle.job_files.proofs.Published.{unopened_audits, sound_audits, rejected_audits}
use Rattle.batch_run.proofs.jobs.audit_job.audit_index_by.Goals as goal

pub returns-in-Err-clause-audits : goal.returns-in-Err-clause-audits
returns-in-Err-clause-audits g c = unopened_audits _ _ _ _ c.in-Err.status.0 c.in-Err.ensures.same c.in-Err.ensures.refuses

pub returns-in-Ok-audit_by-clause-audits : goal.returns-in-Ok-audit_by-clause-audits
returns-in-Ok-audit_by-clause-audits g c =
    let first = c.in-Ok.ensures in
    let told = c.in-Ok-audit_by.ensures in
    let end = c.end_sound.ensures in
    sound_audits (g.D.Disk.state c.args.index.now) (g.D.Disk.state c.open_index.new.disk) (g.D.Disk.state c.audit_by.new.disk) c.in-Ok.opened.0 c.in-Ok.opened.1
    first.opens first.version first.same told.same (g.K.Sink.state c.args.out.now) (g.K.Sink.state c.end_sound.new.out) c.end_sound.result.0
    c.in-Ok-audit_by.audited told.ok told.objects told.nodes
    (λ is. rw first.silent at end.sound is) (λ is. rw first.silent at end.part is) (λ is. rw first.silent at end.memory is) end.statuses

pub returns-in-Err-audit_by-clause-audits : goal.returns-in-Err-audit_by-clause-audits
returns-in-Err-audit_by-clause-audits g c =
    let first = c.in-Ok.ensures in
    let cause = c.in-Err-audit_by.ensures in
    let end = c.end_rejected.ensures in
    rejected_audits (g.D.Disk.state c.args.index.now) (g.D.Disk.state c.open_index.new.disk) (g.D.Disk.state c.audit_by.new.disk) c.in-Ok.opened.0 c.in-Ok.opened.1
    first.opens first.version first.same cause.same (g.K.Sink.state c.args.out.now) (g.K.Sink.state c.end_rejected.new.out) c.end_rejected.result.0
    c.in-Err-audit_by.fault first.later cause.err end.kind
    (λ is. rw first.silent at end.rejected is) (λ is. rw first.silent at end.part is) (λ is. rw first.silent at end.disk is) (λ is. rw first.silent at end.memory is) end.statuses
