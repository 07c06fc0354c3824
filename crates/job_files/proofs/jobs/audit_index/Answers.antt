use Rattle.std.proofs.Common.{inl, inr, arith}
use Rattle.job_files.proofs.Ends.{unopened_audits, sound_audits, rejected_audits}
use Rattle.job_files.proofs.jobs.audit_index.Goals as goal

pub returns-in-Err-clause-audits : goal.returns-in-Err-clause-audits
returns-in-Err-clause-audits g c = unopened_audits _ _ _ _ c.in-Err.status.0 c.in-Err.ensures.same c.in-Err.ensures.refuses

pub returns-in-Ok-audit_opened-clause-audits : goal.returns-in-Ok-audit_opened-clause-audits
returns-in-Ok-audit_opened-clause-audits g c =
    let first = c.in-Ok.ensures in
    let told = c.in-Ok-audit_opened.ensures in
    let end = c.end_sound.ensures in
    sound_audits (g.D.Disk.state c.args.disk.now) (g.D.Disk.state c.open_index.new.disk) (g.D.Disk.state c.audit_opened.new.disk) c.in-Ok.opened.0 c.in-Ok.opened.1
    first.opens first.version first.same told.same (g.K.Sink.state c.args.out.now) (g.K.Sink.state c.end_sound.new.out) c.end_sound.result.0
    c.in-Ok-audit_opened.audited told.ok told.objects told.nodes
    (λ is. rw first.silent at end.sound is) (λ is. rw first.silent at end.part is) (λ is. rw first.silent at end.memory is) end.statuses

pub returns-in-Err-audit_opened-clause-audits : goal.returns-in-Err-audit_opened-clause-audits
returns-in-Err-audit_opened-clause-audits g c =
    let first = c.in-Ok.ensures in
    let cause = c.in-Err-audit_opened.ensures in
    let end = c.end_rejected.ensures in
    rejected_audits (g.D.Disk.state c.args.disk.now) (g.D.Disk.state c.open_index.new.disk) (g.D.Disk.state c.audit_opened.new.disk) c.in-Ok.opened.0 c.in-Ok.opened.1
    first.opens first.version first.same cause.same (g.K.Sink.state c.args.out.now) (g.K.Sink.state c.end_rejected.new.out) c.end_rejected.result.0
    c.in-Err-audit_opened.fault first.later cause.err end.kind
    (λ is. rw first.silent at end.rejected is) (λ is. rw first.silent at end.part is) (λ is. rw first.silent at end.disk is) (λ is. rw first.silent at end.memory is) end.statuses

pub returns-in-Err-clause-reads : goal.returns-in-Err-clause-reads
returns-in-Err-clause-reads g c = inl c.in-Err.ensures.reads

pub returns-in-Ok-audit_opened-clause-reads : goal.returns-in-Ok-audit_opened-clause-reads
returns-in-Ok-audit_opened-clause-reads g c =
    let first = c.in-Ok.ensures in
    let opened = c.in-Ok.opened in
    inr (opened.0, opened.1, first.opens, first.version, first.pages, grind (arith, first.reads, c.in-Ok-audit_opened.ensures.reads, first.some))

pub returns-in-Err-audit_opened-clause-reads : goal.returns-in-Err-audit_opened-clause-reads
returns-in-Err-audit_opened-clause-reads g c =
    let first = c.in-Ok.ensures in
    let opened = c.in-Ok.opened in
    inr (opened.0, opened.1, first.opens, first.version, first.pages, grind (arith, first.reads, c.in-Err-audit_opened.ensures.reads, first.some))
