use Rattle.std.proofs.Common.{subst}
use Rattle.std.specs.Prelude.{IsTrue}
use Rattle.shadow_root.specs.Making.{HasCreateCause}
use Rattle.job_make.proofs.Ended.{filled_since, not_empty, unfilled, unmade}
use Rattle.job_make.proofs.generating.make_filled.Goals as goal

pub returns-in-Err-NotEmpty-clause-unfilled : goal.returns-in-Err-NotEmpty-clause-unfilled
returns-in-Err-NotEmpty-clause-unfilled g c =
    not_empty c.args.head.now c.args.objects.now.rows.points c.args.objects.now.tags.items (g.D.Disk.state c.args.disk.now) (g.K.Sink.state c.args.out.now) (g.K.Sink.state c.end_with.new.out) c.end_with.result.0
    (g.D.Disk.state c.create.new.disk) (subst (HasCreateCause (g.D.Disk.state c.args.disk.now) (g.D.Disk.state c.create.new.disk)) c.in-Err-NotEmpty.field-0-is c.in-Err-NotEmpty.ensures.fault) c.end_with.ensures.status c.end_with.ensures.line

pub returns-in-Err-Disk-clause-unfilled : goal.returns-in-Err-Disk-clause-unfilled
returns-in-Err-Disk-clause-unfilled g c =
    unmade c.args.head.now c.args.objects.now.rows.points c.args.objects.now.tags.items (g.D.Disk.state c.args.disk.now) (g.K.Sink.state c.args.out.now) (g.K.Sink.state c.end_with-in-Err-Disk.new.out)
    c.end_with-in-Err-Disk.result.0 (g.D.Disk.state c.create.new.disk) (subst (HasCreateCause (g.D.Disk.state c.args.disk.now) (g.D.Disk.state c.create.new.disk)) c.in-Err-Disk.field-0-is c.in-Err-Disk.ensures.fault) c.create.ensures.reads c.end_with-in-Err-Disk.ensures.status c.end_with-in-Err-Disk.ensures.line

pub fill-requires-clause-made : goal.fill-requires-clause-made
fill-requires-clause-made g c = λ is_known. c.in-Ok.ensures.made (subst IsTrue c.create.ensures.is_known is_known)

pub returns-in-Ok-fill-clause-since : goal.returns-in-Ok-fill-clause-since
returns-in-Ok-fill-clause-since g c =
    filled_since c.args.head.now c.args.objects.now.rows.points c.args.objects.now.tags.items (g.D.Disk.state c.args.disk.now) (g.D.Disk.state c.create.new.disk) (g.D.Disk.state c.fill.new.disk) c.create.ensures.is_known
    c.fill.ensures.moments

pub returns-in-Err-clause-unfilled : goal.returns-in-Err-clause-unfilled
returns-in-Err-clause-unfilled g c =
    unfilled c.args.head.now c.args.objects.now.rows.points c.args.objects.now.tags.items (g.D.Disk.state c.args.disk.now) (g.K.Sink.state c.args.out.now) (g.K.Sink.state c.end_unfilled.new.out) c.end_unfilled.result.0
    (g.D.Disk.state c.create.new.disk) (g.D.Disk.state c.fill.new.disk) c.create.ensures.is_known c.create.ensures.later c.in-Err.fault c.in-Err.ensures.cause c.fill.ensures.moments c.end_unfilled.ensures.ends
