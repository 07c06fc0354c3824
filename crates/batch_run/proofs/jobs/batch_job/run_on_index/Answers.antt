use Rattle.batch_run.proofs.jobs.Opened.{ran, refused, unread_image}
use Rattle.batch_run.proofs.jobs.batch_job.run_on_index.Goals as goal

pub returns-in-Err-clause-opened : goal.returns-in-Err-clause-opened
returns-in-Err-clause-opened g c =
    refused c.fault_is_not_open.ensures c.one_live_slot.ensures c.args.task.now.show_tags c.args.task.now.bytes.now (g.D.Disk.state c.args.index.now) (g.D.Disk.state c.open_index.new.disk) (g.K.Sink.state c.args.out.now)
    (g.K.Sink.state c.open_index.new.out) (g.T.Sink.state c.args.log_out.now) c.in-Err.status.0 c.in-Err.ensures.same c.in-Err.ensures.refuses

pub returns-in-Err-read_parts-clause-opened : goal.returns-in-Err-read_parts-clause-opened
returns-in-Err-read_parts-clause-opened g c =
    unread_image c.args.task.now.show_tags c.args.task.now.bytes.now (g.D.Disk.state c.args.index.now) (g.D.Disk.state c.open_index.new.disk) (g.D.Disk.state c.read_parts.new.disk) c.in-Ok.opened.0 c.in-Ok.opened.1
    c.in-Ok.ensures.same c.in-Ok.ensures.later c.in-Ok.ensures.opens c.in-Ok.ensures.version c.in-Err-read_parts.ensures.same (g.K.Sink.state c.args.out.now) (g.K.Sink.state c.end_without_image.new.out) (g.T.Sink.state c.args.log_out.now)
    c.end_without_image.result.0 c.in-Err-read_parts.fault c.in-Err-read_parts.ensures.cause (rw c.in-Ok.ensures.silent at c.end_without_image.ensures.long) (rw c.in-Ok.ensures.silent at c.end_without_image.ensures.disk)
    (rw c.in-Ok.ensures.silent at c.end_without_image.ensures.memory) c.end_without_image.ensures.statuses

pub returns-clause-opened : goal.returns-clause-opened
returns-clause-opened g c =
    ran c.args.task.now.show_tags c.args.task.now.bytes.now (g.D.Disk.state c.args.index.now) (g.D.Disk.state c.open_index.new.disk) (g.D.Disk.state c.read_parts.new.disk) c.in-Ok.opened.0 c.in-Ok.opened.1
    c.in-Ok.ensures.same c.in-Ok.ensures.later c.in-Ok.ensures.opens c.in-Ok.ensures.version c.in-Ok-read_parts.ensures.same c.one_live_slot.ensures c.images_hold_the_file.ensures _ c.in-Ok-read_parts.ensures.few
    c.in-Ok-read_parts.ensures.image (g.K.Sink.state c.args.out.now) (g.K.Sink.state c.run_on_image.new.out) (g.T.Sink.state c.args.log_out.now) (g.T.Sink.state c.run_on_image.new.log_out)
    c.run_on_image.result.0 (rw c.in-Ok.ensures.silent at c.run_on_image.ensures.runs) (rw c.in-Ok.ensures.silent at c.run_on_image.ensures.finished)
