use Rattle.std.proofs.lemmas.Result.{err_from_is_err_and}
use Rattle.session_run.proofs.Turning.{turned, turned_cut, turned_memory, turned_stopped}
use Rattle.session_run.proofs.running.turn.Goals as goal

pub returns-in_err-answer-clause-turned : goal.returns-in_err-answer-clause-turned
returns-in_err-answer-clause-turned g c =
    let p = err_from_is_err_and c.from_residual.result c.from_residual.ensures.1 in
    rw (p.1, p.2)
    (turned_stopped (g.M.Metric.space c.args.index.now.file.metric) c.args.show c.args.index.now c.step.new.index c.args.cursors.now c.step.new.cursors (g.D.Disk.state c.args.disk.now) (g.D.Disk.state c.step.new.disk)
    c.args.command.now c.in_err-answer.field-0.0 (g.K.Sink.state c.args.out.now) (g.T.Sink.state c.args.log_out.now) c.in_err-answer.ensures.done)

pub returns-in_err-texts-clause-turned : goal.returns-in_err-texts-clause-turned
returns-in_err-texts-clause-turned g c =
    let p = err_from_is_err_and c.from_residual-in_err-texts.result c.from_residual-in_err-texts.ensures.1 in
    rw (p.1, p.2)
    (turned_memory (g.M.Metric.space c.args.index.now.file.metric) c.args.show c.args.index.now c.step.new.index c.args.cursors.now c.step.new.cursors (g.D.Disk.state c.args.disk.now) (g.D.Disk.state c.step.new.disk)
    c.args.command.now c.in_ok-answer.answer (g.K.Sink.state c.args.out.now) (g.T.Sink.state c.args.log_out.now) c.in_ok-answer.ensures.done)

pub returns-clause-turned : goal.returns-clause-turned
returns-clause-turned g c =
    turned (g.M.Metric.space c.args.index.now.file.metric) c.args.show c.args.index.now c.step.new.index c.args.cursors.now c.step.new.cursors (g.D.Disk.state c.args.disk.now) (g.D.Disk.state c.step.new.disk)
    c.args.command.now c.in_ok-answer.answer c.in_ok-texts.texts.reply.items c.in_ok-texts.texts.frame.items (g.K.Sink.state c.args.out.now) (g.K.Sink.state c.put.new.out) (g.T.Sink.state c.args.log_out.now)
    (g.T.Sink.state c.put.new.log_out) c.in_ok-answer.ensures.done c.in_ok-texts.ensures.reply c.in_ok-texts.ensures.frame c.in_ok-put.ensures.reply c.in_ok-put.ensures.frame
    c.put.ensures.later c.put.ensures.log_later

pub returns-in_err-put-clause-turned : goal.returns-in_err-put-clause-turned
returns-in_err-put-clause-turned g c =
    let p = err_from_is_err_and c.from_residual-in_err-put.result c.from_residual-in_err-put.ensures.1 in
    rw (p.1, p.2)
    (turned_cut (g.M.Metric.space c.args.index.now.file.metric) c.args.show c.args.index.now c.step.new.index c.args.cursors.now c.step.new.cursors (g.D.Disk.state c.args.disk.now) (g.D.Disk.state c.step.new.disk)
    c.args.command.now c.in_ok-answer.answer c.in_ok-texts.texts.reply.items c.in_ok-texts.texts.frame.items (g.K.Sink.state c.args.out.now) (g.K.Sink.state c.put.new.out) (g.T.Sink.state c.args.log_out.now)
    (g.T.Sink.state c.put.new.log_out) c.in_ok-answer.ensures.done c.in_ok-texts.ensures.reply c.in_ok-texts.ensures.frame c.in_err-put.ensures.cut
    c.put.ensures.later c.put.ensures.log_later c.in_err-put.ensures.rose)
