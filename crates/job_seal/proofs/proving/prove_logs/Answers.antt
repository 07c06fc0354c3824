use Rattle.job_seal.proofs.Frames.{all_told, output_stopped, input_stopped, long_stopped, memory_stopped}
use Rattle.job_seal.proofs.proving.prove_logs.Goals as goal

pub returns-in-Ok-clause-proves : goal.returns-in-Ok-clause-proves
returns-in-Ok-clause-proves g c =
    all_told c.args.root.now (g.S.Source.left c.args.log_in.now) (g.S.Source.left c.judge_frames.new.log_in) (g.K.Sink.state c.args.out.now) (g.K.Sink.state c.judge_frames.new.out) c.in-Ok.status.0 c.in-Ok.ensures.statuses c.in-Ok.ensures.ended

pub returns-in-Err-Sink-clause-proves : goal.returns-in-Err-Sink-clause-proves
returns-in-Err-Sink-clause-proves g c =
    output_stopped c.args.root.now (g.S.Source.left c.args.log_in.now) (g.S.Source.left c.judge_frames.new.log_in) (g.K.Sink.state c.args.out.now) (g.K.Sink.state c.judge_frames.new.out) (rw c.in-Err-Sink.field-0-is at c.in-Err-Sink.ensures.stopped)

pub returns-in-Err-Input-clause-proves : goal.returns-in-Err-Input-clause-proves
returns-in-Err-Input-clause-proves g c =
    input_stopped c.args.root.now (g.S.Source.left c.args.log_in.now) (g.S.Source.left c.judge_frames.new.log_in) (g.K.Sink.state c.args.out.now) (g.K.Sink.state c.judge_frames.new.out) (g.K.Sink.state c.end_with.new.out)
    c.end_with.result.0 (rw c.in-Err-Input.field-0-is at c.in-Err-Input.ensures.stopped) c.in-Err-Input.ensures.later c.end_with.ensures.status c.end_with.ensures.line

pub returns-in-Err-Long-clause-proves : goal.returns-in-Err-Long-clause-proves
returns-in-Err-Long-clause-proves g c =
    let end = c.end_with-in-Err-Long in
    long_stopped c.args.root.now (g.S.Source.left c.args.log_in.now) (g.S.Source.left c.judge_frames.new.log_in) (g.K.Sink.state c.args.out.now) (g.K.Sink.state c.judge_frames.new.out) (g.K.Sink.state end.new.out)
    end.result.0 (rw c.in-Err-Long.field-0-is at c.in-Err-Long.ensures.stopped) c.in-Err-Long.ensures.later end.ensures.status end.ensures.line

pub returns-in-Err-Memory-clause-proves : goal.returns-in-Err-Memory-clause-proves
returns-in-Err-Memory-clause-proves g c =
    let end = c.end_with-in-Err-Memory in
    memory_stopped c.args.root.now (g.S.Source.left c.args.log_in.now) (g.S.Source.left c.judge_frames.new.log_in) (g.K.Sink.state c.args.out.now) (g.K.Sink.state c.judge_frames.new.out) (g.K.Sink.state end.new.out)
    end.result.0 (rw c.in-Err-Memory.field-0-is at c.in-Err-Memory.ensures.stopped) c.in-Err-Memory.ensures.later end.ensures.status end.ensures.line
