use Rattle.job_dump.proofs.Putting.{text_done}
use Rattle.job_dump.proofs.writing.put_long.Goals as goal

pub returns-clause-done : goal.returns-clause-done
returns-clause-done g c =
    text_done c.put_text.result (g.K.Sink.state c.args.out.now) (g.K.Sink.state c.put_text.new.out) c.args.text.now.items c.put_text.new.text.items
    c.put_text.ensures.done c.put_text.ensures.empty c.put_text.ensures.cause.done
