use Rattle.std.proofs.Common.{◌∙◌, subst}
use Rattle.std.specs.Io.KnownBytes.{Appends}
use Rattle.outside_io.specs.Bytes.{AppendsPrefix}
use Rattle.job_stats.proofs.jobs.end_told.Goals as goal

pub returns-in-Ok-clause-done : goal.returns-in-Ok-clause-done
returns-in-Ok-clause-done g c = λ is.
    let told = c.in-Ok.ensures in
    let old = g.K.Sink.state c.args.out.now in
    let new = g.K.Sink.state c.put_line.new.out in
    record {
      levels = told.levels;
      levels_are = told.levels_are;
      put = subst (Appends old.written new.written) (c.deref.ensures.value ∙ told.put) (c.put_line.ensures.done is);
    }

pub returns-in-Ok-clause-part : goal.returns-in-Ok-clause-part
returns-in-Ok-clause-part g c = λ is.
    let told = c.in-Ok.ensures in
    let old = g.K.Sink.state c.args.out.now in
    let new = g.K.Sink.state c.put_line.new.out in
    record {
      levels = told.levels;
      levels_are = told.levels_are;
      put = subst (AppendsPrefix old.written new.written) (c.deref.ensures.value ∙ told.put) (c.put_line.ensures.part is);
    }
