use Rattle.std.proofs.Common.{inr, refl, subst, arith}
use Rattle.std.specs.Prelude.{codes}
use Rattle.outside_io.specs.Sinks.{Tells}
use Rattle.job_files.proofs.Ends.{is_first, only, no_index, rose_by_disk}
use Rattle.job_files.proofs.jobs.open_index.Goals as goal

pub returns-then-head-ne2-clause-refuses : goal.returns-then-head-ne2-clause-refuses
returns-then-head-ne2-clause-refuses g c = record {
  disk = λ is. only c.end_with.result.0 6 5 c.end_with.ensures.status is (omega arith);
  not_index = λ is. (codes "version", c.end_with.ensures.line, λ is_known. inr (c.in-Ok.head, c.in-Ok.live, c.in-Ok.ensures.ok is_known, is_first c.in-Ok.head.version c.in-Ok.ensures.head.version c.if-head-ne2.true, refl));
  statuses = inr c.end_with.ensures.status;
}

pub returns-in-Err-clause-refuses : goal.returns-in-Err-clause-refuses
returns-in-Err-clause-refuses g c =
    let old = g.D.Disk.state c.args.disk.now in
    let new = g.D.Disk.state c.open.new.disk in
    record {
      disk = λ is. (rose_by_disk old new c.in-Err.fault (c.end_unopened.ensures.disk is) c.in-Err.ensures.fault, rw (c.end_unopened.ensures.disk is) at c.end_unopened.ensures.line);
      not_index = λ is.
          let named = no_index old new c.in-Err.fault (c.end_unopened.ensures.index is) c.in-Err.ensures.fault in
          (named.0, subst (Tells (g.K.Sink.state c.args.out.now) (g.K.Sink.state c.end_unopened.new.out)) named.1 c.end_unopened.ensures.line, named.2);
      statuses = c.end_unopened.ensures.statuses;
    }
