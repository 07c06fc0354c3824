use Rattle.std.proofs.Common.{sym, subst, arith}
use Rattle.std.specs.Prelude.{IsTrue, codes}
use Rattle.disk_model.specs.Moments.{then_unchanged}
use Rattle.outside_io.specs.Sinks.{SinkState, Tells}
use Rattle.outside_io.proofs.Published.{rose_before}
use Rattle.job_files.proofs.Published.{none_of_three}
use Rattle.job_dump.specs.Causes.{HasStop}
use Rattle.job_dump.specs.Jobs.{fault_text, opened_shelf}
use Rattle.job_dump.specs.declared.fault.DumpStop.TheVariants as stop
use Rattle.job_dump.proofs.Opened.{damage_before, damaged_unsound, disk_rose, line_follows}
use Rattle.job_dump.proofs.jobs.dump_index.Goals as goal

pub returns-in-Err-Fault-clause-dumps : goal.returns-in-Err-Fault-clause-dumps
returns-in-Err-Fault-clause-dumps g c =
    let d0 = g.D.Disk.state c.args.disk.now in
    let d1 = g.D.Disk.state c.open_index.new.disk in
    let d2 = g.D.Disk.state c.dump_opened.new.disk in
    let out0 = g.K.Sink.state c.args.out.now in
    let out2 = g.K.Sink.state c.dump_opened.new.out in
    let out3 = g.K.Sink.state c.end_at_fault.new.out in
    let head = c.in-Ok.opened.0 in
    let live = c.in-Ok.opened.1 in
    let fault = c.in-Err-Fault.fault in
    let one = opened_shelf head live d1 in
    let two = opened_shelf head live d2 in
    let told = c.in-Ok.ensures in
    let ended = c.end_at_fault.ensures in
    let stopped : HasStop live one two out0 out2 (stop.Fault fault) = rw (c.in-Err-Fault.field-0-is, told.silent) at c.in-Err-Fault.ensures.stop in
    let r = c.end_at_fault.result.0 in
    let s = ended.statuses in
    record {
      unchanged = then_unchanged d0 d1 d2 told.same c.dump_opened.ensures.same;
      done = λ is. none_of_three r 5 8 9 0 s is (omega arith) (omega arith) (omega arith);
      part = λ is. none_of_three r 5 8 9 4 s is (omega arith) (omega arith) (omega arith);
      disk = λ is.
          let failed = ended.disk is in (
            rose_before d0.faults d1.faults d2.faults told.later (disk_rose live one two fault failed.0 stopped.1),
            line_follows d0 d1 head live told.opens told.version told.same out0 out2 out3 (codes "fault disk\n") stopped.0 failed.1,
          );
      not_index = λ is. none_of_three r 5 8 9 6 s is (omega arith) (omega arith) (omega arith);
      memory = λ is. line_follows d0 d1 head live told.opens told.version told.same out0 out2 out3 (codes "fault memory\n") stopped.0 (ended.memory is);
      damaged = λ is.
          let line = ended.damaged is in (
            fault,
            line_follows d0 d1 head live told.opens told.version told.same out0 out2 out3 (fault_text fault) stopped.0 line.1,
            λ is_known. (
              subst (λ (o : SinkState). Tells o out3 (fault_text fault)) (stopped.2 (subst IsTrue (sym told.same.same_known) is_known) line.0) line.1,
              damage_before d0 d1 head live told.opens told.version told.same d2 fault line.0 stopped.1 is_known,
            ),
          );
      sound = λ is_known h l sound. (
        λ is. none_of_three r 5 8 9 6 s is (omega arith) (omega arith) (omega arith),
        λ is.
            damaged_unsound c.one_live_slot.ensures d0.bytes fault (damage_before d0 d1 head live told.opens told.version told.same d2 fault (ended.damaged is).0 stopped.1 is_known) h l sound,
      );
    }
