use Rattle.std.proofs.Common.{arith}
use Rattle.disk_model.specs.Moments.{then_unchanged}
use Rattle.job_files.proofs.Statuses.{neither}
use Rattle.job_files.proofs.Ends.{none_of_three}
use Rattle.job_files.proofs.Shaped.{shape_before, damage_before, stop_rose}
use Rattle.job_files.proofs.Unsound.{no_index_unsound, damaged_unsound}
use Rattle.job_files.proofs.shaping.shape_index.Goals as goal
use Rattle.outside_io.proofs.Published.{rose_before}

pub returns-in-Err-clause-shapes : goal.returns-in-Err-clause-shapes
returns-in-Err-clause-shapes g c =
    let d0 = g.D.Disk.state c.args.disk.now in
    let told = c.in-Err.ensures in
    let r = c.in-Err.status.0 in
    let s = told.refuses.statuses in
    record {
      unchanged = told.same;
      done = λ is. neither r 5 6 0 s is (omega arith) (omega arith);
      part = λ is. neither r 5 6 4 s is (omega arith) (omega arith);
      disk = told.refuses.disk;
      not_index = told.refuses.not_index;
      memory = λ is. neither r 5 6 8 s is (omega arith) (omega arith);
      damaged = λ is. neither r 5 6 9 s is (omega arith) (omega arith);
      sound = λ is_known head live sound. (
        λ is. no_index_unsound c.fault_is_not_open.ensures c.one_live_slot.ensures d0.bytes _ ((told.refuses.not_index is).2 is_known) head live sound,
        λ is. neither r 5 6 9 s is (omega arith) (omega arith),
      );
    }

pub returns-in-Ok-shape_opened-clause-shapes : goal.returns-in-Ok-shape_opened-clause-shapes
returns-in-Ok-shape_opened-clause-shapes g c =
    let d0 = g.D.Disk.state c.args.disk.now in
    let d1 = g.D.Disk.state c.open_index.new.disk in
    let d2 = g.D.Disk.state c.shape_opened.new.disk in
    let opened = c.in-Ok.opened in
    let shape = c.in-Ok-shape_opened.shape in
    let told = c.in-Ok-shape_opened.ensures in
    let r = c.end_shaped.result.0 in
    let s = c.end_shaped.ensures.statuses in
    let before = shape_before d0 d1 opened.0 opened.1 shape c.in-Ok.ensures.opens c.in-Ok.ensures.version c.in-Ok.ensures.same told.counted told.lines in
    record {
      unchanged = then_unchanged d0 d1 d2 c.in-Ok.ensures.same told.same;
      done = λ is. (shape.height, shape.objects, shape.lines, rw c.in-Ok.ensures.silent at c.end_shaped.ensures.done is, before);
      part = λ is. (shape.height, shape.objects, shape.lines, rw c.in-Ok.ensures.silent at c.end_shaped.ensures.part is, before);
      disk = λ is. none_of_three r 0 4 8 5 s is (omega arith) (omega arith) (omega arith);
      not_index = λ is. none_of_three r 0 4 8 6 s is (omega arith) (omega arith) (omega arith);
      memory = λ is. rw c.in-Ok.ensures.silent at c.end_shaped.ensures.memory is;
      damaged = λ is. none_of_three r 0 4 8 9 s is (omega arith) (omega arith) (omega arith);
      sound = λ is_known head live sound. (
        λ is. none_of_three r 0 4 8 6 s is (omega arith) (omega arith) (omega arith),
        λ is. none_of_three r 0 4 8 9 s is (omega arith) (omega arith) (omega arith),
      );
    }

pub returns-in-Err-shape_opened-clause-shapes : goal.returns-in-Err-shape_opened-clause-shapes
returns-in-Err-shape_opened-clause-shapes g c =
    let d0 = g.D.Disk.state c.args.disk.now in
    let d1 = g.D.Disk.state c.open_index.new.disk in
    let d2 = g.D.Disk.state c.shape_opened.new.disk in
    let opened = c.in-Ok.opened in
    let fault = c.in-Err-shape_opened.fault in
    let told = c.in-Err-shape_opened.ensures in
    let r = c.end_at_page.result.0 in
    let s = c.end_at_page.ensures.statuses in
    record {
      unchanged = then_unchanged d0 d1 d2 c.in-Ok.ensures.same told.same;
      done = λ is. none_of_three r 5 8 9 0 s is (omega arith) (omega arith) (omega arith);
      part = λ is. none_of_three r 5 8 9 4 s is (omega arith) (omega arith) (omega arith);
      disk = λ is.
          let failed = c.end_at_page.ensures.disk is in
          (rose_before d0.faults d1.faults d2.faults c.in-Ok.ensures.later (stop_rose d1 d2.faults opened.0 opened.1 fault failed.0 told.stop), rw c.in-Ok.ensures.silent at failed.1);
      not_index = λ is. none_of_three r 5 8 9 6 s is (omega arith) (omega arith) (omega arith);
      memory = λ is. rw c.in-Ok.ensures.silent at c.end_at_page.ensures.memory is;
      damaged = λ is.
          let ended = c.end_at_page.ensures.damaged is in
          (fault, rw c.in-Ok.ensures.silent at ended.1, damage_before d0 d1 d2.faults opened.0 opened.1 fault c.in-Ok.ensures.opens c.in-Ok.ensures.version c.in-Ok.ensures.same ended.0 told.stop);
      sound = λ is_known head live sound. (
        λ is. none_of_three r 5 8 9 6 s is (omega arith) (omega arith) (omega arith),
        λ is. damaged_unsound c.one_live_slot.ensures d0.bytes fault
            (damage_before d0 d1 d2.faults opened.0 opened.1 fault c.in-Ok.ensures.opens c.in-Ok.ensures.version c.in-Ok.ensures.same (c.end_at_page.ensures.damaged is).0 told.stop is_known) head live sound,
      );
    }
