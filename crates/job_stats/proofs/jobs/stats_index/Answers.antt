use Rattle.std.proofs.Common.{ℕ, List, arith}
use Rattle.disk_model.specs.Moments.{then_unchanged}
use Rattle.page_store.specs.Shelf.{IsPassing}
use Rattle.outside_io.proofs.Published.{rose_before}
use Rattle.job_files.proofs.Published.{neither, none_of_three, no_index_unsound, damaged_unsound, damage_before, stop_rose}
use Rattle.job_stats.proofs.Told.{stats_before}
use Rattle.job_stats.proofs.jobs.stats_index.Goals as goal

pub returns-in-Err-clause-stats : goal.returns-in-Err-clause-stats
returns-in-Err-clause-stats g c =
    let d0 = g.D.Disk.state c.args.disk.now in
    let told = c.in-Err.ensures in
    let r = c.in-Err.status.0 in
    let s = told.refuses.statuses in
    record {
      unchanged = told.same;
      done = λ is. neither r 5 6 0 s is (omega arith) (omega arith);
      part = λ is. neither r 5 6 4 s is (omega arith) (omega arith);
      disk = told.refuses.disk;
      not_index = told.refuses.not_index;
      memory = λ is. neither r 5 6 8 s is (omega arith) (omega arith);
      damaged = λ is. neither r 5 6 9 s is (omega arith) (omega arith);
      sound = λ is_known head live sound. (
        λ is.
            let named = (told.refuses.not_index is).2 is_known in
            no_index_unsound c.fault_is_not_open.ensures c.one_live_slot.ensures d0.bytes _ named head live sound,
        λ is. neither r 5 6 9 s is (omega arith) (omega arith),
      );
    }

pub returns-in-Ok-shape_opened-clause-stats : goal.returns-in-Ok-shape_opened-clause-stats
returns-in-Ok-shape_opened-clause-stats g c =
    let d0 = g.D.Disk.state c.args.disk.now in
    let d1 = g.D.Disk.state c.open_index.new.disk in
    let d2 = g.D.Disk.state c.shape_opened.new.disk in
    let first = c.in-Ok.ensures in
    let opened = c.in-Ok.opened in
    let shape = c.in-Ok-shape_opened.shape in
    let told = c.in-Ok-shape_opened.ensures in
    let r = c.end_told.result.0 in
    let s = c.end_told.ensures.statuses in
    let before = λ (Put : List ℕ → Type 0).
    stats_before d0 d1 opened.0 opened.1 shape.lines Put first.opens first.version first.same told.lines in
    record {
      unchanged = then_unchanged d0 d1 d2 first.same told.same;
      done = λ is. before _ (rw first.silent at c.end_told.ensures.done is);
      part = λ is. before _ (rw first.silent at c.end_told.ensures.part is);
      disk = λ is. none_of_three r 0 4 8 5 s is (omega arith) (omega arith) (omega arith);
      not_index = λ is. none_of_three r 0 4 8 6 s is (omega arith) (omega arith) (omega arith);
      memory = λ is. rw first.silent at c.end_told.ensures.memory is;
      damaged = λ is. none_of_three r 0 4 8 9 s is (omega arith) (omega arith) (omega arith);
      sound = λ is_known head live sound. (
        λ is. none_of_three r 0 4 8 6 s is (omega arith) (omega arith) (omega arith),
        λ is. none_of_three r 0 4 8 9 s is (omega arith) (omega arith) (omega arith),
      );
    }

pub returns-in-Err-shape_opened-clause-stats : goal.returns-in-Err-shape_opened-clause-stats
returns-in-Err-shape_opened-clause-stats g c =
    let d0 = g.D.Disk.state c.args.disk.now in
    let d1 = g.D.Disk.state c.open_index.new.disk in
    let d2 = g.D.Disk.state c.shape_opened.new.disk in
    let first = c.in-Ok.ensures in
    let opened = c.in-Ok.opened in
    let fault = c.in-Err-shape_opened.fault in
    let told = c.in-Err-shape_opened.ensures in
    let r = c.end_at_page.result.0 in
    let s = c.end_at_page.ensures.statuses in
    let before = λ (stays : IsPassing fault → ⊥).
    damage_before d0 d1 d2.faults opened.0 opened.1 fault first.opens first.version first.same stays told.stop in
    record {
      unchanged = then_unchanged d0 d1 d2 first.same told.same;
      done = λ is. none_of_three r 5 8 9 0 s is (omega arith) (omega arith) (omega arith);
      part = λ is. none_of_three r 5 8 9 4 s is (omega arith) (omega arith) (omega arith);
      disk = λ is.
          let failed = c.end_at_page.ensures.disk is in
          let stop = stop_rose d1 d2.faults opened.0 opened.1 fault failed.0 told.stop in
          (rose_before d0.faults d1.faults d2.faults first.later stop, rw first.silent at failed.1);
      not_index = λ is. none_of_three r 5 8 9 6 s is (omega arith) (omega arith) (omega arith);
      memory = λ is. rw first.silent at c.end_at_page.ensures.memory is;
      damaged = λ is.
          let ended = c.end_at_page.ensures.damaged is in
          (fault, rw first.silent at ended.1, before ended.0);
      sound = λ is_known head live sound. (
        λ is. none_of_three r 5 8 9 6 s is (omega arith) (omega arith) (omega arith),
        λ is. damaged_unsound c.one_live_slot.ensures d0.bytes fault (before (c.end_at_page.ensures.damaged is).0 is_known) head live sound,
      );
    }
