use Rattle.std.proofs.Common.{inl, inr, arith}
use Rattle.std.specs.Prelude.{Some, IsTrue}
use Rattle.disk_model.specs.Moments.{then_unchanged}
use Rattle.metric_mix.specs.MixSpaces.{mix_space}
use Rattle.page_store.specs.Reading.{reading}
use Rattle.tree_audit.specs.Audited.{audit_fault}
use Rattle.job_files.specs.Jobs.{IsAudited, IsPassing}
use Rattle.job_files.proofs.Published.{audited_before, told_by, audit_rose, none_of_four}
use Rattle.job_seal.proofs.Opened.{not_large, sealed_before}
use Rattle.job_seal.proofs.sealing.seal_index.Goals as goal
use Rattle.outside_io.proofs.Published.{rose_before}

pub returns-in-Ok-audit_opened-clause-seals : goal.returns-in-Ok-audit_opened-clause-seals
returns-in-Ok-audit_opened-clause-seals g c =
    let d0 = g.D.Disk.state c.args.index.now in
    let d1 = g.D.Disk.state c.open_small.new.disk in
    let d2 = g.D.Disk.state c.audit_opened.new.disk in
    let d3 = g.D.Disk.state c.seal_sound.new.index in
    let opened = c.in-Ok.opened in
    let told = c.in-Ok-audit_opened.ensures in
    let ends = c.seal_sound.ensures.ends in
    let r = c.seal_sound.result.0 in
    record {
      unchanged = then_unchanged d0 d2 d3 (then_unchanged d0 d1 d2 c.in-Ok.ensures.same told.same) ends.unchanged;
      sealed = λ is. let end = ends.sealed is in (end.0, rw c.in-Ok.ensures.silent at end.1, sealed_before d0 d1 d2 opened.0 opened.1 end.0 c.in-Ok.ensures.opens c.in-Ok.ensures.version c.in-Ok.ensures.few c.in-Ok.ensures.same told.same told.ok end.2);
      rejected = λ is. none_of_four r 0 4 5 8 1 ends.statuses is (omega arith) (omega arith) (omega arith) (omega arith);
      part = λ is. let end = ends.part is in inl (end.0, rw c.in-Ok.ensures.silent at end.1, sealed_before d0 d1 d2 opened.0 opened.1 end.0 c.in-Ok.ensures.opens c.in-Ok.ensures.version c.in-Ok.ensures.few c.in-Ok.ensures.same told.same told.ok end.2);
      disk = λ is. let failed = ends.disk is in (rose_before d0.faults d2.faults d3.faults (omega (arith, c.in-Ok.ensures.later, told.later)) failed.0, rw c.in-Ok.ensures.silent at failed.1);
      not_index = λ is. none_of_four r 0 4 5 8 6 ends.statuses is (omega arith) (omega arith) (omega arith) (omega arith);
      long = λ is. none_of_four r 0 4 5 8 7 ends.statuses is (omega arith) (omega arith) (omega arith) (omega arith);
      memory = λ is. rw c.in-Ok.ensures.silent at ends.memory is;
      large = λ is is_known. not_large d0.bytes opened.0 opened.1 (c.in-Ok.ensures.opens is_known) c.in-Ok.ensures.few;
    }

pub returns-in-Err-audit_opened-clause-seals : goal.returns-in-Err-audit_opened-clause-seals
returns-in-Err-audit_opened-clause-seals g c =
    let d0 = g.D.Disk.state c.args.index.now in
    let d1 = g.D.Disk.state c.open_small.new.disk in
    let d2 = g.D.Disk.state c.audit_opened.new.disk in
    let opened = c.in-Ok.opened in
    let fault = c.in-Err-audit_opened.fault in
    let cause = c.in-Err-audit_opened.ensures in
    let told = audit_fault (mix_space opened.0.kind opened.0.dim) (reading opened.0.dim opened.1.pages d1.bytes) opened.1 in
    let r = c.end_rejected.result.0 in
    let s = c.end_rejected.ensures.statuses in
    let before : (IsPassing fault → ⊥) → IsTrue d0.is_known → IsAudited d0.bytes (Some fault) = λ kind. audited_before d0 d1 opened.0 opened.1 (Some fault) c.in-Ok.ensures.opens c.in-Ok.ensures.version c.in-Ok.ensures.same (told_by d1 d2.faults told fault kind cause.err) in
    record {
      unchanged = then_unchanged d0 d1 d2 c.in-Ok.ensures.same cause.same;
      sealed = λ is. none_of_four r 1 4 5 8 0 s is (omega arith) (omega arith) (omega arith) (omega arith);
      rejected = λ is. (fault, rw c.in-Ok.ensures.silent at c.end_rejected.ensures.rejected is, before (c.end_rejected.ensures.kind (inl is)));
      part = λ is. inr (fault, rw c.in-Ok.ensures.silent at c.end_rejected.ensures.part is, before (c.end_rejected.ensures.kind (inr is)));
      disk = λ is.
          let failed = c.end_rejected.ensures.disk is in
          (rose_before d0.faults d1.faults d2.faults c.in-Ok.ensures.later (audit_rose d1 d2.faults told fault failed.0 cause.err), rw c.in-Ok.ensures.silent at failed.1);
      not_index = λ is. none_of_four r 1 4 5 8 6 s is (omega arith) (omega arith) (omega arith) (omega arith);
      long = λ is. none_of_four r 1 4 5 8 7 s is (omega arith) (omega arith) (omega arith) (omega arith);
      memory = λ is. rw c.in-Ok.ensures.silent at c.end_rejected.ensures.memory is;
      large = λ is is_known. not_large d0.bytes opened.0 opened.1 (c.in-Ok.ensures.opens is_known) c.in-Ok.ensures.few;
    }
