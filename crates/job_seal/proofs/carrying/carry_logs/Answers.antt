use Rattle.std.proofs.Common.{inl, inr, ⊎_elim, refl, ap, arith}
use Rattle.job_files.proofs.Published.{of_three}
use Rattle.job_seal.proofs.Telling.{halted_before, unchanged, carried_is_read}
use Rattle.job_seal.proofs.carrying.carry_logs.Goals as goal

pub returns-in-Err-clause-carries : goal.returns-in-Err-clause-carries
returns-in-Err-clause-carries g c =
    let d = g.D.Disk.state c.args.index.now in
    let l = (g.L.Sink.state c.args.log_out.now).written in
    let out0 = g.K.Sink.state c.args.out.now in
    let out1 = g.K.Sink.state c.read_logs.new.out in
    let unread = c.in-Err.ensures.unread in
    let r = c.in-Err.status.0 in
    let s = unread.statuses in
    record {
      bytes = unread.bytes;
      taken = unread.taken;
      few = unread.few;
      too_many = unread.long.1;
      all = λ a b few. absurd (⊎_elim a (λ rest. ⊎_elim (λ is. let more = unread.long.0 is in omega (arith, more, few)) b rest) s);
      unchanged = unchanged d;
      done = λ either. ⊎_elim (λ is. of_three r 3 7 8 0 s is (omega arith) (omega arith) (omega arith)) (λ is. of_three r 3 7 8 1 s is (omega arith) (omega arith) (omega arith)) either;
      halted = λ is_known. halted_before d.bytes unread.bytes l out0 out1 r (λ is. of_three r 3 7 8 4 s is (omega arith) (omega arith) (omega arith)) (λ is. of_three r 3 7 8 5 s is (omega arith) (omega arith) (omega arith)) unread.memory_line;
      input_line = unread.input_line;
      no_frame = λ refusal. refl;
      not_index = λ is. of_three r 3 7 8 6 s is (omega arith) (omega arith) (omega arith);
      long = λ is. (unread.long_line is, inl (unread.long.0 is));
    }

pub returns-in-Ok-clause-kept : goal.returns-in-Ok-clause-kept
returns-in-Ok-clause-kept g c = λ refusal.
    ⊎_elim (λ three. absurd (carried_is_read c.carry_index.result.0 c.carry_index.ensures.statuses three)) c.carry_index.ensures.kept refusal

pub returns-in-Ok-clause-carries : goal.returns-in-Ok-clause-carries
returns-in-Ok-clause-carries g c =
    let first = c.in-Ok.ensures in
    let takes = first.takes in
    let told = c.carry_index.ensures in
    let r = c.carry_index.result.0 in
    record {
      bytes = c.in-Ok.bytes.items;
      taken = takes.taken;
      few = omega (arith, takes.few);
      too_many = λ more. absurd (let no : ⊥ = omega (arith, more, takes.few) in no);
      all = λ a b few. takes.all;
      unchanged = told.same;
      done = rw (first.silent, c.deref.ensures.value) at told.done;
      halted = rw (first.silent, c.deref.ensures.value) at told.halted;
      input_line = λ three. absurd (carried_is_read r told.statuses three);
      no_frame = λ refusal. ⊎_elim (λ three. absurd (carried_is_read r told.statuses three)) (λ either. ap (λ l. (g.L.Sink.state l).written) (told.kept either)) refusal;
      not_index = rw first.silent at told.not_index;
      long = λ is. let line = rw first.silent at told.long is in (line.0, inr line.1);
    }
