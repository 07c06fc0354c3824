use Rattle.std.proofs.Common.{List, ℕ, ⊎_elim, sym, subst, ap}
use Rattle.std.specs.Prelude.{IsTrue, Err}
use Rattle.outside_io.proofs.Published.{rose_before}
use Rattle.job_seal.specs.Carries.{Stops}
use Rattle.job_seal.proofs.Telling.{halted, stopped_at, output_later, done_is_no_refusal}
use Rattle.job_seal.proofs.carrying.carry_index.Goals as goal

pub returns-in-Err-carry_opened-clause-halted : goal.returns-in-Err-carry_opened-clause-halted
returns-in-Err-carry_opened-clause-halted g c = λ is_known.
    let d0 = g.D.Disk.state c.args.index.now in
    let opened = c.in-Ok.opened in
    let why = c.in-Err-carry_opened.why in
    let l0 = (g.L.Sink.state c.args.log_out.now).written in
    let l1 = (g.L.Sink.state c.carry_opened.new.log_out).written in
    let s1 = g.K.Sink.state c.carry_opened.new.out in
    let same = c.in-Ok.ensures.same in
    let stops = subst (λ (file : List ℕ). Stops file opened.0 opened.1 c.args.bytes.now why l0 l1 (g.K.Sink.state c.open_small.new.out).written s1.written) same.same_bytes
    (c.in-Err-carry_opened.ensures.stops (subst IsTrue (sym same.same_known) is_known)) in
    let before = rw c.in-Ok.ensures.silent at stops in
    halted d0.bytes c.args.bytes.now opened.0 opened.1 why l0 l1 (g.K.Sink.state c.args.out.now) s1 (g.K.Sink.state c.end_stopped.new.out) c.end_stopped.result.0
    (c.in-Ok.ensures.opens is_known) before (rw c.in-Ok.ensures.silent at c.in-Err-carry_opened.ensures.out_later) c.end_stopped.ensures.ends

pub returns-in-Err-carry_opened-clause-statuses : goal.returns-in-Err-carry_opened-clause-statuses
returns-in-Err-carry_opened-clause-statuses g c = (stopped_at c.in-Err-carry_opened.why _ _ c.end_stopped.result.0 c.end_stopped.ensures.ends).statuses

pub returns-in-Err-carry_opened-clause-done : goal.returns-in-Err-carry_opened-clause-done
returns-in-Err-carry_opened-clause-done g c = λ done. absurd ((stopped_at c.in-Err-carry_opened.why _ _ c.end_stopped.result.0 c.end_stopped.ensures.ends).not_done done)

pub returns-in-Err-carry_opened-clause-not_index : goal.returns-in-Err-carry_opened-clause-not_index
returns-in-Err-carry_opened-clause-not_index g c = λ is. absurd ((stopped_at c.in-Err-carry_opened.why _ _ c.end_stopped.result.0 c.end_stopped.ensures.ends).not_six is)

pub returns-in-Err-carry_opened-clause-long : goal.returns-in-Err-carry_opened-clause-long
returns-in-Err-carry_opened-clause-long g c = λ is. absurd ((stopped_at c.in-Err-carry_opened.why _ _ c.end_stopped.result.0 c.end_stopped.ensures.ends).not_seven is)

pub returns-in-Err-carry_opened-clause-disk : goal.returns-in-Err-carry_opened-clause-disk
returns-in-Err-carry_opened-clause-disk g c = λ is.
    let why = (stopped_at c.in-Err-carry_opened.why _ _ c.end_stopped.result.0 c.end_stopped.ensures.ends).disk is in
    rose_before (g.D.Disk.state c.args.index.now).faults (g.D.Disk.state c.open_small.new.disk).faults (g.D.Disk.state c.carry_opened.new.index).faults c.in-Ok.ensures.later
    (c.in-Err-carry_opened.ensures.disk (ap (λ w. Err w) why))

pub returns-in-Err-carry_opened-clause-output : goal.returns-in-Err-carry_opened-clause-output
returns-in-Err-carry_opened-clause-output g c = λ is.
    let why = (stopped_at c.in-Err-carry_opened.why _ _ c.end_stopped.result.0 c.end_stopped.ensures.ends).output is in
    output_later (g.K.Sink.state c.args.out.now).faults (g.K.Sink.state c.carry_opened.new.out).faults (g.K.Sink.state c.end_stopped.new.out).faults
    (g.L.Sink.state c.args.log_out.now).faults (g.L.Sink.state c.carry_opened.new.log_out).faults
    (rw c.in-Ok.ensures.silent at c.in-Err-carry_opened.ensures.output (ap (λ w. Err w) why)) c.end_stopped.ensures.later

pub returns-in-Err-carry_opened-clause-kept : goal.returns-in-Err-carry_opened-clause-kept
returns-in-Err-carry_opened-clause-kept g c = λ either.
    let ended = stopped_at c.in-Err-carry_opened.why _ _ c.end_stopped.result.0 c.end_stopped.ensures.ends in
    absurd (⊎_elim ended.not_six ended.not_seven either)

pub returns-in-Ok-carry_opened-clause-kept : goal.returns-in-Ok-carry_opened-clause-kept
returns-in-Ok-carry_opened-clause-kept g c = λ either. absurd (done_is_no_refusal c.in-Ok-carry_opened.status.0 c.in-Ok-carry_opened.ensures.statuses either)
