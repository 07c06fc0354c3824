use Rattle.std.proofs.Common.{refl, ap, arith, List, ℕ}
use Rattle.std.specs.Prelude.{Some}
use Rattle.slice_disk.specs.Held.{held}
use Rattle.job_files.specs.declared.logs.report.Report.TheVariants.{Answers}
use Rattle.job_logs.specs.Jobs.{IsOnlyRead, Says}
use Rattle.mtree_c.specs.Texts.{IsLogText}
use Rattle.mtree_c.proofs.Told.{hands_text, log_text, unmoved, unwritten}
use Rattle.mtree_c.proofs.judging.mtree_check.Goals as goal

pub returns-clause-text : goal.returns-clause-text
returns-clause-text c =
    let job = c.check_logs-status in
    let before = c.new-disk.result in
    let after = job.new.index in
    let out = job.new.out in
    hands_text (IsLogText Answers c.args.file.now c.args.logs.now) c.args.text.now c.hand_text.new.text out.bytes.items out.faults c.hand_text.new.size c.hand_text.result job.result.0
    c.hand_text.ensures.done c.hand_text.ensures.short c.hand_text.ensures.memory
    (λ no not_short not_memory. log_text (held before.bytes.now before.faults before.reads) (held after.bytes.now after.faults after.reads)
    (record { written = Some c.new-out.result.bytes.items; faults = c.new-out.result.faults }) (record { written = Some out.bytes.items; faults = out.faults })
    c.args.file.now out.bytes.items refl c.new-disk.ensures.bytes (ap (λ (x : List ℕ). Some x) c.new-out.ensures.bytes) refl c.new-out.ensures.faults no
    (IsOnlyRead Answers (held before.bytes.now before.faults before.reads) (held after.bytes.now after.faults after.reads)) (Says Answers) (Some c.new-source.result.left.now) (Some job.new.log_in.left.now) c.args.logs.now job.new.log_in.left.now (ap (λ (x : List ℕ). Some x) c.new-source.ensures) refl job.result.0 job.ensures.judges
    (λ e. unmoved (job.ensures.input e)) not_short
    (λ e. unwritten before.bytes.now after.bytes.now before.faults after.faults before.reads after.reads c.new-disk.ensures.faults job.ensures.judges.unchanged
    ((job.ensures.judges.judges (λ s. omega (arith, e, s)) (λ s. omega (arith, e, s))).disk e).0) not_memory job.ensures.statuses)
