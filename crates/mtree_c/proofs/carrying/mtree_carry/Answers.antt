use Rattle.std.proofs.Common.{refl, ap, List, ℕ}
use Rattle.std.specs.Prelude.{Some}
use Rattle.slice_disk.specs.Held.{held}
use Rattle.mtree_c.specs.Carrying.{IsCarriedText}
use Rattle.mtree_c.proofs.Told.{hands_carried, carried_text, unmoved, unwritten}
use Rattle.mtree_c.proofs.carrying.mtree_carry.Goals as goal

pub returns-clause-text : goal.returns-clause-text
returns-clause-text c =
    let job = c.carry_logs-status in
    let before = c.new-disk.result in
    let after = job.new.index in
    let lines = job.new.out in
    let frames = job.new.log_out in
    let handed = c.hand_carried in
    hands_carried (IsCarriedText c.args.file.now c.args.logs.now) c.args.carried.now handed.new.carried c.args.text.now handed.new.text frames.bytes.items lines.bytes.items
    frames.faults lines.faults handed.new.sizes handed.result job.result.0
    handed.ensures.done handed.ensures.short handed.ensures.memory handed.ensures.same
    (λ whole no not_short not_memory. carried_text (held before.bytes.now before.faults before.reads) (held after.bytes.now after.faults after.reads)
    (record { written = Some c.new-lines.result.bytes.items; faults = c.new-lines.result.faults }) (record { written = Some lines.bytes.items; faults = lines.faults })
    c.args.file.now lines.bytes.items refl c.new-disk.ensures.bytes (ap (λ (x : List ℕ). Some x) c.new-lines.ensures.bytes) refl c.new-lines.ensures.faults no
    (Some c.new-source.result.left.now) (Some job.new.log_in.left.now) (Some c.new-frames.result.bytes.items) (Some frames.bytes.items)
    c.args.logs.now job.new.log_in.left.now frames.bytes.items
    (ap (λ (x : List ℕ). Some x) c.new-source.ensures) refl (ap (λ (x : List ℕ). Some x) c.new-frames.ensures.bytes) refl
    job.result.0 job.ensures.carries (λ e. unmoved (job.ensures.input e)) not_short
    (λ e. unwritten before.bytes.now after.bytes.now before.faults after.faults before.reads after.reads c.new-disk.ensures.faults job.ensures.carries.unchanged (job.ensures.disk e)) not_memory
    job.ensures.statuses)
