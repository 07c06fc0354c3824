use Rattle.std.proofs.Common.{refl, ap, List, ℕ}
use Rattle.std.specs.Prelude.{Some}
use Rattle.slice_disk.specs.Held.{held}
use Rattle.mtree_c.specs.Texts.{IsDumpText}
use Rattle.mtree_c.proofs.Told.{hands_text, dumped_text, unwritten}
use Rattle.mtree_c.proofs.describing.mtree_dump.Goals as goal

pub returns : goal.returns
returns c =
    let job = c.dump_index-status in
    let before = c.new-disk.result in
    let after = job.new.disk in
    let out = job.new.out in
    hands_text (IsDumpText c.args.file.now) c.args.text.now c.hand_text.new.text out.bytes.items out.faults c.hand_text.new.size c.hand_text.result job.result.0
    c.hand_text.ensures.done c.hand_text.ensures.short c.hand_text.ensures.memory
    (λ no not_short not_memory. dumped_text (held before.bytes.now before.faults before.reads) (held after.bytes.now after.faults after.reads)
    (record { written = Some c.new-out.result.bytes.items; faults = c.new-out.result.faults }) (record { written = Some out.bytes.items; faults = out.faults })
    c.args.file.now out.bytes.items refl c.new-disk.ensures.bytes (ap (λ (x : List ℕ). Some x) c.new-out.ensures.bytes) refl c.new-out.ensures.faults no
    job.result.0 job.ensures.dumps job.ensures.statuses not_short
    (λ e. unwritten before.bytes.now after.bytes.now before.faults after.faults before.reads after.reads c.new-disk.ensures.faults job.ensures.dumps.unchanged (job.ensures.dumps.disk e).0) not_memory)
