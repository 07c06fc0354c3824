use Rattle.std.proofs.Common.{refl, ap, List, ℕ}
use Rattle.std.specs.Prelude.{Some}
use Rattle.mtree_c.specs.Texts.{IsProofText}
use Rattle.mtree_c.proofs.Told.{hands_text, proof_text, unmoved}
use Rattle.mtree_c.proofs.judging.mtree_proof.Goals as goal

pub returns-clause-text : goal.returns-clause-text
returns-clause-text c =
    let job = c.prove_logs-status in
    let out = job.new.out in
    hands_text (IsProofText c.args.root.now.bytes c.args.logs.now) c.args.text.now c.hand_text.new.text out.bytes.items out.faults c.hand_text.new.size c.hand_text.result job.result.0
    c.hand_text.ensures.done c.hand_text.ensures.short c.hand_text.ensures.memory
    (λ none not_short not_memory. proof_text c.args.root.now.bytes c.args.logs.now job.new.log_in.left.now out.bytes.items (Some c.new-source.result.left.now) (Some job.new.log_in.left.now)
    (record { written = Some c.new-out.result.bytes.items; faults = c.new-out.result.faults }) (record { written = Some out.bytes.items; faults = out.faults }) job.result.0
    (ap (λ (x : List ℕ). Some x) c.new-source.ensures) refl (ap (λ (x : List ℕ). Some x) c.new-out.ensures.bytes) refl c.new-out.ensures.faults none job.ensures.proves job.ensures.statuses
    (λ e. unmoved (job.ensures.input e)) not_short not_memory)
