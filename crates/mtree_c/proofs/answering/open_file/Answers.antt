use Rattle.std.proofs.Common.{inl, inr, List, ℕ, refl, subst}
use Rattle.job_files.specs.Jobs.{IsNoIndex}
use Rattle.mtree_c.proofs.Told.{unwritten}
use Rattle.mtree_c.proofs.answering.open_file.Goals as goal

pub returns-clause-status : goal.returns-clause-status
returns-clause-status c =
    let before = c.new-disk.result in
    let after = c.open_index.new.disk in
    let why = c.in-Err.ensures.refuses in
    elim why.statuses [
      | inl five ↦ absurd (unwritten before.bytes.now after.bytes.now before.faults after.faults before.reads after.reads c.new-disk.ensures.faults c.in-Err.ensures.same (why.disk five).0)
      | inr six ↦ (let n = why.not_index six in (six, (n.0, subst (λ (x : List ℕ). IsNoIndex x n.0) c.new-disk.ensures.bytes (n.2 refl))))
    ]
