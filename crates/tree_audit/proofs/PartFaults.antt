-- Faults of a part of the walk.
use Rattle.std.proofs.Common.{◌≡◌, Result, subst}
use Rattle.std.specs.Prelude.{IfErr}
use Rattle.page_store.specs.Shelf.{Shelf}
use Rattle.tree_audit.specs.declared.faults.AuditFault.{AuditFault}
use Rattle.tree_audit.specs.Audited.{Seen, IsWalkFault}

-- what is told in other words is the same fault
pub walk_told : {T : Type 0} (r : Result T AuditFault) (old new : Shelf) (told told2 : Result Seen AuditFault) → told ≡ told2 → IfErr r (IsWalkFault old new told) → IfErr r (IsWalkFault old new told2)
walk_told r old new told told2 same fault = subst (λ (t : Result Seen AuditFault). IfErr r (IsWalkFault old new t)) same fault
