-- The cause of an audit's failure, said of the disk.
use Rattle.std.proofs.Common.{◌≡◌, ℕ, Bool, IsTrue, Option, Result, Ok, Err, IfErr, sym, subst}
use Rattle.outside_io.specs.Causes.{Rose}
use Rattle.disk_model.specs.Disk.{DiskState}
use Rattle.page_store.specs.Shelf.{Shelf}
use Rattle.page_store.specs.declared.pages.PageFault.TheVariants as page
use Rattle.tree_audit.specs.declared.auditing.Audited.{Audited}
use Rattle.tree_audit.specs.declared.faults.AuditFault.{AuditFault}
use Rattle.tree_audit.specs.declared.faults.AuditFault.TheVariants as audit
use Rattle.tree_audit.specs.Audited.{HasAuditCause}
use Rattle.job_files.specs.Jobs.{HasFault}

of_fault : (old new : Shelf) (d0 : DiskState) (n1 : ℕ) (told : Option AuditFault) (v : AuditFault) → d0.is_known ≡ old.is_known → d0.faults ≡ old.faults → n1 ≡ new.faults → HasAuditCause old new told v → HasFault d0 n1 told v
of_fault old new d0 n1 told audit.Memory is_known first last cause = tt
of_fault old new d0 n1 told (audit.Page page.Disk) is_known first last cause = subst (λ (n : ℕ). Rose n n1) (sym first) (subst (λ (n : ℕ). Rose old.faults n) (sym last) cause)
of_fault old new d0 n1 told (audit.Page page.Memory) is_known first last cause = cause
of_fault old new d0 n1 told (audit.Page (page.Repeats p)) is_known first last cause = cause
of_fault old new d0 n1 told (audit.Page (page.Level p)) is_known first last cause = cause
of_fault old new d0 n1 told (audit.Page (page.Bad p f)) is_known first last cause = λ t. cause (subst (λ (b : Bool). IsTrue b) is_known t)
of_fault old new d0 n1 told (audit.Page (page.Outside p)) is_known first last cause = λ t. cause (subst (λ (b : Bool). IsTrue b) is_known t)
of_fault old new d0 n1 told (audit.Fill p) is_known first last cause = λ t. cause (subst (λ (b : Bool). IsTrue b) is_known t)
of_fault old new d0 n1 told (audit.Twice p) is_known first last cause = λ t. cause (subst (λ (b : Bool). IsTrue b) is_known t)
of_fault old new d0 n1 told (audit.Unfit p i) is_known first last cause = λ t. cause (subst (λ (b : Bool). IsTrue b) is_known t)
of_fault old new d0 n1 told (audit.ParentDistance p i) is_known first last cause = λ t. cause (subst (λ (b : Bool). IsTrue b) is_known t)
of_fault old new d0 n1 told (audit.Radius p i o) is_known first last cause = λ t. cause (subst (λ (b : Bool). IsTrue b) is_known t)
of_fault old new d0 n1 told (audit.Id i) is_known first last cause = λ t. cause (subst (λ (b : Bool). IsTrue b) is_known t)
of_fault old new d0 n1 told (audit.Count a b) is_known first last cause = λ t. cause (subst (λ (b : Bool). IsTrue b) is_known t)

pub of_audit : (r : Result Audited AuditFault) (old new : Shelf) (d0 : DiskState) (n1 : ℕ) (told : Option AuditFault) → d0.is_known ≡ old.is_known → d0.faults ≡ old.faults → n1 ≡ new.faults
    → IfErr r (HasAuditCause old new told) → IfErr r (HasFault d0 n1 told)
of_audit (Ok a) old new d0 n1 told is_known first last cause = tt
of_audit (Err v) old new d0 n1 told is_known first last cause = of_fault old new d0 n1 told v is_known first last cause
