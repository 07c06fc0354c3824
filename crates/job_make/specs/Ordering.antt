-- Objects in order of id.
use Rattle.std.specs.Prelude.{◌≡◌, ℕ, ◌+◌, List, [], ◌∷◌, IsTrue}
use Rattle.std.specs.List.{AllByRecursion}
use Rattle.outside_io.specs.Causes.{Rose}
use Rattle.metric_laws.specs.Space.{Space}
use Rattle.tree_shape.specs.declared.entry.LeafEntry.{LeafEntry}
use Rattle.page_store.specs.declared.pages.PageFault.{PageFault}
use Rattle.page_store.specs.declared.pages.PageFault.TheVariants as page
use Rattle.tree_audit.specs.declared.faults.AuditFault.{AuditFault}
use Rattle.tree_audit.specs.declared.faults.AuditFault.TheVariants as audit

-- the ids are `id` and the numbers after it
abbrev pub AreNumbered : ℕ → List LeafEntry → Type 0
AreNumbered id [] = Unit {0}
AreNumbered id (e ∷ es) = (e.id ≡ id) × AreNumbered (id + 1) es

-- each point is one of the space
abbrev pub AreInSpace : Space → List LeafEntry → Type 0
AreInSpace s es = AllByRecursion (λ e. IsTrue (s.is_point e.point)) es

-- why objects were not taken: the disk failed, or memory ran out; where the tree is not sound, also because of what the tree holds
abbrev pub HasTakingCause : Type 0 → ℕ → ℕ → AuditFault → Type 0
HasTakingCause Sound before now audit.Memory = Unit {0}
HasTakingCause Sound before now (audit.Page page.Disk) = Rose before now
HasTakingCause Sound before now (audit.Page page.Memory) = ⊥
HasTakingCause Sound before now fault = ¬ Sound

-- maps the fault of a walk to an auditor's fault
abbrev pub rejection : PageFault → AuditFault
rejection page.Memory = audit.Memory
rejection (page.Repeats p) = audit.Twice p
rejection fault = audit.Page fault
