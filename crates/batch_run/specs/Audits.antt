-- The audit of a file, whole and in parts.
use Rattle.std.specs.Prelude.{◌≡◌, ℕ, ◌+◌, List, [], ◌∷◌, length, Option, Some, None, Result, Ok, Err, IsTrue}
use Rattle.metric_laws.specs.Space.{Space}
use Rattle.disk_model.specs.Disk.{DiskState}
use Rattle.tree_shape.specs.declared.entry.InnerEntry.{InnerEntry}
use Rattle.tree_shape.specs.declared.live.Live.{Live}
use Rattle.tree_shape.specs.Tree.{pages_at}
use Rattle.page_store.specs.Files.{nodes_in}
use Rattle.page_store.specs.Reading.{reading}
use Rattle.tree_audit.specs.declared.auditing.Audited.{Audited}
use Rattle.tree_audit.specs.declared.faults.AuditFault.{AuditFault}
use Rattle.tree_audit.specs.declared.faults.AuditFault.TheVariants.{Memory, Page}
use Rattle.page_store.specs.declared.pages.PageFault.TheVariants as page
use Rattle.tree_audit.specs.declared.parts.Part.{Part}
use Rattle.tree_audit.specs.Audited.{audit_fault}
use Rattle.tree_audit.specs.Parts.{met_in, part_told}

-- what the audit of an image tells
abbrev pub audit_of : Space → Live → List ℕ → Option AuditFault
audit_of s live image = audit_fault s (reading s.dimension live.pages image) live

-- the numbers of an image without a fault
pub record AreNumbersOf (s : Space) (live : Live) (image : List ℕ) (a : Audited) : Type 0 where
  pub sound : audit_of s live image ≡ None
  pub objects : a.objects ≡ live.count
  pub nodes : a.nodes ≡ length (pages_at (nodes_in s.dimension live image) live.height live.root)

-- the first fault of an image, or out of memory; there is no disk that may fail
abbrev pub IsFaultOf : Space → Live → List ℕ → AuditFault → Type 0
IsFaultOf s live image Memory = Unit {0}
IsFaultOf s live image (Page page.Disk) = ⊥
IsFaultOf s live image (Page page.Memory) = ⊥
IsFaultOf s live image (Page (page.Repeats p)) = ⊥
IsFaultOf s live image (Page (page.Level p)) = ⊥
IsFaultOf s live image fault = audit_of s live image ≡ Some fault

-- ---- the audit in parts, on a disk that several threads read

-- what the walk of an entry of the root met, where it has no fault and the disk tells its bytes
abbrev pub IsPartOf : Space → Live → DiskState → ℕ → InnerEntry → Part → Type 0
IsPartOf s live disk i e part = IsTrue disk.is_known → part_told s (reading s.dimension live.pages disk.bytes) live i e ≡ Ok (met_in part)

-- the entries of the root from place `i` on were walked, each by itself, and `parts` has what was met below those without a fault
abbrev pub AreTried : Space → Live → DiskState → ℕ → List InnerEntry → List (Result Part AuditFault) → Type 0
AreTried s live disk i [] [] = Unit {0}
AreTried s live disk i [] (part ∷ parts) = ⊥
AreTried s live disk i (e ∷ es) [] = ⊥
AreTried s live disk i (e ∷ es) (Ok part ∷ parts) = IsPartOf s live disk i e part × AreTried s live disk (i + 1) es parts
AreTried s live disk i (e ∷ es) (Err fault ∷ parts) = AreTried s live disk (i + 1) es parts

-- the numbers of a tree without a fault, where the disk tells its bytes
pub record AreNumbersOn (s : Space) (live : Live) (disk : DiskState) (a : Audited) : Type 0 where
  pub objects : a.objects ≡ live.count
  pub told : IsTrue disk.is_known → AreNumbersOf s live disk.bytes a
