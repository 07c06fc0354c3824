-- An opened file: its space, what its pages hold, and its first fault.
use Rattle.std.specs.Prelude.{ℕ, List, Option}
use Rattle.tree_shape.specs.declared.live.Live.{Live}
use Rattle.node_page.specs.declared.head.Head.{Head}
use Rattle.page_store.specs.Reading.{Read, reading}
use Rattle.tree_audit.specs.declared.faults.AuditFault.{AuditFault}
use Rattle.tree_audit.specs.Audited.{audit_fault}
use Rattle.job_files.specs.Spaces.{space_of}

-- what its pages hold
abbrev pub read_of : List ℕ → Head → Live → Read
read_of file head live = reading head.dim live.pages file

-- the first fault of the live tree
abbrev pub fault_of : List ℕ → Head → Live → Option AuditFault
fault_of file head live = audit_fault (space_of head) (read_of file head live) live
