-- Why the objects of a tree on pages can't be told, and what was put before.
use Rattle.std.specs.Prelude.{◌≡◌, ◌⊎◌, ℕ, List, Option, Err, IsTrue}
use Rattle.std.specs.Io.KnownBytes.{Appends}
use Rattle.metric_laws.specs.Space.{Space}
use Rattle.outside_io.specs.Bytes.{AppendsPrefix}
use Rattle.outside_io.specs.Causes.{Rose}
use Rattle.outside_io.specs.Sinks.{SinkState}
use Rattle.tree_shape.specs.declared.live.Live.{Live}
use Rattle.tree_shape.specs.Tree.{IsSoundTree}
use Rattle.page_store.specs.declared.pages.PageFault.{PageFault}
use Rattle.page_store.specs.declared.pages.PageFault.TheVariants as page
use Rattle.page_store.specs.Reading.{Read, nodes_of}
use Rattle.page_store.specs.Shelf.{Shelf, IsPassing as IsPassingPage}
use Rattle.page_store.specs.Tours.{Names, NamesInside}
use Rattle.job_dump.specs.declared.fault.DumpFault.{DumpFault}
use Rattle.job_dump.specs.declared.fault.DumpFault.TheVariants as dump
use Rattle.job_dump.specs.declared.fault.DumpStop.{DumpStop}
use Rattle.job_dump.specs.declared.fault.DumpStop.TheVariants as stop
use Rattle.job_dump.specs.Rows.{HasRows, IsOutOfPlace}
use Rattle.job_dump.specs.Scripts.{script_text}

-- what may come at any time: the disk failed, or memory ran out
abbrev pub IsPassing : DumpFault → Type 0
IsPassing (dump.Page fault) = IsPassingPage fault
IsPassing (dump.Id id) = ⊥

-- the walk by child numbers stops at the fault
abbrev pub StopsAt : Read → Live → PageFault → Type 0
StopsAt read live (page.Bad p fault) = (read p ≡ Err (page.Bad p fault)) × NamesInside (nodes_of read) live p
StopsAt read live (page.Outside p) = (read p ≡ Err (page.Outside p)) × NamesInside (nodes_of read) live p
StopsAt read live (page.Repeats p) = Names (nodes_of read) live.root live.pages p
StopsAt read live _ = ⊥

-- the fault of what the pages hold
abbrev pub IsFaultOf : Read → Live → DumpFault → Type 0
IsFaultOf read live (dump.Page fault) = StopsAt read live fault
IsFaultOf read live (dump.Id id) = IsOutOfPlace (nodes_of read) live id

-- the pages have the fault, and the tree is not sound in any space
pub record HasFaultOf (read : Read) (live : Live) (fault : DumpFault) : Type 0 where
  pub is : IsFaultOf read live fault
  pub unsound : (s : Space) → ¬ IsSoundTree s (nodes_of read) live

-- why the objects can't be told
abbrev pub HasCause : Live → Shelf → Shelf → DumpFault → Type 0
HasCause live old new (dump.Page page.Disk) = Rose old.faults new.faults
HasCause live old new (dump.Page page.Memory) = Unit {0}
HasCause live old new fault = IsTrue old.is_known → HasFaultOf old.read live fault

-- rows of the tree's objects, where the pages tell what they hold
abbrev pub AreRows : Shelf → Live → List (ℕ × List ℕ) → Type 0
AreRows shelf live rows = IsTrue shelf.is_known → HasRows (nodes_of shelf.read) live rows

-- the whole script was put, or a front of it
abbrev pub PutsScript : Shelf → Live → Option (List ℕ) → Option (List ℕ) → Type 0
PutsScript shelf live old new = (rows : List (ℕ × List ℕ)) × Appends old new (script_text rows) × AreRows shelf live rows

abbrev pub PutsFront : Shelf → Live → Option (List ℕ) → Option (List ℕ) → Type 0
PutsFront shelf live old new = (rows : List (ℕ × List ℕ)) × AppendsPrefix old new (script_text rows) × AreRows shelf live rows

-- nothing was put, or a front of the script, and no put failed
abbrev pub MayPut : Shelf → Live → SinkState → SinkState → Type 0
MayPut shelf live old new = (new ≡ old) ⊎ ((new.faults ≡ old.faults) × PutsFront shelf live old.written new.written)

-- why the script was not put whole, and what was put; nothing, where the fault is of what the pages hold
abbrev pub HasStop : Live → Shelf → Shelf → SinkState → SinkState → DumpStop → Type 0
HasStop live old new out0 out1 stop.Sink = PutsFront old live out0.written out1.written × Rose out0.faults out1.faults
HasStop live old new out0 out1 (stop.Fault fault) =
    MayPut old live out0 out1 × HasCause live old new fault × (IsTrue old.is_known → (IsPassing fault → ⊥) → out1 ≡ out0)
