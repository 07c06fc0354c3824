-- A script that is being written.
use Rattle.std.specs.Prelude.{◌≡◌, ℕ, List, ◌++◌, codes, flat_map, IsTrue}
use Rattle.std.specs.Io.KnownBytes.{Appends}
use Rattle.outside_io.specs.Causes.{Rose}
use Rattle.outside_io.specs.Sinks.{SinkState}
use Rattle.tree_shape.specs.declared.live.Live.{Live}
use Rattle.page_store.specs.declared.pages.PageFault.TheVariants as page
use Rattle.page_store.specs.Reading.{nodes_of}
use Rattle.page_store.specs.Shelf.{Shelf}
use Rattle.rows_text.specs.Texts.{counted}
use Rattle.job_dump.specs.declared.fault.DumpFault.{DumpFault}
use Rattle.job_dump.specs.declared.fault.DumpFault.TheVariants as dump
use Rattle.job_dump.specs.Places.{ArePlaces}
use Rattle.job_dump.specs.Rows.{objects_on, row_of, rows_from}
use Rattle.job_dump.specs.Scripts.{row_line}

-- the head of a script of `count` objects, and the lines of the first of them
abbrev pub front_text : ℕ → List (ℕ × List ℕ) → List ℕ
front_text count front = counted (codes "tload,") count ++ flat_map row_line front

-- what was put and the text that waits are the front of a script of `count` objects, and no put failed
pub record IsWriting (old now : SinkState) (text : List ℕ) (count : ℕ) (front : List (ℕ × List ℕ)) : Type 0 where
  pub sent : List ℕ
  pub put : Appends old.written now.written sent
  pub faults : now.faults ≡ old.faults
  pub whole : sent ++ text ≡ front_text count front

-- the row of the object that stands at the id's place
abbrev pub IsRowOf : Shelf → Live → List ℕ → ℕ → ℕ × List ℕ → Type 0
IsRowOf shelf live numbers id row =
    IsTrue shelf.is_known → (are : ArePlaces (nodes_of shelf.read) live numbers) → row ≡ row_of (objects_on (nodes_of shelf.read) are.pages) id

-- the rows of the objects that stand at the first places
abbrev pub AreFirstRows : Shelf → Live → List ℕ → ℕ → List (ℕ × List ℕ) → Type 0
AreFirstRows shelf live numbers count front =
    IsTrue shelf.is_known → (are : ArePlaces (nodes_of shelf.read) live numbers) →
    front ≡ rows_from (objects_on (nodes_of shelf.read) are.pages) 0 count

-- why an object that has a place could not be read: the disk failed, or memory ran out; nothing else, where the pages tell
abbrev pub HasReadCause : Live → List ℕ → Shelf → Shelf → DumpFault → Type 0
HasReadCause live numbers old new (dump.Page page.Disk) = Rose old.faults new.faults
HasReadCause live numbers old new (dump.Page page.Memory) = Unit {0}
HasReadCause live numbers old new fault = IsTrue old.is_known → ¬ ArePlaces (nodes_of old.read) live numbers
