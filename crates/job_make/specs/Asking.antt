-- The eight queries that try a generated index.
use Rattle.std.specs.Prelude.{◌≡◌, ℕ, ◌*◌, ◌/◌, ◌%◌, ◌==◌, true, List, [], length, map, slice_index_or, if◌then◌else◌}
use Rattle.std.specs.List.{range_with_len, sum}
use Rattle.metric_laws.specs.Space.{Space}
use Rattle.outside_io.specs.Causes.{Rose}
use Rattle.disk_model.specs.Disk.{DiskState}
use Rattle.scan_model.specs.declared.query.Query.{Query}
use Rattle.scan_model.specs.declared.query.Query.TheVariants.{Nearest, Range}
use Rattle.log_model.specs.Laws.{scan_answers}
use Rattle.page_store.specs.declared.pages.PageFault.{PageFault}
use Rattle.page_store.specs.declared.pages.PageFault.TheVariants as page
use Rattle.index_core.specs.declared.faults.IndexFault.{IndexFault}
use Rattle.index_core.specs.declared.faults.IndexFault.TheVariants as index
use Rattle.page_store.specs.Shelf.{IsDamage}
use Rattle.job_make.specs.declared.asking.Asked.{Asked}
use Rattle.job_make.specs.declared.asking.Tally.{Tally}

-- query `t` of eight over some points, at the point of the t-th eighth: the 10 nearest objects where `t` is even, otherwise all
-- objects within 1000
abbrev pub query_at : ℕ → List ℕ → Query
query_at t q = if t % 2 == 0 then Nearest q 10 else Range q 1000

abbrev pub point_asked : List (List ℕ) → ℕ → List ℕ
point_asked points t = slice_index_or points (t * length points / 8) []

-- the number of objects that the plain scan of the points finds for query `t`
abbrev pub hits_at : Space → List (List ℕ) → ℕ → ℕ
hits_at s points t = length (scan_answers s (query_at t (point_asked points t)) points)

-- the number of objects for the first `queries` queries together
abbrev pub hits_of : Space → List (List ℕ) → ℕ → ℕ
hits_of s points queries = sum (map (hits_at s points) (range_with_len 0 queries))

-- why a search or the check of its log stopped: the disk failed, or memory ran out; on a file that is not sound also a damaged page
abbrev pub HasAskCause : Type 0 → DiskState → DiskState → PageFault → Type 0
HasAskCause Sound old new page.Disk = Rose old.faults new.faults
HasAskCause Sound old new page.Memory = Unit {0}
HasAskCause Sound old new _ = ¬ Sound

-- a query was answered with as many hits as the plain scan of the points has answers, and its log was accepted
pub record IsAnswered (s : Space) (query : Query) (points : List (List ℕ)) (asked : Asked) : Type 0 where
  pub hits : asked.hits ≡ length (scan_answers s query points)
  pub accepted : asked.accepted ≡ true

-- all eight queries were answered so
pub record IsTally (s : Space) (points : List (List ℕ)) (tally : Tally) : Type 0 where
  pub hits : tally.hits ≡ hits_of s points 8
  pub accepted : tally.accepted ≡ 8

-- the faults of a search
abbrev pub IsReading : IndexFault → Type 0
IsReading index.Disk = Unit {0}
IsReading (index.Damaged fault) = IsDamage fault
IsReading index.Memory = Unit {0}
IsReading _ = ⊥

abbrev pub page_fault : IndexFault → PageFault
page_fault index.Disk = page.Disk
page_fault (index.Damaged fault) = fault
page_fault _ = page.Memory
