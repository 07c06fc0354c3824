-- How often a job reads its index.
use Rattle.std.specs.Prelude.{◌≡◌, ◌⊎◌, ◌≤◌, ◌+◌, ◌^◌, ℕ, List, sum_by, Result, Ok, Err, IsTrue}
use Rattle.disk_model.specs.Disk.{DiskState}
use Rattle.tree_shape.specs.declared.live.Live.{Live}
use Rattle.node_page.specs.declared.head.Head.{Head}
use Rattle.node_page.specs.Opening.{OpensTo}

-- The disk was read at most three times, to open the file. Or the file opened as an index of version 2, and the disk was read at
-- most `more pages` times besides, where `pages` is the number of its pages.
abbrev pub ReadsOnce : (ℕ → ℕ) → DiskState → DiskState → Type 0
ReadsOnce more disk0 disk1 =
    (disk1.reads ≤ disk0.reads + 3)
    ⊎ ((head : Head) × (live : Live) × (IsTrue disk0.is_known → OpensTo disk0.bytes head live) × (head.version ≡ 2) × (live.pages ≤ 2 ^ 24)
    × (disk1.reads ≤ disk0.reads + (3 + more live.pages)))

-- an audit reads each page once at the most
abbrev pub each_page : ℕ → ℕ
each_page pages = pages

-- the most reads that judging takes of the logs that bytes spell, where a log takes at most `most log`; bytes that are no logs take none
abbrev pub reads_of : {L F : Type 0} → (L → ℕ) → Result (List L) F → ℕ
reads_of most (Err why) = 0
reads_of most (Ok logs) = sum_by most logs
