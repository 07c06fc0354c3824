-- Why a verdict is given, and what it cost.
use Rattle.std.specs.Prelude.{◌≡◌, ℕ, ◌+◌, ◌≤◌, Bool, true, false, IsTrue, Err}
use Rattle.outside_io.specs.Causes.{Rose}
use Rattle.page_store.specs.declared.pages.PageFault.{PageFault}
use Rattle.page_store.specs.declared.pages.PageFault.TheVariants as pages
use Rattle.page_store.specs.Reading.{IsWithin, is_within}
use Rattle.page_store.specs.Shelf.{Shelf}
use Rattle.metric_laws.specs.Counts.{count_up}
use Rattle.log_model.specs.declared.pairs.JoinNeed.{JoinNeed}
use Rattle.log_model.specs.JoinWalk.{opens_right, opened, page_of}
use Rattle.log_verify.specs.declared.faults.JoinVerdict.{JoinVerdict}
use Rattle.log_verify.specs.declared.faults.JoinVerdict.TheVariants as join
use Rattle.log_verify.specs.declared.faults.Verdict.{Verdict}
use Rattle.log_verify.specs.declared.faults.Verdict.TheVariants.{Page, Memory}

-- why a page is refused; `Fault` says that the log's first fault is so. The disk failed; or, for pages that tell what they hold, the
-- log has this fault. `Memory` is a verdict of its own
abbrev pub HasRefusal : Shelf → Shelf → PageFault → Type 0 → Type 0
HasRefusal old new pages.Disk Fault = Rose old.faults new.faults
HasRefusal old new (pages.Bad page fault) Fault = IsWithin old.pages page × (IsTrue old.is_known → Fault)
HasRefusal old new (pages.Outside page) Fault = (is_within old.pages page ≡ false) × (IsTrue old.is_known → Fault)
HasRefusal old new pages.Memory Fault = ⊥
HasRefusal old new (pages.Repeats page) Fault = ⊥
HasRefusal old new (pages.Level page) Fault = ⊥

-- why a verdict is given; `Fault` says that it is the log's first fault
abbrev pub HasCause : Shelf → Shelf → Verdict → Type 0 → Type 0
HasCause old new Memory Fault = Unit {0}
HasCause old new (Page fault) Fault = HasRefusal old new fault Fault
HasCause old new _ Fault = IsTrue old.is_known → Fault

-- why a page that the walk needs is refused
abbrev pub IsPageVerdict : Shelf → Shelf → ℕ → Verdict → Type 0
IsPageVerdict old new page Memory = Unit {0}
IsPageVerdict old new page (Page fault) = HasRefusal old new fault (old.read page ≡ Err fault)
IsPageVerdict old new page _ = ⊥

-- why a page is refused, or memory ran out
abbrev pub IsNodeFault : Shelf → Shelf → ℕ → PageFault → Type 0
IsNodeFault old new page pages.Memory = Unit {0}
IsNodeFault old new page fault = HasRefusal old new fault (old.read page ≡ Err fault)

-- the verdict for a refused page of a side
abbrev pub verdict_of : Bool → PageFault → JoinVerdict
verdict_of right pages.Memory = join.Memory
verdict_of right fault = join.Page right fault

-- why a page of the opened item's side is refused
abbrev pub IsJoinPageVerdict : Shelf → Shelf → Shelf → Shelf → JoinNeed → JoinVerdict → Type 0
IsJoinPageVerdict left left2 right right2 n join.Memory = Unit {0}
IsJoinPageVerdict left left2 right right2 n (join.Page false fault) = (opens_right n ≡ false)
    × HasRefusal left left2 fault (left.read (page_of (opened n)) ≡ Err fault)
IsJoinPageVerdict left left2 right right2 n (join.Page true fault) = (opens_right n ≡ true)
    × HasRefusal right right2 fault (right.read (page_of (opened n)) ≡ Err fault)
IsJoinPageVerdict left left2 right right2 n _ = ⊥

-- why a verdict on a join's log is given; `Fault` says that it is the log's first fault
abbrev pub HasJoinCause : Shelf → Shelf → Shelf → Shelf → JoinVerdict → Type 0 → Type 0
HasJoinCause left left2 right right2 join.Memory Fault = Unit {0}
HasJoinCause left left2 right right2 (join.Page false fault) Fault = HasRefusal left left2 fault (IsTrue right.is_known → Fault)
HasJoinCause left left2 right right2 (join.Page true fault) Fault = HasRefusal right right2 fault (IsTrue left.is_known → Fault)
HasJoinCause left left2 right right2 _ Fault = IsTrue left.is_known → IsTrue right.is_known → Fault

-- what may come at any time for a join's log: a disk failed, or memory ran out
abbrev pub IsJoinPassing : JoinVerdict → Type 0
IsJoinPassing join.Memory = Unit {0}
IsJoinPassing (join.Page right pages.Disk) = Unit {0}
IsJoinPassing _ = ⊥

-- what may come at any time: the disk failed, or memory ran out
abbrev pub IsPassing : Verdict → Type 0
IsPassing Memory = Unit {0}
IsPassing (Page pages.Disk) = Unit {0}
IsPassing _ = ⊥

-- the two sides together were asked for at most `most` pages, and each side read at most as many pages as it was asked for
pub record AskBothUpTo (left left2 right right2 : Shelf) (most : ℕ) : Type 0 where
  pub on_left : ℕ
  pub on_right : ℕ
  pub few : on_left + on_right ≤ most
  pub left_asked : left2.asked ≡ count_up left.asked on_left
  pub right_asked : right2.asked ≡ count_up right.asked on_right
  pub left_reads : left2.reads ≤ left.reads + on_left
  pub right_reads : right2.reads ≤ right.reads + on_right
