-- What an audit has met, and why a part of it fails.
use Rattle.std.specs.Prelude.{◌≡◌, ℕ, ◌-◌, ◌==◌, ◌&&◌, List, [], ◌∷◌, ◌++◌, length, Result, Err, IsTrue, if◌then◌else◌}
use Rattle.outside_io.specs.Causes.{Rose}
use Rattle.metric_laws.specs.Space.{Space}
use Rattle.tree_shape.specs.Fill.{least_for}
use Rattle.tree_shape.specs.declared.entry.LeafEntry.{LeafEntry}
use Rattle.tree_shape.specs.declared.entry.InnerEntry.{InnerEntry}
use Rattle.page_store.specs.Reading.{Read}
use Rattle.page_store.specs.Shelf.{Shelf}
use Rattle.page_store.specs.declared.pages.PageFault.TheVariants.{Disk, Bad, Outside}
use Rattle.tree_audit.specs.declared.faults.AuditFault.{AuditFault}
use Rattle.tree_audit.specs.declared.faults.AuditFault.TheVariants.{Page, Fill, Memory}
use Rattle.tree_audit.specs.declared.walking.Visits.{Visits}
use Rattle.tree_audit.specs.declared.walking.Step.{Step}
use Rattle.tree_audit.specs.Audited.{Seen, step, each_entry, check_object, check_entry, last_point, is_filled, audited_at}

abbrev pub seen_of : Visits → Seen
seen_of v = record { pages = v.pages.met; ids = v.ids.met }

-- what an audit tells of a leaf that stands at a level
abbrev pub leaf_told : Space → ℕ → ℕ → ℕ → List Step → ℕ → List LeafEntry → Seen → Result Seen AuditFault
leaf_told s count level least path page es seen =
    if (level == 0) && is_filled s least (length es) then each_entry (check_object s count (last_point path) path page) 0 es seen else Err (Fill page)

-- a fault of an entry
abbrev pub IsEntryFault : Result Seen AuditFault → AuditFault → Type 0
IsEntryFault told Memory = Unit {0}
IsEntryFault told (Page fault) = ⊥
IsEntryFault told fault = told ≡ Err fault

-- why a page gave no node
abbrev pub IsOpenFault : Shelf → Shelf → ℕ → AuditFault → Type 0
IsOpenFault old new page Memory = Unit {0}
IsOpenFault old new page (Page Disk) = Rose old.faults new.faults
IsOpenFault old new page (Page (Bad p fault)) = IsTrue old.is_known → old.read page ≡ Err (Bad p fault)
IsOpenFault old new page (Page (Outside p)) = IsTrue old.is_known → old.read page ≡ Err (Outside p)
IsOpenFault old new page _ = ⊥

-- what an audit tells of an entry of an inner node that stands at a level above 0
abbrev pub entry_told : Space → Read → ℕ → ℕ → List Step → ℕ → ℕ → InnerEntry → Seen → Result Seen AuditFault
entry_told s read count level path page i e seen =
    check_entry s (last_point path) page i e (audited_at s read count (level - 1) (least_for s.dimension) (path ++ step page i e ∷ []) e.child seen)
