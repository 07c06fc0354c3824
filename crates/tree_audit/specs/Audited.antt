-- The first fault of a tree, in the auditor's order.
use Rattle.std.specs.Prelude.{◌≡◌, ℕ, zero, suc, ◌+◌, Bool, IsTrue, List, [], ◌∷◌, ◌++◌, length, Option, Some, None, Result, Ok, Err, if◌then◌else◌, ◌==◌, ◌&&◌, nat_le, nat_lt, ◌-◌, slice_get}
use Rattle.metric_laws.specs.Space.{Space}
use Rattle.tree_shape.specs.declared.entry.LeafEntry.{LeafEntry}
use Rattle.tree_shape.specs.declared.entry.InnerEntry.{InnerEntry}
use Rattle.tree_shape.specs.declared.entry.Node.{Node}
use Rattle.tree_shape.specs.declared.entry.Node.TheVariants.{Leaf, Inner}
use Rattle.tree_shape.specs.declared.live.Live.{Live}
use Rattle.tree_shape.specs.Fill.{most_for, least_for, root_least}
use Rattle.tree_shape.specs.Tree.{times, parent_distance}
use Rattle.outside_io.specs.Causes.{Rose}
use Rattle.page_store.specs.Shelf.{Shelf}
use Rattle.page_store.specs.declared.pages.PageFault.{PageFault}
use Rattle.page_store.specs.declared.pages.PageFault.TheVariants.{Disk, Memory as NoRoom, Repeats, Level}
use Rattle.page_store.specs.Reading.{Read}
use Rattle.tree_audit.specs.declared.walking.Step.{Step}
use Rattle.tree_audit.specs.declared.faults.AuditFault.{AuditFault}
use Rattle.tree_audit.specs.declared.faults.AuditFault.TheVariants.{Page, Fill, Twice, Unfit, ParentDistance, Radius, Id, Count, Memory}

-- the pages that the walk went to and the ids that it met
pub record Seen : Type 0 where
  pub pages : List ℕ
  pub ids : List ℕ

-- the step to a child
abbrev pub step : ℕ → ℕ → InnerEntry → Step
step page i e = record { page = page; place = i; radius = e.radius; point = e.point }

-- what is done after a step that may fail
abbrev pub and_then : Result Seen AuditFault → (Seen → Result Seen AuditFault) → Result Seen AuditFault
and_then (Ok seen) rest = rest seen
and_then (Err fault) rest = Err fault

-- a check of each entry in turn, by its place
abbrev pub each_entry : {X : Type 0} → (ℕ → X → Seen → Result Seen AuditFault) → ℕ → List X → Seen → Result Seen AuditFault
each_entry check i [] seen = Ok seen
each_entry check i (x ∷ xs) seen = and_then (check i x seen) (λ after. each_entry check (i + 1) xs after)

abbrev pub point_of_step : Option Step → Option (List ℕ)
point_of_step None = None
point_of_step (Some t) = Some t.point

-- the point of the last step
abbrev pub last_point : List Step → Option (List ℕ)
last_point path = point_of_step (slice_get path (length path - 1))

-- the first step, from the root down, whose sphere leaves the point out
abbrev pub first_outside : Space → List Step → List ℕ → Option Step
first_outside s [] p = None
first_outside s (t ∷ path) p = if nat_le (s.dist p t.point) t.radius then first_outside s path p else Some t

abbrev pub if_inside : Option Step → ℕ → Result Seen AuditFault → Result Seen AuditFault
if_inside None id rest = rest
if_inside (Some t) id rest = Err (Radius t.page t.place id)

-- an object of a leaf
abbrev pub check_object : Space → ℕ → Option (List ℕ) → List Step → ℕ → ℕ → LeafEntry → Seen → Result Seen AuditFault
check_object s count above path page i o seen =
    if s.is_point o.point
    then (if o.parent == parent_distance s above o.point
    then if_inside (first_outside s path o.point) o.id
    (if nat_lt o.id count && (times o.id seen.ids == 0) then Ok (record { pages = seen.pages; ids = seen.ids ++ o.id ∷ [] }) else Err (Id o.id))
    else Err (ParentDistance page i))
    else Err (Unfit page i)

-- an entry of an inner node, before its child
abbrev pub check_entry : Space → Option (List ℕ) → ℕ → ℕ → InnerEntry → Result Seen AuditFault → Result Seen AuditFault
check_entry s above page i e rest =
    if s.is_point e.point
    then (if e.parent == parent_distance s above e.point then rest else Err (ParentDistance page i))
    else Err (Unfit page i)

abbrev pub is_filled : Space → ℕ → ℕ → Bool
is_filled s least count = nat_le least count && nat_le count (most_for s.dimension)

abbrev pub arrived : Seen → ℕ → Seen
arrived seen page = record { pages = seen.pages ++ page ∷ []; ids = seen.ids }

abbrev pub after_node : Result Node PageFault → (Node → Result Seen AuditFault) → Result Seen AuditFault
after_node (Err fault) rest = Err (Page fault)
after_node (Ok node) rest = rest node

-- the arrival of the walk at a page
abbrev pub on_arrival : Read → ℕ → Seen → (Node → Result Seen AuditFault) → Result Seen AuditFault
on_arrival read page seen rest = if times page seen.pages == 0 then after_node (read page) rest else Err (Twice page)

abbrev pub leaf_node : Space → ℕ → ℕ → Node → (List LeafEntry → Result Seen AuditFault) → Result Seen AuditFault
leaf_node s least page (Leaf es) rest = if is_filled s least (length es) then rest es else Err (Fill page)
leaf_node s least page (Inner level es) rest = Err (Fill page)

abbrev pub inner_node : Space → ℕ → ℕ → ℕ → Node → (List InnerEntry → Result Seen AuditFault) → Result Seen AuditFault
inner_node s h least page (Leaf es) rest = Err (Fill page)
inner_node s h least page (Inner level es) rest = if (level == h) && is_filled s least (length es) then rest es else Err (Fill page)

-- the walk of a page at a level, under the steps of a path, the root's first
abbrev pub audited_at : Space → Read → ℕ → ℕ → ℕ → List Step → ℕ → Seen → Result Seen AuditFault
audited_at s read count zero least path page seen =
    on_arrival read page seen (λ node. leaf_node s least page node (λ es.
    each_entry (check_object s count (last_point path) path page) 0 es (arrived seen page)))
audited_at s read count (suc h) least path page seen =
    on_arrival read page seen (λ node. inner_node s (suc h) least page node (λ es.
    each_entry (λ i e after. check_entry s (last_point path) page i e
    (audited_at s read count h (least_for s.dimension) (path ++ step page i e ∷ []) e.child after)) 0 es (arrived seen page)))

-- the walk of the whole tree, and the number of its objects
abbrev pub after_walk : ℕ → Result Seen AuditFault → Option AuditFault
after_walk count (Err fault) = Some fault
after_walk count (Ok seen) = if length seen.ids == count then None else Some (Count count (length seen.ids))

abbrev pub audit_fault : Space → Read → Live → Option AuditFault
audit_fault s read t = after_walk t.count (audited_at s read t.count t.height (root_least t.height) [] t.root (record { pages = []; ids = [] }))

-- why a walk stopped: memory ran out, which may come at any time; the disk failed; or the fault is the one that is told
abbrev pub IsWalkFault : Shelf → Shelf → Result Seen AuditFault → AuditFault → Type 0
IsWalkFault old new told Memory = Unit {0}
IsWalkFault old new told (Page Disk) = Rose old.faults new.faults
IsWalkFault old new told (Page NoRoom) = ⊥
IsWalkFault old new told (Page (Repeats page)) = ⊥
IsWalkFault old new told (Page (Level page)) = ⊥
IsWalkFault old new told fault = IsTrue old.is_known → told ≡ Err fault

-- why an audit failed
abbrev pub HasAuditCause : Shelf → Shelf → Option AuditFault → AuditFault → Type 0
HasAuditCause old new told Memory = Unit {0}
HasAuditCause old new told (Page Disk) = Rose old.faults new.faults
HasAuditCause old new told (Page NoRoom) = ⊥
HasAuditCause old new told (Page (Repeats page)) = ⊥
HasAuditCause old new told (Page (Level page)) = ⊥
HasAuditCause old new told fault = IsTrue old.is_known → told ≡ Some fault
