-- The walk of a tree by its child numbers.
use Rattle.std.specs.Prelude.{◌≡◌, ℕ, zero, suc, ◌-◌, ◌==◌, false, List, [], ◌∷◌, ◌++◌, filter, Result, Ok, Err, IsTrue, if◌then◌else◌}
use Rattle.std.specs.List.{range_with_len}
use Rattle.outside_io.specs.Causes.{Rose}
use Rattle.tree_shape.specs.declared.entry.Node.{Node}
use Rattle.tree_shape.specs.declared.live.Live.{Live}
use Rattle.tree_shape.specs.Tree.{times}
use Rattle.page_store.specs.declared.pages.PageFault.{PageFault}
use Rattle.page_store.specs.declared.pages.PageFault.TheVariants.{Disk, Bad, Outside, Memory, Repeats, Level}
use Rattle.page_store.specs.Reading.{Read, IsWithin, is_within}
use Rattle.page_store.specs.Shelf.{Shelf}
use Rattle.page_store.specs.Tours.{children}

-- what is done with the pages that a page's node names
abbrev pub on_children : Result Node PageFault → (List ℕ → Result (List ℕ) PageFault) → Result (List ℕ) PageFault
on_children (Err fault) rest = Err fault
on_children (Ok node) rest = rest (children node)

-- A walk that has opened the pages `opened`, may open `most` more, and has the pages `coming` to come, the next one first: gives the
-- pages that it opened at its end, or its first fault. A page that it opened before is refused unasked.
abbrev pub walked : Read → ℕ → List ℕ → List ℕ → Result (List ℕ) PageFault
walked read most opened [] = Ok opened
walked read zero opened (page ∷ coming) = Err (Repeats page)
walked read (suc most) opened (page ∷ coming) =
    if times page opened == 0
    then on_children (read page) (λ named. walked read most (opened ++ page ∷ []) (named ++ coming))
    else Err (Repeats page)

-- The walk from the root: the pages of the tree in pre-order, or the first fault. It may open one page more than there are, so
-- it never ends for having opened too many.
abbrev pub tree_walk : Read → Live → Result (List ℕ) PageFault
tree_walk read t = walked read (suc t.pages) [] (t.root ∷ [])

-- the pages from 3 up and below the number of pages that are not in the list
abbrev pub outside_pages : ℕ → List ℕ → List ℕ
outside_pages pages tree = filter (λ page. times page tree == 0) (range_with_len 3 (pages - 3))

-- Why a walk stopped: memory ran out, the disk failed, or the walk met the fault. A page that is refused was named.
abbrev pub IsWalkFault : Shelf → Shelf → Result (List ℕ) PageFault → PageFault → Type 0
IsWalkFault old new told Disk = Rose old.faults new.faults
IsWalkFault old new told Memory = Unit {0}
IsWalkFault old new told (Bad page fault) = IsWithin old.pages page × (IsTrue old.is_known → told ≡ Err (Bad page fault))
IsWalkFault old new told (Outside page) = (is_within old.pages page ≡ false) × (IsTrue old.is_known → told ≡ Err (Outside page))
IsWalkFault old new told (Repeats page) = IsWithin old.pages page × (IsTrue old.is_known → told ≡ Err (Repeats page))
IsWalkFault old new told (Level page) = ⊥
