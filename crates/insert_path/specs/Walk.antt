-- The walk of an insertion down the tree.
use Rattle.std.specs.Prelude.{ℕ, zero, suc, List, map, slice_index, Option, Some, None, Result, Ok, Err, if◌then◌else◌, ◌==◌}
use Rattle.metric_laws.specs.Space.{Space}
use Rattle.tree_shape.specs.declared.entry.InnerEntry.{InnerEntry}
use Rattle.tree_shape.specs.declared.entry.Node.{Node}
use Rattle.tree_shape.specs.declared.entry.Node.TheVariants.{Leaf, Inner}
use Rattle.tree_growth.specs.Dealing.{Ball}
use Rattle.tree_growth.specs.Insertion.{chosen}
use Rattle.page_store.specs.declared.pages.PageFault.{PageFault}
use Rattle.page_store.specs.declared.pages.PageFault.TheVariants.{Level}
use Rattle.page_store.specs.Reading.{Read}

abbrev pub inner_ball : InnerEntry → Ball
inner_ball e = (e.point, e.radius)

-- the page of the subtree that the point goes to
abbrev pub chosen_child : Space → List ℕ → List InnerEntry → ℕ
chosen_child s p es = slice_index (map (λ e. e.child) es) (chosen s (map inner_ball es) p)

-- a page at the bottom has to hold a leaf
abbrev pub leaf_fault : ℕ → Result Node PageFault → Option PageFault
leaf_fault page (Ok (Leaf es)) = None
leaf_fault page (Ok (Inner level es)) = Some (Level page)
leaf_fault page (Err fault) = Some fault

-- a page above has to hold an inner node of its level, and then the walk goes on
abbrev pub inner_fault : (ℕ → Option PageFault) → Space → List ℕ → ℕ → ℕ → Result Node PageFault → Option PageFault
inner_fault below s p h page (Ok (Leaf es)) = Some (Level page)
inner_fault below s p h page (Ok (Inner level es)) = if level == h then below (chosen_child s p es) else Some (Level page)
inner_fault below s p h page (Err fault) = Some fault

-- the first fault that the walk of a point meets from a page at a height down
abbrev pub walk_fault : Space → Read → List ℕ → ℕ → ℕ → Option PageFault
walk_fault s read p zero page = leaf_fault page (read page)
walk_fault s read p (suc h) page = inner_fault (walk_fault s read p h) s p (suc h) page (read page)
