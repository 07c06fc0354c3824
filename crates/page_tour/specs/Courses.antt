-- What a walk by child numbers has done, and what one step of it does.
use Rattle.std.specs.Prelude.{◌≡◌, ℕ, ◌+◌, ◌<◌, ◌≤◌, IsTrue, List, [], ◌∷◌, ◌++◌, length}
use Rattle.metric_laws.specs.Counts.{next_count, count_up}
use Rattle.tree_shape.specs.declared.live.Live.{Live}
use Rattle.tree_shape.specs.declared.entry.Node.{Node}
use Rattle.tree_shape.specs.Tree.{Nodes}
use Rattle.page_store.specs.declared.pages.PageFault.{PageFault}
use Rattle.page_store.specs.declared.pages.PageFault.TheVariants.{Repeats}
use Rattle.page_store.specs.Reading.{nodes_of}
use Rattle.page_store.specs.Shelf.{Shelf, HoldsSame, IsNodeOf, HasPageCause}
use Rattle.page_store.specs.Tours.{Tours, children}

-- a walk: the pages that it has still to open, the next one first; how many it has opened; and how many it may open
pub record Course : Type 0 where
  pub coming : List ℕ
  pub opened : ℕ
  pub most : ℕ

-- the walk opened the next page, which was asked for once and holds the node; the pages that the node names come next
pub record OpensNext (before after : Shelf) (old new : Course) (page : ℕ) (node : Node) : Type 0 where
  pub left : List ℕ
  pub next : old.coming ≡ page ∷ left
  pub room : old.opened < old.most
  pub is : IsNodeOf before page node
  pub asked : after.asked ≡ next_count before.asked
  pub new_is : new ≡ record old { coming = children node ++ left; opened = old.opened + 1 }

-- why the walk could not open a page: it has opened as many pages as it may, and did not ask for one more; or the page gives no node
abbrev pub StopsAtPage : Shelf → Shelf → Course → ℕ → PageFault → Type 0
StopsAtPage before after course page (Repeats p) = (p ≡ page) × (course.opened ≡ course.most) × (after ≡ before)
StopsAtPage before after course page fault = (course.opened < course.most) × HasPageCause before after page fault

-- the walk could not open the next page
pub record StopsNext (before after : Shelf) (course : Course) (fault : PageFault) : Type 0 where
  pub page : ℕ
  pub left : List ℕ
  pub next : course.coming ≡ page ∷ left
  pub why : StopsAtPage before after course page fault

-- a walk of the live tree is on its way: it has opened these pages, asked once for each
pub record IsOnTour (old now : Shelf) (live : Live) (course : Course) (opened : List ℕ) : Type 0 where
  pub same : HoldsSame old now
  pub count : course.opened ≡ length opened
  pub room : course.opened ≤ course.most
  pub most : course.most ≡ live.pages
  pub asked : now.asked ≡ count_up old.asked (length opened)
  pub reads : now.reads ≤ old.reads + length opened
  pub walk : IsTrue old.is_known → Tours (nodes_of old.read) (live.root ∷ []) opened course.coming

-- the walk of the live tree is whole, and opens `count` pages
pub record HasNodes (nodes : Nodes) (live : Live) (count : ℕ) : Type 0 where
  pub pages : List ℕ
  pub walk : Tours nodes (live.root ∷ []) pages []
  pub count_is : count ≡ length pages
