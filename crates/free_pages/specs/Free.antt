-- What is told of a file's free pages.
use Rattle.std.specs.Prelude.{◌≡◌, ℕ, ◌+◌, ◌≤◌, List, [], length, Ok}
use Rattle.tree_shape.specs.declared.live.Live.{Live}
use Rattle.page_store.specs.Reading.{nodes_of}
use Rattle.page_store.specs.Shelf.{Shelf}
use Rattle.free_pages.specs.Keeping.{FreePages}
use Rattle.page_store.specs.Reached.{IsWholeTree}
use Rattle.free_pages.specs.Walk.{outside_pages, tree_walk}

-- the free pages are those outside the live tree, and at most one page was asked for per page of the tree
pub record AreOutsideTree (t : Live) (old new : Shelf) (free : List ℕ) : Type 0 where
  pub tree : List ℕ
  pub walk : tree_walk old.read t ≡ Ok tree
  pub whole : IsWholeTree (nodes_of old.read) t tree
  pub outside : free ≡ outside_pages t.pages tree
  pub asked : new.asked ≤ old.asked + length tree
  pub reads : new.reads ≤ old.reads + length tree

-- nothing is held or pinned, and no commit was named
pub record IsFresh (f : FreePages) : Type 0 where
  pub pins : f.pins ≡ []
  pub held : f.held ≡ []
  pub spare : f.spare ≡ 0
  pub newest : f.newest ≡ 0
