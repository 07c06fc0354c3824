-- How far a walk has come.
use Rattle.std.specs.Prelude.{◌≡◌, ℕ, ◌+◌, suc, ◌-◌, ◌<◌, ◌≤◌, Bool, false, List, length, slice_index_or, IsTrue}
use Rattle.std.specs.List.{AllByRecursion}
use Rattle.tree_shape.specs.declared.live.Live.{Live}
use Rattle.tree_shape.specs.Tree.{times}
use Rattle.page_store.specs.Reading.{IsWithin}
use Rattle.page_store.specs.Shelf.{Shelf, HoldsSame}
use Rattle.free_pages.specs.Keeping.{is_among}
use Rattle.free_pages.specs.Walk.{walked, tree_walk}

-- the opened pages are from 3 up and below the number of pages, none stands twice, and a flag for each page tells whether it was opened
pub record AreOpened (flags : List Bool) (opened : List ℕ) : Type 0 where
  pub within : AllByRecursion (IsWithin (length flags)) opened
  pub once : (page : ℕ) → times page opened ≤ 1
  pub told : (page : ℕ) → page < length flags → slice_index_or flags page false ≡ is_among page opened

-- a walk has opened `count` pages, the flagged ones, asked for at most one page per opened one, and has the pages `coming` to come
pub record IsUnderWay (old now : Shelf) (t : Live) (count : ℕ) (flags : List Bool) (coming : List ℕ) : Type 0 where
  pub opened : List ℕ
  pub flagged : AreOpened flags opened
  pub counted : count ≡ length opened
  pub pages : length flags ≡ t.pages
  pub holds : HoldsSame old now
  pub asked : now.asked ≤ old.asked + length opened
  pub reads : now.reads ≤ old.reads + length opened
  pub walk : IsTrue old.is_known → walked old.read (suc t.pages - length opened) opened coming ≡ tree_walk old.read t
