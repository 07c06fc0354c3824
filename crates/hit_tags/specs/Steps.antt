-- The steps of the walk.
use Rattle.std.specs.Prelude.{◌≡◌, ℕ, List, [], ◌∷◌, ◌++◌, map, reverse, Bool, true, false}
use Rattle.tree_shape.specs.declared.entry.LeafEntry.{LeafEntry}
use Rattle.tree_shape.specs.Tree.{Nodes}
use Rattle.log_model.specs.declared.marks.Record.{Record}
use Rattle.log_model.specs.Met.{met}
use Rattle.hit_tags.specs.declared.walking.Walk.{Walk}
use Rattle.hit_tags.specs.Comes.{ComesTo}
use Rattle.hit_tags.specs.Wanted.{leaf_tag, TakesIn}

-- a walk that had the records `all` before it now has `left`: what it met since and what it will meet is what it was to meet
pub record IsUnderWay (nodes : Nodes) (start : Walk) (all : List Record) (now : Walk) (left : List Record) : Type 0 where
  pub objects : List LeafEntry
  pub taken : TakesIn start.wanted (map leaf_tag objects) now.wanted
  pub whole : objects ++ met nodes (reverse now.stack.items) left ≡ met nodes (reverse start.stack.items) all
  pub comes : (page : ℕ) → ComesTo nodes (reverse now.stack.items) left page → ComesTo nodes (reverse start.stack.items) all page

-- a record was followed; or the walk ends at it
abbrev pub HasFollowed : Nodes → Walk → Record → Walk → Bool → Type 0
HasFollowed nodes old r new true = (rs : List Record) → IsUnderWay nodes old (r ∷ rs) new rs
HasFollowed nodes old r new false = (new.wanted ≡ old.wanted) × ((rs : List Record) → met nodes (reverse old.stack.items) (r ∷ rs) ≡ [])
