-- What is handed over of a new index.
use Rattle.std.specs.Prelude.{◌≡◌, ◌≢◌, ◌⊎◌, ◌<◌, ℕ, List, length}
use Rattle.node_page.specs.Heads.{IsValidHead}
use Rattle.node_page.specs.declared.head.Head.{Head}
use Rattle.shadow_root.specs.Making.{IsMade}
use Rattle.caller_ends.specs.Rooms.{StandAtFront}
use Rattle.mtree_c.specs.declared.making.Shape.{Shape}

-- the head of a file of this shape
abbrev pub head_with : Shape → Head
head_with s = record { version = 2; kind = s.kind; dim = s.dim; promote = s.promote; split = s.split; limit = s.limit }

-- The buffer holds a sound empty index with the head of the shape. Or the status is 4, and the buffer has no room for it. In both cases the
-- file's size is given. Or the status is 2, because no index has this shape, or 8, because memory ran out.
pub record HandsIndex (shape : Shape) (room0 room1 : List ℕ) (size status : ℕ) : Type 0 where
  pub done : status ≡ 0 → IsValidHead (head_with shape) × ((file : List ℕ) × IsMade (head_with shape) file × StandAtFront file room0 room1 × (size ≡ length file))
  pub short : status ≡ 4 → IsValidHead (head_with shape) × ((file : List ℕ) × IsMade (head_with shape) file × (size ≡ length file) × (length room0 < size))
  pub no_head : status ≡ 2 → ¬ IsValidHead (head_with shape)
  pub nothing : (status ≡ 2) ⊎ (status ≡ 8) → size ≡ 0
  pub same : status ≢ 0 → room1 ≡ room0
  pub statuses : (status ≡ 0) ⊎ ((status ≡ 2) ⊎ ((status ≡ 4) ⊎ (status ≡ 8)))
