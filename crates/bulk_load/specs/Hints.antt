-- What is found out about an object before its turn comes.
use Rattle.std.specs.Prelude.{◌≡◌, ℕ, ◌+◌, ◌<◌, ◌≤◌, List, length, Option, Some, slice_get, slice_index}
use Rattle.tree_growth.specs.Groups.{Far}
use Rattle.bulk_load.specs.Candidates.{NotAfter}

-- no group with room comes before `group` for the object at place `k`, where the groups have `counts` objects
pub record IsHint (far : Far) (room k : ℕ) (counts : List ℕ) (group : ℕ) : Type 0 where
  pub first : (other : ℕ) → other < length counts → slice_index counts other < room → NotAfter (far k group, group) (far k other, other)

-- hints for the objects from a place on; some may have none
pub record AreHints (far : Far) (room from : ℕ) (counts : List ℕ) (hints : List (Option ℕ)) : Type 0 where
  pub each : (i group : ℕ) → slice_get hints i ≡ Some (Some group) → IsHint far room (from + i) counts group

-- the counts of as many groups, none of them smaller than before
pub record HaveGrown (counts now : List ℕ) : Type 0 where
  pub same : length now ≡ length counts
  pub grown : (group : ℕ) → slice_index counts group ≤ slice_index now group
