-- What can be parted into groups.
use Rattle.std.specs.Prelude.{◌≡◌, ℕ, ◌+◌, ◌^◌, ◌<◌, ◌≤◌, Bool, true, false, List}
use Rattle.metric_laws.specs.Space.{Space}
use Rattle.tree_shape.specs.declared.filling.Bounds.{Bounds}
use Rattle.tree_growth.specs.Bulk.{Load}
use Rattle.tree_shape.specs.Fill.{most_for, least_for}

-- `fill` has the bounds of nodes over points of some dimension
pub record IsFill (fill : Bounds) : Type 0 where
  pub dim : ℕ
  pub some : 1 ≤ dim
  pub few : dim ≤ 64
  pub most : fill.most ≡ most_for dim
  pub least : fill.least ≡ least_for dim

-- n objects are neither too few nor too many for a node of level h
pub record IsSized (fill : Bounds) (is_root : Bool) (h n : ℕ) : Type 0 where
  pub above : is_root ≡ true → fill.most ^ h < n
  pub enough : is_root ≡ false → fill.least ^ (h + 1) ≤ n
  pub at_most : n ≤ fill.most ^ (h + 1)

-- what is loaded: points with their tags, into nodes of the bounds
abbrev pub load_of : Space → List (List ℕ) → List ℕ → Bounds → Load
load_of s points tags fill = record { space = s; points = points; tags = tags; most = fill.most; least = fill.least }
