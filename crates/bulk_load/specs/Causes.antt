-- When nothing is loaded.
use Rattle.std.specs.Prelude.{◌≡◌, ◌≢◌, ℕ, ◌+◌, ◌-◌, ◌^◌, ◌<◌, List, length}
use Rattle.metric_laws.specs.Space.{Space}
use Rattle.tree_shape.specs.declared.live.Live.{Live}
use Rattle.tree_growth.specs.Bulk.{built}
use Rattle.bulk_load.specs.declared.faults.BuildFault.{BuildFault}
use Rattle.bulk_load.specs.declared.faults.BuildFault.TheVariants.{NoRoom, Worn, Memory}
use Rattle.bulk_load.specs.Postorder.{subtrees_of}

-- how many nodes the tree of the rows has
abbrev pub node_count : Space → List (List ℕ) → List ℕ → ℕ
node_count s rows labels = length (subtrees_of (built s rows labels))

-- there is no further generation, or the nodes that get none of `numbers` need more pages than a file may have, or memory ran out
abbrev pub HasBuildCause : Space → List (List ℕ) → List ℕ → List ℕ → Live → BuildFault → Type 0
HasBuildCause s rows labels numbers t (NoRoom pages needed) =
    (t.generation ≢ 2 ^ 48 - 1) × (pages ≡ t.pages) × (needed ≡ node_count s rows labels - length numbers) × (2 ^ 24 < pages + needed)
HasBuildCause s rows labels numbers t Worn = t.generation ≡ 2 ^ 48 - 1
HasBuildCause s rows labels numbers t Memory = Unit {0}
