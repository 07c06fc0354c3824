-- The live slot of a carried file, by its two pages.
use Rattle.std.specs.Prelude.{◌≡◌, ℕ, ◌*◌, List}
use Rattle.tree_shape.specs.declared.live.Live.{Live}
use Rattle.shadow_root.specs.Opening.{IsLiveSlot}

-- the live slot of a file of `pages` pages, which counts all of them
abbrev pub IsLiveOf : List ℕ → List ℕ → ℕ → ℕ → Live → Type 0
IsLiveOf first second limit pages live = IsLiveSlot first second limit (4096 * pages) live × (live.pages ≡ pages)
