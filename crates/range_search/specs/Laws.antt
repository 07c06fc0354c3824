-- The walk with the least marks has one course.
use Rattle.std.specs.Prelude.{◌≡◌, ℕ, ◌<◌, List, [], ◌∷◌, length, Some}
use Rattle.scan_model.specs.declared.hit.Hit.{Hit}
use Rattle.tree_shape.specs.declared.entry.Node.{Node}
use Rattle.tree_shape.specs.Tree.{Nodes}
use Rattle.log_model.specs.declared.marks.Record.{Record}
use Rattle.log_model.specs.Walk.{Search, WalksBy, AreLeast, root_need}
use Rattle.range_search.specs.Searched.{Needs}

-- On any file, the page that the walk with the least marks needs after `opened` opened pages is the only one. Where the walk is
-- whole, each page that it needs on its way holds a node and is one of its records. So a search whose walk meets a page without a
-- node, or needs more pages than there are, has no other result, and its fault names that page.
abbrev pub WalkHasOneCourse : Type 0
WalkHasOneCourse =
    (f : Search) (nodes : Nodes) (root opened page : ℕ) → Needs f nodes root opened page →
    ((other : ℕ) → Needs f nodes root opened other → page ≡ other)
    × ((records : List Record) (hits : List Hit) → WalksBy AreLeast f nodes (root_need root ∷ []) records hits →
    (opened < length records) × ((node : Node) × (nodes page ≡ Some node)))
