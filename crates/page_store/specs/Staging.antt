-- The new nodes of a commit.
use Rattle.std.specs.Prelude.{◌≢◌, ℕ, List, [], ◌∷◌, map, Option, Some, None, if◌then◌else◌, ◌==◌}
use Rattle.std.specs.List.{AllByRecursion}
use Rattle.tree_shape.specs.declared.entry.Node.{Node}
use Rattle.page_store.specs.declared.staging.StagedNode.{StagedNode}

-- the pages, in the order of staging
abbrev pub pages_of : List StagedNode → List ℕ
pages_of staged = map (λ s. s.page) staged

-- no node is staged for the page
abbrev pub IsFree : List StagedNode → ℕ → Type 0
IsFree staged page = AllByRecursion (λ s. s.page ≢ page) staged

-- the node that is staged for the page
abbrev pub staged_for : List StagedNode → ℕ → Option Node
staged_for [] page = None
staged_for (s ∷ staged) page = if s.page == page then Some s.node else staged_for staged page

-- no two nodes are staged for one page
abbrev pub AreApart : List StagedNode → Type 0
AreApart [] = Unit {0}
AreApart (s ∷ staged) = IsFree staged s.page × AreApart staged
