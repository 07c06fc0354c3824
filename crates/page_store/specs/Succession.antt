-- How the tree of a commit follows the live one, page by page, whether or not the live tree is sound.
use Rattle.std.specs.Prelude.{◌≡◌, ℕ, ◌+◌, ◌≤◌, ◌==◌, List, ◌∷◌, map, filter, Some, None}
use Rattle.std.specs.List.{AllByRecursion, flat_map}
use Rattle.metric_laws.specs.Lists.{IsIn}
use Rattle.tree_shape.specs.declared.live.Live.{Live}
use Rattle.tree_shape.specs.Tree.{Nodes, inner_entries, times}
use Rattle.page_store.specs.declared.staging.Placed.{Placed}
use Rattle.page_store.specs.declared.staging.StagedNode.{StagedNode}
use Rattle.page_store.specs.Reached.{IsReached, named_in}
use Rattle.page_store.specs.Staging.{pages_of, staged_for}

-- the child numbers in new nodes
abbrev pub named_by : List StagedNode → List ℕ
named_by staged = flat_map (λ s. map (λ e. e.child) (inner_entries (Some s.node))) staged

-- The new nodes take the place of the left ones. The left pages are reached, each once. The new root is a new page. Where each root
-- counts as named once, the names in the new nodes and the left pages together are the names in the left nodes and the new pages.
pub record TakesPlace (nodes : Nodes) (t : Live) (placed : Placed) : Type 0 where
  pub left : AllByRecursion (IsReached nodes t.root) placed.left
  pub once : (page : ℕ) → times page placed.left ≤ 1
  pub root : IsIn placed.next.root (pages_of placed.staged)
  pub names : (page : ℕ) →
      times page (placed.next.root ∷ named_by placed.staged) + times page placed.left ≡ times page
      (t.root ∷ named_in nodes placed.left) + times page (pages_of placed.staged)

-- The new nodes are a whole tree by themselves: where its root counts as named once, they name each new page once.
pub record StandsByItself (placed : Placed) : Type 0 where
  pub root : IsIn placed.next.root (pages_of placed.staged)
  pub names : (page : ℕ) → times page (placed.next.root ∷ named_by placed.staged) ≡ times page (pages_of placed.staged)

-- no page is in both lists
abbrev pub ShareNone : List ℕ → List ℕ → Type 0
ShareNone pages tree = (page : ℕ) → IsIn page pages → IsIn page tree → ⊥

-- the pages `tree` without the pages `left`
abbrev pub without : List ℕ → List ℕ → List ℕ
without left tree = filter (λ page. times page left == 0) tree

-- the staged nodes stand on their pages, and the other pages of `tree` keep what they held
pub record IsWritten (old : Nodes) (tree : List ℕ) (staged : List StagedNode) (new : Nodes) : Type 0 where
  pub stand : AllByRecursion (λ s. new s.page ≡ Some s.node) staged
  pub stay : (page : ℕ) → IsIn page tree → staged_for staged page ≡ None → new page ≡ old page
