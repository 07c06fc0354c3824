-- Walks by child numbers, in any order.
use Rattle.std.specs.Prelude.{◌≡◌, ℕ, ◌≤◌, List, [], ◌∷◌, ◌++◌, map, length, IsSome}
use Rattle.metric_laws.specs.Lists.{IsIn}
use Rattle.tree_shape.specs.Tree.{Nodes, inner_entries, times}

-- the pages that the node of a page names
abbrev pub named_of : Nodes → ℕ → List ℕ
named_of nodes page = map (λ e. e.child) (inner_entries (nodes page))

-- A walk from the pages `start`, such as a root alone, has opened the pages `opened`, the last one first, and may go to the pages
-- `coming`. At first it may go to `start`. It opens a page that it may go to, which holds a node; then it may go to the others and to
-- the pages that the node names, to each as often as it stands there, or less often.
abbrev pub WalksTo : Nodes → List ℕ → List ℕ → List ℕ → Type 0
WalksTo nodes start [] coming = (k : ℕ) → times k coming ≤ times k start
WalksTo nodes start (page ∷ opened) coming =
    (before : List ℕ) × WalksTo nodes start opened before × IsIn page before × IsSome (nodes page)
    × ((k : ℕ) → times k (page ∷ coming) ≤ times k (before ++ named_of nodes page))

-- a walk has opened `count` pages, and may go to the pages `coming`
pub record HasOpened (nodes : Nodes) (start : List ℕ) (count : ℕ) (coming : List ℕ) : Type 0 where
  pub opened : List ℕ
  pub walk : WalksTo nodes start opened coming
  pub count_is : length opened ≡ count

-- a walk has opened `count` pages, and may go to `page` besides
abbrev pub OpensBefore : Nodes → List ℕ → ℕ → ℕ → Type 0
OpensBefore nodes start count page = (coming : List ℕ) × HasOpened nodes start count coming × IsIn page coming
