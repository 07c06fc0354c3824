-- Sound logs and least logs of joins.
use Rattle.std.specs.Prelude.{◌≡◌, ℕ, ◌+◌, min, List, [], ◌∷◌, None}
use Rattle.metric_laws.specs.Space.{Space, bound}
use Rattle.scan_model.specs.declared.hit.Pair.{Pair}
use Rattle.tree_shape.specs.declared.live.Live.{Live}
use Rattle.tree_shape.specs.Tree.{Nodes}
use Rattle.log_model.specs.declared.logs.JoinLog.{JoinLog}
use Rattle.log_model.specs.Items.{Item, Subtree}
use Rattle.log_model.specs.declared.pairs.JoinNeed.{JoinNeed}
use Rattle.log_model.specs.InOrder.{in_order, pair_before}
use Rattle.log_model.specs.JoinWalk.{JoinSearch, JoinRule, JoinAllowed, JoinLeast, JoinWalksBy}

-- the search of a join: it prunes by its radius, at most the bound
abbrev pub join_at : Space → ℕ → JoinSearch
join_at s r = record { space = s; rho = min r bound }

-- a root as an item: it has no centre
abbrev pub root_item : Live → Item
root_item live = Subtree live.root (live.height + 1) None 0

-- the pair of the roots, with which the walk begins
abbrev pub root_pair : Live → Live → JoinNeed
root_pair l r = record { left = root_item l; right = root_item r; apart = None }

-- the log says what a walk of the two live trees finds whose marks keep the rule. It names the live generations and roots. The
-- walk from the roots takes its records. Its answers are the pairs that the walk names, in order, equal pairs once. The maps of
-- nodes are as for a query's log
pub record IsJoinLogBy (rule : JoinRule) (s : Space) (left right : Nodes) (l r : Live) (log : JoinLog) : Type 0 where
  pub left_generation_is : log.left.0 ≡ l.generation
  pub left_root_is : log.left.1 ≡ l.root
  pub right_generation_is : log.right.0 ≡ r.generation
  pub right_root_is : log.right.1 ≡ r.root
  pub hits : List Pair
  pub walk : JoinWalksBy rule (join_at s log.r) left right (root_pair l r ∷ []) log.records hits
  pub answers_are : log.answers ≡ in_order pair_before hits

-- a log whose marks are allowed
abbrev pub IsSoundJoinLog : Space → Nodes → Nodes → Live → Live → JoinLog → Type 0
IsSoundJoinLog s left right l r log = IsJoinLogBy JoinAllowed s left right l r log

-- the log of a join with the given radius whose marks are the least
abbrev pub IsLeastJoinLog : Space → Nodes → Nodes → Live → Live → ℕ → JoinLog → Type 0
IsLeastJoinLog s left right l r radius log = (log.r ≡ radius) × IsJoinLogBy JoinLeast s left right l r log
