-- Sound logs and least logs of queries.
use Rattle.std.specs.Prelude.{◌≡◌, ℕ, ◌-◌, min, List, [], ◌∷◌, length, take, IsTrue, if◌then◌else◌, ◌==◌, slice_get}
use Rattle.std.specs.Option.{option_map_or}
use Rattle.metric_laws.specs.Space.{Space, bound}
use Rattle.scan_model.specs.declared.hit.Hit.{Hit}
use Rattle.scan_model.specs.declared.query.Query.{Query}
use Rattle.scan_model.specs.declared.query.Query.TheVariants.{Range, Nearest}
use Rattle.tree_shape.specs.declared.live.Live.{Live}
use Rattle.tree_shape.specs.Tree.{Nodes}
use Rattle.log_model.specs.declared.logs.Log.{Log}
use Rattle.log_model.specs.declared.logs.Found.{Found}
use Rattle.log_model.specs.Grammar.{query_point, IsValidLog}
use Rattle.log_model.specs.InOrder.{in_order, hit_before}
use Rattle.log_model.specs.Walk.{Search, search_at, Rule, AreAllowed, AreLeast, WalksBy, root_need}

-- the distance of the last answer, at most the bound
abbrev pub last_dist : List Hit → ℕ
last_dist answers = option_map_or (λ h. min h.dist bound) (slice_get answers (length answers - 1)) bound

-- the radius that prunes: of a range its radius, at most the bound; of a k-NN query the distance of the k-th answer, at most the
-- bound, and the bound where there are fewer than k answers
abbrev pub pruning_radius : Query → List Hit → ℕ
pruning_radius (Range q r) answers = min r bound
pruning_radius (Nearest q k) answers = if length answers == k then last_dist answers else bound

-- the answers that the named hits make: all of them for a range, the first k for the nearest
abbrev pub selected : Query → List Hit → List Hit
selected (Range q r) hits = in_order hit_before hits
selected (Nearest q k) hits = take k (in_order hit_before hits)

-- the search of a query with these answers
abbrev pub search_for : Space → Query → List Hit → Search
search_for s query answers = search_at s (query_point query) (pruning_radius query answers)

-- the log says what a walk of the live tree finds whose marks keep the rule. It names the live generation and root. Its point is
-- one of the space. The walk from the root takes its records, and its answers are those that the walk names. The map of nodes is
-- read from a file: it has nodes only from page 3 up and below the live slot's `pages`
pub record IsLogBy (rule : Rule) (s : Space) (nodes : Nodes) (live : Live) (log : Log) : Type 0 where
  pub generation_is : log.generation ≡ live.generation
  pub root_is : log.root ≡ live.root
  pub point_fits : IsTrue (s.is_point (query_point log.query))
  pub hits : List Hit
  pub walk : WalksBy rule (search_for s log.query log.answers) nodes (root_need live.root ∷ []) log.records hits
  pub answers_are : log.answers ≡ selected log.query hits

-- a log whose marks are allowed
abbrev pub IsSoundLog : Space → Nodes → Live → Log → Type 0
IsSoundLog s nodes live log = IsLogBy AreAllowed s nodes live log

-- the log of a query whose marks are the least
abbrev pub IsLeastLog : Space → Nodes → Live → Query → Log → Type 0
IsLeastLog s nodes live query log = (log.query ≡ query) × IsLogBy AreLeast s nodes live log

-- the log has a spelling, and names the live tree and the query; the hits are the log's answers
pub record IsLogOf (live : Live) (query : Query) (found : Found) : Type 0 where
  pub hits_are : found.hits ≡ found.log.answers
  pub generation_is : found.log.generation ≡ live.generation
  pub root_is : found.log.root ≡ live.root
  pub query_is : found.log.query ≡ query
  pub valid : IsValidLog found.log
