-- What a file holds, the query that a command asks of it, and the log that such a query has.
use Rattle.std.specs.Prelude.{◌≡◌, ℕ, List, [], Option, Some, None, MatchOption, if◌then◌else◌}
use Rattle.metric_laws.specs.Space.{Space}
use Rattle.scan_model.specs.declared.query.Query.{Query}
use Rattle.scan_model.specs.declared.query.Query.TheVariants as query
use Rattle.rows_text.specs.declared.command.Command.{Command}
use Rattle.rows_text.specs.declared.command.Command.TheVariants as command
use Rattle.rows_text.specs.Meaning.{State, has_points_of}
use Rattle.tree_shape.specs.declared.live.Live.{Live}
use Rattle.tree_shape.specs.Tree.{Nodes, points_by_id, tags_by_id}
use Rattle.page_store.specs.Files.{nodes_in}
use Rattle.log_model.specs.declared.logs.Log.{Log}
use Rattle.log_model.specs.Sound.{IsLeastLog}

-- what a file holds at a moment: the node of each page, and the live slot
pub record Held : Type 0 where
  pub nodes : Nodes
  pub live : Live

-- what a file with the given bytes holds
abbrev pub held_in : ℕ → Live → List ℕ → Held
held_in dim live file = record { nodes = nodes_in dim live file; live = live }

-- the objects of what a file holds, with no cursor open
abbrev pub state_of : Held → State
state_of held = record { objects = record { points = points_by_id held.nodes held.live; tags = tags_by_id held.nodes held.live }; cursors = []; next = 0 }

-- the query that a command asks
abbrev pub query_of : Command → Option Query
query_of (command.Range r q) = Some (query.Range q r)
query_of (command.Nearest k q) = Some (query.Nearest q k)
query_of other = None

-- the query that is answered: one whose point is a point of the space
abbrev pub answered_query : Space → Command → Option Query
answered_query s c = if has_points_of s c then query_of c else None

-- a query that is answered has the least log of the file, and nothing else has a log
abbrev pub HasLog : Space → Held → Option Query → Option Log → Type 0
HasLog s held None log = log ≡ None
HasLog s held (Some asked) log = MatchOption log ⊥ (IsLeastLog s held.nodes held.live asked)
