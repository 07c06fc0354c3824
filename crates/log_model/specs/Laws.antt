-- Laws of sound logs and least logs.
use Rattle.std.specs.Prelude.{◌≡◌, ℕ, List, IsTrue}
use Rattle.metric_laws.specs.Space.{Space, IsSpace}
use Rattle.scan_model.specs.declared.hit.Hit.{Hit}
use Rattle.scan_model.specs.declared.query.Query.{Query}
use Rattle.scan_model.specs.declared.query.Query.TheVariants.{Range, Nearest}
use Rattle.scan_model.specs.Scan.{range_hits, nearest_hits}
use Rattle.scan_model.specs.Join.{join_pairs}
use Rattle.tree_shape.specs.declared.live.Live.{Live}
use Rattle.tree_shape.specs.Tree.{Nodes, IsSoundTree, points_by_id}
use Rattle.log_model.specs.declared.logs.Log.{Log}
use Rattle.log_model.specs.declared.logs.JoinLog.{JoinLog}
use Rattle.log_model.specs.Grammar.{query_point}
use Rattle.log_model.specs.Sound.{IsSoundLog, IsLeastLog}
use Rattle.log_model.specs.SoundJoin.{IsSoundJoinLog, IsLeastJoinLog}

-- what the plain scan of the points answers to a query
abbrev pub scan_answers : Space → Query → List (List ℕ) → List Hit
scan_answers s (Range q r) points = range_hits s points q r
scan_answers s (Nearest q k) points = nearest_hits s points q k

-- on a sound tree the answers of a sound log are those of the plain scan of the tree's points
abbrev pub SoundLogsAreComplete : Type 0
SoundLogsAreComplete =
    (s : Space) (nodes : Nodes) (live : Live) (log : Log) → IsSpace s → IsSoundTree s nodes live → IsSoundLog s nodes live log →
    log.answers ≡ scan_answers s log.query (points_by_id nodes live)

-- on two sound trees the answers of a sound join log are those of the plain double loop over the trees' points
abbrev pub SoundJoinLogsAreComplete : Type 0
SoundJoinLogsAreComplete =
    (s : Space) (left right : Nodes) (l r : Live) (log : JoinLog) → IsSpace s → IsSoundTree s left l → IsSoundTree s right r →
    IsSoundJoinLog s left right l r log →
    log.answers ≡ join_pairs s (points_by_id left l) (points_by_id right r) log.r

-- a least log is sound
abbrev pub LeastLogsAreSound : Type 0
LeastLogsAreSound = (s : Space) (nodes : Nodes) (live : Live) (query : Query) (log : Log) → IsLeastLog s nodes live query log → IsSoundLog s nodes live log

abbrev pub LeastJoinLogsAreSound : Type 0
LeastJoinLogsAreSound =
    (s : Space) (left right : Nodes) (l r : Live) (radius : ℕ) (log : JoinLog) → IsLeastJoinLog s left right l r radius log →
    IsSoundJoinLog s left right l r log

-- on a sound tree each query whose point fits has exactly one least log
abbrev pub LeastLogIsOne : Type 0
LeastLogIsOne =
    (s : Space) (nodes : Nodes) (live : Live) (query : Query) → IsSpace s → IsSoundTree s nodes live → IsTrue (s.is_point (query_point query)) →
    ((log : Log) × IsLeastLog s nodes live query log)
    × ((a b : Log) → IsLeastLog s nodes live query a → IsLeastLog s nodes live query b → a ≡ b)

-- two sound trees have exactly one least log of the join within a radius
abbrev pub LeastJoinLogIsOne : Type 0
LeastJoinLogIsOne =
    (s : Space) (left right : Nodes) (l r : Live) (radius : ℕ) → IsSpace s → IsSoundTree s left l → IsSoundTree s right r →
    ((log : JoinLog) × IsLeastJoinLog s left right l r radius log)
    × ((a b : JoinLog) → IsLeastJoinLog s left right l r radius a → IsLeastJoinLog s left right l r radius b → a ≡ b)
