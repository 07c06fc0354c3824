-- Which logs have a spelling.
use Rattle.std.specs.Prelude.{◌≡◌, ◌⊎◌, ℕ, ◌^◌, ◌<◌, ◌≤◌, List, length}
use Rattle.std.specs.List.{AllByRecursion}
use Rattle.scan_model.specs.declared.hit.Pair.{Pair}
use Rattle.scan_model.specs.declared.query.Query.{Query}
use Rattle.scan_model.specs.declared.query.Query.TheVariants.{Range, Nearest}
use Rattle.scan_model.specs.Laws.{Ascends, HitBefore}
use Rattle.log_model.specs.declared.logs.Log.{Log}
use Rattle.log_model.specs.declared.logs.JoinLog.{JoinLog}

-- the query's point
abbrev pub query_point : Query → List ℕ
query_point (Range q r) = q
query_point (Nearest q k) = q

-- a point of 1 to 64 coordinates; a k-NN query has k at least 1
pub record IsValidPoint (q : List ℕ) : Type 0 where
  pub some : 1 ≤ length q
  pub few : length q ≤ 64

abbrev pub IsValidQuery : Query → Type 0
IsValidQuery (Range q r) = IsValidPoint q
IsValidQuery (Nearest q k) = IsValidPoint q × (1 ≤ k)

-- a log that has a spelling: its answers ascend by distance and id, and each count fits its field
pub record IsValidLog (log : Log) : Type 0 where
  pub query : IsValidQuery log.query
  pub answers_ascend : Ascends HitBefore log.answers
  pub few_answers : length log.answers < 2 ^ 32
  pub few_records : length log.records < 2 ^ 32
  pub few_marks : AllByRecursion (λ r. length r.marks ≤ 32) log.records

-- by the left id, then by the right id, then by the distance
abbrev pub JoinedBefore : Pair → Pair → Type 0
JoinedBefore a b = (a.left < b.left) ⊎ ((a.left ≡ b.left) × ((a.right < b.right) ⊎ ((a.right ≡ b.right) × (a.dist < b.dist))))

-- a join's log that has a spelling
pub record IsValidJoinLog (log : JoinLog) : Type 0 where
  pub answers_ascend : Ascends JoinedBefore log.answers
  pub few_answers : length log.answers < 2 ^ 64
  pub few_records : length log.records < 2 ^ 64
  pub few_marks : AllByRecursion (λ r. length r.marks ≤ 32) log.records
