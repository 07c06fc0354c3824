-- The ranges of a log's fields by their types. Each log of the code keeps them.
use Rattle.std.specs.Prelude.{ℕ, ◌<◌, ◌^◌, List, slice_index}
use Rattle.std.specs.List.{AllByRecursion}
use Rattle.scan_model.specs.declared.hit.Hit.{Hit}
use Rattle.scan_model.specs.declared.hit.Pair.{Pair}
use Rattle.scan_model.specs.declared.query.Query.{Query}
use Rattle.log_model.specs.declared.logs.Log.{Log}
use Rattle.log_model.specs.declared.logs.JoinLog.{JoinLog}
use Rattle.log_model.specs.Grammar.{query_point}
use Rattle.prune_log.specs.Spelling.{amount_of}

-- each number of the list is a byte
abbrev pub IsBytes : List ℕ → Type 0
IsBytes bytes = (i : ℕ) → slice_index bytes i < 256

-- a query's number is a u64 and its coordinates are u32
pub record QueryInRange (query : Query) : Type 0 where
  pub amount : amount_of query < 2 ^ 64
  pub coordinates : AllByRecursion (λ x. x < 2 ^ 32) (query_point query)

pub record HitInRange (h : Hit) : Type 0 where
  pub id : h.id < 2 ^ 32
  pub dist : h.dist < 2 ^ 64

pub record PairInRange (p : Pair) : Type 0 where
  pub left : p.left < 2 ^ 32
  pub right : p.right < 2 ^ 32
  pub dist : p.dist < 2 ^ 64

-- the fields of a query's log are in range
pub record LogInRange (log : Log) : Type 0 where
  pub generation : log.generation < 2 ^ 64
  pub root : log.root < 2 ^ 32
  pub query : QueryInRange log.query
  pub answers : AllByRecursion HitInRange log.answers
  pub pages : AllByRecursion (λ r. r.page < 2 ^ 32) log.records

-- the fields of a join's log are in range
pub record JoinLogInRange (log : JoinLog) : Type 0 where
  pub left_generation : log.left.0 < 2 ^ 64
  pub left_root : log.left.1 < 2 ^ 32
  pub right_generation : log.right.0 < 2 ^ 64
  pub right_root : log.right.1 < 2 ^ 32
  pub r : log.r < 2 ^ 64
  pub answers : AllByRecursion PairInRange log.answers
  pub pages : AllByRecursion (λ r. r.page < 2 ^ 32) log.records
