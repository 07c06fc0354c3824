-- What a complete log means.
use Rattle.std.specs.Prelude.{◌≡◌, ◌↔◌, ℕ, List, None}
use Rattle.tree_shape.specs.declared.live.Live.{Live}
use Rattle.tree_shape.specs.Tree.{IsSoundTree, points_by_id}
use Rattle.node_page.specs.declared.head.Head.{Head}
use Rattle.node_page.specs.Opening.{OpensTo}
use Rattle.page_store.specs.Reading.{nodes_of}
use Rattle.log_model.specs.declared.logs.Log.{Log}
use Rattle.log_model.specs.Sound.{IsSoundLog}
use Rattle.log_model.specs.Laws.{scan_answers}
use Rattle.job_files.specs.Spaces.{space_of}
use Rattle.job_files.specs.Logs.Files.{read_of, fault_of}
use Rattle.job_files.specs.Logs.Laws.{SaysTrue}
use Rattle.job_logs.specs.Lines.{log_words}
use Rattle.job_logs.specs.Jobs.{judge_of}

-- the live tree of a file is sound
abbrev pub IsSoundFile : List ℕ → Head → Live → Type 0
IsSoundFile file head live = IsSoundTree (space_of head) (nodes_of (read_of file head live)) live

-- the log is sound on the live tree, and its answers are those of the plain scan of the file's points in order of id
pub record IsCompleteLog (file : List ℕ) (head : Head) (live : Live) (log : Log) : Type 0 where
  pub sound : IsSoundLog (space_of head) (nodes_of (read_of file head live)) live log
  pub scanned : log.answers ≡ scan_answers (space_of head) log.query (points_by_id (nodes_of (read_of file head live)) live)

-- a file has no fault exactly where it is sound, and what is said of its logs is then true
abbrev pub FaultlessIsComplete : List ℕ → Type 0
FaultlessIsComplete file =
    (head : Head) (live : Live) → OpensTo file head live → ((fault_of file head live ≡ None) ↔ IsSoundFile file head live)
    × (IsSoundFile file head live → SaysTrue log_words (judge_of file head live) (IsCompleteLog file head live))
