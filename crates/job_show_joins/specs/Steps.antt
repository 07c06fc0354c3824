-- The steps of what is shown of joins.
use Rattle.std.specs.Prelude.{ℕ, ◌+◌, ◌≤◌, List, ◌++◌, Option, Result}
use Rattle.std.specs.List.{AllByRecursion}
use Rattle.page_store.specs.Reading.{Read}
use Rattle.log_model.specs.declared.logs.JoinLog.{JoinLog}
use Rattle.log_model.specs.JoinWalk.{JoinSearch}
use Rattle.log_model.specs.JoinSteps.{search_within}
use Rattle.log_verify.specs.JoinJudged.{join_fault}
use Rattle.log_verify.specs.declared.faults.JoinVerdict.{JoinVerdict}
use Rattle.prune_log.specs.declared.fault.LogFault.{LogFault}
use Rattle.job_files.specs.Logs.JobReports.{JobReport}
use Rattle.job_show.specs.Steps.{space_in, together}
use Rattle.job_show_joins.specs.declared.entries.PairSearch.{PairSearch}
use Rattle.job_show_joins.specs.declared.shown.PairComing.{PairComing}
use Rattle.job_show_joins.specs.declared.shown.PairWalk.{PairWalk}
use Rattle.job_show_joins.specs.declared.view.JoinView.{JoinView}
use Rattle.job_show_joins.specs.Frames.{frame_text, frame_texts}
use Rattle.job_show_joins.specs.Jobs.{showing}
use Rattle.job_show_joins.specs.Walks.{PairsShown}

-- ---- a walk

-- what a walk searches by, as a join's search
abbrev pub search_by : PairSearch → JoinSearch
search_by search = search_within (space_in search.space) search.rho

-- no pair of these is deeper
abbrev pub AreUpTo : ℕ → List PairComing → Type 0
AreUpTo depth cs = AllByRecursion (λ c. c.depth ≤ depth) cs

-- what a walk has shown, and then the rest
abbrev pub shown_then : PairWalk → PairsShown → PairsShown
shown_then walk rest = record {
  lines = walk.lines.items ++ rest.lines;
  counts = together walk.counts rest.counts;
  measured = walk.measured + rest.measured;
}

-- what a walk has shown
abbrev pub walk_shown : PairWalk → PairsShown
walk_shown walk = record { lines = walk.lines.items; counts = walk.counts; measured = walk.measured }

-- ---- frames

-- the first fault of a log in the trees of a view
abbrev pub fault_by : JoinView → Read → Read → JoinLog → Option JoinVerdict
fault_by view left right log = join_fault (space_in view.space) left right view.left view.right log

-- the text on the log of frame i
abbrev pub text_by : JoinView → Read → Read → ℕ → JoinLog → List ℕ
text_by view left right i log = frame_text view.marks (space_in view.space) left right view.left view.right view.nodes i log

-- the texts on logs, where the first stands in frame i
abbrev pub texts_by : JoinView → Read → Read → ℕ → List JoinLog → List (List ℕ)
texts_by view left right i logs = frame_texts view.marks (space_in view.space) left right view.left view.right view.nodes i logs

-- what is said of bytes that were read as logs, or that have a fault
abbrev pub said_by : JoinView → Read → Read → Result (List JoinLog) LogFault → JobReport
said_by view left right logs = showing view.marks (space_in view.space) left right view.left view.right view.nodes logs
