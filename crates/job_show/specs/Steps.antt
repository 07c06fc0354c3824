-- The steps of what is shown.
use Rattle.std.specs.Prelude.{ℕ, ◌+◌, ◌^◌, ◌<◌, ◌≤◌, List, ◌++◌, Option, Result}
use Rattle.std.specs.List.{AllByRecursion}
use Rattle.metric_laws.specs.Space.{Space}
use Rattle.metric_mix.specs.declared.mix_space.MixSpace.{MixSpace}
use Rattle.metric_mix.specs.MixSpaces.{mix_space}
use Rattle.metric_mix.specs.MixKinds.{mix_kind, mix_dim}
use Rattle.page_store.specs.Reading.{Read}
use Rattle.log_model.specs.declared.logs.Log.{Log}
use Rattle.log_model.specs.Walk.{Search, search_at}
use Rattle.log_verify.specs.Judged.{log_fault}
use Rattle.log_verify.specs.declared.faults.Verdict.{Verdict}
use Rattle.prune_log.specs.declared.fault.LogFault.{LogFault}
use Rattle.job_files.specs.Logs.JobReports.{JobReport}
use Rattle.job_show.specs.declared.entries.Gauge.{Gauge}
use Rattle.job_show.specs.declared.shown.Coming.{Coming}
use Rattle.job_show.specs.declared.shown.Counts.{Counts}
use Rattle.job_show.specs.declared.view.View.{View}
use Rattle.job_show.specs.declared.shown.Walk.{Walk}
use Rattle.job_show.specs.Frames.{frame_text, frame_texts}
use Rattle.job_show.specs.Jobs.{showing}
use Rattle.job_show.specs.Walks.{Shown}

-- ---- a walk

-- the space of a value
abbrev pub space_in : MixSpace → Space
space_in m = mix_space (mix_kind m) (mix_dim m)

-- the search of a gauge
abbrev pub search_by : Gauge → Search
search_by gauge = search_at (space_in gauge.space) gauge.q.now gauge.rho

-- counts that 64 bits hold
abbrev pub AreSmall : Counts → Type 0
AreSmall counts = (counts.opened < 2 ^ 64) × (counts.skips < 2 ^ 64) × (counts.fars < 2 ^ 64) × (counts.nears < 2 ^ 64)

-- no page of these is deeper
abbrev pub AreUpTo : ℕ → List Coming → Type 0
AreUpTo depth cs = AllByRecursion (λ c. c.depth ≤ depth) cs

-- two counts together
abbrev pub together : Counts → Counts → Counts
together a b = record {
  opened = a.opened + b.opened;
  skips = a.skips + b.skips;
  fars = a.fars + b.fars;
  nears = a.nears + b.nears;
}

-- what a walk has shown, and then the rest
abbrev pub shown_then : Walk → Shown → Shown
shown_then walk rest = record { lines = walk.lines.items ++ rest.lines; counts = together walk.counts rest.counts }

-- ---- frames

-- the first fault of a log in the tree of a view
abbrev pub fault_by : View → Read → Log → Option Verdict
fault_by view read log = log_fault (space_in view.space) read view.live log

-- the text on the log of frame i
abbrev pub text_by : View → Read → ℕ → Log → List ℕ
text_by view read i log = frame_text view.marks (space_in view.space) read view.live view.nodes i log

-- the texts on logs, where the first stands in frame i
abbrev pub texts_by : View → Read → ℕ → List Log → List (List ℕ)
texts_by view read i logs = frame_texts view.marks (space_in view.space) read view.live view.nodes i logs

-- what is said of bytes that were read as logs, or that have a fault
abbrev pub said_by : View → Read → Result (List Log) LogFault → JobReport
said_by view read logs = showing view.marks (space_in view.space) read view.live view.nodes logs
