-- What it means that logs are shown to be complete.
use Rattle.std.specs.Prelude.{◌≡◌, ◌↔◌, ◌⊎◌, ℕ, ◌+◌, List, [], ◌∷◌, Option, Some, None}
use Rattle.job_files.specs.declared.logs.report.Report.TheVariants as report
use Rattle.job_files.specs.Logs.JobReports.{Words, complete_frame, rejected_frame, frame_texts}

-- the text of a frame says that its log is complete, and it is; or it names the log's first fault
abbrev pub ShowsLog : {L V : Type 0} → Words L V → (L → Option V) → (L → Type 0) → ℕ → L → List ℕ → Type 0
ShowsLog {L} {V} words judge IsComplete i log text =
    ((text ≡ complete_frame words i log) × IsComplete log) ⊎ ((why : V) × (text ≡ rejected_frame words i why) × (judge log ≡ Some why))

-- each text shows its log, where the first log stands in frame i
abbrev pub ShowLogs : {L V : Type 0} → Words L V → (L → Option V) → (L → Type 0) → ℕ → List L → List (List ℕ) → Type 0
ShowLogs words judge IsComplete i [] texts = texts ≡ []
ShowLogs words judge IsComplete i (log ∷ logs) [] = ⊥
ShowLogs words judge IsComplete i (log ∷ logs) (text ∷ texts) =
    ShowsLog words judge IsComplete i log text × ShowLogs words judge IsComplete (i + 1) logs texts

-- what is said of logs is true: a log has no fault exactly where it is complete, and the texts show it
pub record SaysTrue {L V : Type 0} (words : Words L V) (judge : L → Option V) (IsComplete : L → Type 0) : Type 0 where
  pub faultless : (log : L) → (judge log ≡ None) ↔ IsComplete log
  pub shown : (i : ℕ) (logs : List L) → ShowLogs words judge IsComplete i logs (frame_texts words report.Answers judge i logs)
