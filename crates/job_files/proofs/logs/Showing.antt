-- The texts on logs show which are complete.
use Rattle.std.proofs.Common.{◌≡◌, ◌+◌, ℕ, List, [], ◌∷◌, Option, Some, None, inl, inr, refl}
use Rattle.job_files.specs.declared.logs.report.Report.TheVariants as report
use Rattle.job_files.specs.Logs.JobReports.{Words, frame_text, frame_texts}
use Rattle.job_files.specs.Logs.Laws.{ShowsLog, ShowLogs}

shows_one : {L V : Type 0} (words : Words L V) (judge : L → Option V) (IsComplete : L → Type 0) → ((log : L) → judge log ≡ None → IsComplete log)
    → (i : ℕ) (log : L) (fault : Option V) → judge log ≡ fault → ShowsLog words judge IsComplete i log (frame_text words report.Answers i log fault)
shows_one words judge IsComplete complete i log None is = inl (refl, complete log is)
shows_one words judge IsComplete complete i log (Some why) is = inr (why, refl, is)

pub show_logs : {L V : Type 0} (words : Words L V) (judge : L → Option V) (IsComplete : L → Type 0) → ((log : L) → judge log ≡ None → IsComplete log)
    → (i : ℕ) (logs : List L) → ShowLogs words judge IsComplete i logs (frame_texts words report.Answers judge i logs)
show_logs words judge IsComplete complete i [] = refl
show_logs words judge IsComplete complete i (log ∷ logs) = (shows_one words judge IsComplete complete i log (judge log) refl, show_logs words judge IsComplete complete (i + 1) logs)
