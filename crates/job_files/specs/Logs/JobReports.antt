-- What the jobs on logs write: a line on each audited file, a piece of text for each log, and a line at the end.
use Rattle.std.specs.Prelude.{ℕ, ◌+◌, Bool, true, false, List, [], ◌∷◌, ◌++◌, codes, Option, Some, None, Result, Ok, Err, if◌then◌else◌}
use Rattle.std.specs.List.{list_all}
use Rattle.std.specs.Option.{is_none}
use Rattle.rows_text.specs.Texts.{space}
use Rattle.prune_log.specs.declared.fault.LogFault.{LogFault}
use Rattle.tree_audit.specs.declared.faults.AuditFault.{AuditFault}
use Rattle.job_files.specs.Lines.{rejected_text}
use Rattle.job_files.specs.Logs.Lines.{frame, rejected_line, undecoded_text}
use Rattle.job_files.specs.declared.logs.report.Report.{Report}
use Rattle.job_files.specs.declared.logs.report.Report.TheVariants as report

-- ---- a log

-- what is written of logs of one kind: the words of a verdict, and the query with its answers
pub record Words (L V : Type 0) : Type 0 where
  pub verdict : V → List ℕ
  pub answers : L → List ℕ

abbrev pub rejected_frame : {L V : Type 0} → Words L V → ℕ → V → List ℕ
rejected_frame words i why = rejected_line i (words.verdict why)

abbrev pub accepted_frame : ℕ → List ℕ
accepted_frame i = frame i ++ codes " accepted\n"

abbrev pub complete_frame : {L V : Type 0} → Words L V → ℕ → L → List ℕ
complete_frame words i log = frame i ++ codes " complete\n" ++ words.answers log

abbrev pub sound_frame : {L V : Type 0} → Words L V → Report → ℕ → L → List ℕ
sound_frame words report.Verdicts i log = accepted_frame i
sound_frame words report.Answers i log = complete_frame words i log

-- the text on the log of frame i with its first fault
abbrev pub frame_text : {L V : Type 0} → Words L V → Report → ℕ → L → Option V → List ℕ
frame_text words what i log None = sound_frame words what i log
frame_text words what i log (Some why) = rejected_frame words i why

-- the texts on logs, where the first stands in frame i
abbrev pub frame_texts : {L V : Type 0} → Words L V → Report → (L → Option V) → ℕ → List L → List (List ℕ)
frame_texts words what judge i [] = []
frame_texts words what judge i (log ∷ logs) = frame_text words what i log (judge log) ∷ frame_texts words what judge (i + 1) logs

-- ---- a file of logs

-- whether no log has a fault
abbrev pub are_sound : {L V : Type 0} → (L → Option V) → List L → Bool
are_sound judge logs = list_all (λ log. is_none (judge log)) logs

abbrev pub end_text : Report → Bool → List ℕ
end_text what false = codes "log rejected\n"
end_text report.Verdicts true = codes "log accepted, file not audited\n"
end_text report.Answers true = codes "log complete\n"

-- ---- what a job says

-- pieces of text, and the status that stands at their end
pub record JobReport : Type 0 where
  pub texts : List (List ℕ)
  pub status : ℕ

-- what is said of bytes that were read as logs, or that have a fault
abbrev pub on_logs : {L V : Type 0} → Words L V → Report → (L → Option V) → Result (List L) LogFault → JobReport
on_logs words what judge (Err why) = record { texts = undecoded_text why ∷ []; status = 1 }
on_logs words what judge (Ok logs) = record {
  texts = frame_texts words what judge 0 logs ++ end_text what (are_sound judge logs) ∷ [];
  status = if are_sound judge logs then 0 else 1;
}

-- the line on an audited file, with its name
abbrev pub file_text : List ℕ → Option AuditFault → List ℕ
file_text name None = name ++ codes " sound\n"
file_text name (Some why) = name ++ space ++ rejected_text why

-- what is said of a file with its first fault, and where it has none, what else there is to say
abbrev pub on_file : List ℕ → Option AuditFault → JobReport → JobReport
on_file name (Some why) rest = record { texts = file_text name (Some why) ∷ []; status = 1 }
on_file name None rest = record { texts = file_text name None ∷ rest.texts; status = rest.status }
