-- What the jobs on two files write.
use Rattle.std.specs.Prelude.{ℕ, Bool, true, false, List, [], ◌∷◌, ◌++◌, codes, Option, Result}
use Rattle.scan_model.specs.declared.hit.Pair.{Pair}
use Rattle.rows_text.specs.Texts.{space, counted, text}
use Rattle.rows_text.specs.declared.reply.Reply.TheVariants as reply
use Rattle.log_model.specs.declared.logs.JoinLog.{JoinLog}
use Rattle.log_verify.specs.declared.faults.JoinVerdict.{JoinVerdict}
use Rattle.log_verify.specs.declared.faults.JoinVerdict.TheVariants as verdict
use Rattle.prune_log.specs.declared.fault.LogFault.{LogFault}
use Rattle.tree_audit.specs.declared.faults.AuditFault.{AuditFault}
use Rattle.fault_lines.specs.Lines.{numbered, page_fault_text}
use Rattle.job_files.specs.Logs.Lines.{state_text}
use Rattle.job_files.specs.Logs.JobReports.{JobReport, Words, on_file, on_logs}
use Rattle.job_files.specs.declared.logs.report.Report.{Report}
use Rattle.job_files.specs.declared.logs.report.Report.TheVariants as report

-- the first fault of a join's log that is judged by two trees, if it has one
abbrev pub Judge : Type 0
Judge = JoinLog → Option JoinVerdict

-- ---- a join

-- the lines of a join's pairs
abbrev pub pairs_text : List Pair → List ℕ
pairs_text pairs = text false (reply.Pairs pairs)

-- the line for two files of different spaces
abbrev pub spaces_text : List ℕ
spaces_text = codes "rejected spaces\n"

-- ---- a log

abbrev pub side_name : Bool → List ℕ
side_name false = codes "left"
side_name true = codes "right"

abbrev pub verdict_text : JoinVerdict → List ℕ
verdict_text (verdict.OtherState right named live) = codes "otherstate " ++ side_name right ++ state_text space named ++ state_text space live
verdict_text (verdict.Page right fault) = codes "page " ++ side_name right ++ space ++ page_fault_text fault
verdict_text (verdict.WrongPage n) = numbered (codes "wrongpage ") n
verdict_text (verdict.WrongCount n) = numbered (codes "wrongcount ") n
verdict_text (verdict.WrongMark n entry) = numbered (codes "wrongmark ") n ++ numbered space entry
verdict_text (verdict.WrongAnswer n) = numbered (codes "wronganswer ") n
verdict_text (verdict.LeftOver n) = numbered (codes "leftover ") n
verdict_text verdict.Memory = codes "memory"

-- the words about a join's log: a verdict's words; its radius, and its answers as those of a join
abbrev pub join_words : Words JoinLog JoinVerdict
join_words = record { verdict = verdict_text; answers = λ log. counted (codes "join,") log.r ++ pairs_text log.answers }

-- ---- what a job says

-- what is said of two files with these first faults, and of logs: verdicts are given for any files, and answers for sound files only
abbrev pub saying : Report → Option AuditFault → Option AuditFault → Judge → Result (List JoinLog) LogFault → JobReport
saying report.Verdicts left right judge logs = on_logs join_words report.Verdicts judge logs
saying report.Answers left right judge logs = on_file (codes "file") left (on_file (codes "other") right (on_logs join_words report.Answers judge logs))

-- what is said of two files with different spaces
abbrev pub on_spaces : JobReport
on_spaces = record { texts = spaces_text ∷ []; status = 1 }
