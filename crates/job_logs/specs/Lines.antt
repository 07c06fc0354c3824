-- What the jobs on logs write: a text for each log, and one at the end.
use Rattle.std.specs.Prelude.{List, Option, Result, codes}
use Rattle.log_model.specs.declared.logs.Log.{Log}
use Rattle.log_verify.specs.declared.faults.Verdict.{Verdict}
use Rattle.prune_log.specs.declared.fault.LogFault.{LogFault}
use Rattle.tree_audit.specs.declared.faults.AuditFault.{AuditFault}
use Rattle.job_files.specs.Logs.Lines.{answers_text, verdict_text}
use Rattle.job_files.specs.Logs.JobReports.{JobReport, Words, on_file, on_logs}
use Rattle.job_files.specs.declared.logs.report.Report.{Report}
use Rattle.job_files.specs.declared.logs.report.Report.TheVariants as report

-- the first fault of a log that is judged by a tree, if it has one
abbrev pub Judge : Type 0
Judge = Log → Option Verdict

-- the words about a log: a verdict's words; its query, and its answers as those of a search
abbrev pub log_words : Words Log Verdict
log_words = record { verdict = verdict_text; answers = λ log. answers_text log.query log.answers }

-- what is said of a file with this first fault and of logs: verdicts are given for any file, and answers for a sound file only
abbrev pub saying : Report → Option AuditFault → Judge → Result (List Log) LogFault → JobReport
saying report.Verdicts audit judge logs = on_logs log_words report.Verdicts judge logs
saying report.Answers audit judge logs = on_file (codes "file") audit (on_logs log_words report.Answers judge logs)
