-- What is said of a log and of bytes that are no logs.
use Rattle.std.specs.Prelude.{ℕ, false, List, [], ◌++◌, codes}
use Rattle.scan_model.specs.declared.hit.Hit.{Hit}
use Rattle.scan_model.specs.declared.query.Query.{Query}
use Rattle.rows_text.specs.Texts.{line_end, space, query_line, text}
use Rattle.rows_text.specs.declared.reply.Reply.TheVariants as reply
use Rattle.fault_lines.specs.Lines.{numbered, page_fault_text}
use Rattle.log_verify.specs.declared.faults.Verdict.{Verdict}
use Rattle.log_verify.specs.declared.faults.Verdict.TheVariants as verdict
use Rattle.prune_log.specs.declared.fault.LogFault.{LogFault}
use Rattle.prune_log.specs.declared.fault.LogFault.TheVariants as fault

-- a word, a generation and a root
abbrev pub state_text : List ℕ → ℕ × ℕ → List ℕ
state_text word state = numbered word state.0 ++ numbered space state.1

abbrev pub verdict_text : Verdict → List ℕ
verdict_text (verdict.OtherState named live) = state_text (codes "otherstate ") named ++ state_text space live
verdict_text verdict.Point = codes "point"
verdict_text (verdict.Page fault) = codes "page " ++ page_fault_text fault
verdict_text (verdict.WrongPage n) = numbered (codes "wrongpage ") n
verdict_text (verdict.WrongCount n) = numbered (codes "wrongcount ") n
verdict_text (verdict.WrongMark n entry) = numbered (codes "wrongmark ") n ++ numbered space entry
verdict_text (verdict.WrongAnswer n) = numbered (codes "wronganswer ") n
verdict_text (verdict.LeftOver n) = numbered (codes "leftover ") n
verdict_text verdict.Memory = codes "memory"

-- the number of a frame
abbrev pub frame : ℕ → List ℕ
frame i = numbered (codes "frame ") i

-- the line of a log that is rejected, with the reason
abbrev pub rejected_line : ℕ → List ℕ → List ℕ
rejected_line i why = frame i ++ codes " rejected " ++ why ++ line_end

-- a query, and answers as those of a search
abbrev pub answers_text : Query → List Hit → List ℕ
answers_text query hits = query_line query ++ text false (reply.Hits hits [])

abbrev pub log_fault_name : LogFault → List ℕ
log_fault_name fault.Magic = codes "magic"
log_fault_name fault.Version = codes "version"
log_fault_name fault.Kind = codes "kind"
log_fault_name fault.Cut = codes "cut"
log_fault_name fault.Mark = codes "mark"
log_fault_name fault.Order = codes "order"
log_fault_name fault.Tail = codes "tail"
log_fault_name fault.Memory = codes "memory"

-- the line of bytes that are no logs
abbrev pub undecoded_text : LogFault → List ℕ
undecoded_text why = codes "log rejected " ++ log_fault_name why ++ line_end
