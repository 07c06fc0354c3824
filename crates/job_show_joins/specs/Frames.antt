-- The text on a join's log.
use Rattle.std.specs.Prelude.{ℕ, ◌+◌, ◌&&◌, List, [], ◌∷◌, ◌++◌, codes, decimal, Option, Some, None, if◌then◌else◌}
use Rattle.fault_lines.specs.Lines.{numbered}
use Rattle.rows_text.specs.Texts.{line_end, space}
use Rattle.tree_shape.specs.declared.live.Live.{Live}
use Rattle.metric_laws.specs.Space.{Space}
use Rattle.page_store.specs.Reading.{Read}
use Rattle.log_model.specs.declared.logs.JoinLog.{JoinLog}
use Rattle.log_model.specs.SoundJoin.{join_at, root_pair}
use Rattle.log_verify.specs.declared.faults.JoinVerdict.{JoinVerdict}
use Rattle.log_verify.specs.JoinJudged.{join_fault, names}
use Rattle.job_files.specs.Lines.{or_dash}
use Rattle.job_files.specs.Logs.Lines.{frame}
use Rattle.job_join.specs.Lines.{join_words, verdict_text}
use Rattle.job_show.specs.declared.report.Marks.{Marks}
use Rattle.job_show.specs.declared.report.Marks.TheVariants as marks
use Rattle.job_show_joins.specs.Walks.{PairsShown, coming_at, nothing_shown, shown}

-- the numbers of the nodes of the two trees, where they can be walked
abbrev pub BothNodes : Type 0
BothNodes = Option ℕ × Option ℕ

-- ` accepted`, or ` rejected` with the log's first fault
abbrev pub verdict_words : Option JoinVerdict → List ℕ
verdict_words None = codes " accepted"
verdict_words (Some why) = codes " rejected " ++ verdict_text why

-- `opened N nodes of trees with M and M, K distances`, with a dash for M where a tree can't be walked
abbrev pub opened_line : BothNodes → PairsShown → List ℕ
opened_line nodes walk =
    numbered (codes "opened ") walk.counts.opened ++ codes " nodes of trees with " ++ or_dash decimal nodes.0 ++ codes " and "
    ++ or_dash decimal nodes.1 ++ numbered (codes ", ") walk.measured ++ codes " distances\n"

-- `FRAME OPENED LEFT RIGHT SKIP FAR NEAR DISTANCES VERDICT`
abbrev pub count_line : ℕ → BothNodes → PairsShown → Option JoinVerdict → List ℕ
count_line i nodes walk why =
    decimal i ++ numbered space walk.counts.opened ++ space ++ or_dash decimal nodes.0 ++ space ++ or_dash decimal nodes.1
    ++ numbered space walk.counts.skips ++ numbered space walk.counts.fars ++ numbered space walk.counts.nears
    ++ numbered space walk.measured ++ verdict_words why ++ line_end

-- the words above the lines of counts
abbrev pub count_head : List ℕ
count_head = codes "frame opened left right skip far near distances verdict\n"

-- what is shown of a log's walk; nothing where the log names another tree
abbrev pub shown_of : Space → Read → Read → Live → Live → JoinLog → PairsShown
shown_of s left right l r log =
    if names log.left l && names log.right r
    then shown (join_at s log.r) left right (coming_at 0 (root_pair l r) ∷ []) log.records else nothing_shown

-- whether a log is accepted, and its radius and its answers
abbrev pub frame_head : ℕ → JoinLog → Option JoinVerdict → List ℕ
frame_head i log why = frame i ++ verdict_words why ++ line_end ++ join_words.answers log

-- the text on the log of frame i with its first fault, and with what is shown of its walk in trees of `nodes` nodes
abbrev pub frame_words : Marks → BothNodes → ℕ → JoinLog → Option JoinVerdict → PairsShown → List ℕ
frame_words marks.Each nodes i log why walk = frame_head i log why ++ walk.lines ++ opened_line nodes walk
frame_words marks.Count nodes i log why walk = count_line i nodes walk why

-- the text on the log of frame i
abbrev pub frame_text : Marks → Space → Read → Read → Live → Live → BothNodes → ℕ → JoinLog → List ℕ
frame_text what s left right l r nodes i log =
    frame_words what nodes i log (join_fault s left right l r log) (shown_of s left right l r log)

-- the texts on logs, where the first stands in frame i
abbrev pub frame_texts : Marks → Space → Read → Read → Live → Live → BothNodes → ℕ → List JoinLog → List (List ℕ)
frame_texts what s left right l r nodes i [] = []
frame_texts what s left right l r nodes i (log ∷ logs) =
    frame_text what s left right l r nodes i log ∷ frame_texts what s left right l r nodes (i + 1) logs

-- what stands above the texts on logs
abbrev pub head_texts : Marks → List (List ℕ)
head_texts marks.Each = []
head_texts marks.Count = count_head ∷ []
