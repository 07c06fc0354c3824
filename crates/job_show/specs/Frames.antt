-- The text on a log.
use Rattle.std.specs.Prelude.{ℕ, ◌+◌, Bool, ◌==◌, ◌&&◌, List, [], ◌∷◌, ◌++◌, codes, decimal, Option, Some, None, if◌then◌else◌}
use Rattle.fault_lines.specs.Lines.{numbered}
use Rattle.rows_text.specs.Texts.{line_end, space}
use Rattle.metric_laws.specs.Space.{Space}
use Rattle.tree_shape.specs.declared.live.Live.{Live}
use Rattle.page_store.specs.Reading.{Read}
use Rattle.log_model.specs.declared.logs.Log.{Log}
use Rattle.log_model.specs.Grammar.{query_point}
use Rattle.log_model.specs.Sound.{search_for}
use Rattle.log_verify.specs.declared.faults.Verdict.{Verdict}
use Rattle.log_verify.specs.Judged.{log_fault}
use Rattle.job_files.specs.Lines.{or_dash}
use Rattle.job_files.specs.Logs.Lines.{answers_text, frame, verdict_text}
use Rattle.job_show.specs.declared.report.Marks.{Marks}
use Rattle.job_show.specs.declared.report.Marks.TheVariants as marks
use Rattle.job_show.specs.declared.shown.Counts.{Counts}
use Rattle.job_show.specs.Walks.{Shown, nothing_shown, root_coming, shown}

-- ` accepted`, or ` rejected` with the log's first fault
abbrev pub verdict_words : Option Verdict → List ℕ
verdict_words None = codes " accepted"
verdict_words (Some why) = codes " rejected " ++ verdict_text why

-- the distances that were computed: one for each entry that was not skipped
abbrev pub distances : Counts → ℕ
distances counts = counts.fars + counts.nears

-- `opened N of M nodes, K distances`, with a dash for M where the tree can't be walked
abbrev pub opened_line : Option ℕ → Counts → List ℕ
opened_line nodes counts =
    numbered (codes "opened ") counts.opened ++ codes " of " ++ or_dash decimal nodes ++ numbered (codes " nodes, ") (distances counts)
    ++ codes " distances\n"

-- `FRAME OPENED NODES SKIP FAR NEAR DISTANCES VERDICT`
abbrev pub count_line : ℕ → Option ℕ → Counts → Option Verdict → List ℕ
count_line i nodes counts why =
    decimal i ++ numbered space counts.opened ++ space ++ or_dash decimal nodes ++ numbered space counts.skips ++ numbered space counts.fars
    ++ numbered space counts.nears ++ numbered space (distances counts) ++ verdict_words why ++ line_end

-- the words above the lines of counts
abbrev pub count_head : List ℕ
count_head = codes "frame opened nodes skip far near distances verdict\n"

-- the log names the live tree, and its point is one of the space
abbrev pub names_tree : Space → Live → Log → Bool
names_tree s live log = (log.generation == live.generation) && ((log.root == live.root) && s.is_point (query_point log.query))

-- what is shown of a log's walk; nothing where the log names another tree, or its point is not one of the space
abbrev pub shown_of : Space → Read → Live → Log → Shown
shown_of s read live log =
    if names_tree s live log then shown (search_for s log.query log.answers) read (root_coming live.root ∷ []) log.records
    else nothing_shown

-- whether a log is accepted, and its query and its answers
abbrev pub frame_head : ℕ → Log → Option Verdict → List ℕ
frame_head i log why = frame i ++ verdict_words why ++ line_end ++ answers_text log.query log.answers

-- the text on the log of frame i with its first fault, and with what is shown of its walk in a tree of `nodes` nodes
abbrev pub frame_words : Marks → Option ℕ → ℕ → Log → Option Verdict → Shown → List ℕ
frame_words marks.Each nodes i log why walk = frame_head i log why ++ walk.lines ++ opened_line nodes walk.counts
frame_words marks.Count nodes i log why walk = count_line i nodes walk.counts why

-- the text on the log of frame i
abbrev pub frame_text : Marks → Space → Read → Live → Option ℕ → ℕ → Log → List ℕ
frame_text what s read live nodes i log = frame_words what nodes i log (log_fault s read live log) (shown_of s read live log)

-- the texts on logs, where the first stands in frame i
abbrev pub frame_texts : Marks → Space → Read → Live → Option ℕ → ℕ → List Log → List (List ℕ)
frame_texts what s read live nodes i [] = []
frame_texts what s read live nodes i (log ∷ logs) =
    frame_text what s read live nodes i log ∷ frame_texts what s read live nodes (i + 1) logs

-- what stands above the texts on logs
abbrev pub head_texts : Marks → List (List ℕ)
head_texts marks.Each = []
head_texts marks.Count = count_head ∷ []
