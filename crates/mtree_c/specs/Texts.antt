-- The texts on the bytes of a file and of logs, with the statuses of the program's jobs.
use Rattle.std.specs.Prelude.{◌≡◌, ◌⊎◌, ◌<◌, ◌^◌, ℕ, List, ◌++◌, length, codes, Some}
use Rattle.std.specs.List.{concat, flat_map}
use Rattle.tree_audit.specs.declared.faults.AuditFault.{AuditFault}
use Rattle.job_files.specs.Jobs.{IsAudited, IsNoIndex, IsSoundWith}
use Rattle.job_files.specs.Lines.{damaged_text, not_index_text, rejected_text, shape_text, sound_text}
use Rattle.job_files.specs.Shapes.{IsDamaged, IsShapeOf, IsSound}
use Rattle.node_page.specs.declared.head.Head.{Head}
use Rattle.page_store.specs.declared.pages.PageFault.{PageFault}
use Rattle.page_store.specs.Files.{IsLarge}
use Rattle.job_seal.specs.Seals.{IsSealed, sealed_text}
use Rattle.tree_outline.specs.declared.outline.ShapeLine.{ShapeLine}
use Rattle.tree_shape.specs.declared.live.Live.{Live}
use Rattle.job_files.specs.declared.logs.report.Report.{Report}
use Rattle.job_logs.specs.Jobs.{Says}
use Rattle.job_files.specs.Logs.JobReports.{JobReport}
use Rattle.prune_log.specs.Spelling.{frame_bytes}
use Rattle.job_seal.specs.Proofs.{AreShown, IsEnd, Shown, all_accepted}
use Rattle.job_stats.specs.declared.numbers.LevelNumbers.{LevelNumbers}
use Rattle.job_stats.specs.Jobs.{AreStatsOf, stats_text}
use Rattle.job_dump.specs.declared.fault.DumpFault.{DumpFault}
use Rattle.job_dump.specs.Jobs.{HoldsRows, IsDamaged as IsDumpDamaged, fault_text}
use Rattle.job_dump.specs.Scripts.{script_text}
use Rattle.job_show.specs.declared.report.Marks.TheVariants as marks
use Rattle.job_show.specs.Jobs.{Shows}

-- why the bytes are no file of version 2, in a line
abbrev pub IsUnopenedText : List ℕ → List ℕ → Type 0
IsUnopenedText file text = (name : List ℕ) × IsNoIndex file name × (text ≡ not_index_text name)

-- The text of an audit. Status 0: the file is sound; 1: it has a fault; 6: it is no file of version 2.
pub record IsAuditText (file text : List ℕ) (status : ℕ) : Type 0 where
  pub sound : status ≡ 0 → (objects : ℕ) × (nodes : ℕ) × IsSoundWith file objects nodes × (text ≡ sound_text objects nodes)
  pub rejected : status ≡ 1 → (fault : AuditFault) × IsAudited file (Some fault) × (text ≡ rejected_text fault)
  pub no_index : status ≡ 6 → IsUnopenedText file text
  pub statuses : (status ≡ 0) ⊎ ((status ≡ 1) ⊎ (status ≡ 6))

-- The text of a shape. Status 0: the lines of all nodes; 6: it is no file of version 2; 9: a page that the walk of the tree names gives no
-- node. Of a sound file the status is 0.
pub record IsShapeText (file text : List ℕ) (status : ℕ) : Type 0 where
  pub drawn : status ≡ 0 → (height : ℕ) × (objects : ℕ) × (lines : List ShapeLine) × IsShapeOf file height objects lines × (text ≡ shape_text height objects lines)
  pub no_index : status ≡ 6 → IsUnopenedText file text
  pub damaged : status ≡ 9 → (fault : PageFault) × IsDamaged file fault × (text ≡ damaged_text fault)
  pub sound : (head : Head) (live : Live) → IsSound head live file → status ≡ 0
  pub statuses : (status ≡ 0) ⊎ ((status ≡ 6) ⊎ (status ≡ 9))

-- The text of the numbers of an index. The statuses are those of a shape.
pub record IsStatsText (file text : List ℕ) (status : ℕ) : Type 0 where
  pub told : status ≡ 0 → (head : Head) × (live : Live) × (nodes : ℕ) × (levels : List LevelNumbers) × AreStatsOf file head live nodes levels
      × (text ≡ stats_text head live nodes levels)
  pub no_index : status ≡ 6 → IsUnopenedText file text
  pub damaged : status ≡ 9 → (fault : PageFault) × IsDamaged file fault × (text ≡ damaged_text fault)
  pub sound : (head : Head) (live : Live) → IsSound head live file → status ≡ 0
  pub statuses : (status ≡ 0) ⊎ ((status ≡ 6) ⊎ (status ≡ 9))

-- The text of a dump. Status 0: the script of the file's objects; 6: it is no file of version 2; 9: a page that the walk of the tree names
-- gives no node, or an id is not there once. Of a sound file the status is 0.
pub record IsDumpText (file text : List ℕ) (status : ℕ) : Type 0 where
  pub dumped : status ≡ 0 → (rows : List (ℕ × List ℕ)) × HoldsRows file rows × (text ≡ script_text rows)
  pub no_index : status ≡ 6 → IsUnopenedText file text
  pub damaged : status ≡ 9 → (fault : DumpFault) × IsDumpDamaged file fault × (text ≡ fault_text fault)
  pub sound : (head : Head) (live : Live) → IsSound head live file → status ≡ 0
  pub statuses : (status ≡ 0) ⊎ ((status ≡ 6) ⊎ (status ≡ 9))

-- The text of a seal. Status 0: the file is sound, and this is its root digest; 1: it has a fault; 6: it is no file of version 2; 7: it has
-- more pages than are sealed.
pub record IsSealText (file text : List ℕ) (status : ℕ) : Type 0 where
  pub sealed : status ≡ 0 → (root : List ℕ) × IsSealed file root × (text ≡ sealed_text root)
  pub rejected : status ≡ 1 → (fault : AuditFault) × IsAudited file (Some fault) × (text ≡ rejected_text fault)
  pub no_index : status ≡ 6 → IsUnopenedText file text
  pub long : status ≡ 7 → IsLarge file × (text ≡ codes "fault long\n")
  pub large : (status ≡ 0) ⊎ (status ≡ 1) → IsLarge file → ⊥
  pub statuses : (status ≡ 0) ⊎ ((status ≡ 1) ⊎ ((status ≡ 6) ⊎ (status ≡ 7)))

-- The text on logs. Status 0 and 1: what is to be said of the file and the logs, as `IsSaid` tells; 6: it is no file of version 2; 7: there
-- are more than 2^30 bytes of logs.
pub record IsTextOnLogs (IsSaid : JobReport → Type 0) (file logs text : List ℕ) (status : ℕ) : Type 0 where
  pub judged : (status ≡ 0) ⊎ (status ≡ 1) → (said : JobReport) × IsSaid said × (text ≡ concat said.texts) × (status ≡ said.status)
  pub no_index : status ≡ 6 → IsUnopenedText file text
  pub long : status ≡ 7 → (2 ^ 30 < length logs) × (text ≡ codes "fault long\n")
  pub statuses : (status ≡ 0) ⊎ ((status ≡ 1) ⊎ ((status ≡ 6) ⊎ (status ≡ 7)))

-- the text of the verdicts on logs, or of their answers
abbrev pub IsLogText : Report → List ℕ → List ℕ → List ℕ → ℕ → Type 0
IsLogText what file logs text status = IsTextOnLogs (Says what file logs) file logs text status

-- the text of the walks that logs tell of
abbrev pub IsShownText : List ℕ → List ℕ → List ℕ → ℕ → Type 0
IsShownText file logs text status = IsTextOnLogs (Shows marks.Each file logs) file logs text status

-- The text on carried logs. Status 0 and 1: the whole frames were shown in order, and then the last line. Status 7: there are more than
-- 2^30 bytes; the first whole frames were shown in order, and then the line that says so.
pub record IsProofText (root logs text : List ℕ) (status : ℕ) : Type 0 where
  pub shown : (status ≡ 0) ⊎ (status ≡ 1) →
      (frames : List Shown) × (rest : List ℕ) × (line : List ℕ) × (logs ≡ flat_map (λ (f : Shown). frame_bytes f.body) frames ++ rest) × AreShown root 0 frames
      × IsEnd rest (all_accepted frames) line status × (text ≡ flat_map (λ (f : Shown). f.text) frames ++ line)
  pub long : status ≡ 7 → (2 ^ 30 < length logs)
      × ((frames : List Shown) × (rest : List ℕ) × (logs ≡ flat_map (λ (f : Shown). frame_bytes f.body) frames ++ rest) × AreShown root 0 frames
      × (text ≡ flat_map (λ (f : Shown). f.text) frames ++ codes "fault long\n"))
  pub statuses : (status ≡ 0) ⊎ ((status ≡ 1) ⊎ (status ≡ 7))
