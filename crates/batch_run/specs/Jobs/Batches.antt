-- What a batch does and writes, by the status with which it ends.
use Rattle.std.specs.Prelude.{◌≡◌, ◌⊎◌, ℕ, ◌+◌, ◌^◌, ◌<◌, ◌≤◌, Bool, List, [], ◌∷◌, ◌++◌, codes, length, Option, IsTrue, IfSome}
use Rattle.std.specs.List.{AllByRecursion, concat}
use Rattle.std.specs.Io.KnownBytes.{Appends, Consumes}
use Rattle.metric_laws.specs.Space.{Space}
use Rattle.outside_io.specs.Causes.{Rose}
use Rattle.outside_io.specs.Sinks.{SinkState, Tells}
use Rattle.disk_model.specs.Disk.{DiskState, IsUnchanged}
use Rattle.scan_model.specs.declared.query.Query.{Query}
use Rattle.rows_text.specs.declared.command.Command.{Command}
use Rattle.rows_text.specs.Script.{script}
use Rattle.rows_text.specs.Texts.{text}
use Rattle.tree_shape.specs.declared.live.Live.{Live}
use Rattle.node_page.specs.declared.head.Head.{Head}
use Rattle.node_page.specs.Opening.{OpensTo}
use Rattle.page_store.specs.declared.pages.PageFault.{PageFault}
use Rattle.page_store.specs.Files.{IsSoundFile, IsLarge}
use Rattle.page_store.specs.Reading.{reading}
use Rattle.job_files.specs.Jobs.{IsIndex, IsNoIndex}
use Rattle.job_files.specs.Lines.{not_index_text, damaged_text}
use Rattle.answer_texts.specs.Answered.{Answered, commands_of, framed, if_any, logs_of, texts_of}
use Rattle.answer_texts.specs.Asked.{Held, held_in}
use Rattle.answer_texts.specs.Ending.{Ends, EndsIn, TellsFault}
use Rattle.answer_texts.specs.Put.{AreCut}
use Rattle.image_answers.specs.Outcomes.{HasDamage, IsTurn}
use Rattle.job_files.specs.Spaces.{space_of}

-- For the command after the acknowledged ones, a front of its log's frame was put; or all of the frame, and a front of its reply.
pub record IsCutShort (s : Space) (show : Bool) (held : Held) (more : List Command) (rest log_rest : List ℕ) : Type 0 where
  pub turn : Answered
  pub others : List Command
  pub is : IsTurn s held turn
  pub next : more ≡ turn.command ∷ others
  pub cut : AreCut (text show turn.reply) (framed (if_any turn.log)) rest log_rest

-- A batch of a script on a sound file.
pub record RunsOn (show : Bool) (bytes : List ℕ) (s : Space) (held : Held) (out0 out1 log0 log1 : SinkState) (status : ℕ) : Type 0 where
  pub turns : List Answered
  pub more : List Command
  pub rest : List ℕ
  pub log_rest : List ℕ
  pub whole : script s.dimension bytes ≡ commands_of turns ++ more
  pub are : AllByRecursion (IsTurn s held) turns
  pub ends : Ends (Rose out0.faults out1.faults) (IsCutShort s show held more) status turns more rest log_rest
  -- the disk fails before the first command, if it does
  pub unread : status ≡ 5 → turns ≡ []
  pub written : Appends out0.written out1.written (concat (texts_of show turns) ++ rest)
  pub logged : Appends log0.written log1.written (framed (logs_of turns) ++ log_rest)

-- what a batch does whose script is `bytes`
abbrev pub RunsScript : Bool → List ℕ → DiskState → SinkState → SinkState → SinkState → SinkState → ℕ → Type 0
RunsScript show bytes disk0 out0 out1 log0 log1 status =
    IsTrue disk0.is_known → (head : Head) (live : Live) → IsSoundFile (space_of head) head live disk0.bytes →
    RunsOn show bytes (space_of head) (held_in head.dim live disk0.bytes) out0 out1 log0 log1 status

-- the file opens, and the search of a query meets the damaged page
pub record HasDamagedPage (file : List ℕ) (fault : PageFault) : Type 0 where
  pub head : Head
  pub live : Live
  pub opens : OpensTo file head live
  pub asked : Query
  pub damage : HasDamage (space_of head) live (reading head.dim live.pages file) asked fault

-- the last line names a damaged page
abbrev pub TellsDamage : DiskState → SinkState → SinkState → Type 0
TellsDamage disk0 out0 out1 = (fault : PageFault) × EndsIn out0 out1 (damaged_text fault) × (IsTrue disk0.is_known → HasDamagedPage disk0.bytes fault)

-- What a batch does with a file and a script: on a sound file it runs the script, and on any file its refusals have their causes.
-- Nothing is changed.
pub record RunsBatch (show : Bool) (input : Option (List ℕ)) (disk0 disk1 : DiskState) (out0 out1 log0 log1 : SinkState) (status : ℕ) : Type 0 where
  pub runs : IfSome input (λ bytes. RunsScript show bytes disk0 out0 out1 log0 log1 status)
  pub unchanged : IsUnchanged disk0 disk1
  pub disk : status ≡ 5 → Rose disk0.faults disk1.faults
  pub not_index : status ≡ 6 → (name : List ℕ) × Tells out0 out1 (not_index_text name) × (IsTrue disk0.is_known → IsNoIndex disk0.bytes name)
  pub damaged : status ≡ 9 → TellsDamage disk0 out0 out1
  -- on any file: where the status is a fault's, its line stands there, and only an index is searched
  pub lines : TellsFault status out0 out1
  pub index : (status ≡ 0) ⊎ (status ≡ 9) → IsTrue disk0.is_known → IsIndex disk0.bytes
  -- a file with too many pages never gives status 0, 4 or 9
  pub large : IsTrue disk0.is_known → IsLarge disk0.bytes → (status ≡ 0) ⊎ ((status ≡ 4) ⊎ (status ≡ 9)) → ⊥

-- Some input was taken. Where it is more than 2 ^ 26 bytes the status is 7; and 7 comes only there or where the file has too many pages.
pub record IsTooLong (left0 left1 : Option (List ℕ)) (disk0 : DiskState) (status : ℕ) : Type 0 where
  pub bytes : List ℕ
  pub taken : Consumes left0 left1 bytes
  pub few : length bytes ≤ 2 ^ 26 + 4096
  pub long : 2 ^ 26 < length bytes → status ≡ 7
  pub only : status ≡ 7 → (2 ^ 26 < length bytes) ⊎ (IsTrue disk0.is_known → IsLarge disk0.bytes)

-- the statuses with which a batch ends
abbrev pub IsBatchStatus : ℕ → Type 0
IsBatchStatus n = (n ≡ 0) ⊎ ((n ≡ 3) ⊎ ((n ≡ 4) ⊎ ((n ≡ 5) ⊎ ((n ≡ 6) ⊎ ((n ≡ 7) ⊎ ((n ≡ 8) ⊎ (n ≡ 9)))))))

-- ---- on an opened file

-- What ends a batch on an image of any file: an output failed, a search met a damaged page, or memory ran out.
pub record HasFinished (s : Space) (live : Live) (image : List ℕ) (out0 out1 log0 log1 : SinkState) (status : ℕ) : Type 0 where
  pub output : status ≡ 4 → Rose out0.faults out1.faults ⊎ Rose log0.faults log1.faults
  pub damaged : status ≡ 9 → (fault : PageFault) × EndsIn out0 out1 (damaged_text fault)
      × ((asked : Query) × HasDamage s live (reading s.dimension live.pages image) asked fault)
  pub memory : status ≡ 8 → EndsIn out0 out1 (codes "fault memory\n")
  pub statuses : (status ≡ 0) ⊎ ((status ≡ 4) ⊎ ((status ≡ 8) ⊎ (status ≡ 9)))

-- what a batch that opens its index does with the script
pub record HasOpened (show : Bool) (bytes : List ℕ) (disk0 disk1 : DiskState) (out0 out1 log0 log1 : SinkState) (status : ℕ) : Type 0 where
  pub runs : RunsScript show bytes disk0 out0 out1 log0 log1 status
  pub unchanged : IsUnchanged disk0 disk1
  pub output : status ≡ 4 → Rose out0.faults out1.faults ⊎ Rose log0.faults log1.faults
  pub disk : status ≡ 5 → Rose disk0.faults disk1.faults
  pub not_index : status ≡ 6 → (name : List ℕ) × Tells out0 out1 (not_index_text name) × (IsTrue disk0.is_known → IsNoIndex disk0.bytes name)
  pub long : status ≡ 7 → IsTrue disk0.is_known → IsLarge disk0.bytes
  pub damaged : status ≡ 9 → TellsDamage disk0 out0 out1
  pub lines : TellsFault status out0 out1
  pub index : (status ≡ 0) ⊎ (status ≡ 9) → IsTrue disk0.is_known → IsIndex disk0.bytes
  pub large : IsTrue disk0.is_known → IsLarge disk0.bytes → (status ≡ 0) ⊎ ((status ≡ 4) ⊎ (status ≡ 9)) → ⊥
  pub statuses : (status ≡ 0) ⊎ ((status ≡ 4) ⊎ ((status ≡ 5) ⊎ ((status ≡ 6) ⊎ ((status ≡ 7) ⊎ ((status ≡ 8) ⊎ (status ≡ 9))))))
