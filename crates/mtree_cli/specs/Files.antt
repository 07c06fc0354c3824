-- What a run on named files does.
use Rattle.std.specs.Prelude.{◌≡◌, ◌⊎◌, ℕ, List, Option, Some, None, codes}
use Rattle.std.specs.Borrow.{Bor}
use Rattle.outside_io.specs.Sinks.{SinkState, Tells}
use Rattle.disk_model.specs.Disk.{DiskState}
use Rattle.job_words.specs.declared.files.FileNames.{FileNames}
use Rattle.job_words.specs.declared.job.Job.{Job}
use Rattle.job_words.specs.Files.{files_of, no_files}
use Rattle.named_files.specs.declared.opening.Opened.{Opened}
use Rattle.named_files.specs.declared.refusal.Refusal.{Refusal}
use Rattle.named_files.specs.Folders.{AreApart, AreFilesOf, IsRefused, Meaning}
use Rattle.named_files.specs.Named.{named_disk, named_left, named_sink}
use Rattle.mtree_cli.specs.Run.{Scene, Does, IsStatusOf, task_of}

-- the files that are opened: those that the job names
abbrev pub opened_names : Option (Job (List ℕ)) → FileNames (List ℕ)
opened_names None = no_files
opened_names (Some job) = files_of job

-- what a run finds or leaves in the files and on out
abbrev pub scene_of : {I L T : Type 0} → (I → DiskState) → (L → Option (List ℕ)) → (T → SinkState) → Opened I L T → SinkState → Scene
scene_of disk left sink files out = record {
  index = named_disk disk files.index.0;
  other = named_disk disk files.other.0;
  left = named_left left files.log_in.0;
  out = out;
  log_out = named_sink sink files.log_out.0;
}

-- The files of these names were opened, and each index is locked against other processes. The run did with them what the job says,
-- and returned its status.
pub record Ran {I L T : Type 0} (disk : I → DiskState) (left : L → Option (List ℕ)) (sink : T → SinkState) (folder : Meaning I L T)
    (job : Option (Job (List ℕ))) (input : Option (List ℕ)) (out0 out1 : SinkState) (status : ℕ) : Type 0 where
  pub before : Opened I L T
  pub after : Opened I L T
  pub opened : AreFilesOf folder (opened_names job) before
  pub does : Does (task_of job) (scene_of disk left sink before out0) (scene_of disk left sink after out1) input status
  pub statuses : IsStatusOf (task_of job) status
  pub apart : AreApart folder (opened_names job) (opened_names job).makes

-- A run ends in one of three ways. It did the job on its files. Or memory ran out before any file was opened. Or a file was refused:
-- then the status is 10, and nothing was written.
abbrev pub EndsOnFiles : {I L T Reason : Type 0} → (I → DiskState) → (L → Option (List ℕ)) → (T → SinkState) → Meaning I L T → Option (Job (List ℕ))
    → Option (List ℕ) → SinkState → SinkState → ℕ → Option (Refusal (Bor (List ℕ)) Reason) → Type 0
EndsOnFiles disk left sink folder job input out0 out1 status None =
    Ran disk left sink folder job input out0 out1 status ⊎ ((status ≡ 8) × Tells out0 out1 (codes "fault memory\n"))
EndsOnFiles disk left sink folder job input out0 out1 status (Some why) = (status ≡ 10) × (out1 ≡ out0) × IsRefused folder (opened_names job) why
