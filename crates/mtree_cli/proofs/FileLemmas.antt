-- The files that are opened for a job.
use Rattle.std.proofs.Common.{subst, ◌≡◌, ℕ, List, Option, Some, refl, sym, ◌∙◌, ap}
use Rattle.std.specs.Borrow.{Bor}
use Rattle.job_words.specs.declared.files.FileNames.{FileNames}
use Rattle.job_words.specs.declared.job.Job.{Job}
use Rattle.job_words.specs.Files.{file_texts, files_of, same_texts}
use Rattle.job_words.specs.Jobs.{texts_in}
use Rattle.outside_io.specs.Sinks.{SinkState}
use Rattle.disk_model.specs.Disk.{DiskState}
use Rattle.named_files.specs.declared.opening.Opened.{Opened}
use Rattle.named_files.specs.declared.refusal.Refusal.{Refusal}
use Rattle.named_files.specs.Folders.{AreApart, AreFilesOf, IsRefused, Meaning}
use Rattle.mtree_cli.specs.Run.{Does, IsStatusOf, task_of}
use Rattle.mtree_cli.specs.Files.{EndsOnFiles, Ran, opened_names, scene_of}

pub job_names : (asked : Option (Job (List ℕ))) (found : Job (Bor (List ℕ))) (names : FileNames (Bor (List ℕ))) → asked ≡ Some (texts_in found) → names ≡ files_of found → file_texts names ≡ opened_names asked
job_names asked found names is named = ap file_texts named ∙ same_texts found ∙ sym (ap opened_names is)

-- ---- how a run on files ends

module _ {I L T : Type 0} (disk : I → DiskState) (left : L → Option (List ℕ)) (sink : T → SinkState) (folder : Meaning I L T)
    (job : Option (Job (List ℕ))) (input : Option (List ℕ)) (names : FileNames (Bor (List ℕ))) (same : file_texts names ≡ opened_names job) where
  pub ends_refused : {Reason : Type 0} → (out : SinkState) (why : Refusal (Bor (List ℕ)) Reason) → IsRefused folder (file_texts names) why
      → EndsOnFiles disk left sink folder job input out out 10 (Some why)
  ends_refused out why refused = (refl, refl, subst (λ (n : FileNames (List ℕ)). IsRefused folder n why) same refused)

  pub ends_ran : (out0 out1 : SinkState) (before after : Opened I L T) (status : ℕ) → AreFilesOf folder (file_texts names) before
      → AreApart folder (file_texts names) (file_texts names).makes
      → Does (task_of job) (scene_of disk left sink before out0) (scene_of disk left sink after out1) input status → IsStatusOf (task_of job) status
      → Ran disk left sink folder job input out0 out1 status
  ends_ran out0 out1 before after status opened apart does statuses = record {
    before = before;
    after = after;
    opened = subst (λ (n : FileNames (List ℕ)). AreFilesOf folder n before) same opened;
    does = does;
    statuses = statuses;
    apart = subst (λ (n : FileNames (List ℕ)). AreApart folder n n.makes) same apart;
  }
