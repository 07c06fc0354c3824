use Rattle.std.proofs.Common.{◌≡◌, None}
use Rattle.page_store.specs.Reading.{nodes_of}
use Rattle.log_model.specs.declared.logs.Log.{Log}
use Rattle.job_files.specs.Spaces.{space_of}
use Rattle.job_files.specs.Logs.Files.{read_of}
use Rattle.job_logs.specs.Jobs.{judge_of}
use Rattle.job_logs.specs.Laws.{IsCompleteLog}
use Rattle.job_files.proofs.Published.{nodes_within, show_logs}
use Rattle.job_logs.specs.Lines.{log_words}
use Rattle.job_logs.proofs.laws.faultless_is_complete.Goals as goal

pub returns : goal.returns
returns c file head live opens =
    let s = space_of head in
    let read = read_of file head live in (
      c.audit_faults_are_unsoundness.ensures s read live (nodes_within head.dim live.pages file),
      λ sound.
          let complete : (log : Log) → judge_of file head live log ≡ None → IsCompleteLog file head live log = λ log none. record {
            sound = (c.faults_are_unsoundness.ensures s read live log).0 none;
            scanned = c.sound_logs_are_complete.ensures s (nodes_of read) live log (c.heads_have_spaces.ensures head opens.spells_head.valid) sound ((c.faults_are_unsoundness.ensures s read live log).0 none);
          } in
          record {
            faultless = λ log. (complete log, λ whole. (c.faults_are_unsoundness.ensures s read live log).1 whole.sound);
            shown = show_logs log_words (judge_of file head live) (IsCompleteLog file head live) complete;
          },
    )
