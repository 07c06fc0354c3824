-- The files that a job works on.
use Rattle.std.specs.Prelude.{◌≡◌, true, false, Option, Some, None, refl}
use Rattle.std.specs.Borrow.{Bor}
use Rattle.std.specs.Option.{option_map}
use Rattle.clap.specs.Words.{Text}
use Rattle.job_words.specs.declared.files.FileNames.{FileNames}
use Rattle.job_words.specs.declared.files.Makes.{Makes}
use Rattle.job_words.specs.declared.files.Makes.TheVariants as makes
use Rattle.job_words.specs.Jobs.{texts_in}
use Rattle.job_words.specs.declared.job.Job.{Job}
use Rattle.job_words.specs.declared.job.Job.TheVariants.{Scan, Create, Session, Shape, Stats, Dump, Show, Audit, Verify, Check, Join, Gen, Migrate, Batch, Seal, Carry, Prove}

abbrev pub no_files : {Name : Type 0} → FileNames Name
no_files = record { index = None; writes = false; other = None; log_in = None; makes = makes.Nothing }

-- an existing index
abbrev pub on_index : {Name : Type 0} → Name → FileNames Name
on_index index = record no_files { index = Some index }

-- the log that a job makes, if it makes one
abbrev pub made_log : {Name : Type 0} → Option Name → Makes Name
made_log None = makes.Nothing
made_log (Some log) = makes.Log log

-- The files of a job. `create`, `gen` and `migrate` make INDEX, and `session` writes an existing one. `verify`, `check`, `show` and
-- `proof` read the log, and the other jobs make it. `proof` with INDEX makes the file of its proofs.
abbrev pub files_of : {Name : Type 0} → Job Name → FileNames Name
files_of (Scan space limit show) = no_files
files_of (Create index space policies limit) = record (on_index index) { makes = makes.Index }
files_of (Session index log workers show) = record (on_index index) { writes = true; makes = made_log log }
files_of (Shape index) = on_index index
files_of (Stats index) = on_index index
files_of (Dump index) = on_index index
files_of (Show index log other counts) = record (on_index index) { other = other; log_in = Some log }
files_of (Audit index workers) = on_index index
files_of (Verify index log other) = record (on_index index) { other = other; log_in = Some log }
files_of (Check index log other) = record (on_index index) { other = other; log_in = Some log }
files_of (Join index other radius log) = record (on_index index) { other = Some other; makes = made_log log }
files_of (Gen index space count seed policies workers) = record (on_index index) { makes = makes.Index }
files_of (Migrate index other) = record (on_index index) { other = Some other; makes = makes.Index }
files_of (Batch index workers log show) = record (on_index index) { makes = made_log log }
files_of (Seal index) = on_index index
files_of (Carry index log proof) = record (on_index index) { log_in = Some log; makes = makes.Log proof }
files_of (Prove log root) = record no_files { log_in = Some log }

-- the files that are made, with their names' texts
abbrev pub made_text : Makes (Bor Text) → Makes Text
made_text makes.Nothing = makes.Nothing
made_text makes.Index = makes.Index
made_text (makes.Log name) = makes.Log name.now

abbrev pub file_texts : FileNames (Bor Text) → FileNames Text
file_texts files = record {
  index = option_map (λ s. s.now) files.index;
  writes = files.writes;
  other = option_map (λ s. s.now) files.other;
  log_in = option_map (λ s. s.now) files.log_in;
  makes = made_text files.makes;
}

-- the files of a job are those of the job with its names' texts
pub same_texts : (job : Job (Bor Text)) → file_texts (files_of job) ≡ files_of (texts_in job)
same_texts (Scan space limit show) = refl
same_texts (Create index space policies limit) = refl
same_texts (Session index None workers show) = refl
same_texts (Session index (Some log) workers show) = refl
same_texts (Shape index) = refl
same_texts (Stats index) = refl
same_texts (Dump index) = refl
same_texts (Show index log other counts) = refl
same_texts (Audit index workers) = refl
same_texts (Verify index log other) = refl
same_texts (Check index log other) = refl
same_texts (Join index other radius None) = refl
same_texts (Join index other radius (Some log)) = refl
same_texts (Gen index space count seed policies workers) = refl
same_texts (Migrate index other) = refl
same_texts (Batch index workers None show) = refl
same_texts (Batch index workers (Some log) show) = refl
same_texts (Seal index) = refl
same_texts (Carry index log proof) = refl
same_texts (Prove log root) = refl
