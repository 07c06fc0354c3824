-- What is said of a file and of what follows it, by what was put.
use Rattle.std.proofs.Common.{◌≡◌, ℕ, List, [], ◌∷◌, true, false, Option, Some, None, refl, sym}
use Rattle.std.specs.Option.{is_none}
use Rattle.std.proofs.lemmas.Bool.{true≢false}
use Rattle.tree_audit.specs.declared.faults.AuditFault.{AuditFault}
use Rattle.job_files.specs.declared.logs.stop.LogStop.{LogStop}
use Rattle.job_files.specs.Logs.JobReports.{JobReport, file_text, on_file}
use Rattle.job_files.specs.Logs.Jobs.{Puts}
use Rattle.job_files.proofs.logs.Puts.{has_put, then_put, stopped_put}

-- the line on the file was not put whole
pub file_stopped : (name : List ℕ) (o : Option AuditFault) (rest : JobReport) (w0 w1 : Option (List ℕ)) (why : LogStop) → Puts (file_text name o ∷ []) w0 w1 (Some why) → Puts (on_file name o rest).texts w0 w1 (Some why)
file_stopped name None rest w0 w1 why puts = stopped_put (file_text name None ∷ []) rest.texts w0 w1 why puts
file_stopped name (Some fault) rest w0 w1 why puts = puts

-- a file with a fault: that is all
pub file_unsound : (name : List ℕ) (o : Option AuditFault) (rest : JobReport) (w0 w1 : Option (List ℕ)) → is_none o ≡ false → Puts (file_text name o ∷ []) w0 w1 None → Puts (on_file name o rest).texts w0 w1 None
file_unsound name None rest w0 w1 is puts = absurd (true≢false is)
file_unsound name (Some fault) rest w0 w1 is puts = puts

pub unsound_status : (name : List ℕ) (o : Option AuditFault) (rest : JobReport) → is_none o ≡ false → (on_file name o rest).status ≡ 1
unsound_status name None rest is = absurd (true≢false is)
unsound_status name (Some fault) rest is = refl

-- a file without one, and the texts behind its line
pub file_then : (name : List ℕ) (o : Option AuditFault) (rest : JobReport) (w0 w1 w2 : Option (List ℕ)) (why : Option LogStop) → is_none o ≡ true → Puts (file_text name o ∷ []) w0 w1 None → Puts rest.texts w1 w2 why → Puts (on_file name o rest).texts w0 w2 why
file_then name None rest w0 w1 w2 why is line puts = then_put (file_text name None ∷ rest.texts) rest.texts w0 w1 w2 why (has_put (file_text name None ∷ []) rest.texts w0 w1 line) puts
file_then name (Some fault) rest w0 w1 w2 why is line puts = absurd (true≢false (sym is))

pub sound_status : (name : List ℕ) (o : Option AuditFault) (rest : JobReport) → is_none o ≡ true → (on_file name o rest).status ≡ rest.status
sound_status name None rest is = refl
sound_status name (Some fault) rest is = absurd (true≢false (sym is))
