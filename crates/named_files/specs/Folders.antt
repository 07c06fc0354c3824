-- What is opened for the files that the words name, and why a file is not opened.
use Rattle.std.specs.Prelude.{◌≡◌, ◌⊎◌, ℕ, Bool, true, false, List, Option, Some, None, IfSome, IsTrue}
use Rattle.std.specs.Borrow.{Bor}
use Rattle.job_words.specs.declared.files.FileNames.{FileNames}
use Rattle.job_words.specs.declared.files.Makes.{Makes}
use Rattle.job_words.specs.declared.files.Makes.TheVariants as makes
use Rattle.named_files.specs.declared.opening.Opened.{Opened}
use Rattle.named_files.specs.declared.refusal.Denial.{Denial}
use Rattle.named_files.specs.declared.refusal.Denial.TheVariants as denial
use Rattle.named_files.specs.declared.refusal.Refusal.{Refusal}
use Rattle.named_files.specs.declared.refusal.Refusal.TheVariants as refusal

-- what a folder's results mean
pub record Meaning (Index LogIn LogOut : Type 0) : Type 1 where
  -- the index is the file of this name, opened for writing too, or only for reading
  pub is_index : List ℕ → Bool → Index → Type 0
  -- the index is the file of this name, opened for writing, and made where there was none
  pub is_made : List ℕ → Index → Type 0
  -- while the index is open, no other process writes it; and where it is open for writing, no other process has it open
  pub is_held : List ℕ → Bool → Index → Type 0
  -- the logs are the file of this name
  pub is_log_in : List ℕ → LogIn → Type 0
  -- the output is the file of this name, which was made anew and is empty
  pub is_log_out : List ℕ → LogOut → Type 0
  -- the system refuses to open the file of this name
  pub is_closed : List ℕ → Type 0
  -- another process holds the file of this name
  pub is_in_use : List ℕ → Type 0
  -- the file of this name begins as an index
  pub begins_index : List ℕ → Type 0
  -- two names name one file; two names name two files
  pub are_one : List ℕ → List ℕ → Type 0
  pub are_apart : List ℕ → List ℕ → Type 0

-- why an index was not opened: the system refuses it, or another process holds it
abbrev pub IsIndexDenied : {I L T Reason : Type 0} → Meaning I L T → List ℕ → Denial Reason → Type 0
IsIndexDenied folder name (denial.System reason) = folder.is_closed name
IsIndexDenied folder name denial.InUse = folder.is_in_use name
IsIndexDenied folder name denial.IsIndex = ⊥

-- why a file of logs was not opened: the system refuses it
abbrev pub IsLogDenied : {I L T Reason : Type 0} → Meaning I L T → List ℕ → Denial Reason → Type 0
IsLogDenied folder name (denial.System reason) = folder.is_closed name
IsLogDenied folder name denial.InUse = ⊥
IsLogDenied folder name denial.IsIndex = ⊥

-- why a file was not made anew and empty: the system refuses it, or it begins as an index
abbrev pub IsMakingDenied : {I L T Reason : Type 0} → Meaning I L T → List ℕ → Denial Reason → Type 0
IsMakingDenied folder name (denial.System reason) = folder.is_closed name
IsMakingDenied folder name denial.InUse = ⊥
IsMakingDenied folder name denial.IsIndex = folder.begins_index name

-- ---- files that are opened

-- an object is present exactly where a file is named, and it is that file
abbrev pub IsFileOf : {F : Type 0} → (List ℕ → F → Type 0) → Option (List ℕ) → Option F → Type 0
IsFileOf Is None None = Unit {0}
IsFileOf Is None (Some file) = ⊥
IsFileOf Is (Some name) None = ⊥
IsFileOf Is (Some name) (Some file) = Is name file

-- the index of a job that makes it, or that writes or reads an existing one
abbrev pub IsIndexOf : {I L T : Type 0} → Meaning I L T → Makes (List ℕ) → Bool → List ℕ → I → Type 0
IsIndexOf folder makes.Index writes name index = folder.is_made name index × folder.is_held name true index
IsIndexOf folder makes.Nothing writes name index = folder.is_index name writes index × folder.is_held name writes index
IsIndexOf folder (makes.Log log) writes name index = folder.is_index name writes index × folder.is_held name writes index

-- the name of the log that the job makes
abbrev pub log_name : Makes (List ℕ) → Option (List ℕ)
log_name makes.Nothing = None
log_name makes.Index = None
log_name (makes.Log name) = Some name

-- The objects are the files of these names. Each index is locked: no other process writes it meanwhile, and where the job writes it,
-- no other process has it open.
pub record AreFilesOf {I L T : Type 0} (folder : Meaning I L T) (names : FileNames (List ℕ)) (files : Opened I L T) : Type 0 where
  pub index : IsFileOf (IsIndexOf folder names.makes names.writes) names.index files.index.0
  pub other : IsFileOf (λ name file. folder.is_index name false file × folder.is_held name false file) names.other files.other.0
  pub log_in : IsFileOf folder.is_log_in names.log_in files.log_in.0
  pub log_out : IsFileOf folder.is_log_out (log_name names.makes) files.log_out.0

-- the file that is made is none of the others
abbrev pub AreApart : {I L T : Type 0} → Meaning I L T → FileNames (List ℕ) → Makes (List ℕ) → Type 0
AreApart folder names makes.Nothing = Unit {0}
AreApart folder names makes.Index = IfSome names.index (λ index. IfSome names.other (folder.are_apart index) × IfSome names.log_in (folder.are_apart index))
AreApart folder names (makes.Log log) =
    IfSome names.index (folder.are_apart log) × IfSome names.other (folder.are_apart log) × IfSome names.log_in (folder.are_apart log)

-- ---- files that are not opened

-- the text of a name, if there is one
abbrev pub text_of : Option (Bor (List ℕ)) → Option (List ℕ)
text_of None = None
text_of (Some name) = Some name.now

-- the name is that of an index
abbrev pub IsIndexName : FileNames (List ℕ) → List ℕ → Type 0
IsIndexName names name = (names.index ≡ Some name) ⊎ (names.other ≡ Some name)

-- the file `named` was not opened
abbrev pub Denies : {Reason : Type 0} → (List ℕ → Denial Reason → Type 0) → Option (List ℕ) → Refusal (Bor (List ℕ)) Reason → Type 0
Denies Why named (refusal.Denied name why) = (named ≡ Some name.now) × Why name.now why
Denies Why named (refusal.OneFile made read) = ⊥

-- the name is that of the file to be made; the name is that of a file to be read
abbrev pub IsMade : FileNames (List ℕ) → Makes (List ℕ) → List ℕ → Type 0
IsMade names makes.Nothing name = ⊥
IsMade names makes.Index name = names.index ≡ Some name
IsMade names (makes.Log log) name = log ≡ name

abbrev pub IsRead : FileNames (List ℕ) → Makes (List ℕ) → List ℕ → Type 0
IsRead names makes.Nothing name = ⊥
IsRead names makes.Index name = (names.other ≡ Some name) ⊎ (names.log_in ≡ Some name)
IsRead names (makes.Log log) name = IsIndexName names name ⊎ (names.log_in ≡ Some name)

-- the file to be made and a file to be read are one file
abbrev pub Meets : {I L T Reason : Type 0} → Meaning I L T → FileNames (List ℕ) → Refusal (Bor (List ℕ)) Reason → Type 0
Meets folder names (refusal.Denied name why) = ⊥
Meets folder names (refusal.OneFile made read) =
    IsMade names names.makes made.now × IsRead names names.makes read.now × folder.are_one made.now read.now

-- one of the files was not opened, or the file to be made is a file to be read
abbrev pub IsRefused : {I L T Reason : Type 0} → Meaning I L T → FileNames (List ℕ) → Refusal (Bor (List ℕ)) Reason → Type 0
IsRefused folder names why =
    Denies (IsIndexDenied folder) names.index why
    ⊎ (Denies (IsIndexDenied folder) names.other why
    ⊎ (Denies (IsLogDenied folder) names.log_in why
    ⊎ (Denies (IsMakingDenied folder) (log_name names.makes) why
    ⊎ Meets folder names why)))
