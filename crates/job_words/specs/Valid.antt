-- The values of a job are within their ranges.
use Rattle.std.specs.Prelude.{◌≡◌, ℕ, ◌≤◌, ◌%◌, true}
use Rattle.job_words.specs.Names.{is_generated, is_halved}
use Rattle.job_words.specs.declared.job.Job.{Job}
use Rattle.job_words.specs.declared.job.Job.TheVariants.{Scan, Create, Session, Shape, Stats, Dump, Show, Audit, Verify, Check, Join, Gen, Migrate, Batch, Seal, Carry, Prove}
use Rattle.job_words.specs.declared.names.SpaceName.{SpaceName}

-- a dimension is from 1 to 64, and even where the metric halves its points
pub record IsValidSpace (space : SpaceName) : Type 0 where
  pub some : 1 ≤ space.dim
  pub few : space.dim ≤ 64
  pub halves : is_halved space.metric ≡ true → space.dim % 2 ≡ 0

-- a valid space whose points the generator makes
abbrev pub IsGeneratedSpace : SpaceName → Type 0
IsGeneratedSpace space = IsValidSpace space × (is_generated space.metric ≡ true)

abbrev pub IsLimit : ℕ → Type 0
IsLimit n = (1 ≤ n) × (n ≤ 16777216)

abbrev pub AreWorkers : ℕ → Type 0
AreWorkers n = (1 ≤ n) × (n ≤ 64)

abbrev pub IsCount : ℕ → Type 0
IsCount n = (1 ≤ n) × (n ≤ 1048576)

abbrev pub IsValid : {Name : Type 0} → Job Name → Type 0
IsValid (Scan space limit show) = IsValidSpace space × IsLimit limit
IsValid (Create index space policies limit) = IsValidSpace space × IsLimit limit
IsValid (Session index log workers show) = AreWorkers workers
IsValid (Shape index) = Unit {0}
IsValid (Stats index) = Unit {0}
IsValid (Dump index) = Unit {0}
IsValid (Show index log other counts) = Unit {0}
IsValid (Audit index workers) = AreWorkers workers
IsValid (Verify index log other) = Unit {0}
IsValid (Check index log other) = Unit {0}
IsValid (Join index other radius log) = Unit {0}
IsValid (Gen index space count seed policies workers) = IsGeneratedSpace space × IsCount count × AreWorkers workers
IsValid (Migrate index other) = Unit {0}
IsValid (Batch index workers log show) = AreWorkers workers
IsValid (Seal index) = Unit {0}
IsValid (Carry index log proof) = Unit {0}
IsValid (Prove log root) = Unit {0}
