-- The rows of the table of commands: which options each command requires, and which it may have.
use Rattle.std.specs.Prelude.{ℕ, Bool, List, [], ◌∷◌, codes, Option, Some, None, if◌then◌else◌}
use Rattle.clap.specs.Words.{Text}
use Rattle.job_words.specs.Given.{Given, has_other, count_given, generated_space_given, limit_given, policies_given, radius_given, root_given, seed_given, show_given, counts_only_given, space_given, workers_given}
use Rattle.job_words.specs.declared.job.Job.{Job}
use Rattle.job_words.specs.declared.job.Job.TheVariants as job
use Rattle.job_words.specs.declared.names.SpaceName.{SpaceName}
use Rattle.job_words.specs.declared.names.PolicyNames.{PolicyNames}

-- the job, where nothing but these names is given
abbrev pub only : List Text → Given → Option (Job Text) → Option (Job Text)
only names given job = if has_other names given then None else job

-- `scan --metric --dim`, with `--max`, `--tags` optional
abbrev pub scan_of : Option SpaceName → Option ℕ → Option Bool → Option (Job Text)
scan_of (Some space) (Some limit) (Some show) = Some (job.Scan space limit show)
scan_of _ _ _ = None

abbrev pub scan_in : Given → Option (Job Text)
scan_in given =
    only (codes "metric" ∷ codes "dim" ∷ codes "max" ∷ codes "tags" ∷ []) given
    (scan_of (space_given given) (limit_given given) (show_given given))

-- `create INDEX --metric --dim`, with `--promote`, `--split`, `--max` optional
abbrev pub create_of : Option Text → Option SpaceName → Option PolicyNames → Option ℕ → Option (Job Text)
create_of (Some index) (Some space) (Some policies) (Some limit) = Some (job.Create index space policies limit)
create_of _ _ _ _ = None

abbrev pub create_in : Given → Option (Job Text)
create_in given =
    only (codes "INDEX" ∷ codes "metric" ∷ codes "dim" ∷ codes "promote" ∷ codes "split" ∷ codes "max" ∷ []) given
    (create_of (given (codes "INDEX")) (space_given given) (policies_given given) (limit_given given))

-- `session INDEX`, with `--log`, `--workers`, `--tags` optional
abbrev pub session_of : Option Text → Option Text → Option ℕ → Option Bool → Option (Job Text)
session_of (Some index) log (Some workers) (Some show) = Some (job.Session index log workers show)
session_of _ _ _ _ = None

abbrev pub session_in : Given → Option (Job Text)
session_in given =
    only (codes "INDEX" ∷ codes "log" ∷ codes "workers" ∷ codes "tags" ∷ []) given
    (session_of (given (codes "INDEX")) (given (codes "log")) (workers_given given) (show_given given))

-- `shape INDEX`
abbrev pub shape_of : Option Text → Option (Job Text)
shape_of (Some index) = Some (job.Shape index)
shape_of None = None

abbrev pub shape_in : Given → Option (Job Text)
shape_in given = only (codes "INDEX" ∷ []) given (shape_of (given (codes "INDEX")))

-- `stats INDEX`
abbrev pub stats_of : Option Text → Option (Job Text)
stats_of (Some index) = Some (job.Stats index)
stats_of None = None

abbrev pub stats_in : Given → Option (Job Text)
stats_in given = only (codes "INDEX" ∷ []) given (stats_of (given (codes "INDEX")))

-- `dump INDEX`
abbrev pub dump_of : Option Text → Option (Job Text)
dump_of (Some index) = Some (job.Dump index)
dump_of None = None

abbrev pub dump_in : Given → Option (Job Text)
dump_in given = only (codes "INDEX" ∷ []) given (dump_of (given (codes "INDEX")))

-- `show INDEX --log`, with `--other`, `--marks` optional
abbrev pub show_of : Option Text → Option Text → Option Text → Option Bool → Option (Job Text)
show_of (Some index) (Some log) other (Some counts) = Some (job.Show index log other counts)
show_of _ _ _ _ = None

abbrev pub show_in : Given → Option (Job Text)
show_in given =
    only (codes "INDEX" ∷ codes "log" ∷ codes "other" ∷ codes "marks" ∷ []) given
    (show_of (given (codes "INDEX")) (given (codes "log")) (given (codes "other")) (counts_only_given given))

-- `audit INDEX`, with `--workers` optional
abbrev pub audit_of : Option Text → Option ℕ → Option (Job Text)
audit_of (Some index) (Some workers) = Some (job.Audit index workers)
audit_of _ _ = None

abbrev pub audit_in : Given → Option (Job Text)
audit_in given =
    only (codes "INDEX" ∷ codes "workers" ∷ []) given
    (audit_of (given (codes "INDEX")) (workers_given given))

-- `verify INDEX --log`, with `--other` optional
abbrev pub verify_of : Option Text → Option Text → Option Text → Option (Job Text)
verify_of (Some index) (Some log) other = Some (job.Verify index log other)
verify_of _ _ _ = None

abbrev pub verify_in : Given → Option (Job Text)
verify_in given =
    only (codes "INDEX" ∷ codes "log" ∷ codes "other" ∷ []) given
    (verify_of (given (codes "INDEX")) (given (codes "log")) (given (codes "other")))

-- `check INDEX --log`, with `--other` optional
abbrev pub check_of : Option Text → Option Text → Option Text → Option (Job Text)
check_of (Some index) (Some log) other = Some (job.Check index log other)
check_of _ _ _ = None

abbrev pub check_in : Given → Option (Job Text)
check_in given =
    only (codes "INDEX" ∷ codes "log" ∷ codes "other" ∷ []) given
    (check_of (given (codes "INDEX")) (given (codes "log")) (given (codes "other")))

-- `join INDEX --other --radius`, with `--log` optional
abbrev pub join_of : Option Text → Option Text → Option ℕ → Option Text → Option (Job Text)
join_of (Some index) (Some other) (Some radius) log = Some (job.Join index other radius log)
join_of _ _ _ _ = None

abbrev pub join_in : Given → Option (Job Text)
join_in given =
    only (codes "INDEX" ∷ codes "other" ∷ codes "radius" ∷ codes "log" ∷ []) given
    (join_of (given (codes "INDEX")) (given (codes "other")) (radius_given given) (given (codes "log")))

-- `gen INDEX --metric --dim --count`, with `--seed`, `--promote`, `--split`, `--workers` optional
abbrev pub gen_of : Option Text → Option SpaceName → Option ℕ → Option ℕ → Option PolicyNames → Option ℕ → Option (Job Text)
gen_of (Some index) (Some space) (Some count) (Some seed) (Some policies) (Some workers) = Some (job.Gen index space count seed policies workers)
gen_of _ _ _ _ _ _ = None

abbrev pub gen_in : Given → Option (Job Text)
gen_in given =
    only (codes "INDEX" ∷ codes "metric" ∷ codes "dim" ∷ codes "count" ∷ codes "seed" ∷ codes "promote" ∷ codes "split" ∷ codes "workers" ∷ []) given
    (gen_of (given (codes "INDEX")) (generated_space_given given) (count_given given) (seed_given given) (policies_given given) (workers_given given))

-- `migrate INDEX --other`
abbrev pub migrate_of : Option Text → Option Text → Option (Job Text)
migrate_of (Some index) (Some other) = Some (job.Migrate index other)
migrate_of _ _ = None

abbrev pub migrate_in : Given → Option (Job Text)
migrate_in given =
    only (codes "INDEX" ∷ codes "other" ∷ []) given
    (migrate_of (given (codes "INDEX")) (given (codes "other")))

-- `batch INDEX`, with `--workers`, `--log`, `--tags` optional
abbrev pub batch_of : Option Text → Option ℕ → Option Text → Option Bool → Option (Job Text)
batch_of (Some index) (Some workers) log (Some show) = Some (job.Batch index workers log show)
batch_of _ _ _ _ = None

abbrev pub batch_in : Given → Option (Job Text)
batch_in given =
    only (codes "INDEX" ∷ codes "workers" ∷ codes "log" ∷ codes "tags" ∷ []) given
    (batch_of (given (codes "INDEX")) (workers_given given) (given (codes "log")) (show_given given))

-- `seal INDEX`
abbrev pub seal_of : Option Text → Option (Job Text)
seal_of (Some index) = Some (job.Seal index)
seal_of None = None

abbrev pub seal_in : Given → Option (Job Text)
seal_in given = only (codes "INDEX" ∷ []) given (seal_of (given (codes "INDEX")))

-- `proof INDEX --log --proof`
abbrev pub carry_of : Option Text → Option Text → Option Text → Option (Job Text)
carry_of (Some index) (Some log) (Some proof) = Some (job.Carry index log proof)
carry_of _ _ _ = None

abbrev pub carry_in : Given → Option (Job Text)
carry_in given =
    only (codes "INDEX" ∷ codes "log" ∷ codes "proof" ∷ []) given
    (carry_of (given (codes "INDEX")) (given (codes "log")) (given (codes "proof")))

-- `proof --log --root`
abbrev pub prove_of : Option Text → Option (List ℕ) → Option (Job Text)
prove_of (Some log) (Some root) = Some (job.Prove log root)
prove_of _ _ = None

abbrev pub prove_in : Given → Option (Job Text)
prove_in given =
    only (codes "log" ∷ codes "root" ∷ []) given
    (prove_of (given (codes "log")) (root_given given))
