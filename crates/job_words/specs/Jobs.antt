-- The job of the words of the command line.
use Rattle.std.specs.Prelude.{◌≡◌, List, codes, Option, Some, None, Result, Ok, Err, if◌then◌else◌, ⊤}
use Rattle.std.specs.Borrow.{Bor}
use Rattle.std.specs.Option.{option_and_then, option_map, is_some}
use Rattle.std.specs.Str.{bytes_eq}
use Rattle.clap.specs.Words.{Text}
use Rattle.job_words.specs.Given.{Given}
use Rattle.job_words.specs.Read.{nothing_read, read_words, value_in}
use Rattle.job_words.specs.Rows.{audit_in, batch_in, carry_in, check_in, create_in, dump_in, gen_in, join_in, migrate_in, prove_in, scan_in, seal_in, session_in, shape_in, show_in, stats_in, verify_in}
use Rattle.job_words.specs.declared.job.Job.{Job}
use Rattle.job_words.specs.declared.job.Job.TheVariants.{Scan, Create, Session, Shape, Stats, Dump, Show, Audit, Verify, Check, Join, Gen, Migrate, Batch, Seal, Carry, Prove}
use Rattle.job_words.specs.declared.job.JobFault.{JobFault}
use Rattle.job_words.specs.declared.job.JobFault.TheVariants.{Usage, Memory}

-- `proof` has a row with INDEX and a row without
abbrev pub proof_in : Given → Option (Job Text)
proof_in given = if is_some (given (codes "INDEX")) then carry_in given else prove_in given

-- the job of a command, where its row of the table accepts what is given
abbrev pub job_named : Given → Text → Option (Job Text)
job_named given command =
    if bytes_eq command (codes "scan") then scan_in given
    else if bytes_eq command (codes "create") then create_in given
    else if bytes_eq command (codes "session") then session_in given
    else if bytes_eq command (codes "shape") then shape_in given
    else if bytes_eq command (codes "stats") then stats_in given
    else if bytes_eq command (codes "dump") then dump_in given
    else if bytes_eq command (codes "show") then show_in given
    else if bytes_eq command (codes "audit") then audit_in given
    else if bytes_eq command (codes "verify") then verify_in given
    else if bytes_eq command (codes "check") then check_in given
    else if bytes_eq command (codes "join") then join_in given
    else if bytes_eq command (codes "gen") then gen_in given
    else if bytes_eq command (codes "migrate") then migrate_in given
    else if bytes_eq command (codes "batch") then batch_in given
    else if bytes_eq command (codes "seal") then seal_in given
    else if bytes_eq command (codes "proof") then proof_in given
    else None

abbrev pub job_in : Given → Option (Job Text)
job_in given = option_and_then (job_named given) (given (codes "COMMAND"))

-- the job of words
abbrev pub job_of : List Text → Option (Job Text)
job_of words = option_and_then (λ values. job_in (value_in values)) (read_words nothing_read words)

-- a job with the texts of its names
abbrev pub texts_in : Job (Bor Text) → Job Text
texts_in (Scan space limit show) = Scan space limit show
texts_in (Create index space policies limit) = Create index.now space policies limit
texts_in (Session index log workers show) = Session index.now (option_map (λ s. s.now) log) workers show
texts_in (Shape index) = Shape index.now
texts_in (Stats index) = Stats index.now
texts_in (Dump index) = Dump index.now
texts_in (Show index log other counts) = Show index.now log.now (option_map (λ s. s.now) other) counts
texts_in (Audit index workers) = Audit index.now workers
texts_in (Verify index log other) = Verify index.now log.now (option_map (λ s. s.now) other)
texts_in (Check index log other) = Check index.now log.now (option_map (λ s. s.now) other)
texts_in (Join index other radius log) = Join index.now other.now radius (option_map (λ s. s.now) log)
texts_in (Gen index space count seed policies workers) = Gen index.now space count seed policies workers
texts_in (Migrate index other) = Migrate index.now other.now
texts_in (Batch index workers log show) = Batch index.now workers (option_map (λ s. s.now) log) show
texts_in (Seal index) = Seal index.now
texts_in (Carry index log proof) = Carry index.now log.now proof.now
texts_in (Prove log root) = Prove log.now root

-- the result is the job, or memory ran out; the words are refused only where they have no job
abbrev pub AnswersJob : Option (Job Text) → Result (Job (Bor Text)) JobFault → Type 0
AnswersJob job (Ok found) = job ≡ Some (texts_in found)
AnswersJob job (Err Usage) = job ≡ None
AnswersJob job (Err Memory) = ⊤
