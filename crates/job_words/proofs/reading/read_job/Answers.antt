use Rattle.std.proofs.Common.{◌∙◌, inl, inr, sym, ap, subst}
use Rattle.clap.specs.Words.{App, IsAmong, fault_of, found_of, is_simple, is_simple_and_free, kind_of, matches_of, rows_of}
use Rattle.job_words.specs.Words.{texts_of}
use Rattle.std.specs.Option.{option_map}
use Rattle.job_words.specs.Jobs.{texts_in}
use Rattle.job_words.proofs.JobLemmas.{is_simple_line, is_free_line, job_given, job_refused}
use Rattle.job_words.proofs.reading.read_job.Goals as goal

pub returns-in-Some-clause-job : goal.returns-in-Some-clause-job
returns-in-Some-clause-job c =
    let line = c.in-Ok.ensures in
    let none = c.in-Ok-try_get_matches_from.ensures.kinds (ap is_simple_and_free line ∙ is_free_line) in
    let rows = (c.in-Ok-try_get_matches_from.ensures.matches (ap is_simple line ∙ is_simple_line)).0 in
    job_given c.args.words.now (rows_of (found_of c.in-Ok-try_get_matches_from.matches)) (ap (λ (a : App). fault_of a (texts_of c.args.words.now)) (sym line) ∙ none)
    (rows ∙ ap (λ (a : App). matches_of a (texts_of c.args.words.now)) line) ∙ sym c.job_from.ensures.job ∙ ap (option_map texts_in) c.in-Some.is

pub returns-in-Ok-try_get_matches_from-clause-job : goal.returns-in-Ok-try_get_matches_from-clause-job
returns-in-Ok-try_get_matches_from-clause-job c =
    let line = c.in-Ok.ensures in
    let none = c.in-Ok-try_get_matches_from.ensures.kinds (ap is_simple_and_free line ∙ is_free_line) in
    let rows = (c.in-Ok-try_get_matches_from.ensures.matches (ap is_simple line ∙ is_simple_line)).0 in
    job_given c.args.words.now (rows_of (found_of c.in-Ok-try_get_matches_from.matches)) (ap (λ (a : App). fault_of a (texts_of c.args.words.now)) (sym line) ∙ none)
    (rows ∙ ap (λ (a : App). matches_of a (texts_of c.args.words.now)) line) ∙ sym c.job_from.ensures.job ∙ ap (option_map texts_in) c.in-None.is

pub returns-clause-job : goal.returns-clause-job
returns-clause-job c =
    let line = c.in-Ok.ensures in
    elim (c.in-Err.ensures.kinds (ap is_simple_and_free line ∙ is_free_line)) [
      | inl memory ↦ absurd (c.in_default-kind.not-OutOfMemory (c.kind.ensures ∙ memory))
      | inr among ↦ job_refused c.args.words.now (kind_of c.in-Err.error)
          (subst (λ (a : App). IsAmong (kind_of c.in-Err.error) (fault_of a (texts_of c.args.words.now))) line among)
    ]
