use Rattle.std.proofs.Common.{◌≡◌, map, drop}
use Rattle.std.specs.List.{list_any}
use Rattle.job_words.specs.Found.{given_in}
use Rattle.job_words.specs.Given.{is_other}
use Rattle.job_words.proofs.values.has_other_option.Given as goal

-- what is left decides
abbrev pub invariant-loop-option : goal.invariant-loop-option
invariant-loop-option l =
    list_any (is_other (map (λ s. s.now) l.names) (given_in l.matches)) (map (λ s. s.now) (drop l.option-index l.options))
    ≡ list_any (is_other (map (λ s. s.now) l.names) (given_in l.matches)) (map (λ s. s.now) l.options)
