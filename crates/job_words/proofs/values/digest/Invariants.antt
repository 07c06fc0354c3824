use Rattle.std.proofs.Common.{◌≡◌, drop}
use Rattle.std.specs.List.{list_all}
use Rattle.job_words.specs.Given.{is_lower_digit}
use Rattle.job_words.proofs.values.digest.Given as goal

-- what is left decides
abbrev pub invariant-loop-byte : goal.invariant-loop-byte
invariant-loop-byte l = list_all is_lower_digit (drop l.byte-index l.text) ≡ list_all is_lower_digit l.text
