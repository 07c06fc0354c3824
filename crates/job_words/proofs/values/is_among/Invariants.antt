use Rattle.std.proofs.Common.{◌≡◌, map, drop}
use Rattle.std.specs.List.{list_any}
use Rattle.std.specs.Str.{bytes_eq}
use Rattle.job_words.proofs.values.is_among.Given as goal

-- what is left decides
abbrev pub invariant-loop-other : goal.invariant-loop-other
invariant-loop-other l = list_any (bytes_eq l.name) (map (λ s. s.now) (drop l.other-index l.names)) ≡ list_any (bytes_eq l.name) (map (λ s. s.now) l.names)
