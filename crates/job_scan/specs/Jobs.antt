-- What a scan writes, by its status.
use Rattle.std.specs.Prelude.{◌≡◌, ◌⊎◌, ℕ, Bool, List, [], ◌++◌, codes}
use Rattle.std.specs.List.{concat}
use Rattle.std.specs.Io.KnownBytes.{Appends}
use Rattle.outside_io.specs.Causes.{Rose}
use Rattle.outside_io.specs.Sinks.{SinkState}
use Rattle.job_words.specs.Names.{kind_of}
use Rattle.job_words.specs.declared.names.SpaceName.{SpaceName}
use Rattle.metric_mix.specs.MixSpaces.{mix_space}
use Rattle.plain_scan.specs.Written.{IsFrontOf, first_text, reply_texts}
use Rattle.answer_texts.specs.Ending.{IsTold}
use Rattle.rows_text.specs.Meaning.{Setting}
use Rattle.rows_text.specs.Script.{script}

-- a scan: its space, the greatest number of objects, and whether tags are shown
pub record Asked : Type 0 where
  pub space : SpaceName
  pub limit : ℕ
  pub show : Bool

-- the space and the limit of a scan
abbrev pub setting_of : Asked → Setting
setting_of asked = record { space = mix_space (kind_of asked.space.metric) asked.space.dim; limit = asked.limit }

-- the texts of the replies to a script
abbrev pub scan_texts : Asked → List ℕ → List (List ℕ)
scan_texts asked bytes = reply_texts (setting_of asked) asked.show (script asked.space.dim bytes)

-- What is on out when a scan ends with a status: the acknowledged replies, then `rest`. `more` are the texts of the replies that
-- were not acknowledged.
pub record Ends (Failed : Type 0) (status : ℕ) (acknowledged more : List (List ℕ)) (rest : List ℕ) : Type 0 where
  pub done : status ≡ 0 → (more ≡ []) × (rest ≡ [])
  pub input : status ≡ 3 → (acknowledged ≡ []) × IsTold Failed rest (codes "fault input\n")
  pub output : status ≡ 4 → IsFrontOf rest (first_text more)
  pub long : status ≡ 7 → (acknowledged ≡ []) × IsTold Failed rest (codes "fault long\n")
  pub memory : status ≡ 8 → IsTold Failed rest (codes "fault memory\n")

-- a scan put the first of the texts, each whole, and then what its status says
pub record WritesScan (old new : SinkState) (texts : List (List ℕ)) (status : ℕ) : Type 0 where
  pub acknowledged : List (List ℕ)
  pub more : List (List ℕ)
  pub rest : List ℕ
  pub whole : texts ≡ acknowledged ++ more
  pub ends : Ends (Rose old.faults new.faults) status acknowledged more rest
  pub written : Appends old.written new.written (concat acknowledged ++ rest)

-- the statuses of a scan
abbrev pub IsScanStatus : ℕ → Type 0
IsScanStatus n = (n ≡ 0) ⊎ ((n ≡ 3) ⊎ ((n ≡ 4) ⊎ ((n ≡ 7) ⊎ (n ≡ 8))))
