-- What a proved frame means.
use Rattle.std.specs.Prelude.{List, ℕ}
use Rattle.seal_log.specs.Judged.{CarriedLog}
use Rattle.seal_log.specs.Laws.{ShowsAnswers}
use Rattle.job_files.specs.Spaces.{space_of}
use Rattle.job_seal.specs.Proofs.{IsAccepted}

-- an accepted carried log shows its answers in the space of its head
abbrev pub AcceptedShow : Type 0
AcceptedShow = (root body : List ℕ) (c : CarriedLog) → IsAccepted root body c → ShowsAnswers (space_of c.head) c
