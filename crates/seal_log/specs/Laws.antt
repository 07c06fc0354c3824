-- What an accepted carried log proves, and which carried logs are accepted.
use Rattle.std.specs.Prelude.{◌≡◌, ◌⊎◌, ◌↔◌, ℕ, List, None}
use Rattle.metric_laws.specs.Space.{Space, IsSpace}
use Rattle.tree_shape.specs.declared.live.Live.{Live}
use Rattle.node_page.specs.declared.head.Head.{Head}
use Rattle.page_store.specs.Files.{IsSoundFile, nodes_in, points_in}
use Rattle.log_model.specs.declared.logs.Log.{Log}
use Rattle.log_model.specs.Grammar.{IsValidLog}
use Rattle.log_model.specs.Sound.{IsSoundLog}
use Rattle.log_model.specs.Laws.{scan_answers}
use Rattle.prune_log.specs.Ranges.{IsBytes, LogInRange}
use Rattle.seal_log.specs.Digests.{Digest, leaf_digests, root_digest, hashed_for}
use Rattle.seal_log.specs.Collisions.{Collide}
use Rattle.seal_log.specs.Carrying.{Carries}
use Rattle.seal_log.specs.Judged.{CarriedLog, IsCarried, SpellsCarried, proof_fault, judged_fault, hashed_in}

-- For each file that is sound in the space and whose pages have the carried log's root digest: the log's answers are those of
-- the plain scan of the file's points in order of id. Or else two different byte strings with one digest are found: one of
-- those that are hashed for the file, and one of those that are hashed to check the carried paths.
abbrev pub ShowsAnswers : Space → CarriedLog → Type 0
ShowsAnswers s c =
    (file : List ℕ) (head : Head) (live : Live) → IsSoundFile s head live file → root_digest file live.pages ≡ c.root →
    (c.log.answers ≡ scan_answers s c.log.query (points_in head.dim live file)) ⊎ Collide (hashed_for file live.pages) (hashed_in c)

-- a carried log without a fault shows this
abbrev pub AcceptedLogsShowAnswers : Type 0
AcceptedLogsShowAnswers = (s : Space) (c : CarriedLog) → IsSpace s → IsCarried c → judged_fault s c ≡ None → ShowsAnswers s c

-- bytes have no fault exactly where they spell a carried log whose paths lead to the root
abbrev pub FaultIsNoCarriedLog : Type 0
FaultIsNoCarriedLog = (root : Digest) (bytes : List ℕ) → IsBytes bytes → (proof_fault root bytes ≡ None)
    ↔ ((c : CarriedLog) × (c.root ≡ root) × IsCarried c × SpellsCarried bytes c)

-- A sound file's carried log of a sound log is accepted under the file's root digest, with that log: both when it is read and
-- when it is judged.
pub record IsAccepted (s : Space) (root : Digest) (bytes : List ℕ) (log : Log) : Type 0 where
  pub faultless : proof_fault root bytes ≡ None
  pub judged : (c : CarriedLog) → c.root ≡ root → IsCarried c → SpellsCarried bytes c → (judged_fault s c ≡ None) × (c.log ≡ log)

abbrev pub CarriedLogsAreAccepted : Type 0
CarriedLogsAreAccepted =
    (s : Space) (head : Head) (live : Live) (file : List ℕ) (log : Log) (bytes : List ℕ) → IsSoundFile s head live file →
    IsValidLog log → LogInRange log → IsSoundLog s (nodes_in head.dim live file) live log → Carries file (leaf_digests file live.pages) log bytes →
    IsAccepted s (root_digest file live.pages) bytes log
