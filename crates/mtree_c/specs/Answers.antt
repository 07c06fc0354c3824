-- The answer of a query on the bytes of a file.
use Rattle.std.specs.Prelude.{◌≡◌, ◌≢◌, ◌⊎◌, ◌<◌, ℕ, List, [], ◌∷◌, length, false, Some, Result, Ok, Err}
use Rattle.std.specs.declared.alloc.AllocError.{AllocError}
use Rattle.scan_model.specs.declared.hit.Hit.{Hit}
use Rattle.tree_shape.specs.declared.live.Live.{Live}
use Rattle.node_page.specs.declared.head.Head.{Head}
use Rattle.node_page.specs.Opening.{OpensTo}
use Rattle.page_store.specs.declared.pages.PageFault.{PageFault}
use Rattle.log_model.specs.declared.logs.Log.{Log}
use Rattle.prune_log.specs.Spelling.{frame_bytes, log_bytes}
use Rattle.rows_text.specs.declared.command.Command.{Command}
use Rattle.rows_text.specs.declared.command.Command.TheVariants as command
use Rattle.rows_text.specs.declared.reply.Reply.TheVariants as reply
use Rattle.rows_text.specs.Meaning.{has_points_of}
use Rattle.job_files.specs.Jobs.{IsNoIndex}
use Rattle.image_answers.specs.declared.outcome.Outcome.{Outcome}
use Rattle.image_answers.specs.declared.outcome.Outcome.TheVariants as outcome
use Rattle.image_answers.specs.Outcomes.{IsOutcomeOf}
use Rattle.mtree_c.specs.declared.answering.TaggedHit.{TaggedHit}
use Rattle.mtree_c.specs.declared.answering.Sizes.{Sizes}
use Rattle.mtree_c.specs.declared.describing.Description.{Description}
use Rattle.caller_ends.specs.Rooms.{StandAtFront}
use Rattle.job_files.specs.Spaces.{space_of}

-- each hit with its tag
abbrev pub tagged : List Hit → List ℕ → List TaggedHit
tagged [] tags = []
tagged (h ∷ hits) [] = []
tagged (h ∷ hits) (tag ∷ tags) = record { id = h.id; distance = h.dist; tag = tag } ∷ tagged hits tags

-- what a head and a live slot say
abbrev pub description_of : Head → Live → Description
description_of head live = record {
  kind = head.kind;
  dim = head.dim;
  promote = head.promote;
  split = head.split;
  limit = head.limit;
  generation = live.generation;
  root = live.root;
  height = live.height;
  count = live.count;
  pages = live.pages;
}

-- The bytes are a file of version 2 and this is what its head and its live slot say; or they are none, and nothing was written.
pub record Describes (file : List ℕ) (old new : Description) (status : ℕ) : Type 0 where
  pub done : status ≡ 0 → (head : Head) × (live : Live) × OpensTo file head live × (head.version ≡ 2) × (new ≡ description_of head live)
  pub no_index : status ≡ 6 → ((name : List ℕ) × IsNoIndex file name) × (new ≡ old)
  pub statuses : (status ≡ 0) ⊎ (status ≡ 6)

-- ---- on the bytes of a file

-- the bytes are a file of version 2, and `o` is the outcome of a command on it
pub record ComesTo (file : List ℕ) (c : Command) (o : Outcome) : Type 0 where
  pub head : Head
  pub live : Live
  pub opens : OpensTo file head live
  pub version : head.version ≡ 2
  pub outcome : IsOutcomeOf (space_of head) live file c o

-- the query asks for none of the nearest, or its point is not in the file's space
abbrev pub IsNoQuery : List ℕ → Command → Type 0
IsNoQuery file c =
    ((q : List ℕ) × (c ≡ command.Nearest 0 q)) ⊎ ((head : Head) × (live : Live) × OpensTo file head live × (head.version ≡ 2)
    × (has_points_of (space_of head) c ≡ false))

-- why a query has no answer, by its status: 2 it was no query; 6 the bytes are no file of version 2; 9 its search met a damaged page
pub record HasNoAnswer (file : List ℕ) (c : Command) (status : ℕ) : Type 0 where
  pub no_query : status ≡ 2 → IsNoQuery file c
  pub no_index : status ≡ 6 → (name : List ℕ) × IsNoIndex file name
  pub damaged : status ≡ 9 → (fault : PageFault) × ComesTo file c (outcome.Damaged fault)
  pub statuses : (status ≡ 2) ⊎ ((status ≡ 6) ⊎ ((status ≡ 8) ⊎ (status ≡ 9)))

-- the status of an outcome that is no answer to a query
abbrev pub status_of : Result Outcome AllocError → ℕ
status_of (Err memory) = 8
status_of (Ok (outcome.Damaged fault)) = 9
status_of (Ok (outcome.Done r log)) = 2

abbrev pub IsUnanswered : Result Outcome AllocError → Type 0
IsUnanswered (Ok (outcome.Done (reply.Hits hits tags) (Some log))) = ⊥
IsUnanswered other = Unit {0}

-- ---- what is handed over

-- hits with their tags, and the log's frame
pub record Answer : Type 0 where
  pub hits : List TaggedHit
  pub frame : List ℕ

-- the frame of a log, where the caller has a buffer for it
abbrev pub frame_for : List ℕ → Log → List ℕ
frame_for [] log = []
frame_for room log = frame_bytes (log_bytes log)

-- the hits with their tags and the log, as they are handed over to a caller with the given buffer for the log
abbrev pub answer_for : List ℕ → List Hit → List ℕ → Log → Answer
answer_for room hits tags log = record { hits = tagged hits tags; frame = frame_for room log }

-- the answer to the query of a command on the file
abbrev pub IsAnswer : List ℕ → Command → List ℕ → Answer → Type 0
IsAnswer file c room a =
    (hits : List Hit) × (tags : List ℕ) × (log : Log) × ComesTo file c (outcome.Done (reply.Hits hits tags) (Some log)) × (a ≡ answer_for room hits tags log)

abbrev pub sizes_of : Answer → Sizes
sizes_of a = record { hits = length a.hits; log = length a.frame }

-- What a query's call hands over. Status 0: the answer stands in the buffers; 4: one of them has no room for its part. Where the status
-- isn't 0 the buffers are as they were. Where it is neither 0 nor 4 the sizes are 0.
pub record HandsAnswer (file : List ℕ) (c : Command) (hits0 hits1 : List TaggedHit) (log0 log1 : List ℕ) (sizes : Sizes) (status : ℕ) : Type 0 where
  pub done : status ≡ 0 → (a : Answer) × IsAnswer file c log0 a × (sizes ≡ sizes_of a) × StandAtFront a.hits hits0 hits1 × StandAtFront a.frame log0 log1
  pub short : status ≡ 4 → (a : Answer) × IsAnswer file c log0 a × (sizes ≡ sizes_of a) × ((length hits0 < length a.hits) ⊎ (length log0 < length a.frame))
  pub unanswered : status ≢ 0 → status ≢ 4 → HasNoAnswer file c status × (sizes ≡ record { hits = 0; log = 0 })
  pub same : status ≢ 0 → (hits1 ≡ hits0) × (log1 ≡ log0)
