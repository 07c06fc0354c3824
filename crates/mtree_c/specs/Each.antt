-- The answers to a query for each of many points, on the bytes of a file.
use Rattle.std.specs.Prelude.{◌≡◌, ◌≢◌, ◌⊎◌, ◌≤◌, ◌<◌, ◌*◌, ◌^◌, ℕ, List, length, map, Contains, Some}
use Rattle.std.specs.List.{AllZip, flat_map}
use Rattle.metric_laws.specs.Rows.{rows_of}
use Rattle.scan_model.specs.declared.hit.Hit.{Hit}
use Rattle.tree_shape.specs.declared.live.Live.{Live}
use Rattle.node_page.specs.declared.head.Head.{Head}
use Rattle.node_page.specs.Heads.{IsValidHead}
use Rattle.node_page.specs.Opening.{OpensTo}
use Rattle.page_store.specs.declared.image_pages.ImagePages.{ImagePages}
use Rattle.page_store.specs.declared.pages.PageFault.{PageFault}
use Rattle.page_cache.specs.Mapped.{Mapped}
use Rattle.log_model.specs.declared.logs.Log.{Log}
use Rattle.rows_text.specs.declared.command.Command.{Command}
use Rattle.rows_text.specs.declared.command.Command.TheVariants as command
use Rattle.rows_text.specs.declared.reply.Reply.TheVariants as reply
use Rattle.job_files.specs.Jobs.{IsNoIndex}
use Rattle.job_files.specs.Spaces.{space_of}
use Rattle.image_answers.specs.declared.outcome.Outcome.TheVariants as outcome
use Rattle.image_answers.specs.Outcomes.{ArePagesOf}
use Rattle.mtree_c.specs.declared.answering.TaggedHit.{TaggedHit}
use Rattle.mtree_c.specs.declared.each.Ask.{Ask}
use Rattle.mtree_c.specs.declared.each.Ask.TheVariants as asked
use Rattle.caller_ends.specs.Rooms.{StandAtFront}
use Rattle.mtree_c.specs.Answers.{ComesTo, IsNoQuery, tagged}

-- the command that asks this about a point
abbrev pub command_of : Ask → List ℕ → Command
command_of (asked.Range radius) p = command.Range radius p
command_of (asked.Nearest count) p = command.Nearest count p

-- at least one of the nearest is asked for
abbrev pub AsksSome : Ask → Type 0
AsksSome (asked.Range radius) = Unit {0}
AsksSome (asked.Nearest count) = 1 ≤ count

-- the file is of version 2, with this head and this live slot, and these are its pages behind a cache
pub record IsOpened (file : List ℕ) (head : Head) (live : Live) (pages : Mapped ImagePages) : Type 0 where
  pub opens : OpensTo file head live
  pub version : head.version ≡ 2
  pub valid : IsValidHead head
  pub few : live.pages ≤ 2 ^ 24
  pub behind : ArePagesOf (space_of head) live file pages

-- ---- answers

-- the hits with their tags of the answer to what is asked about a point of the file
abbrev pub AreHitsOf : List ℕ → Ask → List ℕ → List TaggedHit → Type 0
AreHitsOf file ask p found =
    (hits : List Hit) × (tags : List ℕ) × (log : Log) × ComesTo file (command_of ask p) (outcome.Done (reply.Hits hits tags) (Some log)) × (found ≡ tagged hits tags)

-- lists of hits, one after another
abbrev pub joined : List (List TaggedHit) → List TaggedHit
joined answers = flat_map (λ (found : List TaggedHit). found) answers

-- the number of hits of each list
abbrev pub counts_of : List (List TaggedHit) → List ℕ
counts_of answers = map (λ (found : List TaggedHit). length found) answers

-- Each point is answered, in order. These are the hits of all answers, one after another, and the number of hits of each.
pub record AnswersTo (file : List ℕ) (ask : Ask) (points : List (List ℕ)) (hits : List TaggedHit) (counts : List ℕ) : Type 0 where
  pub answers : List (List TaggedHit)
  pub each : AllZip (AreHitsOf file ask) points answers
  pub hits_are : hits ≡ joined answers
  pub counts_are : counts ≡ counts_of answers

-- the same for as many points of the file's dimension as there are rows, which stand one after another
pub record AnswersRows (file : List ℕ) (ask : Ask) (points : List ℕ) (rows : ℕ) (hits : List TaggedHit) (counts : List ℕ) : Type 0 where
  pub head : Head
  pub live : Live
  pub opens : OpensTo file head live
  pub version : head.version ≡ 2
  pub long : length points ≡ rows * head.dim
  pub answered : AnswersTo file ask (rows_of head.dim rows points) hits counts

-- ---- why there are no answers

-- one of the rows of points of the file's dimension
pub record IsRow (file points : List ℕ) (rows : ℕ) (p : List ℕ) : Type 0 where
  pub head : Head
  pub live : Live
  pub opens : OpensTo file head live
  pub version : head.version ≡ 2
  pub stands : Contains (rows_of head.dim rows points) p

-- the numbers are not as many as the rows of points of the file's dimension have
pub record IsMislong (file points : List ℕ) (rows : ℕ) : Type 0 where
  pub head : Head
  pub live : Live
  pub opens : OpensTo file head live
  pub version : head.version ≡ 2
  pub other : length points ≢ rows * head.dim

-- Why the points have no answers, by the status. 2: none of the nearest are asked for, or the points have another size, or one of them
-- is not in the file's space; 6: the bytes are no file of version 2; 9: the search of one of them met a damaged page.
pub record HasNoAnswers (file : List ℕ) (ask : Ask) (points : List ℕ) (rows status : ℕ) : Type 0 where
  pub no_query : status ≡ 2 → (ask ≡ asked.Nearest 0) ⊎ (IsMislong file points rows ⊎ ((p : List ℕ) × IsRow file points rows p × IsNoQuery file (command_of ask p)))
  pub no_index : status ≡ 6 → (name : List ℕ) × IsNoIndex file name
  pub damaged : status ≡ 9 → (p : List ℕ) × IsRow file points rows p × ((fault : PageFault) × ComesTo file (command_of ask p) (outcome.Damaged fault))
  pub statuses : (status ≡ 2) ⊎ ((status ≡ 6) ⊎ ((status ≡ 8) ⊎ (status ≡ 9)))

-- ---- what is handed over

-- What a call hands over for as many points as the buffer of counts has places. Status 0: the hits of all answers stand at the front of
-- the buffer of hits, and the numbers of hits fill the buffer of counts; 4: the hits have no room. Where the status isn't 0 the buffers
-- are as they were. Where it is neither 0 nor 4 the size is 0.
pub record HandsEach (file : List ℕ) (ask : Ask) (points : List ℕ) (hits0 hits1 : List TaggedHit) (counts0 counts1 : List ℕ) (size status : ℕ) : Type 0 where
  pub done : status ≡ 0 → (hits : List TaggedHit) × AnswersRows file ask points (length counts0) hits counts1 × StandAtFront hits hits0 hits1 × (size ≡ length hits)
  pub short : status ≡ 4 → (hits : List TaggedHit) × (counts : List ℕ) × AnswersRows file ask points (length counts0) hits counts × (size ≡ length hits) × (length hits0 < size)
  pub unanswered : status ≢ 0 → status ≢ 4 → HasNoAnswers file ask points (length counts0) status × (size ≡ 0)
  pub same : status ≢ 0 → (hits1 ≡ hits0) × (counts1 ≡ counts0)
