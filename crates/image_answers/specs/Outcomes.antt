-- The outcomes of commands on an image, a file in memory. The image and the command alone decide the outcome.
use Rattle.std.specs.Prelude.{◌≡◌, ℕ, min, Bool, true, false, List, [], length, Option, Some, None, MatchOption, Result, Ok, Err, alloc_error}
use Rattle.std.specs.declared.alloc.AllocError.{AllocError}
use Rattle.metric_laws.specs.Space.{Space, bound}
use Rattle.scan_model.specs.declared.hit.Hit.{Hit}
use Rattle.scan_model.specs.declared.query.Query.{Query}
use Rattle.scan_model.specs.declared.query.Query.TheVariants as query
use Rattle.rows_text.specs.declared.command.Command.{Command}
use Rattle.rows_text.specs.declared.command.Command.TheVariants as command
use Rattle.rows_text.specs.declared.refusal.Refusal.TheVariants as refusal
use Rattle.rows_text.specs.declared.reply.Reply.{Reply}
use Rattle.rows_text.specs.declared.reply.Reply.TheVariants as reply
use Rattle.rows_text.specs.Meaning.{TagsAre, step}
use Rattle.tree_shape.specs.declared.live.Live.{Live}
use Rattle.tree_shape.specs.Tree.{Nodes, IsSoundTree}
use Rattle.page_store.specs.declared.pages.PageFault.{PageFault}
use Rattle.page_store.specs.declared.pages.PageFault.TheVariants as page
use Rattle.page_cache.specs.Mapped.{Mapped}
use Rattle.page_store.specs.declared.image_pages.ImagePages.{ImagePages}
use Rattle.page_store.specs.Images.{bytes_in}
use Rattle.page_store.specs.Files.{nodes_in}
use Rattle.page_store.specs.Reading.{Read, nodes_of, reading}
use Rattle.page_store.specs.Shelf.{Shelf, IsDamage}
use Rattle.page_store.specs.Shelves.{image_shelf}
use Rattle.log_model.specs.declared.logs.Log.{Log}
use Rattle.log_model.specs.declared.logs.Found.{Found}
use Rattle.log_model.specs.declared.tagged.TaggedHit.{TaggedHit}
use Rattle.log_model.specs.Grammar.{query_point, IsValidLog}
use Rattle.log_model.specs.Met.{tagged_by}
use Rattle.log_model.specs.Sound.{IsLeastLog, IsLogOf}
use Rattle.log_model.specs.Walk.{search_at}
use Rattle.hit_tags.specs.Tags.{met_tags}
use Rattle.range_search.specs.Searched.{HasWalkCause}
use Rattle.nearest_search.specs.Searched.{HasNearestCause, IsFront}
use Rattle.answer_texts.specs.Answered.{Answered}
use Rattle.answer_texts.specs.Asked.{Held, HasLog, answered_query, held_in, state_of}
use Rattle.image_answers.specs.declared.outcome.Outcome.{Outcome}
use Rattle.image_answers.specs.declared.outcome.Outcome.TheVariants as outcome

-- ---- commands

-- a command as a reader takes it: a command that would change the objects or use a cursor is refused
abbrev pub as_reader : Command → Command
as_reader (command.Insert p) = command.Bad refusal.ReadOnly
as_reader (command.TagInsert tag p) = command.Bad refusal.ReadOnly
as_reader (command.Load rows) = command.Bad refusal.ReadOnly
as_reader (command.TagLoad tags rows) = command.Bad refusal.ReadOnly
as_reader (command.Cursor q) = command.Bad refusal.ReadOnly
as_reader (command.Next cursor n) = command.Bad refusal.ReadOnly
as_reader (command.Close cursor) = command.Bad refusal.ReadOnly
as_reader (command.Range r q) = command.Range r q
as_reader (command.Nearest k q) = command.Nearest k q
as_reader command.Count = command.Count
as_reader (command.Bad why) = command.Bad why

-- ---- what a command means

-- the reply that a command's meaning gives for what a file holds; the limit of objects does not matter, since no object is added
abbrev pub reply_in : Space → Held → ℕ → Command → Reply
reply_in s held limit c = (step (record { space = s; limit = limit }) (state_of held) (as_reader c)).reply

-- A reader's turn: its reply is what the command means, and an answered query has its least log.
pub record IsTurn (s : Space) (held : Held) (turn : Answered) : Type 0 where
  pub meaning : (limit : ℕ) → turn.reply ≡ reply_in s held limit turn.command
  pub logged : HasLog s held (answered_query s turn.command) turn.log

-- the outcome is a turn on what the image holds
abbrev pub IsMeant : Space → Live → List ℕ → Command → Outcome → Type 0
IsMeant s live image c (outcome.Done r log) = IsTurn s (held_in s.dimension live image) (record { command = c; reply = r; log = log })
IsMeant s live image c (outcome.Damaged fault) = ⊥

-- ---- what is known on any image, sound or not

-- the log of a range query is the least one; the log of a k-NN query is a front of a walk with the least marks
abbrev pub FollowsWalk : Space → Nodes → Live → Query → Log → Type 0
FollowsWalk s nodes live (query.Range q r) log = IsLeastLog s nodes live (query.Range q r) log
FollowsWalk s nodes live (query.Nearest q k) log = IsFront s nodes live q k log

-- the answer to a query: its log, the objects that the walk of the log meets, the hits of the log, and the tags that the walk meets for
-- them
pub record IsAnswer (s : Space) (live : Live) (image : List ℕ) (asked : Query) (hits : List Hit) (tags : List ℕ) (log : Log) : Type 0 where
  pub tagged : List TaggedHit
  pub met : tagged ≡ tagged_by s (query_point asked) (nodes_in s.dimension live image) live.root log.records
  pub named : IsLogOf live asked (record { hits = hits; tagged = tagged; log = log })
  pub walk : FollowsWalk s (nodes_in s.dimension live image) live asked log
  pub tags_are : tags ≡ met_tags (nodes_in s.dimension live image) live (record { hits = hits; tagged = tagged; log = log })

-- pages that hold `read` and were asked `asked` times; and the same for the pages of an image
abbrev pub pages_holding : Space → Live → Read → ℕ → Shelf
pages_holding s live read asked = record { dim = s.dimension; pages = live.pages; is_known = true; read = read; asked = asked; reads = 0; faults = 0 }

abbrev pub pages_asked : Space → Live → List ℕ → ℕ → Shelf
pages_asked s live image asked = image_shelf s.dimension live.pages image asked

-- why a search on pages that hold `read` fails after `asked` requests
abbrev pub HasSearchCause : Space → Live → Read → Query → ℕ → PageFault → Type 0
HasSearchCause s live read (query.Range q r) asked = HasWalkCause (search_at s q (min r bound)) live (pages_holding s live read 0)
    (pages_holding s live read asked)
HasSearchCause s live read (query.Nearest q k) asked = HasNearestCause live (pages_holding s live read 0) (pages_holding s live read asked)

-- the search of a query on pages that hold `read` met a damaged page, so the tree on them is not sound
pub record HasDamage (s : Space) (live : Live) (read : Read) (asked : Query) (fault : PageFault) : Type 0 where
  pub damage : IsDamage fault
  pub count : ℕ
  pub cause : HasSearchCause s live read asked count fault
  pub unsound : ¬ IsSoundTree s (nodes_of read) live

-- what is known of the outcome of a command, by the query that it asks, if any
abbrev pub IsTold : Space → Live → List ℕ → Command → Option Query → Outcome → Type 0
IsTold s live image c None (outcome.Done r log) = ((limit : ℕ) → r ≡ reply_in s (held_in s.dimension live image) limit c) × (log ≡ None)
IsTold s live image c None (outcome.Damaged fault) = ⊥
IsTold s live image c (Some asked) (outcome.Done (reply.Hits hits tags) (Some log)) = IsAnswer s live image asked hits tags log
IsTold s live image c (Some asked) (outcome.Damaged fault) = HasDamage s live (reading s.dimension live.pages image) asked fault
IsTold s live image c (Some asked) _ = ⊥

-- ---- outcomes

-- hits have a log that can be spelled, and no other reply has a log
abbrev pub IsLogged : Reply → Option Log → Type 0
IsLogged (reply.Hits hits tags) log = MatchOption log ⊥ IsValidLog
IsLogged other log = log ≡ None

-- an outcome that can be written: it has a log exactly where its reply is hits, and each hit has a tag
abbrev pub IsValid : Outcome → Type 0
IsValid (outcome.Done r log) = TagsAre r × IsLogged r log
IsValid (outcome.Damaged fault) = IsDamage fault

-- the same for an outcome whose tags may be missing where they are not shown
abbrev pub CanBeShown : Bool → Outcome → Type 0
CanBeShown show (outcome.Done r log) = (show ≡ true → TagsAre r) × IsLogged r log
CanBeShown show (outcome.Damaged fault) = IsDamage fault

-- The outcome of a command on an image. On a sound image it is what the command means. On any image it is the answer of its query's
-- walk, or the damaged page that the walk meets, or the reply to a command that is no query.
pub record IsOutcomeOf (s : Space) (live : Live) (image : List ℕ) (c : Command) (o : Outcome) : Type 0 where
  pub meant : IsSoundTree s (nodes_in s.dimension live image) live → IsMeant s live image c o
  pub told : IsTold s live image c (answered_query s c) o
  pub valid : IsValid o

-- a reply, and an outcome, without the tags of its hits
abbrev pub without_tags : Reply → Reply
without_tags (reply.Hits hits tags) = reply.Hits hits []
without_tags r = r

abbrev pub untagged : Outcome → Outcome
untagged (outcome.Done r log) = outcome.Done (without_tags r) log
untagged (outcome.Damaged fault) = outcome.Damaged fault

-- an outcome with tags where they are wanted, and without tags otherwise
abbrev pub as_wanted : Bool → Outcome → Outcome
as_wanted true o = o
as_wanted false o = untagged o

-- what is given of the outcome of a command on an image: all of it, or all but the tags of its hits
abbrev pub IsGivenOf : Bool → Space → Live → List ℕ → Command → Outcome → Type 0
IsGivenOf tags s live image c given = (o : Outcome) × IsOutcomeOf s live image c o × (given ≡ as_wanted tags o)

-- ---- pages of an image

-- the pages of an image behind a cache
pub record ArePagesOf (s : Space) (live : Live) (image : List ℕ) (pages : Mapped ImagePages) : Type 0 where
  pub dim : pages.inner.dim ≡ s.dimension
  pub count : pages.inner.pages ≡ live.pages
  pub bytes : bytes_in pages.inner.image ≡ image

-- ---- the result of a search, and its tags

-- there is one tag for each found hit. Where the search met what the walk of its log meets, the tags are those that the walk meets
pub record AreTagsOf (found : Found) (tags : List ℕ) : Type 0 where
  pub each : length tags ≡ length found.hits
  pub met : (s : Space) (q : List ℕ) (nodes : Nodes) (live : Live) → found.tagged ≡ tagged_by s q nodes live.root found.log.records → tags ≡ met_tags nodes live found

-- what was found is answered, with the tags of its hits where these are wanted
abbrev pub IsTagged : Bool → Found → Outcome → Type 0
IsTagged false found o = o ≡ outcome.Done (reply.Hits found.hits []) (Some found.log)
IsTagged true found o = (tags : List ℕ) × (o ≡ outcome.Done (reply.Hits found.hits tags) (Some found.log)) × AreTagsOf found tags

-- what a page that gave no node means to a query: running out of memory ends it, and any other fault is the outcome
abbrev pub outcome_of_fault : PageFault → Result Outcome AllocError
outcome_of_fault page.Memory = Err alloc_error
outcome_of_fault fault = Ok (outcome.Damaged fault)
