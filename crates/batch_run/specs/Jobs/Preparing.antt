-- What is prepared for the commands of a batch.
use Rattle.std.specs.Prelude.{◌≡◌, ℕ, ◌+◌, ◌-◌, ◌*◌, ◌/◌, ◌%◌, ◌<◌, ◌≤◌, Bool, List, [], ◌∷◌, ◌++◌, length, take, drop, Some, slice_get}
use Rattle.metric_laws.specs.Space.{Space}
use Rattle.rows_text.specs.declared.command.Command.{Command}
use Rattle.rows_text.specs.Texts.{text}
use Rattle.tree_shape.specs.declared.live.Live.{Live}
use Rattle.answer_texts.specs.Answered.{framed, if_any}
use Rattle.image_answers.specs.declared.outcome.Outcome.{Outcome}
use Rattle.image_answers.specs.declared.outcome.Outcome.TheVariants as outcome
use Rattle.image_answers.specs.Outcomes.{IsOutcomeOf}
use Rattle.batch_run.specs.declared.jobs.piles.Mark.{Mark}
use Rattle.batch_run.specs.declared.jobs.piles.Mark.TheVariants as mark
use Rattle.batch_run.specs.declared.jobs.piles.Pile.{Pile}
use Rattle.batch_run.specs.declared.jobs.piles.Prepared.{Prepared}
use Rattle.batch_run.specs.declared.jobs.piles.Prepared.TheVariants as prepared
use Rattle.batch_run.specs.declared.jobs.piles.Span.{Span}
use Rattle.batch_run.specs.Dealing.{Rounds, place_of}

-- for an answer, the text of its reply and the frame of its log are prepared, and for a damaged page only its name
abbrev pub IsPrepared : Bool → Outcome → Prepared → Type 0
IsPrepared show (outcome.Done r log) (prepared.Said reply frame) = (reply.now ≡ text show r) × (frame.now ≡ framed (if_any log))
IsPrepared show (outcome.Damaged fault) (prepared.Damaged named) = named ≡ fault
IsPrepared show _ _ = ⊥

-- what is prepared for a command: that of its outcome on an image
abbrev pub IsPreparedFor : Space → Live → List ℕ → Bool → Command → Prepared → Type 0
IsPreparedFor s live image show c p = (o : Outcome) × IsOutcomeOf s live image c o × IsPrepared show o p

-- ---- piles

-- the span lies within `size` bytes
abbrev pub IsWithin : ℕ → Span → Type 0
IsWithin size span = (span.from ≤ span.to) × (span.to ≤ size)

-- the bytes of a span
abbrev pub spanned : List ℕ → Span → List ℕ
spanned bytes span = take (span.to - span.from) (drop span.from bytes)

-- where a mark says, a pile has the text of the outcome's reply and the frame of its log
abbrev pub IsMarked : Bool → Outcome → Pile → Mark → Type 0
IsMarked show (outcome.Done r log) pile (mark.Said reply frame) =
    (IsWithin (length pile.replies.items) reply × (text show r ≡ spanned pile.replies.items reply))
    × (IsWithin (length pile.frames.items) frame × (framed (if_any log) ≡ spanned pile.frames.items frame))
IsMarked show (outcome.Damaged fault) pile (mark.Damaged named) = named ≡ fault
IsMarked show _ pile _ = ⊥

-- a mark for the outcome was added to a pile, and nothing that was there was changed
pub record HasMore (show : Bool) (o : Outcome) (pile0 pile1 : Pile) : Type 0 where
  pub mark : Mark
  pub added : pile1.marks.items ≡ pile0.marks.items ++ mark ∷ []
  pub marked : IsMarked show o pile1 mark
  pub replies : (more : List ℕ) × (pile1.replies.items ≡ pile0.replies.items ++ more)
  pub frames : (more : List ℕ) × (pile1.frames.items ≡ pile0.frames.items ++ more)

-- a mark for the outcome of the command was added
abbrev pub HasMoreFor : Space → Live → List ℕ → Bool → Command → Pile → Pile → Type 0
HasMoreFor s live image show c pile0 pile1 = (o : Outcome) × IsOutcomeOf s live image c o × HasMore show o pile0 pile1

-- the spans of a mark lie in a pile
abbrev pub LiesIn : Pile → Mark → Type 0
LiesIn pile (mark.Said reply frame) = IsWithin (length pile.replies.items) reply × IsWithin (length pile.frames.items) frame
LiesIn pile (mark.Damaged fault) = Unit {0}

-- what a pile has where a mark says
abbrev pub IsShown : Pile → Mark → Prepared → Type 0
IsShown pile (mark.Said reply frame) (prepared.Said text log) = (text.now ≡ spanned pile.replies.items reply) × (log.now ≡ spanned pile.frames.items frame)
IsShown pile (mark.Damaged fault) (prepared.Damaged named) = named ≡ fault
IsShown pile _ _ = ⊥

-- ---- the piles of all workers

-- A worker's pile after `rounds` rounds: a mark for each command that was dealt to the worker, in the order of the rounds.
pub record IsPileIn (s : Space) (live : Live) (image : List ℕ) (show : Bool) (commands : List Command) (d : Rounds) (rounds worker : ℕ) (pile : Pile) : Type 0 where
  pub marked : (round : ℕ) (m : Mark) → slice_get pile.marks.items round ≡ Some m → (c : Command) × (slice_get commands (place_of d (worker * d.rounds + round)) ≡ Some c)
      × ((o : Outcome) × IsOutcomeOf s live image c o × IsMarked show o pile m)
  pub few : length pile.marks.items ≤ rounds
  pub whole : (round : ℕ) → round < rounds → place_of d (worker * d.rounds + round) < length commands → round < length pile.marks.items

-- each worker's pile when all rounds are dealt
abbrev pub ArePiles : Space → Live → List ℕ → Bool → List Command → Rounds → List Pile → Type 0
ArePiles s live image show commands d piles =
    (length piles ≡ d.workers) × ((worker : ℕ) (pile : Pile) → slice_get piles worker ≡ Some pile → IsPileIn s live image show commands d d.rounds worker pile)

-- what stands at a seat: a mark in the pile of its worker
pub record Stands (d : Rounds) (piles : List Pile) (seat : ℕ) : Type 0 where
  pub pile : Pile
  pub mark : Mark
  pub piled : slice_get piles (seat / d.rounds) ≡ Some pile
  pub marked : slice_get pile.marks.items (seat % d.rounds) ≡ Some mark

-- each seat whose place is below the count has a mark, which lies in its pile
abbrev pub AreStacked : Rounds → ℕ → List Pile → Type 0
AreStacked d count piles = (seat : ℕ) → seat < d.rounds * d.workers → place_of d seat < count → (m : Stands d piles seat) × LiesIn m.pile m.mark

-- in the order of the places: at each place below the count what stands at its seat
abbrev pub AreShown : Rounds → ℕ → List Pile → List Prepared → Type 0
AreShown d count piles all = (length all ≡ count) × ((place : ℕ) (p : Prepared) → slice_get all place ≡ Some p →
    (seat : ℕ) × (place_of d seat ≡ place) × ((m : Stands d piles seat) × IsShown m.pile m.mark p))
