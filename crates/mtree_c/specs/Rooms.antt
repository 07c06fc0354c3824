-- What is put into a caller's buffers.
use Rattle.std.specs.Prelude.{◌≡◌, ◌≢◌, ◌<◌, ℕ, List, length}
use Rattle.caller_ends.specs.Rooms.{StandAtFront}

-- The buffer holds a whole text and the status is the text's. Or the status is 4, and the buffer, which has no room for the text, is as
-- it was. In both cases the text's size is given. Or the status is 8, because memory ran out, and the buffer is as it was.
pub record HandsText (IsText : List ℕ → ℕ → Type 0) (before after : List ℕ) (size status : ℕ) : Type 0 where
  pub done : status ≢ 4 → status ≢ 8 → (text : List ℕ) × IsText text status × StandAtFront text before after × (size ≡ length text)
  pub short : status ≡ 4 → (text : List ℕ) × (of : ℕ) × IsText text of × (after ≡ before) × (size ≡ length text) × (length before < size)
  pub memory : status ≡ 8 → (after ≡ before) × (size ≡ 0)
