-- What a call hands over of carried logs.
use Rattle.std.specs.Prelude.{◌≡◌, ◌≢◌, ◌⊎◌, ◌<◌, ◌^◌, ℕ, List, [], length, codes, Some}
use Rattle.page_store.specs.Files.{IsLarge}
use Rattle.job_seal.specs.Carries.{CarriesOn, IsDone}
use Rattle.mtree_c.specs.declared.carrying.CarriedSizes.{CarriedSizes}
use Rattle.caller_ends.specs.Rooms.{StandAtFront}
use Rattle.mtree_c.specs.Texts.{IsUnopenedText}

-- The frames of carried logs and the lines on them. Status 0 and 1: each log without a fault has its frame, and each log its line, and
-- then comes the last line; 6: the bytes are no file of version 2; 7: there are more than 2^30 bytes of logs, or the file has more pages
-- than are sealed.
pub record IsCarriedText (file logs frames text : List ℕ) (status : ℕ) : Type 0 where
  pub carried : IsDone status → CarriesOn file logs (Some []) (Some frames) (Some []) (Some text) status
  pub no_index : status ≡ 6 → IsUnopenedText file text × (frames ≡ [])
  pub long : status ≡ 7 → (text ≡ codes "fault long\n") × (frames ≡ []) × ((2 ^ 30 < length logs) ⊎ IsLarge file)
  pub statuses : (status ≡ 0) ⊎ ((status ≡ 1) ⊎ ((status ≡ 6) ⊎ (status ≡ 7)))

abbrev pub carried_sizes : List ℕ → List ℕ → CarriedSizes
carried_sizes frames text = record { carried = length frames; text = length text }

-- The buffers hold the frames and the text, and the status is theirs. Or the status is 4, and one of the buffers has no room for its part.
-- In both cases the sizes of both are given. Or the status is 8, because memory ran out. At 4 and 8 both buffers are as they were.
pub record HandsCarried (Is : List ℕ → List ℕ → ℕ → Type 0) (carried0 carried1 text0 text1 : List ℕ) (sizes : CarriedSizes) (status : ℕ) : Type 0 where
  pub done : status ≢ 4 → status ≢ 8 → (frames : List ℕ) × (text : List ℕ) × Is frames text status × StandAtFront frames carried0 carried1
      × StandAtFront text text0 text1 × (sizes ≡ carried_sizes frames text)
  pub short : status ≡ 4 → (frames : List ℕ) × (text : List ℕ) × (of : ℕ) × Is frames text of × (sizes ≡ carried_sizes frames text)
      × ((length carried0 < length frames) ⊎ (length text0 < length text))
  pub memory : status ≡ 8 → (sizes.carried ≡ 0) × (sizes.text ≡ 0)
  pub same : (status ≡ 4) ⊎ (status ≡ 8) → (carried1 ≡ carried0) × (text1 ≡ text0)
