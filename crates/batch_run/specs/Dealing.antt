-- How the places of a piece of work are dealt out among workers.
use Rattle.std.specs.Prelude.{◌≡◌, ◌≢◌, ℕ, ◌+◌, ◌-◌, ◌*◌, ◌/◌, ◌%◌, ◌^◌, ◌<◌, ◌≤◌, List, length, Option, Some, None, Result, Ok, slice_get, if◌then◌else◌, nat_lt}
use Rattle.std.specs.declared.alloc.AllocError.{AllocError}

-- a number of rounds; each round gives each of `workers` workers one place
pub record Rounds : Type 0 where
  pub rounds : ℕ
  pub workers : ℕ

-- there is a round and a worker, and there are not too many of them
abbrev pub IsDeal : Rounds → Type 0
IsDeal d = (1 ≤ d.rounds) × (d.rounds < 2 ^ 33) × (1 ≤ d.workers) × (d.workers ≤ 64)

-- the shift of a round's turns: each round shifts by one more, and after every `workers` rounds by one more still
abbrev pub shift_of : Rounds → ℕ → ℕ
shift_of d round = (round + round / d.workers) % d.workers

-- the sum of two numbers below the number of workers, modulo that number
abbrev pub wound : ℕ → ℕ → ℕ
wound workers n = if nat_lt n workers then n else n - workers

-- the place that is dealt to a seat: the first worker has the first seats, one for each round, then comes the second
abbrev pub place_of : Rounds → ℕ → ℕ
place_of d seat = seat % d.rounds * d.workers + wound d.workers (seat / d.rounds + shift_of d (seat % d.rounds))

-- each seat whose place is below the count holds something
abbrev pub AreSeated : {X : Type 0} → Rounds → ℕ → List (Option (Result X AllocError)) → Type 0
AreSeated {X} d count seats = (length seats ≡ d.rounds * d.workers) × ((seat : ℕ) → seat < length seats → place_of d seat < count →
    slice_get seats seat ≢ Some None)

-- in the order of the places: at each place below the count what its seat holds
abbrev pub AreInOrder : {X : Type 0} → Rounds → ℕ → List (Option (Result X AllocError)) → List X → Type 0
AreInOrder {X} d count seats xs =
    (length xs ≡ count) × ((place : ℕ) (x : X) → slice_get xs place ≡ Some x → (seat : ℕ) × (place_of d seat ≡ place)
    × (slice_get seats seat ≡ Some (Some (Ok x))))
