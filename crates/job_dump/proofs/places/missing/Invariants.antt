use Rattle.std.proofs.Common.{◌≡◌, ◌<◌, ℕ, get_or}
use Rattle.job_dump.proofs.places.missing.Given as goal

-- each of those so far has a place
abbrev pub invariant-loop-id : goal.invariant-loop-id
invariant-loop-id l = (k : ℕ) → k < l.id → get_or l.numbers k 0 ≡ 0 → ⊥
