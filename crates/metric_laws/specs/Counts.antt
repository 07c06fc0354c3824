-- Counts that stand still at the end of 64 bits.
use Rattle.std.specs.Prelude.{◌≡◌, ℕ, zero, suc, ◌+◌, ◌-◌, ◌^◌, ◌≤◌, min}

-- one more, up to the greatest `u64`
abbrev pub next_count : ℕ → ℕ
next_count n = min (n + 1) (2 ^ 64 - 1)

-- a count after `n` steps of one, each up to the greatest `u64`
abbrev pub count_up : ℕ → ℕ → ℕ
count_up count zero = count
count_up count (suc n) = count_up (next_count count) n

-- a count rose in at most `most` steps of one
abbrev pub CountsUpTo : ℕ → ℕ → ℕ → Type 0
CountsUpTo old new most = (n : ℕ) × (n ≤ most) × (new ≡ count_up old n)
