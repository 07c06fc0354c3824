-- Numbers and zeros in a page.
use Rattle.std.specs.Prelude.{◌≡◌, ℕ, zero, suc, ◌<◌, ◌≤◌, ◌==◌, ◌&&◌, Bool, true, List, slice_index}
use Rattle.byteorder.specs.Endian.{big_from}

-- the number in `count` bytes from the place `at` on, the highest byte first
unfoldable pub number_at : ℕ → ℕ → List ℕ → ℕ
number_at at count page = big_from at count page

-- each byte from one place up to another is 0
abbrev pub AreZero : ℕ → ℕ → List ℕ → Type 0
AreZero from to page = (k : ℕ) → from ≤ k → k < to → slice_index page k ≡ 0

-- whether `count` bytes from the place `at` on are 0
unfoldable pub are_zero : ℕ → ℕ → List ℕ → Bool
are_zero at zero page = true
are_zero at (suc count) page = (slice_index page at == 0) && are_zero (suc at) count page
