use Rattle.std.proofs.Common.{◌≡◌, ℕ, ◌+◌, ◌<◌, get_or, length}
use Rattle.page_store.proofs.reading.copy_page.Given as goal

abbrev pub invariant-loop-at : goal.invariant-loop-at
invariant-loop-at l = (length l.bytes ≡ 4096) × ((k : ℕ) → k < l.at → get_or l.bytes k 0 ≡ get_or l.file (l.from + k) 0)
