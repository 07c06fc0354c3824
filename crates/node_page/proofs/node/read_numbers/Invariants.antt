use Rattle.std.proofs.Common.{◌≡◌, ℕ, ◌+◌, ◌*◌, ◌-◌, ◌<◌, ◌≤◌, length, slice_index}
use Rattle.node_page.specs.Bytes.{number_at}
use Rattle.node_page.proofs.node.read_numbers.Given as goal

-- the numbers so far are the page's
abbrev pub invariant-loop-from : goal.invariant-loop-from
invariant-loop-from l = record {
  low : l.from ≤ l.count;
  len : length l.numbers ≡ l.count;
  read : (k : ℕ) → k < l.from → slice_index l.numbers k ≡ number_at (16 + 4 * k) 4 l.page;
}

abbrev pub decreases-loop-from : goal.decreases-loop-from
decreases-loop-from l = l.count - l.from
