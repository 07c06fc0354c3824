use Rattle.std.proofs.Common.{◌≡◌, ℕ, ◌<◌, get_or}
use Rattle.free_pages.proofs.queues.take_out.Given as goal

abbrev pub invariant-loop-place : goal.invariant-loop-place
invariant-loop-place l = record {
  same : l.pins.items ≡ l.fn.pins.items;
  others : (k : ℕ) → k < l.place → get_or l.fn.pins.items k 0 ≡ l.generation → ⊥;
}
