use Rattle.std.proofs.Common.{◌≡◌, ℕ, take}
use Rattle.free_pages.specs.Keeping.{is_pinned_below}
use Rattle.free_pages.specs.Stored.{is_below}
use Rattle.free_pages.proofs.queues.least_pin.Given as goal

abbrev pub invariant-loop-pin : goal.invariant-loop-pin
invariant-loop-pin l = (generation : ℕ) → is_below l.least generation ≡ is_pinned_below generation (take l.pin-index l.pins)
