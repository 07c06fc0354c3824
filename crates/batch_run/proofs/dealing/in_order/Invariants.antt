use Rattle.std.proofs.Common.{◌≡◌, ℕ, ◌≤◌, length, slice_get}
use Rattle.batch_run.specs.Dealing.{AreInOrder, place_of}
use Rattle.batch_run.proofs.dealing.in_order.Given as goal

abbrev pub invariant-loop-place : goal.invariant-loop-place
invariant-loop-place g l = record {
  many : length l.seats.items ≡ length l.fn.seats.items;
  left : (seat : ℕ) → l.place ≤ place_of (record { rounds = l.deal.rounds; workers = l.deal.workers }) seat → slice_get l.seats.items seat ≡ slice_get l.fn.seats.items seat;
  done : AreInOrder (record { rounds = l.deal.rounds; workers = l.deal.workers }) l.place l.fn.seats.items l.all.items;
}
