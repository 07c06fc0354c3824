use Rattle.std.proofs.Common.{◌+◌, ◌-◌, ◌≤◌, length}
use Rattle.std.specs.VecDeque.{deque_capacity}
use Rattle.free_pages.specs.Stored.{IsReleasing}
use Rattle.free_pages.proofs.queues.release.Given as goal

abbrev pub invariant-loop : goal.invariant-loop
invariant-loop l = record {
  way : IsReleasing l.least l.fn.free.items l.fn.held.items l.free.items l.held.items (l.count - l.counter);
  fewer : length l.free.items + length l.held.items ≤ length l.fn.free.items + length l.fn.held.items;
  shorter : length l.held.items ≤ length l.fn.held.items;
  free_room : deque_capacity l.fn.free ≤ deque_capacity l.free;
  held_room : deque_capacity l.fn.held ≤ deque_capacity l.held;
}
