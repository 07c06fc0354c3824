use Rattle.std.proofs.Common.{◌≡◌, ◌-◌, None}
use Rattle.prune_log.proofs.Published.{with_front}
use Rattle.seal_log.specs.Reading.{pages_at}
use Rattle.seal_log.proofs.parts.pages_at.Given as goal

abbrev pub invariant-loop : goal.invariant-loop
invariant-loop l = with_front l.carried.items (pages_at l.pages (l.count - l.counter) l.last l.rest) ≡ pages_at l.pages l.count None l.bytes
