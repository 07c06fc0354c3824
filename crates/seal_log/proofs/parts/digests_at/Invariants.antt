use Rattle.std.proofs.Common.{◌≡◌, ◌-◌, None}
use Rattle.prune_log.specs.Reading.{many, front_at, always}
use Rattle.prune_log.proofs.Published.{with_front, last_of}
use Rattle.seal_log.proofs.parts.digests_at.Given as goal

abbrev pub invariant-loop : goal.invariant-loop
invariant-loop l = with_front l.digests.items (many (front_at 32) always (l.count - l.counter) (last_of l.digests.items) l.rest) ≡ many (front_at 32) always l.count None l.bytes
