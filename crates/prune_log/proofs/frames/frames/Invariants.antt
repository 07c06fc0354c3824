use Rattle.std.proofs.Common.{◌≡◌, ◌+◌, ◌-◌, ◌≤◌, length}
use Rattle.prune_log.specs.Reading.{frames_within, frames_at}
use Rattle.prune_log.proofs.Framing.{behind}
use Rattle.prune_log.proofs.frames.frames.Given as goal

abbrev pub invariant-loop-rest : goal.invariant-loop-rest
invariant-loop-rest g l = record {
  so_far : behind l.logs.items (frames_within g.L.Framed.reads (length l.bytes - length l.logs.items) l.rest) ≡ frames_at g.L.Framed.reads l.bytes;
  enough : length l.rest + length l.logs.items ≤ length l.bytes;
}

abbrev pub decreases-loop-rest : goal.decreases-loop-rest
decreases-loop-rest g l = length l.rest
