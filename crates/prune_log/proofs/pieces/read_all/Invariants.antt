use Rattle.std.proofs.Common.{◌≡◌, ◌-◌, None}
use Rattle.prune_log.specs.Reading.{many}
use Rattle.prune_log.proofs.Loop.{with_front, last_of}
use Rattle.prune_log.proofs.pieces.read_all.Given as goal

abbrev pub invariant-loop : goal.invariant-loop
invariant-loop g l =
    with_front l.pieces.items (many g.P.Piece.reads g.P.Piece.follows (l.count - l.counter) (last_of l.pieces.items) l.rest) ≡ many g.P.Piece.reads g.P.Piece.follows l.count None l.bytes
