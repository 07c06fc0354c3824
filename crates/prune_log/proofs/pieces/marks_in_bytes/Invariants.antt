use Rattle.std.proofs.Common.{◌≡◌, length, take}
use Rattle.std.specs.List.{flat_map}
use Rattle.prune_log.specs.Spelling.{mark_bytes}
use Rattle.prune_log.proofs.pieces.marks_in_bytes.Given as goal

abbrev pub invariant-loop-place : goal.invariant-loop-place
invariant-loop-place l = (length l.bytes ≡ 32) × (take l.place l.bytes ≡ flat_map mark_bytes (take l.place l.marks))
