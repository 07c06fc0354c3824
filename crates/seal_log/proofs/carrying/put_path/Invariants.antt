use Rattle.std.proofs.Common.{◌≡◌, ◌++◌, take}
use Rattle.std.specs.List.{flat_map}
use Rattle.seal_log.specs.Spelling.{digest_bytes}
use Rattle.seal_log.proofs.carrying.put_path.Given as goal

abbrev pub invariant-loop-digest : goal.invariant-loop-digest
invariant-loop-digest l = l.out.items ≡ l.initial.out.items ++ flat_map digest_bytes (take l.digest-index l.digest-items)
