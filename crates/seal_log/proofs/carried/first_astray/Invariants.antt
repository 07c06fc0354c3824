use Rattle.std.proofs.Common.{◌≡◌, drop}
use Rattle.seal_log.specs.Judged.{path_fault}
use Rattle.seal_log.proofs.carried.first_astray.Given as goal

abbrev pub invariant-loop-p : goal.invariant-loop-p
invariant-loop-p l = path_fault l.root l.pages (drop l.p-index l.carried) ≡ path_fault l.root l.pages l.carried
