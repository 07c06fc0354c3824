use Rattle.std.proofs.Common.{◌≡◌, ◌++◌, take}
use Rattle.tree_audit.proofs.parts.note_all.Given as goal

abbrev pub invariant-loop-number : goal.invariant-loop-number
invariant-loop-number l = record {
  limit : l.met.limit ≡ l.fn.met.limit;
  met : l.met.met ≡ l.fn.met.met ++ take l.number-index l.numbers;
}
