use Rattle.std.proofs.Common.{◌≡◌, ◌++◌, take}
use Rattle.std.specs.Prelude.{flat_map}
use Rattle.rows_text.specs.Texts.{pair_line}
use Rattle.rows_text.proofs.text.push_pairs.Given as goal

-- the lines of those so far are written
abbrev pub invariant-loop-pair : goal.invariant-loop-pair
invariant-loop-pair l = l.out.items ≡ l.fn.out.items ++ flat_map pair_line (take l.pair-index l.pairs)
