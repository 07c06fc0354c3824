use Rattle.std.proofs.Common.{◌≡◌, ℕ, take, get_or, vec_len}
use Rattle.tree_growth.specs.Groups.{in_group}
use Rattle.bulk_load.proofs.filling.tally.Given as goal

abbrev pub invariant-loop-p : goal.invariant-loop-p
invariant-loop-p l = (vec_len l.counts ≡ l.groups) × ((a : ℕ) → get_or l.counts.items a 0 ≡ in_group a (take l.p-index l.placed))
