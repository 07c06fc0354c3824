use Rattle.std.proofs.Common.{◌≡◌, ◌-◌, ◌++◌}
use Rattle.std.specs.List.{range_with_len}
use Rattle.index_core.proofs.loading.tags_of.Given as goal

abbrev pub invariant-loop-row : goal.invariant-loop-row
invariant-loop-row l = l.tags.items ++ range_with_len l.row (l.rows - l.row) ≡ range_with_len 0 l.rows
