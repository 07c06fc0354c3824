use Rattle.std.proofs.Common.{◌≡◌, ◌++◌, ◌-◌, length}
use Rattle.rows_text.specs.Meaning.{numbers_from}
use Rattle.plain_scan.proofs.list.ids.Given as goal

-- the ids so far and those to come are all
abbrev pub invariant-loop-id : goal.invariant-loop-id
invariant-loop-id l = record {
  all : l.ids.items ++ numbers_from l.id (l.count - l.id) ≡ numbers_from 0 l.count;
  count : length l.ids.items ≡ l.id;
}
