use Rattle.std.proofs.Common.{◌≡◌, ◌≤◌, ◌++◌, drop, length}
use Rattle.rows_text.specs.Texts.{tagged_lines}
use Rattle.rows_text.proofs.text.push_tagged.Given as goal

-- the lines so far and those of the other hits are all
abbrev pub invariant-loop-i : goal.invariant-loop-i
invariant-loop-i l = record {
  all : l.out.items ++ tagged_lines (drop l.i l.hits) (drop l.i l.tags) ≡ l.fn.out.items ++ tagged_lines l.hits l.tags;
  longer : length l.fn.out.items ≤ length l.out.items;
}
