use Rattle.std.proofs.Common.{◌≡◌, ◌+◌, ◌++◌, drop, length, reverse}
use Rattle.tree_growth.specs.declared.rules.Side.TheVariants.{First, Second}
use Rattle.promote_split.specs.Steps.{half_entries}
use Rattle.promote_split.proofs.splitting.part.Given as goal

abbrev pub invariant-loop-i : goal.invariant-loop-i
invariant-loop-i g l = record {
  rest : l.i + length l.entries.items ≡ length l.sides;
  first : l.groups.first.items ++ half_entries g.E.Entry.with_parent First (drop l.i l.first) (drop l.i l.sides) (reverse l.entries.items)
      ≡ l.fn.groups.first.items ++ half_entries g.E.Entry.with_parent First l.first l.sides (reverse l.fn.entries.items);
  second : l.groups.second.items ++ half_entries g.E.Entry.with_parent Second (drop l.i l.second) (drop l.i l.sides) (reverse l.entries.items)
      ≡ l.fn.groups.second.items ++ half_entries g.E.Entry.with_parent Second l.second l.sides (reverse l.fn.entries.items);
}
