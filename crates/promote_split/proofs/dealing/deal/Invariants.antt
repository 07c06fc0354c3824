use Rattle.std.proofs.Common.{◌≡◌, ◌-◌, ◌<◌}
use Rattle.tree_growth.specs.declared.rules.Side.TheVariants.{First, Second, Open}
use Rattle.tree_growth.specs.Dealing.{size}
use Rattle.tree_growth.specs.Dealing.{in_turn, received}
use Rattle.promote_split.proofs.dealing.deal.Given as goal

abbrev pub invariant-loop-turn : goal.invariant-loop-turn
invariant-loop-turn l = record {
  own : l.own < size l.matrix;
  other : l.other < size l.matrix;
  dealt : in_turn (size l.matrix - l._turn) (received l.matrix l.pair.a l.pair.b l.own Open l.side) (received l.matrix l.pair.a l.pair.b l.other Open l.next) l.sides
      ≡ in_turn (size l.matrix - 2) (received l.matrix l.pair.a l.pair.b l.pair.a Open First) (received l.matrix l.pair.a l.pair.b l.pair.b Open Second) l.fn.sides;
}
