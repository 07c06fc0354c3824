use Rattle.std.proofs.Common.{◌≡◌, rules, ◌++◌, ◌∷◌, []}
use Rattle.tree_growth.specs.Dealing.{size}
use Rattle.tree_growth.specs.Dealing.{nearer}
use Rattle.promote_split.proofs.Least.{map_more}
use Rattle.promote_split.proofs.dealing.start_by_nearer.Goals as goal

pub loop-i-preserved : goal.loop-i-preserved
loop-i-preserved c =
    let pushed : c.push.new.self.items ≡ c.loop-i.sides.items ++ nearer c.args.matrix.now c.args.pair.a c.args.pair.b c.loop-i.i ∷ [] = search rules in
    record {
      sides = map_more (nearer c.args.matrix.now c.args.pair.a c.args.pair.b) c.loop-i.i (size c.args.matrix.now) c.loop-i.sides.items _ _ (search rules) pushed c.loop-i.invariant.sides;
      long = search rules;
    }
