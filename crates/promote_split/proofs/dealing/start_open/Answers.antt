use Rattle.std.proofs.Common.{◌≡◌, rules, ◌++◌, ◌∷◌, []}
use Rattle.tree_growth.specs.Dealing.{only_promoted}
use Rattle.promote_split.proofs.Least.{map_more}
use Rattle.promote_split.proofs.dealing.start_open.Goals as goal

pub loop-i-preserved : goal.loop-i-preserved
loop-i-preserved c =
    let pushed : c.push.new.self.items ≡ c.loop-i.sides.items ++ only_promoted c.args.pair.a c.args.pair.b c.loop-i.i ∷ [] = search rules in
    record {
      sides = map_more (only_promoted c.args.pair.a c.args.pair.b) c.loop-i.i c.args.count c.loop-i.sides.items _ _ c.loop-i-test.true pushed c.loop-i.invariant.sides;
      long = search rules;
    }
