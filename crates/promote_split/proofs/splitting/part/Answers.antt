use Rattle.std.proofs.Common.{◌≡◌, rules, arith, ◌∷◌, reverse}
use Rattle.std.proofs.lemmas.Grind.{common_steps}
use Rattle.tree_growth.specs.declared.rules.Side.TheVariants.{First, Second}
use Rattle.promote_split.proofs.Least.{half_more}
use Rattle.promote_split.proofs.splitting.part.Goals as goal

pub loop-i-preserved : goal.loop-i-preserved
loop-i-preserved g c =
    let next : reverse c.loop-i.entries.items ≡ c.in-Some.entry ∷ reverse c.pop.new.self.items = grind (arith, common_steps, c.in-Some.ensures.items) in
    record {
      rest = search rules;
      first = half_more g.E.Entry.with_parent First c.args.first.now c.args.sides.now _ c.loop-i.i c.in-Some.entry _ _ _ _ _ (search rules) (search rules) next c.in_ok-put.ensures.first c.loop-i.invariant.first;
      second = half_more g.E.Entry.with_parent Second c.args.second.now c.args.sides.now _ c.loop-i.i c.in-Some.entry _ _ _ _ _ (search rules) (search rules) next c.in_ok-put.ensures.second c.loop-i.invariant.second;
    }
