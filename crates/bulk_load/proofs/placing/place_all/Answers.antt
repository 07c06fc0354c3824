use Rattle.std.proofs.Common.{◌≡◌, ℕ, ◌+◌, ◌-◌, ◌<◌, ◌++◌, ◌∷◌, [], List, length, ap, sym, ◌∙◌, arith, append_assoc}
use Rattle.std.proofs.lemmas.List.Elements.{All-push}
use Rattle.tree_growth.specs.declared.rules.Member.{Member}
use Rattle.tree_growth.specs.Groups.{Far, entry}
use Rattle.bulk_load.proofs.Ahead.{hints_grow}
use Rattle.bulk_load.proofs.placing.place_all.Goals as goal

pub loop-place-preserved : goal.loop-place-preserved
loop-place-preserved g c =
    let far : Far = entry c.args.placing.now.distances.now.table in
    let all : ℕ = length c.args.placing.now.distances.now.table in
    let grown : c.push.new.self.items ≡ c.loop-place.placed.items ++ c.place_one-next.result.0 ∷ [] = c.in_ok-push.ensures.items in
    let step = c.place_one-next.ensures.step (all - c.loop-place.place) (all - (c.loop-place.place + 1)) (let t = c.loop-place-test.true in let o = c.objects-objects.ensures in omega arith) in (
      c.place_one-next.ensures.counts ∙ c.loop-place.invariant.0,
      c.place_one-next.ensures.seeds,
      hints_grow far c.args.placing.now.room c.look_ahead.new.self.first c.loop-place.counts c.place_one-next.new.counts c.look_ahead.new.self.groups.items c.in_ok-look_ahead.ensures c.place_one-next.ensures.grown,
      rw (grown, append_assoc) (ap (λ (r : List Member). c.loop-place.placed.items ++ r) (sym step) ∙ c.loop-place.invariant.3),
      rw grown (All-push (λ (p : Member). p.group < c.args.placing.now.distances.now.width) c.loop-place.placed.items c.place_one-next.result.0 c.loop-place.invariant.4 c.place_one-next.ensures.small),
      (let l = c.in_ok-push.ensures.len in let v = c.loop-place.invariant.5 in omega arith),
    )
