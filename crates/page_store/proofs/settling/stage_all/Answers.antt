use Rattle.std.proofs.Common.{◌≡◌, ◌∷◌, arith, reverse}
use Rattle.std.proofs.lemmas.Grind.{common_steps}
use Rattle.page_store.proofs.settling.stage_all.Goals as goal
use Rattle.page_store.specs.Numbers.{number_at}
use Rattle.page_store.proofs.Given.{numbered_more, lower_more, number_up}

pub loop-place-preserved : goal.loop-place-preserved
loop-place-preserved c =
    let next : reverse c.loop-place.nodes.items ≡ c.in-Some.node ∷ reverse c.pop.new.self.items = grind (arith, common_steps, c.in-Some.ensures.items) in
    record {
      rest = (let r = c.loop-place.invariant.rest in let m = c.in-Some.ensures.len in omega arith);
      staged = numbered_more (number_at c.args.numbering.now.numbers.now c.args.numbering.now.first) c.loop-place.place c.page_at.result c.in-Some.node c.loop-place.staged _ _ _ _ c.page_at.ensures c.in_ok-stage.ensures.ok next c.loop-place.invariant.staged;
      low = rw c.in_ok-stage.ensures.ok (lower_more c.loop-place.staged (record { page = c.page_at.result; node = c.in-Some.node }) (number_at c.args.numbering.now.numbers.now c.args.numbering.now.first c.loop-place.place) _
          c.loop-place.invariant.low c.page_at.ensures (number_up c.args.numbering.now.numbers.now c.args.numbering.now.first c.requires.numbers c.loop-place.place));
    }
