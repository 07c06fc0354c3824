use Rattle.std.proofs.Common.{◌≡◌, ◌∙◌, get_or, max, arith}
use Rattle.metric_mix.specs.Sets.{nearest}
use Rattle.metric_mix.proofs.SetPasses.{nearest_fold, farthest_more}
use Rattle.metric_mix.proofs.sets.farthest.Goals as goal

pub loop-x-preserved : goal.loop-x-preserved
loop-x-preserved c =
    let here : c.nearest.result ≡ nearest (get_or c.args.a.now c.loop-x.x-index 0) c.args.b.now =
    c.nearest.ensures ∙ nearest_fold (get_or c.args.a.now c.loop-x.x-index 0) c.args.b.now in
    let more = farthest_more c.loop-x.x-index c.args.a.now c.args.b.now (omega arith) in
    let kept = c.loop-x.invariant in
    let grown : c.max-most.result ≡ max c.loop-x.most c.nearest.result = grind arith in
    omega arith
