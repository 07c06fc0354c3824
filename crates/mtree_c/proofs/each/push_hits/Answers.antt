use Rattle.std.proofs.Common.{◌∙◌, rules, arith}
use Rattle.mtree_c.proofs.Putting.{push_more, pushed_all}
use Rattle.mtree_c.proofs.each.push_hits.Goals as goal

pub loop-i-preserved : goal.loop-i-preserved
loop-i-preserved c =
    c.in_ok-push.ensures.items ∙ push_more c.args.hits.now c.args.tags.now c.args.all.now.items c.loop-i.all.items c.loop-i.i (record { id = 0; dist = 0 }) c.requires (search rules) c.loop-i.invariant

pub returns : goal.returns
returns c = pushed_all c.args.hits.now c.args.tags.now c.args.all.now.items c.loop-i.all.items c.loop-i.i c.requires (omega arith) c.loop-i.invariant
