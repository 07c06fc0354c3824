use Rattle.std.proofs.Common.{◌<◌, arith, rules, length, get_or, false}
use Rattle.bulk_load.proofs.Received.{tally_room, tally_step}
use Rattle.bulk_load.proofs.filling.tally.Goals as goal

pub overflow_add-index_mut : goal.overflow_add-index_mut
overflow_add-index_mut c =
    let low : (get_or c.args.placed.now c.loop-p.p-index (record { group = 0; is_seed = false })).group < length c.loop-p.counts.items =
    let r = c.requires c.loop-p.p-index (record { group = 0; is_seed = false }) c.loop-p-test.true in let o = c.loop-p.counts.ok in let v = c.loop-p.invariant.0 in omega arith in
    let h = tally_room c.loop-p.counts.items c.args.placed.now c.loop-p.p-index _ _ low c.index_mut.ensures.value c.loop-p.invariant.1 in search rules

pub loop-p-preserved : goal.loop-p-preserved
loop-p-preserved c =
    let low : (get_or c.args.placed.now c.loop-p.p-index (record { group = 0; is_seed = false })).group < length c.loop-p.counts.items =
    let r = c.requires c.loop-p.p-index (record { group = 0; is_seed = false }) c.loop-p-test.true in let o = c.loop-p.counts.ok in let v = c.loop-p.invariant.0 in omega arith in
    (c.loop-p.invariant.0, tally_step c.loop-p.counts.items c.args.placed.now c.loop-p.p-index _ (record { group = 0; is_seed = false }) c.loop-p-test.true low c.index_mut.ensures.value c.loop-p.invariant.1)
