use Rattle.index_core.proofs.Loaded.{one_tag}
use Rattle.index_core.proofs.loading.tags_of.Goals as goal

pub loop-row-preserved : goal.loop-row-preserved
loop-row-preserved c = one_tag c.loop-row.row c.args.rows c.loop-row.tags.items _ _ c.loop-row-test.true c.in_ok-push.ensures.items c.loop-row.invariant
