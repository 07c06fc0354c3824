use Rattle.std.proofs.Common.{refl}
use Rattle.seal_log.proofs.Trees.{paired-more, paired-done}
use Rattle.seal_log.proofs.tree.paired.Goals as goal

pub pairs-preserved : goal.pairs-preserved
pairs-preserved c = rw c.in_ok-push.ensures.items (paired-more c.pairs.above.items c.in-Some.next.0 c.pairs.rest.now c.in-Some.next.1.now _ c.in-Some.ensures.some c.pairs.invariant)

pub returns : goal.returns
returns c = paired-done c.pairs.above.items c.pairs.rest.now _ (c.in_default.ensures.none refl) c.pairs.invariant
