use Rattle.std.proofs.Common.{rules}
use Rattle.test_growth.proofs.Staged.{staged_at}
use Rattle.test_growth.proofs.paths.write_staged.Goals as goal

pub write_node-requires-clause-valid : goal.write_node-requires-clause-valid
write_node-requires-clause-valid g c = staged_at c.args.dim c.args.next.now.pages c.args.staged.now c.loop-i.i _ (search rules) c.requires.valid c.node_at-node.ensures
