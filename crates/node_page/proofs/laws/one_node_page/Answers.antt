use Rattle.node_page.proofs.OneNode.{one_node}
use Rattle.node_page.proofs.laws.one_node_page.Goals as goal

pub returns : goal.returns
returns c version dim one other node o q a b = one_node version dim one other node o q a b
