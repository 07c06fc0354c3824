use Rattle.node_page.specs.Nodes.{node_in}
use Rattle.node_page.proofs.NodeLaws.{spells_by_none, none_by_spells}
use Rattle.node_page.proofs.laws.fault_is_no_node.Goals as goal

pub returns : goal.returns
returns c version dim page = (λ none. (node_in version dim page, spells_by_none version dim page none), λ found. none_by_spells version dim page found.0 found.1)
