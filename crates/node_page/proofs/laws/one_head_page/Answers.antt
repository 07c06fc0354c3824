use Rattle.node_page.proofs.OneSpelling.{one_head}
use Rattle.node_page.proofs.laws.one_head_page.Goals as goal

pub returns : goal.returns
returns c one other head o q a b = one_head one other head o q a b
