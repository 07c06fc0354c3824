use Rattle.node_page.proofs.OneSpelling.{one_slot, one_open_gate}
use Rattle.node_page.proofs.laws.one_slot_page.Goals as goal

pub returns : goal.returns
returns c one other slot o q a b = (λ gate. one_slot one other slot o q a b gate, λ open_gate. one_slot one other slot o q a b (one_open_gate one other slot a b open_gate))
