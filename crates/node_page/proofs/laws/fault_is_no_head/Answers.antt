use Rattle.node_page.specs.Heads.{head_of}
use Rattle.node_page.proofs.HeadLaws.{spells_by_none, no_head_fault}
use Rattle.node_page.proofs.laws.fault_is_no_head.Goals as goal

pub returns : goal.returns
returns c page = (λ none. (head_of page, spells_by_none page none), λ found. no_head_fault page found.0 found.1)
