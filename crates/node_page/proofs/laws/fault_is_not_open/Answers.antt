use Rattle.node_page.specs.Heads.{head_of}
use Rattle.node_page.specs.Opening.{page_of, live_of}
use Rattle.node_page.proofs.Opened.{opens_by_none, none_by_opens}
use Rattle.node_page.proofs.laws.fault_is_not_open.Goals as goal

pub returns : goal.returns
returns c file = (λ none. (head_of (page_of file 0), live_of file, opens_by_none file none), λ found. none_by_opens file found.0 found.1 found.2)
