use Rattle.std.proofs.Common.{sym, ◌∙◌}
use Rattle.node_page.specs.Opening.{page_of}
use Rattle.node_page.proofs.HeadLaws.{head_is}
use Rattle.node_page.proofs.Opened.{live_is}
use Rattle.node_page.proofs.laws.one_live_slot.Goals as goal

pub returns : goal.returns
returns c file head head2 live live2 opens opens2 = (
  sym (head_is (page_of file 0) head opens.spells_head) ∙ head_is (page_of file 0) head2 opens2.spells_head,
  sym (live_is file head live opens) ∙ live_is file head2 live2 opens2,
  sym (live_is file head live opens),
)
