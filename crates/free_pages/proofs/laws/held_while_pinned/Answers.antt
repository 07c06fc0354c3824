use Rattle.free_pages.proofs.Members.{while_pinned}
use Rattle.free_pages.proofs.laws.held_while_pinned.Goals as goal

pub returns : goal.returns
returns c = while_pinned
