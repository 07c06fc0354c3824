use Rattle.free_pages.proofs.Members.{leaving_keeps}
use Rattle.free_pages.proofs.laws.leaving_keeps_pages.Goals as goal

pub returns : goal.returns
returns c = leaving_keeps
