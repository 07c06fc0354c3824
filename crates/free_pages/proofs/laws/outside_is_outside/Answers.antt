use Rattle.free_pages.proofs.Members.{outside_is}
use Rattle.free_pages.proofs.laws.outside_is_outside.Goals as goal

pub returns : goal.returns
returns c = outside_is
