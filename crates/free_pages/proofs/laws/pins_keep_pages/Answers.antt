use Rattle.free_pages.proofs.Members.{pins_keep}
use Rattle.free_pages.proofs.laws.pins_keep_pages.Goals as goal

pub returns : goal.returns
returns c = pins_keep
