use Rattle.std.proofs.Common.{refl}
use Rattle.tree_audit.proofs.Whole.{whole}
use Rattle.tree_audit.proofs.laws.parts_make_the_whole.Goals as goal

pub returns : goal.returns
returns c s read t es parts some there full are apart = whole s read t es parts t.height refl some there full are apart
