use Rattle.std.proofs.Common.{refl}
use Rattle.shadow_root.specs.Making.{IsMade}
use Rattle.mtree_c.proofs.Ran.{if_some_is}
use Rattle.mtree_c.proofs.making.made.Goals as goal

pub returns-in-Ok : goal.returns-in-Ok
returns-in-Ok c = if_some_is (λ v. v.items) (IsMade c.args.head.now) _ c.file_after.result c.file_after.ensures (c.in-Ok.ensures.made refl)
