use Rattle.std.proofs.Common.{subst}
use Rattle.std.specs.Prelude.{IsTrue}
use Rattle.test_pages.proofs.roots.adds_one.Goals as goal

pub add_one-requires-clause-made : goal.add_one-requires-clause-made
add_one-requires-clause-made g c = λ told. c.in-Ok.ensures.made (subst IsTrue c.in-Ok.ensures.is_known told)
