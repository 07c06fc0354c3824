use Rattle.std.proofs.Common.{refl}
use Rattle.node_page.specs.Heads.{is_version, is_space, is_policy, is_limit}
use Rattle.test_pages.proofs.roots.make.Goals as goal

pub create-requires-clause-valid : goal.create-requires-clause-valid
unfolding is_version is_space is_policy is_limit
create-requires-clause-valid g c = record { version = refl; space = refl; policy = refl; limit = refl }
