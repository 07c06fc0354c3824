use Rattle.std.proofs.Common.{refl}
use Rattle.node_page.specs.Heads.{is_version, is_space, is_policy, is_limit}
use Rattle.test_jobs.proofs.files.make.Goals as goal

pub create_index-requires-clause-valid : goal.create_index-requires-clause-valid
unfolding is_version is_space is_policy is_limit
create_index-requires-clause-valid g c = record { version = refl; space = refl; policy = refl; limit = refl }
