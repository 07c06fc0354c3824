use Rattle.std.proofs.Common.{refl}
use Rattle.node_page.specs.Heads.{is_version, is_space, is_policy, is_limit}
use Rattle.test_pages.proofs.nodes.head_page.Goals as goal

pub encode_head-requires-clause-valid : goal.encode_head-requires-clause-valid
unfolding is_version is_space is_policy is_limit
encode_head-requires-clause-valid c = record { version = refl; space = refl; policy = refl; limit = refl }
