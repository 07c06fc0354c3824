use Rattle.shadow_root.proofs.Lists.{commits_keep_head}
use Rattle.shadow_root.proofs.laws.commits_keep_head.Goals as goal

pub returns : goal.returns
returns c = commits_keep_head
