use Rattle.shadow_root.proofs.Lists.{commits_keep_lists}
use Rattle.shadow_root.proofs.laws.commits_keep_lists.Goals as goal

pub returns : goal.returns
returns c = commits_keep_lists
