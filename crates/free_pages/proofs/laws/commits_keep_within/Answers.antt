use Rattle.free_pages.proofs.Commits.{keep_within}
use Rattle.free_pages.proofs.laws.commits_keep_within.Goals as goal

pub returns : goal.returns
returns c = keep_within
