use Rattle.free_pages.proofs.Commits.{keep_beside}
use Rattle.free_pages.proofs.laws.commits_keep_beside.Goals as goal

pub returns : goal.returns
returns c = keep_beside
