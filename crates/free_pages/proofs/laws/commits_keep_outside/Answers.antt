use Rattle.free_pages.proofs.Commits.{keep_outside}
use Rattle.free_pages.proofs.laws.commits_keep_outside.Goals as goal

pub returns : goal.returns
returns c = keep_outside
