use Rattle.job_dump.proofs.MakesAgain as lemmas
use Rattle.job_dump.proofs.laws.dumps_make_again.Goals as goal

pub returns : goal.returns
returns c = lemmas.dumps_make_again c.heads_have_spaces.ensures
