use Rattle.job_dump.proofs.ReadBack as lemmas
use Rattle.job_dump.proofs.laws.scripts_read_back.Goals as goal

pub returns : goal.returns
returns c = lemmas.scripts_read_back
