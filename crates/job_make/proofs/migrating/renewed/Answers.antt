use Rattle.job_make.proofs.OldFiles.{renewed_valid}
use Rattle.job_make.proofs.migrating.renewed.Goals as goal

pub returns-clause-valid : goal.returns-clause-valid
returns-clause-valid c = renewed_valid c.args.head.now c.requires
