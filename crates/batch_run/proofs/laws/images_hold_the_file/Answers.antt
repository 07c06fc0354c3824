use Rattle.batch_run.proofs.Holding.{holds}
use Rattle.batch_run.proofs.laws.images_hold_the_file.Goals as goal

pub returns : goal.returns
returns c dim pages file image is = λ i page. holds dim pages file image is page i
