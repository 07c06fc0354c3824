use Rattle.page_cache.proofs.Agreement.{agreement_lasts}
use Rattle.page_cache.proofs.laws.agreement_lasts.Goals as goal

pub returns : goal.returns
returns c = agreement_lasts
