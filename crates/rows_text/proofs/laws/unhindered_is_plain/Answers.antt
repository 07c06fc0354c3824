use Rattle.rows_text.proofs.Unhindered.{unhindered}
use Rattle.rows_text.proofs.laws.unhindered_is_plain.Goals as goal

pub returns : goal.returns
returns c = λ setting state commands whys. unhindered setting state commands whys
