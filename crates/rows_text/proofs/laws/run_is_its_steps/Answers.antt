use Rattle.rows_text.proofs.RunSteps.{replies_append, after_append}
use Rattle.rows_text.proofs.laws.run_is_its_steps.Goals as goal

pub returns : goal.returns
returns c = λ setting state first second. (replies_append setting state first second, after_append setting state first second)
