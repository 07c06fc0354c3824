use Rattle.session_run.proofs.Meanings.{turns_are_their_meaning}
use Rattle.session_run.proofs.laws.turns_are_their_meaning.Goals as goal

pub returns : goal.returns
returns c = turns_are_their_meaning
