use Rattle.std.proofs.Common.{rules}
use Rattle.index_core.specs.Causes.{read_fault}
use Rattle.index_core.proofs.Answered.{ok_kept}
use Rattle.index_core.proofs.view.View.nearest.Goals as goal

pub returns-clause-front : goal.returns-clause-front
returns-clause-front g c = ok_kept c.nearest-answer.result c.answer_of.result _ _ read_fault c.answer_of.ensures c.nearest-answer.ensures.front (λ found front. search rules)
