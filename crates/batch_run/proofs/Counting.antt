-- Commands that ask no query.
use Rattle.std.proofs.Common.{◌≡◌, ℕ, List, length, refl, sym, ap, None}
use Rattle.metric_laws.specs.Space.{Space}
use Rattle.rows_text.specs.declared.command.Command.TheVariants as command
use Rattle.rows_text.specs.declared.reply.Reply.TheVariants as reply
use Rattle.tree_shape.specs.declared.live.Live.{Live}
use Rattle.tree_shape.specs.Tree.{objects}
use Rattle.page_store.specs.Files.{nodes_in, points_in}
use Rattle.log_model.proofs.Published.{length-points}
use Rattle.image_answers.specs.declared.outcome.Outcome.TheVariants as outcome
use Rattle.image_answers.specs.Outcomes.{IsOutcomeOf}

-- there are as many objects as the slot tells
counted : (s : Space) (live : Live) (image : List ℕ) → length (points_in s.dimension live image) ≡ live.count
counted s live image = length-points (objects (nodes_in s.dimension live image) live) 0 live.count

pub count_is : (s : Space) (live : Live) (image : List ℕ) → IsOutcomeOf s live image command.Count (outcome.Done (reply.Count live.count) None)
count_is s live image = record {
  meant = λ sound. record { meaning = λ limit. ap (λ (n : ℕ). reply.Count n) (sym (counted s live image)); logged = refl };
  told = ((λ limit. ap (λ (n : ℕ). reply.Count n) (sym (counted s live image))), refl);
  valid = (tt, refl);
}
