use Rattle.std.proofs.lemmas.Result.{IfOk-weaker}
use Rattle.job_stats.proofs.jobs.text_of.Goals as goal

pub returns : goal.returns
returns c = IfOk-weaker c.stats_text.result _ _ (λ text told. record {
  levels = c.in_ok-levels.levels.items;
  levels_are = rw c.as_slice.ensures at c.in_ok-levels.ensures;
  put = rw (c.as_slice-2.ensures.value, c.requires) at told;
}) c.stats_text.ensures
