use Rattle.std.proofs.Common.{◌∙◌, refl, rules, sym}
use Rattle.page_store.specs.Images.{bytes_in}
use Rattle.rows_text.specs.declared.command.Command.TheVariants as command
use Rattle.image_answers.proofs.Asking.{given_plain, range_found, range_fault, whole_if_ok}
use Rattle.image_answers.proofs.PagesOf.{counted_anew, shelf_is, still_are, unasked}
use Rattle.image_answers.proofs.queries.range_on.Goals as goal

pub returns-in-Ok-clause-given : goal.returns-in-Ok-clause-given
returns-in-Ok-clause-given g c =
    let s = g.M.Metric.space c.args.metric in
    let image = bytes_in c.args.pages.now.inner.image in
    let begun = counted_anew s c.args.live.now image c.args.pages.now c.count_anew.new.self c.requires.pages c.count_anew.ensures in
    let after = still_are s c.args.live.now image c.count_anew.new.self c.range.new.pages begun c.in-Ok.ensures.same c.in-Ok.ensures.keeps.0 in
    range_found s c.args.live.now image c.args.q.now (rw (← c.as_slice.ensures) (sym c.is_point.ensures ∙ c.if-not-is_point.false)) _ _ c.range.new.pages.asked
    (unasked s c.args.live.now image c.args.pages.now c.count_anew.new.self c.requires.pages c.count_anew.ensures)
    (shelf_is s c.args.live.now image c.range.new.pages c.range.new.pages after)
    c.args.tags c.args.r _ _ c.in-Ok.found (rw (c.new-ruler.ensures.metric, c.as_slice-2.ensures) at c.in-Ok.ensures.found) (rw (c.new-ruler.ensures.metric, c.as_slice-2.ensures) at c.in-Ok.ensures.scanned) (rw (c.new-ruler.ensures.metric, c.as_slice-2.ensures) at c.in-Ok.ensures.tagged) c.tagged.result c.tagged.ensures

pub returns-in-Err-clause-given : goal.returns-in-Err-clause-given
returns-in-Err-clause-given g c =
    let s = g.M.Metric.space c.args.metric in
    let image = bytes_in c.args.pages.now.inner.image in
    let begun = counted_anew s c.args.live.now image c.args.pages.now c.count_anew.new.self c.requires.pages c.count_anew.ensures in
    let after = still_are s c.args.live.now image c.count_anew.new.self c.range.new.pages begun c.in-Err.ensures.same c.in-Err.ensures.keeps.0 in
    rw c.outcome_of_fault.ensures
    (range_fault s c.args.live.now image c.args.q.now (rw (← c.as_slice.ensures) (sym c.is_point.ensures ∙ c.if-not-is_point.false)) _ _ c.range.new.pages.asked
    (unasked s c.args.live.now image c.args.pages.now c.count_anew.new.self c.requires.pages c.count_anew.ensures)
    (shelf_is s c.args.live.now image c.range.new.pages c.range.new.pages after)
    c.args.tags c.args.r c.in-Err.fault (rw (c.new-ruler.ensures.metric, c.as_slice-2.ensures) at c.in-Err.ensures.cause) (rw c.new-ruler.ensures.metric at c.in-Err.ensures.sound))

pub returns-in-Ok-clause-whole : goal.returns-in-Ok-clause-whole
returns-in-Ok-clause-whole g c =
    whole_if_ok (g.M.Metric.space c.args.metric) c.args.live.now (bytes_in c.args.pages.now.inner.image) (command.Range c.args.r c.args.q.now) c.args.tags c.tagged.result (returns-in-Ok-clause-given g c)

pub returns-in-Err-clause-whole : goal.returns-in-Err-clause-whole
returns-in-Err-clause-whole g c =
    whole_if_ok (g.M.Metric.space c.args.metric) c.args.live.now (bytes_in c.args.pages.now.inner.image) (command.Range c.args.r c.args.q.now) c.args.tags c.outcome_of_fault.result (returns-in-Err-clause-given g c)

pub returns-in-Ok-clause-same : goal.returns-in-Ok-clause-same
returns-in-Ok-clause-same g c =
    let s = g.M.Metric.space c.args.metric in
    let image = bytes_in c.args.pages.now.inner.image in
    still_are s c.args.live.now image c.count_anew.new.self c.range.new.pages
    (counted_anew s c.args.live.now image c.args.pages.now c.count_anew.new.self c.requires.pages c.count_anew.ensures) c.in-Ok.ensures.same c.in-Ok.ensures.keeps.0

pub returns-in-Err-clause-same : goal.returns-in-Err-clause-same
returns-in-Err-clause-same g c =
    let s = g.M.Metric.space c.args.metric in
    let image = bytes_in c.args.pages.now.inner.image in
    still_are s c.args.live.now image c.count_anew.new.self c.range.new.pages
    (counted_anew s c.args.live.now image c.args.pages.now c.count_anew.new.self c.requires.pages c.count_anew.ensures) c.in-Err.ensures.same c.in-Err.ensures.keeps.0

pub returns-then-not-is_point-clause-given : goal.returns-then-not-is_point-clause-given
returns-then-not-is_point-clause-given g c =
    given_plain (g.M.Metric.space c.args.metric) c.args.live.now (bytes_in c.args.pages.now.inner.image) (command.Range c.args.r c.args.q.now) c.args.tags c.refused.result (rw c.refused.ensures refl) (search rules)
