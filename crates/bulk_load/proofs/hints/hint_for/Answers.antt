use Rattle.std.proofs.Common.{sym, ◌∙◌}
use Rattle.tree_growth.specs.Groups.{entry}
use Rattle.bulk_load.proofs.Ahead.{hint_of}
use Rattle.bulk_load.proofs.hints.hint_for.Goals as goal

pub returns-in-Some : goal.returns-in-Some
returns-in-Some g c =
    hint_of (entry c.args.placing.now.distances.now.table) c.args.placing.now.room c.args.place c.args.counts.now (c.in-Some.field-0-0, c.in-Some.group) (sym c.nearest.ensures.is ∙ c.in-Some.is)
