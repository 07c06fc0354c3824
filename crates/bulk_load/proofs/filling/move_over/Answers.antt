use Rattle.std.proofs.Common.{◌∙◌, sym, rules}
use Rattle.tree_growth.specs.Groups.{member_of}
use Rattle.bulk_load.proofs.Received.{moved_room, moved_counts}
use Rattle.bulk_load.proofs.filling.move_over.Goals as goal

pub overflow_add-counts : goal.overflow_add-counts
overflow_add-counts c =
    let h = moved_room c.args.counts.now c.args.placed.now c.args.group c.args.place c.args.least c.requires.counts (c.requires.groups c.args.place (member_of 0) c.requires.place) (sym c.may_leave.ensures ∙ c.if-may_leave.true) in
    search rules

pub returns-then-may_leave-clause-counts : goal.returns-then-may_leave-clause-counts
returns-then-may_leave-clause-counts c =
    moved_counts c.args.counts.now c.args.placed.now c.args.group c.args.place c.args.least c.requires.counts c.requires.place c.requires.group.0
    (c.requires.groups c.args.place (member_of 0) c.requires.place) (sym c.may_leave.ensures ∙ c.if-may_leave.true)
