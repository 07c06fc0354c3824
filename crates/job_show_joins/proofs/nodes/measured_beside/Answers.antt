use Rattle.std.proofs.Common.{arith}
use Rattle.job_show.proofs.Published.{each_below}
use Rattle.job_show_joins.proofs.nodes.measured_beside.Goals as goal

pub count_marks-counts-requires : goal.count_marks-counts-requires
count_marks-counts-requires c =
    let below = each_below c.args.marks.now in
    (omega arith, omega (arith, below.skips, c.requires), omega (arith, below.fars, c.requires), omega (arith, below.nears, c.requires))

pub overflow_add-result : goal.overflow_add-result
overflow_add-result c =
    let below = each_below c.args.marks.now in
    rw c.count_marks-counts.ensures (omega (arith, below.fars, below.nears, c.requires))

pub returns-clause-few : goal.returns-clause-few
returns-clause-few c =
    let below = each_below c.args.marks.now in
    rw c.count_marks-counts.ensures (omega (arith, below.fars, below.nears, c.requires))
