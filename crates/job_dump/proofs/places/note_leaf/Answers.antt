use Rattle.std.proofs.Common.{arith, rules, ◌+◌, ◌++◌, ◌<◌, List, ℕ, take, sym, subst}
use Rattle.tree_shape.specs.Entries.{leaf_of}
use Rattle.job_dump.specs.Places.{Notes}
use Rattle.job_dump.specs.Rows.{due, times_among}
use Rattle.job_dump.proofs.Noting.{entry_noted, entry_wrong}
use Rattle.job_dump.proofs.places.note_leaf.Goals as goal

pub returns-then-not-note-clause-wrong : goal.returns-then-not-note-clause-wrong
returns-then-not-note-clause-wrong c nodes met leaf before =
    let e = leaf_of c.at-entry.result in
    let wrong = c.note.ensures.wrong (search rules) in
    subst (λ (n : ℕ). due n e.id < times_among (met ++ c.args.entries.now) e.id) c.loop-number.auto.numbers
    (entry_wrong nodes c.loop-number.numbers met c.args.entries.now c.loop-number.number e (c.loop-number.invariant nodes met leaf before) (omega (arith, c.len-number-end.ensures)) c.at-entry.ensures wrong)

pub loop-number-preserved : goal.loop-number-preserved
loop-number-preserved c nodes met leaf before =
    let e = leaf_of c.at-entry.result in
    let noted = c.note.ensures.noted (search rules) in
    subst (λ (n : List ℕ). Notes nodes n (met ++ take (c.loop-number.number + 1) c.args.entries.now)) (sym noted.2)
    (entry_noted nodes c.loop-number.numbers met c.args.entries.now c.loop-number.number e (c.loop-number.invariant nodes met leaf before) (omega (arith, c.len-number-end.ensures)) c.at-entry.ensures
    c.args.page leaf c.requires.low c.requires.few noted.0 noted.1)
