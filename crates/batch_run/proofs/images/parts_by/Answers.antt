use Rattle.std.proofs.Common.{◌∙◌, length, ap, arith}
use Rattle.std.proofs.iter.Serving.{serving}
use Rattle.batch_run.proofs.Joining.{has_pages, is_image, left_read}
use Rattle.batch_run.proofs.images.parts_by.Goals as goal

pub for_each_mut-requires-clause-accepts : goal.for_each_mut-requires-clause-accepts
for_each_mut-requires-clause-accepts g c = λ κs lives i p below is.
    let same = ap length c.as_mut_slice.ensures.value in (
      (
        c.requires.pages,
        omega (arith, below, same, c.loop-part.invariant, c.loop-part.auto._part-end, c.div_ceil-count.type_inv),
        has_pages (g.D.Disk.state c.args.disk.now) c.args.part_pages c.args.pages c.requires.some_pages i
            (omega (arith, below, same, c.loop-part.invariant, c.loop-part.auto._part-end, c.div_ceil-count.ensures)),
      ),
      grind serving,
    )

pub new-requires-clause-are : goal.new-requires-clause-are
new-requires-clause-are g c =
    let disk = g.D.Disk.state c.args.disk.now in
    let o = c.loop-part.tried.ok in
    let same = ap length c.as_mut_slice.ensures.value in
    let rest = left_read disk c.args.part_pages c.args.pages c.requires.some_pages c.loop-part.tried.len c.for_each_mut.new.s _ c.in-Some.parts.items
    (omega (arith, o, c.loop-part.invariant, c.loop-part-test.false, c.loop-part.auto._part-end, c.div_ceil-count.ensures)) (omega (arith, o, same, c.for_each_mut.auto.s))
    (λ i x below. (let left = (c.for_each_mut.ensures i x (omega (arith, o, same, below))).1 in (left.after_call.now, left.left, left.call))) (rw c.in-Some.is at c.in_ok-parts.ensures) in
    rest.are

pub returns-in-Some-clause-image : goal.returns-in-Some-clause-image
returns-in-Some-clause-image g c =
    let disk = g.D.Disk.state c.args.disk.now in
    let o = c.loop-part.tried.ok in
    let same = ap length c.as_mut_slice.ensures.value in
    let rest = left_read disk c.args.part_pages c.args.pages c.requires.some_pages c.loop-part.tried.len c.for_each_mut.new.s _ c.in-Some.parts.items
    (omega (arith, o, c.loop-part.invariant, c.loop-part-test.false, c.loop-part.auto._part-end, c.div_ceil-count.ensures)) (omega (arith, o, same, c.for_each_mut.auto.s))
    (λ i x below. (let left = (c.for_each_mut.ensures i x (omega (arith, o, same, below))).1 in (left.after_call.now, left.left, left.call))) (rw c.in-Some.is at c.in_ok-parts.ensures) in
    rw c.new.ensures (is_image disk c.args.part_pages c.args.pages c.in-Some.parts.items rest)

pub returns-in-Some-clause-size : goal.returns-in-Some-clause-size
returns-in-Some-clause-size g c =
    let disk = g.D.Disk.state c.args.disk.now in
    let o = c.loop-part.tried.ok in
    let same = ap length c.as_mut_slice.ensures.value in
    let rest = left_read disk c.args.part_pages c.args.pages c.requires.some_pages c.loop-part.tried.len c.for_each_mut.new.s _ c.in-Some.parts.items
    (omega (arith, o, c.loop-part.invariant, c.loop-part-test.false, c.loop-part.auto._part-end, c.div_ceil-count.ensures)) (omega (arith, o, same, c.for_each_mut.auto.s))
    (λ i x below. (let left = (c.for_each_mut.ensures i x (omega (arith, o, same, below))).1 in (left.after_call.now, left.left, left.call))) (rw c.in-Some.is at c.in_ok-parts.ensures) in
    ap length c.new.ensures ∙ omega (arith, rest.size)
