use Rattle.std.proofs.Common.{None}
use Rattle.std.proofs.lemmas.Result.{err_from_is_err_and}
use Rattle.seal_log.specs.Reading.{pages_at}
use Rattle.seal_log.proofs.Loops.{page_goes_on, page_ends, pages_done}
use Rattle.seal_log.proofs.parts.pages_at.Goals as goal

pub returns-in_err-page : goal.returns-in_err-page
returns-in_err-page c =
    let p = err_from_is_err_and c.from_residual.result c.from_residual.ensures.1 in
    rw (p.1, p.2)
    (page_ends c.args.pages c.in_err-page.field-0.0 c.loop.carried.items c.args.count c.loop.counter c.loop.last c.loop.rest.now (pages_at c.args.pages c.args.count None c.args.bytes.now)
    c.loop-test.true c.in_err-page.ensures c.loop.invariant)

pub loop-preserved : goal.loop-preserved
loop-preserved c =
    rw (c.in_ok-push.ensures.items)
    (page_goes_on c.args.pages c.loop.carried.items c.args.count c.loop.counter c.loop.last c.loop.rest.now c.in_ok-page.page c.in_ok-page.behind.now (pages_at c.args.pages c.args.count None c.args.bytes.now)
    c.loop-test.true c.in_ok-page.ensures c.loop.invariant)

pub returns : goal.returns
returns c = pages_done c.args.pages c.loop.carried.items c.args.count c.loop.counter c.loop.last c.loop.rest.now (pages_at c.args.pages c.args.count None c.args.bytes.now) c.loop-test.false c.loop.invariant
