use Rattle.std.proofs.Common.{None, sym, subst, ◌∙◌}
use Rattle.std.proofs.lemmas.Result.{err_from_is_err_and}
use Rattle.prune_log.specs.Reading.{Fails, many, front_at, always}
use Rattle.prune_log.proofs.Published.{last_of, goes_on, ends, is_done}
use Rattle.seal_log.proofs.Loops.{next-always}
use Rattle.seal_log.proofs.parts.digests_at.Goals as goal

pub returns-in_err-digest : goal.returns-in_err-digest
returns-in_err-digest c =
    let p = err_from_is_err_and c.from_residual.result c.from_residual.ensures.1 in
    let here = subst (Fails c.in_err-digest.field-0.0) (sym (next-always (front_at 32) (last_of c.loop.digests.items) c.loop.rest.now)) c.in_err-digest.ensures in
    rw (p.1, p.2)
    (ends (front_at 32) always c.in_err-digest.field-0.0 c.loop.digests.items c.args.count c.loop.counter c.loop.rest.now (many (front_at 32) always c.args.count None c.args.bytes.now) c.loop-test.true here c.loop.invariant)

pub loop-preserved : goal.loop-preserved
loop-preserved c =
    let here = next-always (front_at 32) (last_of c.loop.digests.items) c.loop.rest.now ∙ c.in_ok-digest.ensures in
    rw (c.in_ok-push.ensures.items)
    (goes_on (front_at 32) always c.loop.digests.items c.args.count c.loop.counter c.loop.rest.now c.in_ok-digest.digest c.in_ok-digest.behind.now (many (front_at 32) always c.args.count None c.args.bytes.now)
    c.loop-test.true here c.loop.invariant)

pub returns : goal.returns
returns c = is_done (front_at 32) always c.loop.digests.items c.args.count c.loop.counter c.loop.rest.now (many (front_at 32) always c.args.count None c.args.bytes.now) c.loop-test.false c.loop.invariant
