use Rattle.std.proofs.Common.{arith, refl, ◌∙◌}
use Rattle.seal_log.specs.Paths.{widths_over, climbed}
use Rattle.seal_log.proofs.Widths.{goes_up, goes_nowhere, at_top_of, left_over_of}
use Rattle.seal_log.proofs.paths.climb.Goals as goal

pub returns-in_err-above : goal.returns-in_err-above
returns-in_err-above c =
    c.from_residual.ensures
    ∙ goes_nowhere c.loop-width.width c.loop-width.place c.loop-width.digest c.loop-width.path.now (climbed (widths_over c.args.width) c.args.place c.args.digest c.args.path.now) c.loop-width-test.true
    (λ above. c.in_err-above.ensures.none refl above) c.loop-width.invariant.2

pub loop-width-preserved : goal.loop-width-preserved
loop-width-preserved c = (
  omega arith,
  omega arith,
  goes_up c.loop-width.width c.loop-width.place c.loop-width.digest c.in_ok-above.above c.loop-width.path.now c.in_ok-above.rest.now (climbed (widths_over c.args.width) c.args.place c.args.digest c.args.path.now)
      c.loop-width-test.true c.in_ok-above.ensures.some c.loop-width.invariant.2,
)

pub returns-in-empty : goal.returns-in-empty
returns-in-empty c =
    at_top_of c.loop-width.width c.loop-width.place c.loop-width.digest c.loop-width.path.now (climbed (widths_over c.args.width) c.args.place c.args.digest c.args.path.now)
    c.in-empty.len_below c.loop-width-test.false c.loop-width.invariant.0 c.loop-width.invariant.2

pub returns-in_default : goal.returns-in_default
returns-in_default c =
    left_over_of c.loop-width.width c.loop-width.place c.loop-width.digest c.loop-width.path.now (climbed (widths_over c.args.width) c.args.place c.args.digest c.args.path.now)
    c.in_default.len_at_least c.loop-width-test.false c.loop-width.invariant.0 c.loop-width.invariant.2
