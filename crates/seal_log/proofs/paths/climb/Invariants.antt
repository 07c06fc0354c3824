use Rattle.std.proofs.Common.{◌-◌, ◌≡◌, ◌<◌, ◌^◌}
use Rattle.seal_log.specs.Paths.{widths_over, climbed}
use Rattle.seal_log.proofs.paths.climb.Given as goal

abbrev pub invariant-loop-width : goal.invariant-loop-width
invariant-loop-width l = (l.place < l.width) × (l.width < 2 ^ 32) × (climbed (widths_over l.width) l.place l.digest l.path ≡ climbed (widths_over l.fn.width) l.fn.place l.fn.digest l.fn.path)

abbrev pub decreases-loop-width : goal.decreases-loop-width
decreases-loop-width l = l.width - 1
