use Rattle.std.proofs.Common.{ℕ, List, ◌-◌, ◌/◌, length, take, drop, sym, ap, ◌∙◌}
use Rattle.seal_log.specs.Paths.{climbed}
use Rattle.seal_log.proofs.Shapes.{climbed-alone}
use Rattle.seal_log.proofs.Widths.{step_pair, step_short}
use Rattle.seal_log.proofs.paths.step_up.Goals as goal

pub returns-then-not-has_partner-clause-some : goal.returns-then-not-has_partner-clause-some
returns-then-not-has_partner-clause-some c = λ above. climbed-alone c.args.width above c.args.place c.args.digest c.args.path.now (sym c.has_partner.ensures ∙ c.if-not-has_partner.true)

pub returns-in-empty-clause-none : goal.returns-in-empty-clause-none
returns-in-empty-clause-none c = λ nothing above. step_short c.args.width c.args.place c.args.digest c.args.path.now above c.in-empty.len_below (sym c.has_partner.ensures ∙ c.if-not-has_partner.false)

pub returns-in-len1-up-clause-some : goal.returns-in-len1-up-clause-some
returns-in-len1-up-clause-some c =
    λ above. step_pair c.args.width c.args.place c.args.digest c.args.path.now above c.in-len1-up.len_at_least (sym c.has_partner.ensures ∙ c.if-not-has_partner.false)
    ∙ ap (λ (d : List ℕ). climbed above (c.args.place / 2) d (take (length c.args.path.now - 1) (drop 1 c.args.path.now))) (sym c.joined.ensures)
