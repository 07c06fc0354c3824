use Rattle.std.proofs.Common.{ap, ◌≡◌, length, set, true, arith}
use Rattle.tree_audit.specs.Met.{Numbers}
use Rattle.tree_shape.specs.Tree.{times}
use Rattle.tree_audit.proofs.Flags.{flagged_add, fewer_met}
use Rattle.tree_audit.proofs.met.Met.add.Goals as goal

pub invariant_of-self-2 : goal.invariant_of-self-2
invariant_of-self-2 c =
    let limit : length c.self.inside.flags.items ≡ c.args.self.now.limit = ap (λ (v : Numbers). v.limit) c.self.view_is in
    rw c.in_ok-push.ensures.items (flagged_add c.self.inside.flags.items c.self.inside.numbers.items c.args.number (omega (arith, limit, c.requires.small)) (rw (ap (λ (v : Numbers). v.met) c.self.view_is) c.requires.new) c.self.invariant)

pub returns-clause-fewer : goal.returns-clause-fewer
returns-clause-fewer c before some =
    let limit : length c.self.inside.flags.items ≡ c.args.self.now.limit = ap (λ (v : Numbers). v.limit) c.self.view_is in
    let same : c.self.inside.numbers.items ≡ c.args.self.now.met = ap (λ (v : Numbers). v.met) c.self.view_is in
    let none : times 0 c.self.inside.numbers.items ≡ 0 = rw same before.none in
    rw c.in_ok-push.ensures.items (fewer_met (set c.self.inside.flags.items c.args.number true) c.self.inside.numbers.items c.args.number
    (flagged_add c.self.inside.flags.items c.self.inside.numbers.items c.args.number (omega (arith, limit, c.requires.small)) (rw same c.requires.new) c.self.invariant) some none)
