use Rattle.std.proofs.Common.{◌≡◌, ◌≤◌, ℕ, List, length, nat_lt, sym, ap, ◌∙◌, subst, false, arith}
use Rattle.std.proofs.lemmas.Bool.Decides.{nat_tests}
use Rattle.tree_shape.specs.Tree.{times}
use Rattle.tree_audit.specs.Met.{Numbers}
use Rattle.tree_audit.proofs.Flags.{is_some, not_met}
use Rattle.tree_audit.proofs.met.Met.has.Goals as goal

pub returns-else-number-len : goal.returns-else-number-len
returns-else-number-len c =
    let past : length c.self.inside.flags.items ≤ c.args.number = omega (arith, c.if-number-len.false, c.len.ensures) in
    let not_below : nat_lt c.args.number c.len.result ≡ false = grind (arith, nat_tests, c.if-number-len.false) in
    let met : c.self.inside.numbers.items ≡ c.args.self.now.met = ap (λ (v : Numbers). v.met) c.self.view_is in
    not_below ∙ sym (subst (λ (xs : List ℕ). is_some (times c.args.number xs) ≡ false) met (not_met c.self.inside.flags.items c.self.inside.numbers.items c.args.number past c.self.invariant))
