use Rattle.std.proofs.Common.{arith}
use Rattle.tree_audit.proofs.Flags.{few_met}
use Rattle.tree_audit.proofs.met.Met.len.Goals as goal

pub overflow_cast-result : goal.overflow_cast-result
overflow_cast-result c = omega (arith, few_met c.self.inside.flags.items c.self.inside.numbers.items c.self.invariant, c.self.invariant.few, c.len.ensures)
