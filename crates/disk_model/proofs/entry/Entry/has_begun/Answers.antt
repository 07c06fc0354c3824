use Rattle.std.proofs.Common.{arith}
use Rattle.std.proofs.lemmas.Bool.Decides.{nat_tests}
use Rattle.disk_model.proofs.Entries.{begun_by}
use Rattle.disk_model.proofs.entry.Entry.has_begun.Goals as goal

pub returns-then-self-moment : goal.returns-then-self-moment
returns-then-self-moment c = λ bytes. grind (arith, nat_tests, begun_by c.args.moment c.args.self.now bytes)

pub returns-then-self-moment-2 : goal.returns-then-self-moment-2
returns-then-self-moment-2 c = λ bytes. grind (arith, nat_tests, begun_by c.args.moment c.args.self.now bytes)

pub returns-else-self-moment-2 : goal.returns-else-self-moment-2
returns-else-self-moment-2 c = λ bytes. grind (arith, nat_tests, begun_by c.args.moment c.args.self.now bytes)
