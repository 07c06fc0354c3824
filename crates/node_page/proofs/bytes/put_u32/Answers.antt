use Rattle.std.proofs.Common.{◌+◌, ◌-◌, drop, take, arith}
use Rattle.node_page.proofs.Numbers.{number_put, others_put}
use Rattle.node_page.proofs.bytes.put_u32.Goals as goal

pub returns-clause-number : goal.returns-clause-number
returns-clause-number c =
    number_put 4 c.args.at (c.args.at + 4 - c.args.at) c.args.n c.args.page.now (drop 4 (take (c.args.at + 4 - c.args.at) (drop c.args.at c.args.page.now))) c.write_u32.new.buf c.write_u32.ensures (omega arith) (omega arith)

pub returns-clause-others : goal.returns-clause-others
returns-clause-others c =
    others_put 4 c.args.at (c.args.at + 4 - c.args.at) c.args.n c.args.page.now c.write_u32.new.buf c.write_u32.ensures (omega arith) (omega arith)
