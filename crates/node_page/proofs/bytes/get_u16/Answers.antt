use Rattle.std.proofs.Common.{◌+◌, ◌-◌, arith}
use Rattle.node_page.proofs.Numbers.{number_got}
use Rattle.node_page.proofs.bytes.get_u16.Goals as goal

pub returns : goal.returns
returns c = number_got 2 c.args.at (c.args.at + 2 - c.args.at) c.read_u16.result c.args.page.now c.read_u16.ensures (omega arith) (omega arith)
