use Rattle.std.proofs.Common.{◌+◌, ◌-◌, arith}
use Rattle.node_page.proofs.Numbers.{number_got}
use Rattle.node_page.proofs.bytes.get_u32.Goals as goal

pub returns : goal.returns
returns c = number_got 4 c.args.at (c.args.at + 4 - c.args.at) c.read_u32.result c.args.page.now c.read_u32.ensures (omega arith) (omega arith)
