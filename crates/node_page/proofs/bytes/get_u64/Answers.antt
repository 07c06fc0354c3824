use Rattle.std.proofs.Common.{◌+◌, ◌-◌, arith}
use Rattle.node_page.proofs.Numbers.{number_got}
use Rattle.node_page.proofs.bytes.get_u64.Goals as goal

pub returns : goal.returns
returns c = number_got 8 c.args.at (c.args.at + 8 - c.args.at) c.read_u64.result c.args.page.now c.read_u64.ensures (omega arith) (omega arith)
