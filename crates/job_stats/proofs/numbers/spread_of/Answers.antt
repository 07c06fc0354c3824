use Rattle.std.proofs.Common.{arith}
use Rattle.job_stats.proofs.Spreads.{ends_read}
use Rattle.job_stats.proofs.numbers.spread_of.Goals as goal

pub returns : goal.returns
returns c =
    let sorted = c.sort_unstable.new.self in
    let long = sorted.ok.0 in
    let some = c.in_ok-last.ensures in
    let sort = c.sort_unstable.ensures in
    ends_read c.args.numbers.now.items sorted.items c.in_ok-last.last _ _ _ sort.permutation sort.sorted (omega arith) (omega arith)
    c.index.ensures c.index-2.ensures c.index-3.ensures
