use Rattle.std.proofs.Common.{◌+◌, ◌∙◌, drop, get_or, arith}
use Rattle.metric_mix.specs.Discordance.{row_is, discord_is}
use Rattle.metric_mix.proofs.PairCounts.{discord_more, discord_end}
use Rattle.metric_mix.proofs.permutations.discordant.Goals as goal

pub loop-i-preserved : goal.loop-i-preserved
loop-i-preserved c =
    let a = drop (c.loop-i.i + 1) c.args.a.now in
    let b = drop (c.loop-i.i + 1) c.args.b.now in
    let same = c.discordant_after-count.ensures.value ∙ row_is (get_or c.args.a.now c.loop-i.i 0) (get_or c.args.b.now c.loop-i.i 0) a b in
    let more = discord_more c.loop-i.i c.args.a.now c.args.b.now (omega arith) (omega arith) in
    record {
      few = omega arith;
      counted = omega arith;
    }

pub returns-clause-value : goal.returns-clause-value
returns-clause-value c =
    let none = discord_end c.loop-i.i c.args.a.now c.args.b.now (omega arith) in
    let all = discord_is c.args.a.now c.args.b.now in
    omega arith
