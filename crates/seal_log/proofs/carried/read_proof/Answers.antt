use Rattle.std.proofs.Common.{arith}
use Rattle.seal_log.proofs.Grammar.{carried_take}
use Rattle.seal_log.proofs.Faultless.{spelled_made}
use Rattle.seal_log.proofs.carried.read_proof.Goals as goal

pub judge_parts-requires : goal.judge_parts-requires
judge_parts-requires c = (carried_take c.args.bytes.now c.in-Ok.parts c.in-Ok.log.now (λ i. omega (arith, c.type_inv.bytes i)) c.in-Ok.ensures).0

pub returns-in-Ok-clause-spelled : goal.returns-in-Ok-clause-spelled
returns-in-Ok-clause-spelled c =
    let took = carried_take c.args.bytes.now c.in-Ok.parts c.in-Ok.log.now (λ i. omega (arith, c.type_inv.bytes i)) c.in-Ok.ensures in
    spelled_made c.judge_parts.result c.in-Ok.parts c.in-Ok.log.now c.args.bytes.now took.3 took.1 c.judge_parts.ensures.parts c.judge_parts.ensures.log
