use Rattle.promote_split.proofs.Halved.{enough}
use Rattle.promote_split.proofs.dealing.partition.Goals as goal

pub returns-clause-enough : goal.returns-clause-enough
returns-clause-enough c =
    enough c.args.matrix.now c.args.a c.args.b c.args.split c.args.least _ _ _ _ _ c.requires.a c.requires.b c.requires.differ c.requires.some c.requires.room
    c.in_ok-partition_into.ensures.sides c.deref.ensures.value c.deref-2.ensures.value c.in_ok-first.ensures c.in_ok-second.ensures
