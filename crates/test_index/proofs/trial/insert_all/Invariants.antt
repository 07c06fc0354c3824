use Rattle.index_core.specs.Index.{MayGoOn}
use Rattle.test_index.proofs.trial.insert_all.Given as goal

abbrev pub invariant-loop-x : goal.invariant-loop-x
invariant-loop-x g l = MayGoOn l.index (g.D.Disk.state l.disk)
