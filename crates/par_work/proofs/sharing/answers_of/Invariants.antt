use Rattle.std.proofs.Common.{◌≡◌, ◌-◌, vec_len}
use Rattle.par_work.specs.Meets.{MeetsFrom}
use Rattle.par_work.proofs.sharing.answers_of.Given as goal

abbrev pub invariant-loop-i : goal.invariant-loop-i
invariant-loop-i g l = (vec_len l.out ≡ l.i - l.from) × MeetsFrom (λ i x. g.F.Fn.post l.work (i, tt) x) l.from l.out.items
