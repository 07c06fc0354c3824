use Rattle.std.proofs.Common.{◌≡◌, ℕ, ◌+◌, ◌-◌, arith, IfOk, slice_get, Some, vec_len, subst}
use Rattle.par_work.specs.Meets.{MeetsFrom}
use Rattle.par_work.proofs.Joining.{if_ok, meets_at}
use Rattle.par_work.proofs.sharing.in_turn.Goals as goal

pub returns-clause-each : goal.returns-clause-each
returns-clause-each g c =
    if_ok (λ v. MeetsFrom (λ i x. g.F.Fn.post c.args.work.now (i, tt) x) 0 v.items) (λ v. (i : ℕ) (x : _) → slice_get v.items i ≡ Some x → g.F.Fn.post c.args.work.now (i, tt) x) c.answers_of.result c.answers_of.ensures.meets
    (λ v m i x at. let e : 0 + i ≡ i = omega arith in subst (λ (k : ℕ). g.F.Fn.post c.args.work.now (k, tt) x) e (meets_at (λ i x. g.F.Fn.post c.args.work.now (i, tt) x) 0 v.items i x m at))
