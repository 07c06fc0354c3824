use Rattle.std.proofs.Common.{◌≡◌, ℕ, ◌+◌, ◌-◌, ◌≤◌, ◌<◌, ◌*◌, length, arith, IfOk, slice_get, Some, vec_len, ap, subst, min}
use Rattle.par_work.specs.Meets.{AreJoined}
use Rattle.par_work.proofs.Joining.{joined_meets, if_ok, AllMeet, all_meet, meets_at}
use Rattle.par_work.proofs.sharing.share.Goals as goal
use Rattle.par_work.proofs.sharing.share.Goals.{After-join_lists}

met : (g : _) (c : After-join_lists g) → IfOk c.join_lists.result (λ v. AllMeet (λ i x. g.F.Fn.post c.args.work.now (i, tt) x) 0 c.args.count v.items)
met g c =
    let size : ℕ = c.piece_size-size.result in
    let parts = c.in_ok-parts.parts in
    let many : length parts.items ≡ c.piece_count-pieces.result = let o = parts.ok in let l = c.in_ok-parts.ensures.len in omega arith in
    let same : length parts.items * size ≡ c.piece_count-pieces.result * size = ap (λ (k : ℕ). k * size) many in
    let whole : c.args.count ≤ length parts.items * size = let w = c.piece_count-pieces.ensures.whole in omega arith in
    if_ok (λ v. AreJoined parts.items v.items) (λ v. AllMeet (λ i x. g.F.Fn.post c.args.work.now (i, tt) x) 0 c.args.count v.items) c.join_lists.result c.join_lists.ensures
    (λ v joined. joined_meets (λ i x. g.F.Fn.post c.args.work.now (i, tt) x) size 0 c.args.count parts.items v.items joined
    (λ i d low. all_meet (λ i x. g.F.Fn.post c.args.work.now (i, tt) x) (i * size) (min size (c.args.count - i * size)) _ (c.in_ok-parts.ensures.each i d (let h : i < c.piece_count-pieces.result = omega arith in h)).1.met) whole)

pub returns-clause-len : goal.returns-clause-len
returns-clause-len g c = if_ok (λ v. AllMeet (λ i x. g.F.Fn.post c.args.work.now (i, tt) x) 0 c.args.count v.items) (λ v. vec_len v ≡ c.args.count) c.join_lists.result (met g c) (λ v m. let o = v.ok in let l = m.long in omega arith)

pub returns-clause-each : goal.returns-clause-each
returns-clause-each g c =
    if_ok (λ v. AllMeet (λ i x. g.F.Fn.post c.args.work.now (i, tt) x) 0 c.args.count v.items) (λ v. (i : ℕ) (x : _) → slice_get v.items i ≡ Some x → g.F.Fn.post c.args.work.now (i, tt) x) c.join_lists.result (met g c)
    (λ v m i x at. let e : 0 + i ≡ i = omega arith in subst (λ (k : ℕ). g.F.Fn.post c.args.work.now (k, tt) x) e (meets_at (λ i x. g.F.Fn.post c.args.work.now (i, tt) x) 0 v.items i x m.meets at))
