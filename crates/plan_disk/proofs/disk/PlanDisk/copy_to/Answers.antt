use Rattle.std.proofs.Common.{◌≡◌, ◌≤◌, ◌∙◌, ◌+◌, ap, sym, subst, length, List, ℕ, arith, ◌++◌, drop, slice_index}
use Rattle.std.proofs.lemmas.List.{ext_get_or, length-take-le}
use Rattle.plan_disk.specs.Plan.{Plan, file_of}
use Rattle.plan_disk.specs.PlanView.{planned}
use Rattle.plan_disk.proofs.disk.PlanDisk.copy_to.Goals as goal

pub returns : goal.returns
returns c =
    let room = c.args.room.now in
    let file = file_of (planned c.self.inside) in
    let is_point : length file ≤ length room = subst (λ (plan : Plan). length (file_of plan) ≤ length room) (sym c.self.view_is) c.requires in
    let size : length c.read.new.buf ≡ length file = c.read.auto.buf ∙ length-take-le c.self.inside.size room (omega (arith, is_point, c.self.invariant.size)) ∙ c.self.invariant.size in
    let same : c.read.new.buf ≡ file = ext_get_or 0 c.read.new.buf file size (λ i below. let here : 0 + i ≡ i = omega arith in
    c.read.ensures file c.self.invariant.shows i below ∙ ap (λ (m : ℕ). slice_index file m) here) in
    ap (λ (front : List ℕ). front ++ drop c.self.inside.size room) same ∙ ap (λ (n : ℕ). file ++ drop n room) c.self.invariant.size
    ∙ ap (λ (plan : Plan). file_of plan ++ drop (length (file_of plan)) room) c.self.view_is
