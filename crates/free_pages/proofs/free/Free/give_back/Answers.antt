use Rattle.std.proofs.Common.{◌≡◌, ◌+◌, ◌-◌, ◌≤◌, length, false, sym, ap, ◌∙◌, arith}
use Rattle.free_pages.specs.Keeping.{FreePages, is_kept}
use Rattle.free_pages.proofs.Ascending.{length-put}
use Rattle.free_pages.proofs.Released.{kept_free}
use Rattle.free_pages.proofs.free.Free.give_back.Goals as goal

pub invariant_of-self : goal.invariant_of-self
invariant_of-self c =
    let new : is_kept c.args.self.now c.args.page ≡ false = sym c.has.ensures.is ∙ c.if-has.false in
    let spare : 1 ≤ c.self.inside.spare = omega (arith, ap (λ (f : FreePages). f.spare) (c.self.view_is ∙ c.in_ok-reserve.ensures.ok)) in
    let more : length c.put_free.new.free.items ≤ length c.self.inside.free.items + 1 =
    omega (arith, ap length c.put_free.ensures.items, length-put (λ n. n) c.args.page c.self.inside.free.items) in
    record {
      kept = rw c.put_free.ensures.items (kept_free _ c.args.page (c.self.inside.spare - 1) c.self.inside.newest
          (ap (λ (f : FreePages). is_kept f c.args.page) (c.self.view_is ∙ c.in_ok-reserve.ensures.ok) ∙ new) c.self.invariant.kept);
      free_room = omega (arith, more, spare, c.self.invariant.free_room, c.put_free.ensures.capacity);
      held_room = omega (arith, c.self.invariant.held_room);
    }

pub returns-clause-kept : goal.returns-clause-kept
returns-clause-kept c = (invariant_of-self c).kept

pub returns-then-has-clause-kept : goal.returns-then-has-clause-kept
returns-then-has-clause-kept c = c.has.ensures.kept
