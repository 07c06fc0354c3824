use Rattle.std.proofs.Common.{◌≡◌, ◌+◌, ◌-◌, ◌≤◌, length, true, sym, ap, ◌∙◌, arith}
use Rattle.free_pages.specs.declared.held.Held.{Held}
use Rattle.free_pages.specs.Keeping.{FreePages, is_pinned_below}
use Rattle.free_pages.proofs.Ascending.{length-put}
use Rattle.free_pages.proofs.Released.{kept_free, kept_hold}
use Rattle.free_pages.proofs.free.Free.leave.Goals as goal

pub invariant_of-self-then-is_below : goal.invariant_of-self-then-is_below
invariant_of-self-then-is_below c =
    let spare : 1 ≤ c.self.inside.spare = omega (arith, ap (λ (f : FreePages). f.spare) c.self.view_is, c.requires) in
    let more : length c.put_held.new.held.items ≤ length c.self.inside.held.items + 1 =
    omega (arith, ap length c.put_held.ensures.items, length-put (λ (h : Held). h.page) (record { page = c.args.page; generation = c.args.generation }) c.self.inside.held.items) in
    let pinned : is_pinned_below c.args.generation c.self.inside.pins.items ≡ true =
    ap (is_pinned_below c.args.generation) (sym c.as_slice.ensures.value) ∙ sym (c.least_pin.ensures c.args.generation) ∙ sym c.is_below.ensures ∙ c.if-is_below.true in
    record {
      kept = rw c.put_held.ensures.items (kept_hold _ c.args.page c.args.generation (c.self.inside.spare - 1) c.max-self-inside.result (sym c.has.ensures.is ∙ c.if-has.false) pinned c.self.invariant.kept);
      free_room = omega (arith, more, spare, c.self.invariant.free_room);
      held_room = omega (arith, more, spare, c.self.invariant.held_room, c.put_held.ensures.capacity);
    }

pub invariant_of-self-else-is_below : goal.invariant_of-self-else-is_below
invariant_of-self-else-is_below c =
    let spare : 1 ≤ c.self.inside.spare = omega (arith, ap (λ (f : FreePages). f.spare) c.self.view_is, c.requires) in
    let more : length c.put_free.new.free.items ≤ length c.self.inside.free.items + 1 =
    omega (arith, ap length c.put_free.ensures.items, length-put (λ n. n) c.args.page c.self.inside.free.items) in
    record {
      kept = rw c.put_free.ensures.items (kept_free _ c.args.page (c.self.inside.spare - 1) c.max-self-inside.result (sym c.has.ensures.is ∙ c.if-has.false) c.self.invariant.kept);
      free_room = omega (arith, more, spare, c.self.invariant.free_room, c.put_free.ensures.capacity);
      held_room = omega (arith, spare, c.self.invariant.held_room);
    }

pub returns-then-is_below-clause-kept : goal.returns-then-is_below-clause-kept
returns-then-is_below-clause-kept c = (invariant_of-self-then-is_below c).kept

pub returns-else-is_below-clause-kept : goal.returns-else-is_below-clause-kept
returns-else-is_below-clause-kept c = (invariant_of-self-else-is_below c).kept
