use Rattle.std.proofs.Common.{arith}
use Rattle.free_pages.proofs.Released.{kept_take}
use Rattle.free_pages.proofs.free.Free.take.Goals as goal

pub invariant_of-self : goal.invariant_of-self
invariant_of-self c = record {
  kept = kept_take _ c.pop_front.result c.pop_front.new.self.items c.pop_front.ensures.items c.self.invariant.kept;
  free_room = omega (arith, c.self.invariant.free_room, c.pop_front.ensures.capacity, c.pop_front.ensures.len, c.pop_front.new.self.ok.0, c.self.inside.free.ok.0);
  held_room = c.self.invariant.held_room;
}

pub returns-clause-kept : goal.returns-clause-kept
returns-clause-kept c = (invariant_of-self c).kept
