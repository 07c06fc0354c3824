use Rattle.free_pages.proofs.Released.{kept_pin}
use Rattle.free_pages.proofs.free.Free.pin.Goals as goal

pub invariant_of-self-2 : goal.invariant_of-self-2
invariant_of-self-2 c = rw c.in_ok-push.ensures.items (record {
  kept = kept_pin _ c.args.generation c.self.invariant.kept;
  free_room = c.self.invariant.free_room;
  held_room = c.self.invariant.held_room;
})

pub returns-clause-kept : goal.returns-clause-kept
returns-clause-kept c = (invariant_of-self-2 c).kept
