use Rattle.std.specs.BinaryHeap.{heap_items}
use Rattle.nearest_search.proofs.Held.{held-pushed}
use Rattle.nearest_search.proofs.queue.MinQueue.add.Goals as goal

pub returns : goal.returns
returns g c = rw (← c.self.view_is) (held-pushed (record { 0 = c.args.x }) (heap_items c.self.inside.heap) (heap_items c.push.new.self) c.in_ok-push.ensures.permutation)
