use Rattle.std.proofs.Common.{◌≡◌, ◌∙◌, ap, arith, List}
use Rattle.disk_model.specs.Memory.Model.{Noted, SimulatedDisk}
use Rattle.disk_model.specs.Memory.Images.{Kept, at_rest, replayed}
use Rattle.disk_model.specs.Memory.Record.{IsDone}
use Rattle.disk_model.proofs.Calls.{replayed_push}
use Rattle.disk_model.proofs.memory_disk.MemoryDisk.make.Goals as goal

pub invariant_of-self-2 : goal.invariant_of-self-2
invariant_of-self-2 c =
    let first = c.self.inside.first.items in
    let past = c.self.inside.noted.past in
    let room : c.self.inside.room ≡ c.args.self.now.room = ap (λ (disk : SimulatedDisk). disk.room) c.self.view_is in
    record {
      read = ap (λ (done : List Noted). (replayed (at_rest first) done).read) c.note.ensures.past
          ∙ ap (λ (kept : Kept). kept.read) (replayed_push (at_rest first) past _)
          ∙ c.carry_out.ensures.read (replayed (at_rest first) past) c.self.invariant.read;
      within = c.carry_out.ensures.size c.self.inside.room c.self.invariant.within (λ (done : IsDone c.args.kind). omega (arith, room, (c.requires.done done).0));
      taken = omega (arith, c.self.invariant.taken, c.carry_out.ensures.taken);
    }
