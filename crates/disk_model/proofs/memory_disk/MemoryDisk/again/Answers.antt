use Rattle.std.proofs.Common.{◌≡◌, List, ℕ, ◌++◌, ◌∙◌, sym, ap, Result, Ok, Err, IfOk}
use Rattle.disk_model.specs.Memory.Model.{SimulatedDisk}
use Rattle.disk_model.specs.Memory.Images.{kept_by, replayed}
use Rattle.disk_model.proofs.memory_disk.MemoryDisk.again.Goals as goal

if_ok : {A E : Type 0} {P Q : A → Type 0} (r : Result A E) → ((a : A) → P a → Q a) → IfOk r P → IfOk r Q
if_ok (Ok a) so holds = so a holds
if_ok (Err e) so holds = tt

-- src/memory_disk.rt:109:5
pub returns : goal.returns
unfolding replayed
returns c = if_ok c.new.result (λ disk is. ap (λ (d : SimulatedDisk). (kept_by d).read) is ∙ copied ∙ sym c.self.invariant.read ∙ ap (λ (d : SimulatedDisk). (kept_by d).read) c.self.view_is) c.new.ensures
  where
    copied : c.extend_from_slice.new.self.items ≡ c.self.inside.bytes.items
    copied = c.in_ok-extend_from_slice.ensures.items ∙ ap (λ (l : List ℕ). l ++ c.deref.result.now) c.new-bytes.ensures.items ∙ c.deref.ensures.value
