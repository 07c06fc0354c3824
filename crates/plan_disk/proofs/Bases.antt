-- The moment before the first step tells the file before the plan.
use Rattle.std.specs.Prelude.{◌≡◌, ℕ, List, ◌∷◌}
use Rattle.std.proofs.Common.{arith, inl, ⊎_elim}
use Rattle.disk_model.specs.Disk.{EachImage}
use Rattle.disk_model.specs.Memory.Model.{look, Noted}
use Rattle.disk_model.specs.Memory.Images.{LeftAt, replayed}
use Rattle.disk_model.specs.Memory.Laws.{rests}
use Rattle.disk_model.proofs.Published.{rest_only}
use Rattle.plan_disk.specs.Plan.{Plan, plan_state}

abbrev opened : List Noted → List Noted
opened past = record { number = 0; call = look } ∷ past

left_first : (file : List ℕ) (past : List Noted) → LeftAt file (opened past) 0 file
unfolding LeftAt replayed
left_first file past = inl (rests file)

first_left : (file image : List ℕ) (past : List Noted) → LeftAt file (opened past) 0 image → image ≡ file
unfolding LeftAt replayed
first_left file image past left = ⊎_elim (λ before. rest_only file image before) (λ behind. rest_only file image behind) left

pub bases_same : (old new : Plan) (P : List ℕ → Type 0) → EachImage (plan_state old) (plan_state new) P → new.base ≡ old.base
bases_same old new P run = first_left old.base new.base _ (run.past 0 new.base (omega arith) (left_first new.base _))
