-- The first steps of a plan, and the crashes within a step.
use Rattle.std.specs.Prelude.{◌≡◌, ◌⊎◌, ◌↔◌, ℕ, zero, suc, ◌+◌, List, [], ◌∷◌, take, drop}
use Rattle.std.proofs.Common.{arith, refl, sym, ◌∙◌, ap, subst, inl, inr, ⊎_elim, add-one}
use Rattle.std.proofs.lemmas.List.{take-take, drop-take}
use Rattle.disk_model.specs.Disk.{MayLeave}
use Rattle.disk_model.specs.Memory.Model.{Call, look, Noted}
use Rattle.disk_model.specs.Memory.Images.{IsImage, LeftAt, at_rest, replayed}
use Rattle.disk_model.specs.Memory.Laws.{left_now, now_left}
use Rattle.plan_disk.specs.declared.step.Step.{Step}
use Rattle.plan_disk.specs.Plan.{Plan, call_of, calls_of, total, simulated, plan_state, first_steps}

take_calls : (first k : ℕ) (steps : List Step) (bytes : List ℕ) → take k (calls_of first steps bytes) ≡ calls_of first (take k steps) (take (total (take k steps)) bytes)
unfolding calls_of total
take_calls first zero steps bytes = refl
take_calls first (suc k) [] bytes = refl
take_calls first (suc k) (step ∷ steps) bytes =
    let more = total (take k steps) in
    let own : call_of step bytes ≡ call_of step (take (step.size + more) bytes) = rw (take-take step.size (step.size + more) bytes (omega arith)) refl in
    ap (λ (call : Call). record { number = first; call = call } ∷ take k (calls_of (first + 1) steps (drop step.size bytes))) own
    ∙ ap (λ (past : List Noted). record { number = first; call = call_of step (take (step.size + more) bytes) } ∷ past)
    (take_calls (first + 1) k steps (drop step.size bytes) ∙ ap (calls_of (first + 1) (take k steps)) (sym (drop-take step.size more bytes)))

-- the calls of the first steps, after the look
firsts : (plan : Plan) (k : ℕ) → take (k + 1) (simulated plan).past ≡ (simulated (first_steps k plan)).past
firsts plan k = rw add-one (ap (λ (past : List Noted). record { number = 0; call = look } ∷ past) (take_calls 1 k plan.steps plan.written))

-- what a crash after the first steps may leave
abbrev Image : Plan → ℕ → List ℕ → Type 0
Image plan k image = IsImage (replayed (at_rest plan.base) (take (k + 1) (simulated plan).past)) image

left_of : (plan : Plan) (k : ℕ) (image : List ℕ) → Image plan k image → MayLeave (plan_state (first_steps k plan)) image
left_of plan k image is = now_left plan.base _ image (subst (λ (past : List Noted). IsImage (replayed (at_rest plan.base) past) image) (firsts plan k) is)

of_left : (plan : Plan) (k : ℕ) (image : List ℕ) → MayLeave (plan_state (first_steps k plan)) image → Image plan k image
of_left plan k image left = subst (λ (past : List Noted). IsImage (replayed (at_rest plan.base) past) image) (sym (firsts plan k)) (left_now plan.base _ image left)

pub within_step : (plan : Plan) (k : ℕ) (image : List ℕ) → (plan_state plan).images (k + 1) image
    ↔ (MayLeave (plan_state (first_steps k plan)) image ⊎ MayLeave (plan_state (first_steps (k + 1) plan)) image)
unfolding LeftAt
within_step plan k image = (
  λ left. ⊎_elim (λ before. inl (left_of plan k image before)) (λ behind. inr (left_of plan (k + 1) image behind)) left,
  λ either. ⊎_elim (λ before. inl (of_left plan k image before)) (λ behind. inr (of_left plan (k + 1) image behind)) either,
)
