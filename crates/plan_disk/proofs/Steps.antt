-- What one step more makes of a plan's disk.
use Rattle.std.specs.Prelude.{◌≡◌, ℕ, ◌+◌, ◌≤◌, true, List, [], ◌∷◌, ◌++◌, length, drop}
use Rattle.std.proofs.Common.{arith, refl, sym, ◌∙◌, ap, subst, length-drop, length-append}
use Rattle.std.proofs.lemmas.List.{take_all, take-append-le, drop-append-le, nil_from_length}
use Rattle.disk_model.specs.Disk.{DiskState, MayLeave, LeavesOnly, Torn, Written, Follows, IsOneCall, IsUnchanged}
use Rattle.disk_model.specs.Memory.Model.{Call, look, write, Noted}
use Rattle.disk_model.specs.Memory.Files.{overwritten, overwritten-written}
use Rattle.disk_model.specs.Memory.Images.{Kept, at_rest, after, replayed}
use Rattle.disk_model.proofs.Published.{state_at, replayed_push, one_call, write_follows, nothing_follows, nothing_unchanged, nothing_one_call, sync_only, sync_fewer}
use Rattle.plan_disk.specs.declared.step.Step.{Step}
use Rattle.plan_disk.specs.Plan.{Plan, call_of, calls_of, total, IsWhole, simulated, plan_state, file_of, write_step, sync_step, with_step}

-- ---- the calls of a plan

pub total_push : (steps : List Step) (step : Step) → total (steps ++ step ∷ []) ≡ total steps + step.size
unfolding total
total_push [] step = omega arith
total_push (s ∷ steps) step = omega (arith, total_push steps step)

call_of_more : (step : Step) (bytes more : List ℕ) → step.size ≤ length bytes → call_of step (bytes ++ more) ≡ call_of step bytes
call_of_more step bytes more le = rw (take-append-le step.size bytes more le) refl

calls_push : (first last : ℕ) (steps : List Step) (bytes : List ℕ) (step : Step) (more : List ℕ) → last ≡ first + length steps → total steps ≡ length bytes
    → calls_of first (steps ++ step ∷ []) (bytes ++ more) ≡ calls_of first steps bytes ++ record { number = last; call = call_of step more } ∷ []
unfolding calls_of total
calls_push first last [] bytes step more is used =
    let here : first ≡ last = omega arith in
    ap (λ (bs : List ℕ). record { number = first; call = call_of step (bs ++ more) } ∷ []) (nil_from_length bytes (omega arith))
    ∙ ap (λ (n : ℕ). record { number = n; call = call_of step more } ∷ []) here
calls_push first last (s ∷ steps) bytes step more is used =
    let within : s.size ≤ length bytes = omega arith in
    let left : total steps ≡ length (drop s.size bytes) = omega (arith, length-drop s.size bytes) in
    let here : last ≡ first + 1 + length steps = omega arith in
    ap (λ (call : Call). record { number = first; call = call } ∷ calls_of (first + 1) (steps ++ step ∷ []) (drop s.size (bytes ++ more))) (call_of_more s bytes more within)
    ∙ ap (λ (rest : List ℕ). record { number = first; call = call_of s bytes } ∷ calls_of (first + 1) (steps ++ step ∷ []) rest) (drop-append-le s.size bytes more within)
    ∙ ap (λ (past : List Noted). record { number = first; call = call_of s bytes } ∷ past) (calls_push (first + 1) last steps (drop s.size bytes) step more here left)

-- ---- the state of a plan, by the calls

abbrev past_of : Plan → List Noted
past_of plan = (simulated plan).past

abbrev kept_of : Plan → Kept
kept_of plan = replayed (at_rest plan.base) (past_of plan)

-- the state after a call more
abbrev state_after : Plan → List Noted → ℕ → ℕ → DiskState
state_after plan past faults reads = state_at plan.base past (replayed (at_rest plan.base) past).read faults reads

module _ (plan : Plan) (step : Step) (bytes : List ℕ) (whole : IsWhole plan) where
  abbrev noted : Noted
  noted = record { number = length plan.steps + 1; call = call_of step bytes }

  past_push : past_of (with_step plan step bytes) ≡ past_of plan ++ noted ∷ []
  past_push = ap (λ (past : List Noted). record { number = 0; call = look } ∷ past) (calls_push 1 (length plan.steps + 1) plan.steps plan.written step bytes (omega arith) whole)

  kept_push : kept_of (with_step plan step bytes) ≡ after (kept_of plan) (call_of step bytes)
  kept_push = ap (replayed (at_rest plan.base)) past_push ∙ replayed_push (at_rest plan.base) (past_of plan) noted

  pub step_one_call : IsOneCall (plan_state plan) (plan_state (with_step plan step bytes))
  step_one_call = subst (λ (past : List Noted). IsOneCall (plan_state plan) (state_after plan past plan.faults plan.reads)) (sym past_push) (one_call plan.base (past_of plan) noted _ _ _ _ _ _)

-- ---- a write

module _ (plan : Plan) (at : ℕ) (bytes : List ℕ) (whole : IsWhole plan) where
  abbrev wrote : Plan
  wrote = with_step plan (write_step at bytes) bytes

  write_call : call_of (write_step at bytes) bytes ≡ write at bytes true
  write_call = ap (λ (bs : List ℕ). write at bs true) (take_all (length bytes) bytes (omega arith))

  pub write_file : file_of wrote ≡ overwritten at bytes (file_of plan)
  write_file = ap (λ (kept : Kept). kept.read) (kept_push plan (write_step at bytes) bytes whole ∙ ap (after (kept_of plan)) write_call)

  pub write_written : Written at bytes (file_of plan) (file_of wrote)
  write_written = subst (λ (file : List ℕ). Written at bytes (file_of plan) file) (sym write_file) (overwritten-written at bytes (file_of plan))

  past_write : past_of wrote ≡ past_of plan ++ record { number = length plan.steps + 1; call = write at bytes true } ∷ []
  past_write = past_push plan (write_step at bytes) bytes whole ∙ ap (λ (call : Call). past_of plan ++ record { number = length plan.steps + 1; call = call } ∷ []) write_call

  pub write_torn : Follows (Torn at (length bytes)) (plan_state plan) (plan_state wrote)
  write_torn = subst (λ (past : List Noted). Follows (Torn at (length bytes)) (plan_state plan) (state_after plan past plan.faults plan.reads)) (sym past_write)
      (write_follows plan.base (past_of plan) (length plan.steps + 1) at bytes true [] [] 0 0 0 0)

-- ---- a sync

module _ (plan : Plan) (whole : IsWhole plan) where
  abbrev synced : Plan
  synced = with_step plan sync_step []

  pub sync_file : file_of synced ≡ file_of plan
  sync_file = ap (λ (kept : Kept). kept.read) (kept_push plan sync_step [] whole)

  pub sync_durable : LeavesOnly (plan_state synced) (file_of plan)
  sync_durable = subst (λ (past : List Noted). LeavesOnly (state_after plan past plan.faults plan.reads) (file_of plan)) (sym (past_push plan sync_step [] whole))
      (sync_only plan.base (past_of plan) (length plan.steps + 1))

  pub sync_takes : (image : List ℕ) → MayLeave (plan_state synced) image → MayLeave (plan_state plan) image
  sync_takes = subst (λ (past : List Noted). (image : List ℕ) → MayLeave (state_after plan past plan.faults plan.reads) image → MayLeave (plan_state plan) image) (sym (past_push plan sync_step [] whole))
      (sync_fewer plan.base (past_of plan) (length plan.steps + 1))

-- ---- a call that is not in the plan

module _ (plan : Plan) (faults reads : ℕ) where
  abbrev counted : Plan
  counted = record plan { faults = faults; reads = reads }

  pub count_unchanged : IsUnchanged (plan_state plan) (plan_state counted)
  count_unchanged = nothing_unchanged plan.base (past_of plan) (file_of plan) (file_of plan) plan.faults faults plan.reads reads refl

  pub count_one_call : IsOneCall (plan_state plan) (plan_state counted)
  count_one_call = nothing_one_call plan.base (past_of plan) _ _ _ _ _ _

  pub count_torn : (at size : ℕ) → Follows (Torn at size) (plan_state plan) (plan_state counted)
  count_torn at size = nothing_follows plan.base (past_of plan) at size [] [] 0 0 0 0

-- ---- how the plan is kept

-- before the first step
pub empty_file : (plan : Plan) → plan.steps ≡ [] → file_of plan ≡ plan.base
unfolding calls_of replayed
empty_file plan none = ap (λ (steps : List Step). (replayed (at_rest plan.base) (calls_of 1 steps plan.written)).read) none

pub empty_whole : (steps : List Step) (written : List ℕ) → steps ≡ [] → written ≡ [] → total steps ≡ length written
unfolding total
empty_whole steps written none empty = ap total none ∙ sym (ap length empty)

pub plan_by : (plan : Plan) (step : Step) (bytes base : List ℕ) (steps : List Step) (written : List ℕ) → base ≡ plan.base → steps ≡ plan.steps ++ step ∷ [] → written ≡ plan.written ++ bytes
    → record plan { base = base; steps = steps; written = written } ≡ with_step plan step bytes
plan_by plan step bytes base steps written same longer more =
    ap (λ (b : List ℕ). record plan { base = b; steps = steps; written = written }) same
    ∙ ap (λ (s : List Step). record plan { steps = s; written = written }) longer
    ∙ ap (λ (w : List ℕ). record plan { steps = plan.steps ++ step ∷ []; written = w }) more

pub whole_step : (plan : Plan) (step : Step) (bytes : List ℕ) → IsWhole plan → step.size ≡ length bytes → IsWhole (with_step plan step bytes)
whole_step plan step bytes whole size = omega (arith, total_push plan.steps step, whole, size, length-append plan.written bytes)
