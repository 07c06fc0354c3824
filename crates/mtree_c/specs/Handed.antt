-- What is handed over of a session.
use Rattle.std.specs.Prelude.{◌≡◌, ◌≢◌, ◌⊎◌, ◌<◌, ℕ, List, length}
use Rattle.caller_ends.specs.Rooms.{StandAtFront}
use Rattle.plan_disk.specs.Plan.{file_of}
use Rattle.plan_disk.specs.declared.step.Step.{Step}
use Rattle.mtree_c.specs.Sessions.{Session}
use Rattle.mtree_c.specs.declared.plans.PlanSizes.{PlanSizes}
use Rattle.mtree_c.specs.declared.sessions.SessionSizes.{SessionSizes}

-- ---- the plan

abbrev pub plan_sizes : Session → PlanSizes
plan_sizes s = record { steps = length s.plan.steps; written = length s.plan.written; text = length s.text; log = length s.log }

-- a buffer has no room for its part of the plan
abbrev pub HasNoRoomForPlan : Session → List Step → List ℕ → List ℕ → List ℕ → Type 0
HasNoRoomForPlan s steps written text log =
    (length steps < length s.plan.steps) ⊎ ((length written < length s.plan.written) ⊎ ((length text < length s.text) ⊎ (length log < length s.log)))

-- The buffers hold the steps, their bytes, the replies and the frames, and the status is the session's. Or the status is 4, and one of the
-- buffers has no room for its part. In both cases the sizes are given. Or the status is 8, because memory ran out. At 4 and 8 the buffers
-- are as they were.
pub record HandsPlan (Is : Session → ℕ → Type 0) (steps0 steps1 : List Step) (written0 written1 text0 text1 log0 log1 : List ℕ)
    (sizes : PlanSizes) (status : ℕ) : Type 0 where
  pub done : status ≢ 4 → status ≢ 8 → (s : Session) × Is s status × (sizes ≡ plan_sizes s) × StandAtFront s.plan.steps steps0 steps1
      × StandAtFront s.plan.written written0 written1 × StandAtFront s.text text0 text1 × StandAtFront s.log log0 log1
  pub short : status ≡ 4 → (s : Session) × (of : ℕ) × Is s of × (sizes ≡ plan_sizes s) × HasNoRoomForPlan s steps0 written0 text0 log0
  pub memory : status ≡ 8 → sizes ≡ record { steps = 0; written = 0; text = 0; log = 0 }
  pub same : (status ≡ 4) ⊎ (status ≡ 8) → (steps1 ≡ steps0) × (written1 ≡ written0) × (text1 ≡ text0) × (log1 ≡ log0)

-- ---- the file

abbrev pub session_sizes : Session → SessionSizes
session_sizes s = record { file = length (file_of s.plan); text = length s.text; log = length s.log }

-- a buffer has no room for its part of the session
abbrev pub HasNoRoom : Session → List ℕ → List ℕ → List ℕ → Type 0
HasNoRoom s room text log = (length room < length (file_of s.plan)) ⊎ ((length text < length s.text) ⊎ (length log < length s.log))

-- The buffers hold the file after the session, the replies and the frames, and the status is the session's. Or the status is 4, and one of
-- the buffers has no room for its part. In both cases the sizes are given. Or the status is 2, because the file is longer than its
-- buffer, or 8, because memory ran out. At 2, 4 and 8 the buffers are as they were.
pub record HandsSession (Is : Session → ℕ → Type 0) (file : ℕ) (room0 room1 text0 text1 log0 log1 : List ℕ) (sizes : SessionSizes)
    (status : ℕ) : Type 0 where
  pub done : status ≢ 2 → status ≢ 4 → status ≢ 8 → (s : Session) × Is s status × (sizes ≡ session_sizes s)
      × StandAtFront (file_of s.plan) room0 room1 × StandAtFront s.text text0 text1 × StandAtFront s.log log0 log1
  pub short : status ≡ 4 → (s : Session) × (of : ℕ) × Is s of × (sizes ≡ session_sizes s) × HasNoRoom s room0 text0 log0
  pub no_file : status ≡ 2 → length room0 < file
  pub nothing : (status ≡ 2) ⊎ (status ≡ 8) → sizes ≡ record { file = 0; text = 0; log = 0 }
  pub same : (status ≡ 2) ⊎ ((status ≡ 4) ⊎ (status ≡ 8)) → (room1 ≡ room0) × (text1 ≡ text0) × (log1 ≡ log0)
