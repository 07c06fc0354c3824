-- A session that met no fault, in the terms of the file and the script.
use Rattle.std.proofs.Common.{◌≡◌, ◌≢◌, ◌⊎◌, inl, inr, ℕ, ◌^◌, ◌<◌, Bool, false, List, [], ◌++◌, length, length-append, Option, None, Some, subst, sym, ap, arith}
use Rattle.std.specs.Prelude.{IfSome}
use Rattle.outside_io.specs.Bytes.{TakesUpTo}
use Rattle.outside_io.specs.Causes.{Rose}
use Rattle.plan_disk.specs.Plan.{Plan, IsWhole, plan_state}
use Rattle.rows_text.specs.declared.command.Command.{Command}
use Rattle.session_run.specs.Job.{HasRefused, IsComplete, IsSessionStatus, RunsAsked, RunsSession}
use Rattle.mtree_c.specs.Sessions.{IsAsked, IsSession, holding, untouched}

unmoved : Rose 0 0 → ⊥
unmoved rose = omega (arith, rose)

-- what was taken of a script is no longer than it
taken_long : (script : List ℕ) (left : Option (List ℕ)) (status : ℕ) → TakesUpTo (2 ^ 26) (Some script) left (status ≡ 7) → status ≡ 7 → 2 ^ 26 < length script
taken_long script None status takes seven = absurd takes.taken
taken_long script (Some left) status takes seven =
    let more = takes.long.0 seven in
    let all : length script ≡ length (takes.bytes ++ left) = ap length takes.taken in
    omega (arith, more, all, length-append takes.bytes left)

module _ (show : Bool) (script file : List ℕ) (plan : Plan) (text log : List ℕ) (status : ℕ)
    (faultless : plan.faults ≡ 0) (runs : RunsSession show (Some script) (plan_state (untouched file)) (plan_state plan) (holding []) (holding text) (holding []) (holding log) status) where
  undisturbed : Rose 0 plan.faults → ⊥
  undisturbed rose = unmoved (subst (Rose 0) faultless rose)

  ends : IsSessionStatus status → (status ≡ 3 → Rose 0 0) → (status ≡ 4 → Rose 0 0 ⊎ Rose 0 0) → status ≢ 8 → (status ≡ 0) ⊎ ((status ≡ 6) ⊎ ((status ≡ 7) ⊎ (status ≡ 9)))
  ends (inl is) input output memory = inl is
  ends (inr (inl is)) input output memory = absurd (unmoved (input is))
  ends (inr (inr (inl is))) input output memory = elim (output is) [ inl rose ↦ absurd (unmoved rose) | inr rose ↦ absurd (unmoved rose) ]
  ends (inr (inr (inr (inl is)))) input output memory = absurd (undisturbed (runs.disk is))
  ends (inr (inr (inr (inr (inl is))))) input output memory = inr (inl is)
  ends (inr (inr (inr (inr (inr (inl is)))))) input output memory = inr (inr (inl is))
  ends (inr (inr (inr (inr (inr (inr (inl is))))))) input output memory = absurd (memory is)
  ends (inr (inr (inr (inr (inr (inr (inr is))))))) input output memory = inr (inr (inr is))

  no_fault : Rose 0 0 ⊎ (Rose 0 plan.faults ⊎ (Rose 0 0 ⊎ Rose 0 0)) → ⊥
  no_fault (inl rose) = unmoved rose
  no_fault (inr (inl rose)) = undisturbed rose
  no_fault (inr (inr (inl rose))) = unmoved rose
  no_fault (inr (inr (inr rose))) = unmoved rose

  pub is_session : (left : Option (List ℕ)) → plan.base ≡ file → IsWhole plan → IsSessionStatus status → (status ≡ 3 → Rose 0 0) → (status ≡ 4 → Rose 0 0 ⊎ Rose 0 0) → status ≢ 8
      → TakesUpTo (2 ^ 26) (Some script) left (status ≡ 7) → IsComplete (Some script) (plan_state (untouched file)) (Rose 0 0 ⊎ (Rose 0 plan.faults ⊎ (Rose 0 0 ⊎ Rose 0 0))) status
      → IsSession show script file (record { plan = plan; text = text; log = log }) status
  is_session left base whole statuses input output memory takes complete = record {
    base = base;
    whole = whole;
    faultless = faultless;
    runs = runs;
    complete = λ few is_known head live sound none. complete few is_known head live sound no_fault;
    long = taken_long script left status takes;
    statuses = ends statuses input output memory;
  }

module _ (asked : ℕ → List Command) (file : List ℕ) (plan : Plan) (text log : List ℕ) (status : ℕ) (faultless : plan.faults ≡ 0)
    (refused : HasRefused (plan_state (untouched file)) (plan_state plan) (holding []) (holding text) (holding []) (holding log) status) where
  asked_ends : (status ≡ 0) ⊎ ((status ≡ 4) ⊎ ((status ≡ 5) ⊎ ((status ≡ 6) ⊎ ((status ≡ 8) ⊎ (status ≡ 9))))) → status ≢ 8 → (status ≡ 0) ⊎ ((status ≡ 6) ⊎ (status ≡ 9))
  asked_ends (inl is) memory = inl is
  asked_ends (inr (inl four)) memory = elim (refused.output four) [ inl rose ↦ absurd (unmoved rose) | inr rose ↦ absurd (unmoved rose) ]
  asked_ends (inr (inr (inl five))) memory = absurd (unmoved (subst (Rose 0) faultless (refused.disk five)))
  asked_ends (inr (inr (inr (inl is)))) memory = inr (inl is)
  asked_ends (inr (inr (inr (inr (inl eight))))) memory = absurd (memory eight)
  asked_ends (inr (inr (inr (inr (inr is))))) memory = inr (inr is)

  pub is_asked : RunsAsked false asked (plan_state (untouched file)) (plan_state plan) (holding []) (holding text) (holding []) (holding log) status
      → plan.base ≡ file → IsWhole plan → status ≢ 8 → IsAsked asked file (record { plan = plan; text = text; log = log }) status
  is_asked runs base whole memory = record {
    base = base;
    whole = whole;
    faultless = faultless;
    runs = runs;
    refused = refused;
    statuses = asked_ends refused.statuses memory;
  }

-- what holds of a list holds of what is that list, where there is one
pub if_some_is : {X : Type 0} (list_of : X → List ℕ) (Holds : List ℕ → Type 0) (file : List ℕ) (found : Option X) → IfSome found (λ x. list_of x ≡ file) → Holds file → IfSome found (λ x. Holds (list_of x))
if_some_is list_of Holds file None is holds = tt
if_some_is list_of Holds file (Some x) is holds = subst Holds (sym is) holds
