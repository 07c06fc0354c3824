-- What a call answered, from what reading gives.
use Rattle.std.proofs.Common.{◌≡◌, ◌≢◌, ◌⊎◌, inl, inr, ℕ, ◌==◌, cond, List, [], ◌++◌, length, None, Result, Ok, Err, refl, sym, ap, subst, ◌∙◌}
use Rattle.std.specs.Prelude.{IfOk, MatchResult}
use Rattle.std.proofs.lemmas.Bool.{eqb-true}
use Rattle.std.proofs.lemmas.List.{append-nil, nil_from_length}
use Rattle.prune_log.specs.declared.fault.LogFault.{LogFault}
use Rattle.prune_log.specs.declared.fault.LogFault.TheVariants as faults
use Rattle.prune_log.specs.Ranges.{IsBytes}
use Rattle.prune_log.specs.Reading.{Gives, whole, fault_of}
use Rattle.prune_log.proofs.Exact.{bind_ok, guard_ok, ok_is, IsReader}

is_memory : (fault : LogFault) → (fault ≡ faults.Memory) ⊎ (fault ≢ faults.Memory)
is_memory faults.Magic = inr (λ e. cc)
is_memory faults.Version = inr (λ e. cc)
is_memory faults.Kind = inr (λ e. cc)
is_memory faults.Cut = inr (λ e. cc)
is_memory faults.Mark = inr (λ e. cc)
is_memory faults.Order = inr (λ e. cc)
is_memory faults.Tail = inr (λ e. cc)
is_memory faults.Memory = inl refl

-- what takes all bytes is spelled so and in the grammar
pub whole_takes : {L : Type 0} (Valid : L → Type 0) (spelled : L → List ℕ) (reads : List ℕ → Result (L × List ℕ) LogFault) → IsReader Valid spelled reads
    → (bytes : List ℕ) (log : L) → IsBytes bytes → whole reads bytes ≡ Ok log → Valid log × (spelled log ≡ bytes)
whole_takes {L} Valid spelled reads reader bytes log fits e =
    let a = bind_ok (reads bytes) (λ log. cond (length log.1 == 0) (Ok log.0) (Err faults.Tail)) log e in
    let g = guard_ok (length a.0.1 == 0) faults.Tail (Ok a.0.0) log a.2 in
    let took = reader.takes bytes a.0.0 a.0.1 fits a.1 in
    let nothing : a.0.1 ≡ [] = nil_from_length a.0.1 (eqb-true (length a.0.1) 0 g.0) in
    let all : spelled a.0.0 ≡ bytes = sym (took.0.parts ∙ ap (λ (t : List ℕ). spelled a.0.0 ++ t) nothing ∙ append-nil (spelled a.0.0)) in
    subst (λ (l : L). Valid l × (spelled l ≡ bytes)) (ok_is a.0.0 log g.1) (took.1, all)

-- what is in the grammar is read of its spelling
pub whole_again : {L : Type 0} (Valid : L → Type 0) (spelled : L → List ℕ) (reads : List ℕ → Result (L × List ℕ) LogFault) → IsReader Valid spelled reads
    → (log : L) → Valid log → whole reads (spelled log) ≡ Ok log
whole_again Valid spelled reads reader log valid = ap (whole reads) (sym (append-nil (spelled log))) ∙ rw (reader.again log [] valid) refl

pub gives_ok : {L : Type 0} (Valid : L → Type 0) (spelled : L → List ℕ) (reads : List ℕ → Result (L × List ℕ) LogFault) → IsReader Valid spelled reads
    → (bytes : List ℕ) (r : Result L LogFault) → IsBytes bytes → Gives (λ l. l) r (whole reads bytes) → IfOk r (λ log. Valid log × (spelled log ≡ bytes))
gives_ok Valid spelled reads reader bytes (Ok log) fits gives = whole_takes Valid spelled reads reader bytes log fits gives
gives_ok Valid spelled reads reader bytes (Err fault) fits gives = tt

pub if_ok : {A E : Type 0} (r : Result A E) (P Q : A → Type 0) → ((x : A) → P x → Q x) → IfOk r P → IfOk r Q
if_ok (Ok x) P Q implies p = implies x p
if_ok (Err e) P Q implies p = tt

-- what reading gives, seen by view, is what a call answered, unless memory ran out
pub given : {X Y : Type 0} (view : X → Y) (r : Result X LogFault) (y : Y) → Gives view r (Ok y) → MatchResult r (λ x. view x ≡ y) (λ fault. fault ≡ faults.Memory)
given view (Ok x) y gives = sym (ok_is y (view x) gives)
given view (Err fault) y gives = elim (is_memory fault) [ inl is ↦ is | inr isnt ↦ absurd (clash y fault (gives isnt)) ]
  where
    clash : {Y : Type 0} (y : Y) (fault : LogFault) → Ok y ≡ Err fault → ⊥
    clash y fault e = cc

pub gives_only : {L : Type 0} (Valid : L → Type 0) (spelled : L → List ℕ) (reads : List ℕ → Result (L × List ℕ) LogFault) → IsReader Valid spelled reads
    → (bytes : List ℕ) (r : Result L LogFault) (log : L) → Valid log → spelled log ≡ bytes → Gives (λ l. l) r (whole reads bytes) → (r ≡ Ok log) ⊎ (r ≡ Err faults.Memory)
gives_only {L} Valid spelled reads reader bytes r log valid is gives =
    answered r (given (λ l. l) r log (subst (Gives (λ (l : L). l) r) (ap (whole reads) (sym is) ∙ whole_again Valid spelled reads reader log valid) gives))
  where
    answered : (r : Result L LogFault) → MatchResult r (λ x. x ≡ log) (λ fault. fault ≡ faults.Memory) → (r ≡ Ok log) ⊎ (r ≡ Err faults.Memory)
    answered (Ok x) same = inl (ap Ok same)
    answered (Err fault) same = inr (ap Err same)

-- reading gives a log where there is no fault
pub no_fault : {Y : Type 0} (r : Result Y LogFault) → fault_of r ≡ None → (y : Y) × (r ≡ Ok y)
no_fault (Ok y) e = (y, refl)
no_fault (Err fault) e = absurd cc
