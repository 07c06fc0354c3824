-- Reading digests and pages one after the other, as the loops do.
use Rattle.std.proofs.Common.{◌≡◌, ℕ, suc, ◌-◌, ◌+◌, ◌≤◌, ◌<◌, List, [], ◌∷◌, ◌++◌, Option, Some, None, Result, Ok, Err, refl, sym, ap, ◌∙◌, append_assoc, arith}
use Rattle.std.proofs.lemmas.List.{append-nil}
use Rattle.prune_log.specs.declared.fault.LogFault.{LogFault}
use Rattle.prune_log.specs.Reading.{◌>>=◌, Fails, next_at, always}
use Rattle.prune_log.proofs.Published.{with_front}
use Rattle.seal_log.specs.declared.parts.CarriedPage.{CarriedPage}
use Rattle.seal_log.specs.Reading.{page_at, pages_at}

-- any thing may come next
pub next-always : {X : Type 0} (reads : List ℕ → Result (X × List ℕ) LogFault) (last : Option X) (bytes : List ℕ) → next_at reads always last bytes ≡ reads bytes
next-always {X} reads last bytes = whatever last (reads bytes)
  where
    whatever : (last : Option X) (r : Result (X × List ℕ) LogFault) → next_at (λ b. r) always last bytes ≡ r
    whatever None (Ok x) = refl
    whatever (Some y) (Ok x) = refl
    whatever last (Err e) = refl

-- ---- pages

regroup : (front : List CarriedPage) (p : CarriedPage) (read : Result (List CarriedPage × List ℕ) LogFault) → with_front front (read >>= λ x. Ok (p ∷ x.0, x.1)) ≡ with_front (front ++ p ∷ []) read
regroup front p (Ok x) = ap (λ (ps : List CarriedPage). Ok (ps, x.1)) (simp append_assoc)
regroup front p (Err f) = refl

pub page_goes_on : (pages : ℕ) (front : List CarriedPage) (count i : ℕ) (last : Option ℕ) (bytes : List ℕ) (p : CarriedPage) (after : List ℕ) (total : Result (List CarriedPage × List ℕ) LogFault) → i < count
    → page_at pages last bytes ≡ Ok (p, after) → with_front front (pages_at pages (count - i) last bytes) ≡ total
    → with_front (front ++ p ∷ []) (pages_at pages (count - (i + 1)) (Some p.page) after) ≡ total
unfolding pages_at
page_goes_on pages front count i last bytes p after total lt h so_far =
    let k : count - i ≡ suc (count - (i + 1)) = omega arith in
    let one : with_front front (pages_at pages (count - i) last bytes) ≡ with_front (front ++ p ∷ []) (pages_at pages (count - (i + 1)) (Some p.page) after) =
    rw (k, h) (regroup front p (pages_at pages (count - (i + 1)) (Some p.page) after)) in
    sym one ∙ so_far

pub page_ends : (pages : ℕ) (e : LogFault) (front : List CarriedPage) (count i : ℕ) (last : Option ℕ) (bytes : List ℕ) (total : Result (List CarriedPage × List ℕ) LogFault) → i < count
    → Fails e (page_at pages last bytes) → with_front front (pages_at pages (count - i) last bytes) ≡ total → Fails e total
unfolding pages_at
page_ends pages e front count i last bytes total lt h so_far not_memory =
    let k : count - i ≡ suc (count - (i + 1)) = omega arith in
    let one : with_front front (pages_at pages (count - i) last bytes) ≡ Err e = rw (k, h not_memory) refl in
    sym so_far ∙ one

pub pages_done : (pages : ℕ) (front : List CarriedPage) (count i : ℕ) (last : Option ℕ) (bytes : List ℕ) (total : Result (List CarriedPage × List ℕ) LogFault) → count ≤ i
    → with_front front (pages_at pages (count - i) last bytes) ≡ total → total ≡ Ok (front, bytes)
unfolding pages_at
pages_done pages front count i last bytes total le so_far =
    let k : count - i ≡ 0 = omega arith in
    let one : with_front front (pages_at pages (count - i) last bytes) ≡ Ok (front, bytes) = rw k (ap (λ (ps : List CarriedPage). Ok (ps, bytes)) (append-nil front)) in
    sym so_far ∙ one
