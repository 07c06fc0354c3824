-- Reading things one after the other, as a loop does.
use Rattle.std.proofs.Common.{◌≡◌, ℕ, suc, ◌-◌, ◌+◌, ◌≤◌, ◌<◌, Bool, List, [], ◌∷◌, ◌++◌, length, Option, Some, Result, Ok, Err, refl, sym, ap, ◌∙◌, append_assoc, arith}
use Rattle.std.specs.Prelude.{slice_get}
use Rattle.std.proofs.lemmas.List.{append-nil, length-append}
use Rattle.std.proofs.lemmas.Option.{slice_get_read}
use Rattle.std.proofs.Math.Seq.{get_or-append_seam}
use Rattle.prune_log.specs.declared.fault.LogFault.{LogFault}
use Rattle.prune_log.specs.Reading.{◌>>=◌, Fails, next_at, many}

-- the last thing of a list
abbrev pub last_of : {X : Type 0} → List X → Option X
last_of xs = slice_get xs (length xs - 1)

-- what was read before, and what is still read
abbrev pub with_front : {X : Type 0} → List X → Result (List X × List ℕ) LogFault → Result (List X × List ℕ) LogFault
with_front front read = read >>= λ x. Ok (front ++ x.0, x.1)

-- the last thing of a list that grew
pub last_more : {X : Type 0} (xs : List X) (x : X) → last_of (xs ++ x ∷ []) ≡ Some x
last_more xs x =
    slice_get_read (xs ++ x ∷ []) (length (xs ++ x ∷ [])) (length (xs ++ x ∷ []) - 1) x refl (omega (arith, length-append xs (x ∷ [])))
    (let at : length (xs ++ x ∷ []) - 1 ≡ length xs = omega (arith, length-append xs (x ∷ [])) in rw at (sym (get_or-append_seam xs x [] x)))

regroup : {X : Type 0} (front : List X) (n : X) (read : Result (List X × List ℕ) LogFault) → with_front front (read >>= λ x. Ok (n ∷ x.0, x.1)) ≡ with_front (front ++ n ∷ []) read
regroup {X} front n (Ok x) = ap (λ (ns : List X). Ok (ns, x.1)) (simp append_assoc)
regroup front n (Err f) = refl

pub goes_on : {X : Type 0} (reads : List ℕ → Result (X × List ℕ) LogFault) (follows : X → X → Bool) (front : List X) (count i : ℕ) (bytes : List ℕ) (n : X) (after : List ℕ) (total : Result (List X × List ℕ) LogFault) → i < count
    → next_at reads follows (last_of front) bytes ≡ Ok (n, after)
    → with_front front (many reads follows (count - i) (last_of front) bytes) ≡ total
    → with_front (front ++ n ∷ []) (many reads follows (count - (i + 1)) (last_of (front ++ n ∷ [])) after) ≡ total
unfolding many
goes_on reads follows front count i bytes n after total lt h so_far =
    let k : count - i ≡ suc (count - (i + 1)) = omega arith in
    let one : with_front front (many reads follows (count - i) (last_of front) bytes) ≡ with_front (front ++ n ∷ []) (many reads follows (count - (i + 1)) (Some n) after) =
    rw (k, h) (regroup front n (many reads follows (count - (i + 1)) (Some n) after)) in
    rw (last_more front n) (sym one ∙ so_far)

pub ends : {X : Type 0} (reads : List ℕ → Result (X × List ℕ) LogFault) (follows : X → X → Bool) (e : LogFault) (front : List X) (count i : ℕ) (bytes : List ℕ) (total : Result (List X × List ℕ) LogFault) → i < count
    → Fails e (next_at reads follows (last_of front) bytes) → with_front front (many reads follows (count - i) (last_of front) bytes) ≡ total → Fails e total
unfolding many
ends reads follows e front count i bytes total lt h so_far not_memory =
    let k : count - i ≡ suc (count - (i + 1)) = omega arith in
    let one : with_front front (many reads follows (count - i) (last_of front) bytes) ≡ Err e = rw (k, h not_memory) refl in
    sym so_far ∙ one

pub is_done : {X : Type 0} (reads : List ℕ → Result (X × List ℕ) LogFault) (follows : X → X → Bool) (front : List X) (count i : ℕ) (bytes : List ℕ) (total : Result (List X × List ℕ) LogFault) → count ≤ i
    → with_front front (many reads follows (count - i) (last_of front) bytes) ≡ total → total ≡ Ok (front, bytes)
unfolding many
is_done {X} reads follows front count i bytes total le so_far =
    let k : count - i ≡ 0 = omega arith in
    let one : with_front front (many reads follows (count - i) (last_of front) bytes) ≡ Ok (front, bytes) = rw k (ap (λ (ns : List X). Ok (ns, bytes)) (append-nil front)) in
    sym so_far ∙ one
