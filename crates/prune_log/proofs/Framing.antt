-- Frames: what is read is spelled so, and what was spelled is read again.
use Rattle.std.proofs.Common.{◌≡◌, ℕ, zero, suc, ◌+◌, ◌-◌, ◌^◌, ◌<◌, ◌≤◌, ◌==◌, ltb, true, false, List, [], ◌∷◌, ◌++◌, length, take, drop, Result, Ok, Err, refl, sym, ap, subst, ◌∙◌, append_assoc, arith}
use Rattle.std.specs.Prelude.{IfOk, MatchResult}
use Rattle.std.specs.List.{AllByRecursion}
use Rattle.std.proofs.lemmas.Bool.{ltb-false, le-ltb, eqb-true}
use Rattle.std.proofs.lemmas.List.{append-nil, nil_from_length, take-append-drop, length-append, length-take, take_at, drop_at}
use Rattle.std.proofs.lemmas.List.Concat.{flat_map-cons}
use Rattle.byteorder.specs.Endian.{big_bytes}
use Rattle.byteorder.specs.Numbers.{length-bytes_high_first}
use Rattle.prune_log.specs.declared.fault.LogFault.{LogFault}
use Rattle.prune_log.specs.declared.fault.LogFault.TheVariants as faults
use Rattle.prune_log.specs.Ranges.{IsBytes}
use Rattle.prune_log.specs.Spelling.{frame_bytes, frames_bytes}
use Rattle.prune_log.specs.Reading.{◌>>=◌, Fails, Gives, number_at, whole, front_at, frame_at, frames_within, frames_at}
use Rattle.prune_log.proofs.Exact.{IsBytes-take, IsBytes-drop, bind_ok, not_cut, ok_is, Takes, Takes-then, IsReader, wide64, number_reader}
use Rattle.prune_log.proofs.Whole.{whole_takes, whole_again, given}

-- the logs that were read before, and those that are still read
abbrev pub behind : {L : Type 0} → List L → Result (List L) LogFault → Result (List L) LogFault
behind front read = read >>= λ logs. Ok (front ++ logs)

regroup : {L : Type 0} (front : List L) (log : L) (read : Result (List L) LogFault) → behind front (read >>= λ logs. Ok (log ∷ logs)) ≡ behind (front ++ log ∷ []) read
regroup {L} front log (Ok logs) = ap (λ (ls : List L). Ok ls) (simp append_assoc)
regroup front log (Err fault) = refl

-- a frame more
step : {L : Type 0} (reads : List ℕ → Result (L × List ℕ) LogFault) (n : ℕ) (bytes : List ℕ) → 0 < length bytes
    → frames_within reads (suc n) bytes ≡ (frame_at reads bytes >>= λ first. frames_within reads n first.1 >>= λ others. Ok (first.0 ∷ others))
unfolding frames_within
step reads n [] some = absurd (let e : ⊥ = omega arith in e)
step reads n (b ∷ bytes) some = refl

pub goes_on : {L : Type 0} (reads : List ℕ → Result (L × List ℕ) LogFault) (front : List L) (room : ℕ) (bytes : List ℕ) (log : L) (after : List ℕ) (total : Result (List L) LogFault)
    → 0 < length bytes → length bytes + length front ≤ room → frame_at reads bytes ≡ Ok (log, after) → behind front (frames_within reads (room - length front) bytes) ≡ total
    → behind (front ++ log ∷ []) (frames_within reads (room - length (front ++ log ∷ [])) after) ≡ total
goes_on reads front room bytes log after total some enough h so_far =
    let k : room - length front ≡ suc (room - length (front ++ log ∷ [])) = omega (arith, length-append front (log ∷ [])) in
    let one : behind front (frames_within reads (room - length front) bytes) ≡ behind (front ++ log ∷ []) (frames_within reads (room - length (front ++ log ∷ [])) after) =
    ap (λ (n : ℕ). behind front (frames_within reads n bytes)) k ∙ ap (behind front) (step reads (room - length (front ++ log ∷ [])) bytes some)
    ∙ rw h (regroup front log (frames_within reads (room - length (front ++ log ∷ [])) after)) in
    sym one ∙ so_far

pub ends : {L : Type 0} (reads : List ℕ → Result (L × List ℕ) LogFault) (fault : LogFault) (front : List L) (room : ℕ) (bytes : List ℕ) (total : Result (List L) LogFault)
    → 0 < length bytes → length bytes + length front ≤ room → Fails fault (frame_at reads bytes) → behind front (frames_within reads (room - length front) bytes) ≡ total → Fails fault total
ends reads fault front room bytes total some enough h so_far not_memory =
    let k : room - length front ≡ suc (room - length front - 1) = omega arith in
    let one : behind front (frames_within reads (room - length front) bytes) ≡ Err fault =
    ap (λ (n : ℕ). behind front (frames_within reads n bytes)) k ∙ ap (behind front) (step reads (room - length front - 1) bytes some) ∙ rw (h not_memory) refl in
    sym so_far ∙ one

nothing_left : {L : Type 0} (reads : List ℕ → Result (L × List ℕ) LogFault) (n : ℕ) → frames_within reads n [] ≡ Ok []
unfolding frames_within
nothing_left reads zero = refl
nothing_left reads (suc n) = refl

pub is_done : {L : Type 0} (reads : List ℕ → Result (L × List ℕ) LogFault) (front : List L) (room : ℕ) (bytes : List ℕ) (total : Result (List L) LogFault)
    → length bytes ≡ 0 → behind front (frames_within reads (room - length front) bytes) ≡ total → total ≡ Ok front
is_done {L} reads front room bytes total none so_far =
    sym so_far ∙ ap (λ (bs : List ℕ). behind front (frames_within reads (room - length front) bs)) (nil_from_length bytes none)
    ∙ ap (behind front) (nothing_left reads (room - length front)) ∙ ap (λ (ls : List L). Ok ls) (append-nil front)

-- what the test of the loop says
pub some_left : (bytes : List ℕ) → false ≡ (length bytes == 0) → 0 < length bytes
some_left [] e = absurd cc
some_left (b ∷ bytes) e = omega arith

pub none_left : (bytes : List ℕ) → true ≡ (length bytes == 0) → length bytes ≡ 0
none_left bytes e = eqb-true (length bytes) 0 (sym e)

-- ---- a frame

-- a log that a frame can hold
pub record Fits {L : Type 0} (Valid : L → Type 0) (spelled : L → List ℕ) (log : L) : Type 0 where
  pub valid : Valid log
  pub short : length (spelled log) < 2 ^ 64

frame_takes : {L : Type 0} (Valid : L → Type 0) (spelled : L → List ℕ) (reads : List ℕ → Result (L × List ℕ) LogFault) → IsReader Valid spelled reads
    → (bytes : List ℕ) (log : L) (rest : List ℕ) → IsBytes bytes → frame_at reads bytes ≡ Ok (log, rest) → Takes bytes (frame_bytes (spelled log)) rest × Valid log
unfolding frame_at
frame_takes {L} Valid spelled reads reader bytes log rest fits e =
    let size = bind_ok (number_at 8 bytes) (λ size. front_at size.0 size.1 >>= λ body. whole reads body.0 >>= λ log. Ok (log, body.1)) (log, rest) e in
    let body = bind_ok (front_at size.0.0 size.0.1) (λ body. whole reads body.0 >>= λ log. Ok (log, body.1)) (log, rest) size.2 in
    let found = bind_ok (whole reads body.0.0) (λ log. Ok (log, body.0.1)) (log, rest) body.2 in
    let took = (number_reader 8 (2 ^ 64) wide64).takes bytes size.0.0 size.0.1 fits size.1 in
    let g = not_cut (ltb (length size.0.1) size.0.0) faults.Cut (take size.0.0 size.0.1, drop size.0.0 size.0.1) body.0 body.1 in
    let long : size.0.0 ≤ length size.0.1 = ltb-false (length size.0.1) size.0.0 g.0 in
    let front : take size.0.0 size.0.1 ≡ body.0.0 = ap (λ (p : List ℕ × List ℕ). p.0) g.1 in
    let back : drop size.0.0 size.0.1 ≡ body.0.1 = ap (λ (p : List ℕ × List ℕ). p.1) g.1 in
    let is = whole_takes Valid spelled reads reader body.0.0 found.0 (subst IsBytes front (IsBytes-take size.0.0 size.0.1 took.0.rest_bytes)) found.1 in
    let size_is : size.0.0 ≡ length (spelled found.0) = omega (arith, length-take size.0.0 size.0.1, ap length (front ∙ sym is.1)) in
    let held : Takes size.0.1 (spelled found.0) body.0.1 = record {
      parts = sym (take-append-drop size.0.0 size.0.1) ∙ ap (λ (t : List ℕ). t ++ drop size.0.0 size.0.1) (front ∙ sym is.1) ∙ ap (λ (t : List ℕ). spelled found.0 ++ t) back;
      rest_bytes = subst IsBytes back (IsBytes-drop size.0.0 size.0.1 took.0.rest_bytes);
    } in
    let both = Takes-then bytes (big_bytes 8 size.0.0) size.0.1 (spelled found.0) body.0.1 took.0 held in
    let framed = subst (λ (n : ℕ). Takes bytes (big_bytes 8 n ++ spelled found.0) body.0.1) size_is both in
    subst (λ (y : L × List ℕ). Takes bytes (frame_bytes (spelled y.0)) y.1 × Valid y.0) (ok_is (found.0, body.0.1) (log, rest) found.2) (framed, is.0)

frame_again : {L : Type 0} (Valid : L → Type 0) (spelled : L → List ℕ) (reads : List ℕ → Result (L × List ℕ) LogFault) → IsReader Valid spelled reads
    → (log : L) (rest : List ℕ) → Fits Valid spelled log → frame_at reads (frame_bytes (spelled log) ++ rest) ≡ Ok (log, rest)
unfolding frame_at
frame_again Valid spelled reads reader log rest fits =
    let text = spelled log in
    let regrouped : frame_bytes text ++ rest ≡ big_bytes 8 (length text) ++ (text ++ rest) = append_assoc (big_bytes 8 (length text)) text rest in
    let long : ltb (length (text ++ rest)) (length text) ≡ false = le-ltb _ _ (omega (arith, length-append text rest)) in
    ap (frame_at reads) regrouped
    ∙ rw (
      (number_reader 8 (2 ^ 64) wide64).again (length text) (text ++ rest) fits.short,
      long,
      take_at text rest (length text) refl,
      drop_at text rest (length text) refl,
      whole_again Valid spelled reads reader log fits.valid,
    ) refl

-- ---- frames

pub frames_take : {L : Type 0} (Valid : L → Type 0) (spelled : L → List ℕ) (reads : List ℕ → Result (L × List ℕ) LogFault) → IsReader Valid spelled reads
    → (n : ℕ) (bytes : List ℕ) (logs : List L) → IsBytes bytes → length bytes ≤ n → frames_within reads n bytes ≡ Ok logs → (frames_bytes spelled logs ≡ bytes) × AllByRecursion Valid logs
unfolding frames_within
frames_take {L} Valid spelled reads reader zero bytes logs fits enough e =
    subst (λ (ls : List L). (frames_bytes spelled ls ≡ bytes) × AllByRecursion Valid ls) (ok_is [] logs e) (sym (nil_from_length bytes (omega arith)), tt)
frames_take {L} Valid spelled reads reader (suc n) [] logs fits enough e =
    subst (λ (ls : List L). (frames_bytes spelled ls ≡ []) × AllByRecursion Valid ls) (ok_is [] logs e) (refl, tt)
frames_take {L} Valid spelled reads reader (suc n) (b ∷ bytes) logs fits enough e =
    let first = bind_ok (frame_at reads (b ∷ bytes)) (λ first. frames_within reads n first.1 >>= λ others. Ok (first.0 ∷ others)) logs e in
    let others = bind_ok (frames_within reads n first.0.1) (λ others. Ok (first.0.0 ∷ others)) logs first.2 in
    let took = frame_takes Valid spelled reads reader (b ∷ bytes) first.0.0 first.0.1 fits first.1 in
    let text = spelled first.0.0 in
    let shorter : length first.0.1 ≤ n =
    omega (arith, ap length took.0.parts, length-append (frame_bytes text) first.0.1, length-append (big_bytes 8 (length text)) text, length-bytes_high_first 8 (length text), enough) in
    let rest = frames_take Valid spelled reads reader n first.0.1 others.0 took.0.rest_bytes shorter others.1 in
    let whole_text : frames_bytes spelled (first.0.0 ∷ others.0) ≡ b ∷ bytes =
    flat_map-cons (λ log. frame_bytes (spelled log)) first.0.0 others.0 ∙ ap (λ (t : List ℕ). frame_bytes text ++ t) rest.0 ∙ sym took.0.parts in
    subst (λ (ls : List L). (frames_bytes spelled ls ≡ b ∷ bytes) × AllByRecursion Valid ls) (ok_is (first.0.0 ∷ others.0) logs others.2) (whole_text, (took.1, rest.1))

pub frames_again : {L : Type 0} (Valid : L → Type 0) (spelled : L → List ℕ) (reads : List ℕ → Result (L × List ℕ) LogFault) → IsReader Valid spelled reads
    → (logs : List L) (n : ℕ) → AllByRecursion Valid logs → length (frames_bytes spelled logs) ≤ n → length (frames_bytes spelled logs) < 2 ^ 64 → frames_within reads n (frames_bytes spelled logs) ≡ Ok logs
frames_again Valid spelled reads reader [] n all enough short = nothing_left reads n
frames_again {L} Valid spelled reads reader (log ∷ logs) n all enough short =
    let text = spelled log in
    let others = frames_bytes spelled logs in
    let cut : frames_bytes spelled (log ∷ logs) ≡ frame_bytes text ++ others = flat_map-cons (λ l. frame_bytes (spelled l)) log logs in
    let size : length (frame_bytes text ++ others) ≡ 8 + length text + length others =
    omega (arith, length-append (frame_bytes text) others, length-append (big_bytes 8 (length text)) text, length-bytes_high_first 8 (length text)) in
    let same = ap length cut in
    let k : n ≡ suc (n - 1) = omega (arith, same, size, enough) in
    let here = frame_again Valid spelled reads reader log others (record { valid = all.0; short = omega (arith, same, size, short) }) in
    let rest = frames_again Valid spelled reads reader logs (n - 1) all.1 (omega (arith, same, size, enough)) (omega (arith, same, size, short)) in
    ap (λ (m : ℕ). frames_within reads m (frames_bytes spelled (log ∷ logs))) k ∙ ap (frames_within reads (suc (n - 1))) cut
    ∙ step reads (n - 1) (frame_bytes text ++ others) (omega (arith, size)) ∙ rw (here, rest) refl

-- ---- what a call answered

-- what is read is spelled so and in the grammar
pub frames_ok : {L V : Type 0} (Valid : L → Type 0) (spelled : L → List ℕ) (reads : List ℕ → Result (L × List ℕ) LogFault) → IsReader Valid spelled reads → (view : V → List L)
    (bytes : List ℕ) (r : Result V LogFault) → IsBytes bytes → Gives view r (frames_at reads bytes) → IfOk r (λ v. (frames_bytes spelled (view v) ≡ bytes) × AllByRecursion Valid (view v))
frames_ok Valid spelled reads reader view bytes (Ok v) fits gives = frames_take Valid spelled reads reader (length bytes) bytes (view v) fits (omega arith) gives
frames_ok Valid spelled reads reader view bytes (Err fault) fits gives = tt

-- what is spelled so is read, unless memory runs out
pub frames_only : {L V : Type 0} (Valid : L → Type 0) (spelled : L → List ℕ) (reads : List ℕ → Result (L × List ℕ) LogFault) → IsReader Valid spelled reads → (view : V → List L)
    (bytes : List ℕ) (r : Result V LogFault) (logs : List L) → AllByRecursion Valid logs → frames_bytes spelled logs ≡ bytes → length bytes < 2 ^ 64 → Gives view r (frames_at reads bytes)
    → MatchResult r (λ v. view v ≡ logs) (λ fault. fault ≡ faults.Memory)
frames_only Valid spelled reads reader view bytes r logs all is short gives =
    given view r logs
    (subst (Gives view r)
    (ap (frames_at reads) (sym is) ∙ frames_again Valid spelled reads reader logs (length (frames_bytes spelled logs)) all (omega arith) (omega (arith, ap length is, short)))
    gives)
