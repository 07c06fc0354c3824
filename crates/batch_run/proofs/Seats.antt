-- Places and seats.
use Rattle.std.proofs.Common.{◌≡◌, ◌≢◌, ℕ, zero, suc, ◌+◌, ◌-◌, ◌*◌, ◌/◌, ◌%◌, ◌<◌, ◌≤◌, true, false, List, [], ◌∷◌, ◌++◌, length, length-append, set, get_or, refl, sym, ap, ◌∙◌, subst, arith, Option, Some, None, Result, Ok, Err, slice_get, IfOk, IfSome, IfNone, Vec, vec_len}
use Rattle.std.specs.List.{AllZip}
use Rattle.std.specs.declared.alloc.Global.{Global}
use Rattle.std.proofs.lemmas.Option.{slice_get-get_or}
use Rattle.std.specs.Prelude.{nat_lt}
use Rattle.std.specs.declared.alloc.AllocError.{AllocError}
use Rattle.std.proofs.lemmas.Bool.Decides.{nat_tests}
use Rattle.std.proofs.lemmas.Nat.{div-mul-add, mod-mul-add, div-add-mod'}
use Rattle.std.proofs.Math.Nat.{div-lt_iff_lt-mul}
use Rattle.batch_run.specs.Dealing.{Rounds, AreInOrder, place_of, shift_of, wound}

pub wound_low : (n turn shift : ℕ) → shift ≤ turn → turn < n → wound n ((turn - shift) + shift) ≡ turn
wound_low n turn shift low less = let e : (turn - shift) + shift ≡ turn = omega arith in let t : nat_lt turn n ≡ true = grind (arith, nat_tests) in rw (e, t) refl

pub wound_high : (n turn shift : ℕ) → turn < shift → shift < n → wound n ((turn + n - shift) + shift) ≡ turn
wound_high n turn shift low less =
    let e : (turn + n - shift) + shift ≡ turn + n = omega arith in let t : nat_lt (turn + n) n ≡ false = grind (arith, nat_tests) in let m : (turn + n) - n ≡ turn = omega arith in rw (e, t, m) refl

-- the seat of a place
pub seat_place : (rounds workers place w : ℕ) → place / workers < rounds → wound workers (w + shift_of (record { rounds = rounds; workers = workers }) (place / workers)) ≡ place % workers →
    place_of (record { rounds = rounds; workers = workers }) (w * rounds + place / workers) ≡ place
seat_place rounds workers place w low turn =
    let round = mod-mul-add w rounds (place / workers) low in
    let worker = div-mul-add w rounds (place / workers) low in
    rw (round, worker, turn) (div-add-mod' place workers)

pub seat_within : (rounds workers w r : ℕ) → r < rounds → w < workers → w * rounds + r < rounds * workers
seat_within rounds workers w r low less = grind arith

-- the round of a place
pub round_below : (place workers rounds : ℕ) → 1 ≤ workers → place < rounds * workers → place / workers < rounds
round_below place workers rounds some low = (div-lt_iff_lt-mul some).1 low

-- ---- lists by their places

get_set_other : {X : Type 0} (xs : List X) (i j : ℕ) (v : X) → i ≢ j → slice_get (set xs i v) j ≡ slice_get xs j
get_set_other [] i j v other = refl
get_set_other (x ∷ xs) zero zero v other = absurd (other refl)
get_set_other (x ∷ xs) zero (suc j) v other = refl
get_set_other (x ∷ xs) (suc i) zero v other = refl
get_set_other (x ∷ xs) (suc i) (suc j) v other = get_set_other xs i j v (λ same. other (ap suc same))

-- an element of a list with one more is one of the list, or that one
pub get_push : {X : Type 0} (P : ℕ → X → Type 0) (xs : List X) (y : X) → ((i : ℕ) (x : X) → slice_get xs i ≡ Some x → P i x) → P (length xs) y → (i : ℕ) (x : X) → slice_get (xs ++ y ∷ []) i ≡ Some x → P i x
get_push P [] y each last zero x is = subst (P 0) (let same : y ≡ x = cc in same) last
get_push P [] y each last (suc i) x is = absurd (cc)
get_push P (z ∷ xs) y each last zero x is = each 0 x is
get_push P (z ∷ xs) y each last (suc i) x is = get_push (λ k. P (suc k)) xs y (λ k w at. each (suc k) w at) last i x is

-- the elements of a list meet a relation to those of another
pub all_zipped : {A B : Type 0} (R : A → B → Type 0) (xs : List A) (bs : List B) → length bs ≡ length xs → ((i : ℕ) (b : B) (a : A) → slice_get bs i ≡ Some b → R (get_or xs i a) b) → AllZip R xs bs
all_zipped R [] [] long each = tt
all_zipped R [] (b ∷ bs) long each = absurd (omega arith)
all_zipped R (a ∷ xs) [] long each = absurd (omega arith)
all_zipped R (a ∷ xs) (b ∷ bs) long each = (each 0 b a refl, all_zipped R xs bs (omega arith) (λ i y x at. each (suc i) y x at))

-- ---- seats that are emptied in the order of the places

module _ {X : Type 0} (d : Rounds) (seats : List (Option (Result X AllocError))) where
  pub left_on : (place seat : ℕ) (mid : List (Option (Result X AllocError))) (v : Option (Result X AllocError)) → place_of d seat ≡ place →
      ((other : ℕ) → place ≤ place_of d other → slice_get mid other ≡ slice_get seats other) → (other : ℕ) → place + 1 ≤ place_of d other → slice_get (set mid seat v) other ≡ slice_get seats other
  left_on place seat mid v is left other later =
      get_set_other mid seat other v (λ same. (let e : place_of d seat ≡ place_of d other = ap (place_of d) same in absurd (omega arith))) ∙ left other (omega arith)

  pub done_on : (place seat : ℕ) (mid : List (Option (Result X AllocError))) (all : List X) (y : X) (found : Result X AllocError) (held : Option (Result X AllocError)) → place_of d seat ≡ place → seat < length mid →
      ((other : ℕ) → place ≤ place_of d other → slice_get mid other ≡ slice_get seats other) → held ≡ get_or mid seat held → held ≡ Some found → found ≡ Ok y →
      AreInOrder d place seats all → AreInOrder d (place + 1) seats (all ++ y ∷ [])
  done_on place seat mid all y found held is low left here holds ok done = (
    (let a = length-append all (y ∷ []) in let l = done.0 in omega arith),
    get_push (λ p x. (s : ℕ) × (place_of d s ≡ p) × (slice_get seats s ≡ Some (Some (Ok x)))) all y done.1 (seat, is ∙ sym done.0, there),
  )
    where
      there : slice_get seats seat ≡ Some (Some (Ok y))
      there = sym (left seat (omega arith)) ∙ slice_get-get_or mid seat held low ∙ ap (λ (o : Option (Result X AllocError)). Some o) (sym here ∙ holds ∙ ap (λ (r : Result X AllocError). Some r) ok)

-- ---- what is seated

module _ {X : Type 0} (d : Rounds) (count : ℕ) (P : ℕ → Result X AllocError → Type 0) (seats : List (Option (Result X AllocError)))
    (each : (seat : ℕ) (o : Option (Result X AllocError)) → slice_get seats seat ≡ Some o → IfSome o (λ r. P (place_of d seat) r) × IfNone o (count ≤ place_of d seat)) where
  pub some_seated : (seat : ℕ) → place_of d seat < count → slice_get seats seat ≡ Some None → ⊥
  some_seated seat low none = let past : count ≤ place_of d seat = (each seat None none).1 in absurd (omega arith)

  pub ordered_meet : (r : Result (Vec X Global) AllocError) → IfOk r (λ v. AreInOrder d count seats v.items) → IfOk r (λ v. (i : ℕ) (x : X) → slice_get v.items i ≡ Some x → P i (Ok x))
  ordered_meet (Ok v) ordered = λ i x at. let s = ordered.1 i x at in subst (λ (k : ℕ). P k (Ok x)) s.1 (each s.0 (Some (Ok x)) s.2).0
  ordered_meet (Err e) ordered = tt

pub zipped_if_ok : {A B E : Type 0} (R : A → B → Type 0) (xs : List A) (r : Result (Vec B Global) E) → IfOk r (λ v. vec_len v ≡ length xs) →
    IfOk r (λ v. (i : ℕ) (b : B) → slice_get v.items i ≡ Some b → (a : A) → R (get_or xs i a) b) → IfOk r (λ v. AllZip R xs v.items)
zipped_if_ok R xs (Ok v) long each = all_zipped R xs v.items (let o = v.ok in omega arith) (λ i b a at. each i b at a)
zipped_if_ok R xs (Err e) long each = tt
