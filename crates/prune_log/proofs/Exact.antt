-- A field that is read is spelled so, and what was spelled is read again, whatever follows.
use Rattle.std.proofs.Common.{◌≡◌, ℕ, zero, suc, ◌+◌, ◌^◌, ◌<◌, ◌≤◌, Bool, true, false, cond, ltb, List, [], ◌∷◌, ◌++◌, length, take, drop, Option, Some, None, Result, Ok, Err, refl, sym, ap, subst, ◌∙◌, append_assoc, arith, inl, inr}
use Rattle.std.specs.List.{flat_map, AllByRecursion}
use Rattle.std.proofs.lemmas.Bool.{cases_lt, ltb-false, le-ltb}
use Rattle.std.proofs.lemmas.List.{drop_at, take-append-drop, length-append, length-take, get_or-drop, get_or-take, get_or_past}
use Rattle.std.proofs.lemmas.List.Concat.{flat_map-cons}
use Rattle.std.proofs.lemmas.Nat.{be_bytes_4, be_bytes_8}
use Rattle.byteorder.specs.Endian.{big_number, big_bytes}
use Rattle.byteorder.specs.Numbers.{big_from-take, big_from-lt, big_number-reads_back, length-bytes_high_first}
use Rattle.prune_log.specs.declared.fault.LogFault.{LogFault}
use Rattle.prune_log.specs.declared.fault.LogFault.TheVariants as faults
use Rattle.prune_log.specs.Ranges.{IsBytes}
use Rattle.prune_log.specs.Spelling.{listed}
use Rattle.prune_log.specs.Reading.{◌>>=◌, byte_at, number_at, may_stand, next_at, many, always, listed_at}

pub IsBytes-drop : (n : ℕ) (bytes : List ℕ) → IsBytes bytes → IsBytes (drop n bytes)
IsBytes-drop n bytes h i = rw get_or-drop (h (n + i))

pub IsBytes-take : (n : ℕ) (bytes : List ℕ) → IsBytes bytes → IsBytes (take n bytes)
IsBytes-take n bytes h i =
    elim (cases_lt i n) [
      | inl lt ↦ rw (get_or-take n bytes i 0 lt) (h i)
      | inr le ↦ rw (get_or_past (take n bytes) i 0 (omega (arith, length-take n bytes))) (omega arith)
    ]

-- ---- steps

-- the value of a step that did not fail
pub bind_ok : {A B : Type 0} (r : Result A LogFault) (f : A → Result B LogFault) (y : B) → (r >>= f) ≡ Ok y → (x : A) × (r ≡ Ok x) × (f x ≡ Ok y)
bind_ok (Ok x) f y e = (x, refl, e)
bind_ok (Err d) f y e = absurd cc

-- a test that did not fail
pub guard_ok : {A : Type 0} (b : Bool) (d : LogFault) (r : Result A LogFault) (y : A) → cond b r (Err d) ≡ Ok y → (b ≡ true) × (r ≡ Ok y)
guard_ok true d r y e = (refl, e)
guard_ok false d r y e = absurd cc

-- the same where the test tells a fault
pub not_cut : {A : Type 0} (b : Bool) (d : LogFault) (x y : A) → cond b (Err d) (Ok x) ≡ Ok y → (b ≡ false) × (x ≡ y)
not_cut true d x y e = absurd cc
not_cut false d x y e = (refl, cc)

abbrev done : {A : Type 0} → A → Result A LogFault
done x = Ok x

pub ok_is : {A : Type 0} (x y : A) → done x ≡ done y → x ≡ y
ok_is x y e = cc

-- what was taken from the front
pub record Takes (bytes text rest : List ℕ) : Type 0 where
  pub parts : bytes ≡ text ++ rest
  pub rest_bytes : IsBytes rest

pub Takes-then : (a x b y c : List ℕ) → Takes a x b → Takes b y c → Takes a (x ++ y) c
Takes-then a x b y c p q = record { parts = p.parts ∙ ap (λ (t : List ℕ). x ++ t) q.parts ∙ sym (append_assoc x y c); rest_bytes = q.rest_bytes }

-- what is read of bytes is spelled so and in the grammar; what is in the grammar is read again, whatever follows its spelling
pub record IsReader {X : Type 0} (Fits : X → Type 0) (spelled : X → List ℕ) (reads : List ℕ → Result (X × List ℕ) LogFault) : Type 0 where
  pub takes : (bytes : List ℕ) (x : X) (rest : List ℕ) → IsBytes bytes → reads bytes ≡ Ok (x, rest) → Takes bytes (spelled x) rest × Fits x
  pub again : (x : X) (rest : List ℕ) → Fits x → reads (spelled x ++ rest) ≡ Ok (x, rest)

-- ---- numbers

-- `n` bytes spell each number below the limit, and each such number is spelled
pub record IsWide (n limit : ℕ) : Type 0 where
  pub back : (bytes : List ℕ) → length bytes ≡ n → IsBytes bytes → big_bytes n (big_number n bytes) ≡ bytes
  pub again : (x : ℕ) (rest : List ℕ) → x < limit → big_number n (big_bytes n x ++ rest) ≡ x
  pub below : (bytes : List ℕ) → IsBytes bytes → big_number n bytes < limit

pub wide32 : IsWide 4 (2 ^ 32)
wide32 = record {
  back = λ bytes long fits. be_bytes_4 bytes (big_number 4 bytes) long fits (omega arith);
  again = λ x rest lt. big_number-reads_back 4 x rest lt;
  below = λ bytes fits. big_from-lt 0 4 bytes fits;
}

pub wide64 : IsWide 8 (2 ^ 64)
wide64 = record {
  back = λ bytes long fits. be_bytes_8 bytes (big_number 8 bytes) long fits (omega arith);
  again = λ x rest lt. big_number-reads_back 8 x rest lt;
  below = λ bytes fits. big_from-lt 0 8 bytes fits;
}

number_takes : (n limit : ℕ) → IsWide n limit → (bytes : List ℕ) (x : ℕ) (rest : List ℕ) → IsBytes bytes → number_at n bytes ≡ Ok (x, rest) → Takes bytes (big_bytes n x) rest × (x < limit)
number_takes n limit wide bytes x rest fits e =
    let g = not_cut (ltb (length bytes) n) faults.Cut (big_number n bytes, drop n bytes) (x, rest) e in
    let long : n ≤ length bytes = ltb-false (length bytes) n g.0 in
    let x-is : big_number n bytes ≡ x = ap (λ (p : ℕ × List ℕ). p.0) g.1 in
    let rest-is : drop n bytes ≡ rest = ap (λ (p : ℕ × List ℕ). p.1) g.1 in
    let front : big_bytes n x ≡ take n bytes =
    ap (big_bytes n) (sym x-is ∙ sym (big_from-take 0 n n bytes (omega arith))) ∙ wide.back (take n bytes) (omega (arith, length-take n bytes)) (IsBytes-take n bytes fits) in (
      record {
        parts = sym (take-append-drop n bytes) ∙ ap (λ (t : List ℕ). t ++ drop n bytes) (sym front) ∙ ap (λ (t : List ℕ). big_bytes n x ++ t) rest-is;
        rest_bytes = subst IsBytes rest-is (IsBytes-drop n bytes fits);
      },
      subst (λ (y : ℕ). y < limit) x-is (wide.below bytes fits),
    )

number_again : (n limit : ℕ) → IsWide n limit → (x : ℕ) (rest : List ℕ) → x < limit → number_at n (big_bytes n x ++ rest) ≡ Ok (x, rest)
number_again n limit wide x rest lt =
    let size = length-bytes_high_first n x in
    let long : ltb (length (big_bytes n x ++ rest)) n ≡ false = le-ltb _ _ (omega (arith, size, length-append (big_bytes n x) rest)) in
    rw (long, wide.again x rest lt, drop_at (big_bytes n x) rest n size) refl

pub number_reader : (n limit : ℕ) → IsWide n limit → IsReader (λ x. x < limit) (big_bytes n) (number_at n)
number_reader n limit wide = record { takes = number_takes n limit wide; again = number_again n limit wide }

IsBytes-rest : (b : ℕ) (bytes : List ℕ) → IsBytes (b ∷ bytes) → IsBytes bytes
IsBytes-rest b bytes h i = h (suc i)

-- a byte
pub byte_takes : (bytes : List ℕ) (b : ℕ) (rest : List ℕ) → IsBytes bytes → byte_at bytes ≡ Ok (b, rest) → Takes bytes (b ∷ []) rest × (b < 256)
byte_takes [] b rest fits e = absurd cc
byte_takes (x ∷ bytes) b rest fits e =
    subst (λ (p : ℕ × List ℕ). Takes (x ∷ bytes) (p.0 ∷ []) p.1 × (p.0 < 256)) (ok_is (x, bytes) (b, rest) e) (record { parts = refl; rest_bytes = IsBytes-rest x bytes fits }, fits 0)

-- ---- lists

-- each thing may stand behind the one before it, the first behind the last of those before, if there are any
abbrev pub Chain : {X : Type 0} → (X → X → Bool) → Option X → List X → Type 0
Chain follows last [] = Unit {0}
Chain follows last (x ∷ xs) = (may_stand follows last x ≡ true) × Chain follows (Some x) xs

pub chain_always : {X : Type 0} (last : Option X) (xs : List X) → Chain always last xs
chain_always last [] = tt
chain_always None (x ∷ xs) = (refl, chain_always (Some x) xs)
chain_always (Some y) (x ∷ xs) = (refl, chain_always (Some x) xs)

pub many_take : {X : Type 0} (Fits : X → Type 0) (spelled : X → List ℕ) (reads : List ℕ → Result (X × List ℕ) LogFault) → IsReader Fits spelled reads → (follows : X → X → Bool)
    (n : ℕ) (last : Option X) (bytes : List ℕ) (xs : List X) (rest : List ℕ) → IsBytes bytes → many reads follows n last bytes ≡ Ok (xs, rest)
    → Takes bytes (flat_map spelled xs) rest × (length xs ≡ n) × AllByRecursion Fits xs × Chain follows last xs
unfolding many
many_take {X} Fits spelled reads reader follows zero last bytes xs rest fits e =
    subst (λ (y : List X × List ℕ). Takes bytes (flat_map spelled y.0) y.1 × (length y.0 ≡ 0) × AllByRecursion Fits y.0 × Chain follows last y.0) (ok_is ([], bytes) (xs, rest) e) (record { parts = refl; rest_bytes = fits }, refl, tt, tt)
many_take {X} Fits spelled reads reader follows (suc n) last bytes xs rest fits e =
    let a = bind_ok (next_at reads follows last bytes) (λ first. many reads follows n (Some first.0) first.1 >>= λ others. Ok (first.0 ∷ others.0, others.1)) (xs, rest) e in
    let b = bind_ok (many reads follows n (Some a.0.0) a.0.1) (λ others. Ok (a.0.0 ∷ others.0, others.1)) (xs, rest) a.2 in
    let c = bind_ok (reads bytes) (λ x. cond (may_stand follows last x.0) (Ok x) (Err faults.Order)) a.0 a.1 in
    let g = guard_ok (may_stand follows last c.0.0) faults.Order (Ok c.0) a.0 c.2 in
    let is : c.0 ≡ a.0 = ok_is c.0 a.0 g.1 in
    let here = subst (λ (y : X × List ℕ). Takes bytes (spelled y.0) y.1 × Fits y.0) is (reader.takes bytes c.0.0 c.0.1 fits c.1) in
    let stands = subst (λ (y : X × List ℕ). may_stand follows last y.0 ≡ true) is g.0 in
    let others = many_take Fits spelled reads reader follows n (Some a.0.0) a.0.1 b.0.0 b.0.1 here.0.rest_bytes b.1 in
    let both = Takes-then bytes (spelled a.0.0) a.0.1 (flat_map spelled b.0.0) b.0.1 here.0 others.0 in
    subst (λ (y : List X × List ℕ). Takes bytes (flat_map spelled y.0) y.1 × (length y.0 ≡ suc n) × AllByRecursion Fits y.0 × Chain follows last y.0)
    (ok_is (a.0.0 ∷ b.0.0, b.0.1) (xs, rest) b.2)
    (rw flat_map-cons both, ap suc others.1, (here.1, others.2), (stands, others.3))

pub many_again : {X : Type 0} (Fits : X → Type 0) (spelled : X → List ℕ) (reads : List ℕ → Result (X × List ℕ) LogFault) → IsReader Fits spelled reads → (follows : X → X → Bool)
    (xs : List X) (last : Option X) (rest : List ℕ) → AllByRecursion Fits xs → Chain follows last xs → many reads follows (length xs) last (flat_map spelled xs ++ rest) ≡ Ok (xs, rest)
unfolding many
many_again Fits spelled reads reader follows [] last rest fits chain = refl
many_again Fits spelled reads reader follows (x ∷ xs) last rest fits chain =
    let regrouped : flat_map spelled (x ∷ xs) ++ rest ≡ spelled x ++ (flat_map spelled xs ++ rest) =
    ap (λ (t : List ℕ). t ++ rest) (flat_map-cons spelled x xs) ∙ append_assoc (spelled x) (flat_map spelled xs) rest in
    ap (many reads follows (suc (length xs)) last) regrouped
    ∙ rw (reader.again x (flat_map spelled xs ++ rest) fits.0, chain.0, many_again Fits spelled reads reader follows xs (Some x) rest fits.1 chain.1) refl

-- a list that is counted
pub record IsListed {X : Type 0} (Fits : X → Type 0) (follows : X → X → Bool) (limit : ℕ) (xs : List X) : Type 0 where
  pub few : length xs < limit
  pub each : AllByRecursion Fits xs
  pub chain : Chain follows None xs

pub listed_reader : {X : Type 0} (Fits : X → Type 0) (spelled : X → List ℕ) (reads : List ℕ → Result (X × List ℕ) LogFault) → IsReader Fits spelled reads → (follows : X → X → Bool)
    (n limit : ℕ) → IsWide n limit → IsReader (IsListed Fits follows limit) (listed n spelled) (listed_at n reads follows)
unfolding listed_at
listed_reader {X} Fits spelled reads reader follows n limit wide = record { takes = taken; again = read }
  where
    taken : (bytes : List ℕ) (xs : List X) (rest : List ℕ) → IsBytes bytes → (number_at n bytes >>= λ count. many reads follows count.0 None count.1) ≡ Ok (xs, rest)
        → Takes bytes (listed n spelled xs) rest × IsListed Fits follows limit xs
    taken bytes xs rest fits e =
        let a = bind_ok (number_at n bytes) (λ count. many reads follows count.0 None count.1) (xs, rest) e in
        let first = number_takes n limit wide bytes a.0.0 a.0.1 fits a.1 in
        let second = many_take Fits spelled reads reader follows a.0.0 None a.0.1 xs rest first.0.rest_bytes a.2 in
        let both = Takes-then bytes (big_bytes n a.0.0) a.0.1 (flat_map spelled xs) rest first.0 second.0 in (
          subst (λ (m : ℕ). Takes bytes (big_bytes n m ++ flat_map spelled xs) rest) (sym second.1) both,
          record { few = omega (arith, second.1, first.1); each = second.2; chain = second.3 },
        )

    read : (xs : List X) (rest : List ℕ) → IsListed Fits follows limit xs → (number_at n (listed n spelled xs ++ rest) >>= λ count. many reads follows count.0 None count.1) ≡ Ok (xs, rest)
    read xs rest fits =
        let regrouped : listed n spelled xs ++ rest ≡ big_bytes n (length xs) ++ (flat_map spelled xs ++ rest) = append_assoc (big_bytes n (length xs)) (flat_map spelled xs) rest in
        ap (λ (t : List ℕ). number_at n t >>= λ count. many reads follows count.0 None count.1) regrouped
        ∙ rw (number_again n limit wide (length xs) (flat_map spelled xs ++ rest) fits.few) (many_again Fits spelled reads reader follows xs None rest fits.each fits.chain)
