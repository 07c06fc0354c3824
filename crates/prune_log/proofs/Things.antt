-- The things that a log lists: what is read is spelled so, and what was spelled is read again.
use Rattle.std.proofs.Common.{◌≡◌, ℕ, ◌^◌, ◌<◌, ◌≤◌, ◌==◌, Bool, true, false, cond, nat_le, List, [], ◌∷◌, ◌++◌, length, None, Result, Ok, Err, refl, sym, ap, subst, ◌∙◌, append_assoc, arith}
use Rattle.std.specs.List.{flat_map, AllByRecursion}
use Rattle.std.proofs.lemmas.Bool.{eqb-true, leb-true}
use Rattle.std.proofs.lemmas.Bool.Decides.{nat_tests}
use Rattle.std.proofs.Math.Nat.{mod-eq_of_lt}
use Rattle.byteorder.specs.Endian.{big_bytes}
use Rattle.scan_model.specs.declared.hit.Hit.{Hit}
use Rattle.scan_model.specs.declared.hit.Pair.{Pair}
use Rattle.log_model.specs.declared.marks.Mark.{Mark}
use Rattle.log_model.specs.declared.marks.Mark.TheVariants.{Skip, Far, Near}
use Rattle.log_model.specs.declared.marks.Record.{Record}
use Rattle.log_model.specs.declared.marks.JoinRecord.{JoinRecord}
use Rattle.prune_log.specs.declared.fault.LogFault.{LogFault}
use Rattle.prune_log.specs.declared.fault.LogFault.TheVariants as faults
use Rattle.prune_log.specs.Ranges.{IsBytes, HitInRange, PairInRange}
use Rattle.prune_log.specs.Spelling.{listed, hit_bytes, pair_bytes, mark_bytes, side_bytes, record_bytes, join_record_bytes}
use Rattle.prune_log.specs.Reading.{◌>>=◌, byte_at, number_at, many, always, hit_at, pair_at, mark_at, marks_at, side_at, record_at, join_record_at, short_at}
use Rattle.prune_log.proofs.Exact.{bind_ok, guard_ok, ok_is, Takes, Takes-then, IsReader, wide32, wide64, number_reader, byte_takes, many_take, many_again, chain_always}

hit_takes : (bytes : List ℕ) (x : Hit) (rest : List ℕ) → IsBytes bytes → hit_at bytes ≡ Ok (x, rest) → Takes bytes (hit_bytes x) rest × HitInRange x
unfolding hit_at
hit_takes bytes x rest fits e =
    let id = bind_ok (number_at 4 bytes) (λ id. number_at 8 id.1 >>= λ dist. Ok (record { id = id.0; dist = dist.0 }, dist.1)) (x, rest) e in
    let took_id = (number_reader 4 (2 ^ 32) wide32).takes bytes id.0.0 id.0.1 fits id.1 in
    let dist = bind_ok (number_at 8 id.0.1) (λ dist. Ok (record { id = id.0.0; dist = dist.0 }, dist.1)) (x, rest) id.2 in
    let took_dist = (number_reader 8 (2 ^ 64) wide64).takes id.0.1 dist.0.0 dist.0.1 took_id.0.rest_bytes dist.1 in
    let from_id = Takes-then bytes (big_bytes 4 id.0.0) id.0.1 (big_bytes 8 dist.0.0) dist.0.1 took_id.0 took_dist.0 in
    let made : Hit = record { id = id.0.0; dist = dist.0.0 } in
    subst (λ (y : Hit × List ℕ). Takes bytes (hit_bytes y.0) y.1 × HitInRange y.0) (ok_is (made, dist.0.1) (x, rest) dist.2)
    (from_id, record { id = took_id.1; dist = took_dist.1 })

hit_again : (x : Hit) (rest : List ℕ) → HitInRange x → hit_at (hit_bytes x ++ rest) ≡ Ok (x, rest)
unfolding hit_at
hit_again x rest fits =
    let regrouped : hit_bytes x ++ rest ≡ big_bytes 4 x.id ++ (big_bytes 8 x.dist ++ rest) = append_assoc (big_bytes 4 x.id) (big_bytes 8 x.dist) rest in
    ap (hit_at) regrouped ∙ rw ((number_reader 4 (2 ^ 32) wide32).again x.id (big_bytes 8 x.dist ++ rest) fits.id, (number_reader 8 (2 ^ 64) wide64).again x.dist rest fits.dist) refl

pub hit_reader : IsReader HitInRange hit_bytes hit_at
hit_reader = record { takes = hit_takes; again = hit_again }

pair_takes : (bytes : List ℕ) (x : Pair) (rest : List ℕ) → IsBytes bytes → pair_at bytes ≡ Ok (x, rest) → Takes bytes (pair_bytes x) rest × PairInRange x
unfolding pair_at
pair_takes bytes x rest fits e =
    let left = bind_ok (number_at 4 bytes) (λ left. number_at 4 left.1 >>= λ right. number_at 8 right.1 >>= λ dist. Ok (record { left = left.0; right = right.0; dist = dist.0 }, dist.1)) (x, rest) e in
    let took_left = (number_reader 4 (2 ^ 32) wide32).takes bytes left.0.0 left.0.1 fits left.1 in
    let right = bind_ok (number_at 4 left.0.1) (λ right. number_at 8 right.1 >>= λ dist. Ok (record { left = left.0.0; right = right.0; dist = dist.0 }, dist.1)) (x, rest) left.2 in
    let took_right = (number_reader 4 (2 ^ 32) wide32).takes left.0.1 right.0.0 right.0.1 took_left.0.rest_bytes right.1 in
    let dist = bind_ok (number_at 8 right.0.1) (λ dist. Ok (record { left = left.0.0; right = right.0.0; dist = dist.0 }, dist.1)) (x, rest) right.2 in
    let took_dist = (number_reader 8 (2 ^ 64) wide64).takes right.0.1 dist.0.0 dist.0.1 took_right.0.rest_bytes dist.1 in
    let from_right = Takes-then left.0.1 (big_bytes 4 right.0.0) right.0.1 (big_bytes 8 dist.0.0) dist.0.1 took_right.0 took_dist.0 in
    let from_left = Takes-then bytes (big_bytes 4 left.0.0) left.0.1 (big_bytes 4 right.0.0 ++ (big_bytes 8 dist.0.0)) dist.0.1 took_left.0 from_right in
    let made : Pair = record { left = left.0.0; right = right.0.0; dist = dist.0.0 } in
    subst (λ (y : Pair × List ℕ). Takes bytes (pair_bytes y.0) y.1 × PairInRange y.0) (ok_is (made, dist.0.1) (x, rest) dist.2)
    (from_left, record { left = took_left.1; right = took_right.1; dist = took_dist.1 })

pair_again : (x : Pair) (rest : List ℕ) → PairInRange x → pair_at (pair_bytes x ++ rest) ≡ Ok (x, rest)
unfolding pair_at
pair_again x rest fits =
    let regrouped : pair_bytes x ++ rest ≡ big_bytes 4 x.left ++ (big_bytes 4 x.right ++ (big_bytes 8 x.dist ++ rest)) = append_assoc (big_bytes 4 x.left) (big_bytes 4 x.right ++ (big_bytes 8 x.dist)) rest ∙ ap (λ (t : List ℕ). big_bytes 4 x.left ++ t) (append_assoc (big_bytes 4 x.right) (big_bytes 8 x.dist) rest) in
    ap (pair_at) regrouped ∙ rw ((number_reader 4 (2 ^ 32) wide32).again x.left (big_bytes 4 x.right ++ (big_bytes 8 x.dist ++ rest)) fits.left, (number_reader 4 (2 ^ 32) wide32).again x.right (big_bytes 8 x.dist ++ rest) fits.right, (number_reader 8 (2 ^ 64) wide64).again x.dist rest fits.dist) refl

pub pair_reader : IsReader PairInRange pair_bytes pair_at
pair_reader = record { takes = pair_takes; again = pair_again }

-- ---- marks and sides

-- a thing with no fields
abbrev Any : {X : Type 0} → X → Type 0
Any x = Unit {0}

all_any : {X : Type 0} (xs : List X) → AllByRecursion Any xs
all_any [] = tt
all_any (x ∷ xs) = (tt, all_any xs)

-- the mark by the tests of its byte
abbrev mark_by : Bool → Bool → Bool → List ℕ → Result (Mark × List ℕ) LogFault
mark_by skips is_far is_near after = cond skips (Ok (Skip, after)) (cond is_far (Ok (Far, after)) (cond is_near (Ok (Near, after)) (Err faults.Mark)))

mark_byte_is : (skips is_far is_near : Bool) (b : ℕ) (after : List ℕ) (m : Mark) (rest : List ℕ) → (skips ≡ true → b ≡ 0) → (is_far ≡ true → b ≡ 1) → (is_near ≡ true → b ≡ 2)
    → mark_by skips is_far is_near after ≡ Ok (m, rest) → (mark_bytes m ≡ b ∷ []) × (after ≡ rest)
mark_byte_is true is_far is_near b after m rest h0 h1 h2 e =
    let is = ok_is (Skip, after) (m, rest) e in
    (ap mark_bytes (sym (ap (λ (p : Mark × List ℕ). p.0) is)) ∙ ap (λ (n : ℕ). n ∷ []) (sym (h0 refl)), ap (λ (p : Mark × List ℕ). p.1) is)
mark_byte_is false true is_near b after m rest h0 h1 h2 e =
    let is = ok_is (Far, after) (m, rest) e in
    (ap mark_bytes (sym (ap (λ (p : Mark × List ℕ). p.0) is)) ∙ ap (λ (n : ℕ). n ∷ []) (sym (h1 refl)), ap (λ (p : Mark × List ℕ). p.1) is)
mark_byte_is false false true b after m rest h0 h1 h2 e =
    let is = ok_is (Near, after) (m, rest) e in
    (ap mark_bytes (sym (ap (λ (p : Mark × List ℕ). p.0) is)) ∙ ap (λ (n : ℕ). n ∷ []) (sym (h2 refl)), ap (λ (p : Mark × List ℕ). p.1) is)
mark_byte_is false false false b after m rest h0 h1 h2 e = absurd cc

mark_takes : (bytes : List ℕ) (m : Mark) (rest : List ℕ) → IsBytes bytes → mark_at bytes ≡ Ok (m, rest) → Takes bytes (mark_bytes m) rest × Any m
unfolding mark_at
mark_takes bytes m rest fits e =
    let b = bind_ok (byte_at bytes) (λ b. mark_by (b.0 == 0) (b.0 == 1) (b.0 == 2) b.1) (m, rest) e in
    let took = byte_takes bytes b.0.0 b.0.1 fits b.1 in
    let is = mark_byte_is (b.0.0 == 0) (b.0.0 == 1) (b.0.0 == 2) b.0.0 b.0.1 m rest (eqb-true b.0.0 0) (eqb-true b.0.0 1) (eqb-true b.0.0 2) b.2 in
    (subst (Takes bytes (mark_bytes m)) is.1 (subst (λ (t : List ℕ). Takes bytes t b.0.1) (sym is.0) took.0), tt)

mark_again : (m : Mark) (rest : List ℕ) → Any m → mark_at (mark_bytes m ++ rest) ≡ Ok (m, rest)
unfolding mark_at
mark_again Skip rest fits = refl
mark_again Far rest fits = refl
mark_again Near rest fits = refl

pub mark_reader : IsReader Any mark_bytes mark_at
mark_reader = record { takes = mark_takes; again = mark_again }

-- the side by the tests of its byte
abbrev side_by : Bool → Bool → List ℕ → Result (Bool × List ℕ) LogFault
side_by is_left is_right after = cond is_left (Ok (false, after)) (cond is_right (Ok (true, after)) (Err faults.Mark))

side_byte_is : (is_left is_right : Bool) (b : ℕ) (after : List ℕ) (side : Bool) (rest : List ℕ) → (is_left ≡ true → b ≡ 0) → (is_right ≡ true → b ≡ 1)
    → side_by is_left is_right after ≡ Ok (side, rest) → (side_bytes side ≡ b ∷ []) × (after ≡ rest)
side_byte_is true is_right b after side rest h0 h1 e =
    let is = ok_is (false, after) (side, rest) e in
    (ap side_bytes (sym (ap (λ (p : Bool × List ℕ). p.0) is)) ∙ ap (λ (n : ℕ). n ∷ []) (sym (h0 refl)), ap (λ (p : Bool × List ℕ). p.1) is)
side_byte_is false true b after side rest h0 h1 e =
    let is = ok_is (true, after) (side, rest) e in
    (ap side_bytes (sym (ap (λ (p : Bool × List ℕ). p.0) is)) ∙ ap (λ (n : ℕ). n ∷ []) (sym (h1 refl)), ap (λ (p : Bool × List ℕ). p.1) is)
side_byte_is false false b after side rest h0 h1 e = absurd cc

side_takes : (bytes : List ℕ) (side : Bool) (rest : List ℕ) → IsBytes bytes → side_at bytes ≡ Ok (side, rest) → Takes bytes (side_bytes side) rest × Any side
unfolding side_at
side_takes bytes side rest fits e =
    let b = bind_ok (byte_at bytes) (λ b. side_by (b.0 == 0) (b.0 == 1) b.1) (side, rest) e in
    let took = byte_takes bytes b.0.0 b.0.1 fits b.1 in
    let is = side_byte_is (b.0.0 == 0) (b.0.0 == 1) b.0.0 b.0.1 side rest (eqb-true b.0.0 0) (eqb-true b.0.0 1) b.2 in
    (subst (Takes bytes (side_bytes side)) is.1 (subst (λ (t : List ℕ). Takes bytes t b.0.1) (sym is.0) took.0), tt)

side_again : (side : Bool) (rest : List ℕ) → Any side → side_at (side_bytes side ++ rest) ≡ Ok (side, rest)
unfolding side_at
side_again false rest fits = refl
side_again true rest fits = refl

pub side_reader : IsReader Any side_bytes side_at
side_reader = record { takes = side_takes; again = side_again }

-- ---- short lists

-- a number below 256 is one byte
one_byte : (n : ℕ) → n < 256 → big_bytes 1 n ≡ n ∷ []
one_byte n lt = ap (λ (m : ℕ). m ∷ []) (mod-eq_of_lt lt)

-- a list whose length passes the test
pub record IsShort {X : Type 0} (Fits : X → Type 0) (test : ℕ → Bool) (xs : List X) : Type 0 where
  pub passes : test (length xs) ≡ true
  pub few : length xs < 256
  pub each : AllByRecursion Fits xs

pub short_reader : {X : Type 0} (Fits : X → Type 0) (spelled : X → List ℕ) (reads : List ℕ → Result (X × List ℕ) LogFault) → IsReader Fits spelled reads → (test : ℕ → Bool) (fault : LogFault)
    → IsReader (IsShort Fits test) (listed 1 spelled) (short_at test fault reads)
short_reader {X} Fits spelled reads reader test fault = record { takes = taken; again = read }
  where
    taken : (bytes : List ℕ) (xs : List X) (rest : List ℕ) → IsBytes bytes → short_at test fault reads bytes ≡ Ok (xs, rest) → Takes bytes (listed 1 spelled xs) rest × IsShort Fits test xs
    taken bytes xs rest fits e =
        let a = bind_ok (byte_at bytes) (λ count. cond (test count.0) (many reads always count.0 None count.1) (Err fault)) (xs, rest) e in
        let g = guard_ok (test a.0.0) fault (many reads always a.0.0 None a.0.1) (xs, rest) a.2 in
        let first = byte_takes bytes a.0.0 a.0.1 fits a.1 in
        let second = many_take Fits spelled reads reader always a.0.0 None a.0.1 xs rest first.0.rest_bytes g.1 in
        let few : length xs < 256 = omega (arith, second.1, first.1) in
        let both = Takes-then bytes (a.0.0 ∷ []) a.0.1 (flat_map spelled xs) rest first.0 second.0 in
        let front : a.0.0 ∷ [] ≡ big_bytes 1 (length xs) = ap (λ (n : ℕ). n ∷ []) (sym second.1) ∙ sym (one_byte (length xs) few) in (
          subst (λ (t : List ℕ). Takes bytes (t ++ flat_map spelled xs) rest) front both,
          record { passes = ap test second.1 ∙ g.0; few = few; each = second.2 },
        )

    read : (xs : List X) (rest : List ℕ) → IsShort Fits test xs → short_at test fault reads (listed 1 spelled xs ++ rest) ≡ Ok (xs, rest)
    read xs rest fits =
        let regrouped : listed 1 spelled xs ++ rest ≡ length xs ∷ (flat_map spelled xs ++ rest) =
        ap (λ (t : List ℕ). (t ++ flat_map spelled xs) ++ rest) (one_byte (length xs) fits.few) in
        ap (short_at test fault reads) regrouped ∙ rw (fits.passes) (many_again Fits spelled reads reader always xs None rest fits.each (chain_always None xs))

le_test : (m n : ℕ) → m ≤ n → nat_le m n ≡ true
le_test m n le = grind (arith, nat_tests)

-- at most as many marks as a node may have entries
abbrev pub AreMarks : List Mark → Type 0
AreMarks ms = length ms ≤ 32

pub marks_reader : IsReader AreMarks (listed 1 mark_bytes) marks_at
unfolding marks_at
marks_reader =
    let short = short_reader Any mark_bytes mark_at mark_reader (λ n. nat_le n 32) faults.Mark in
    record {
      takes = λ bytes ms rest fits e. (let took = short.takes bytes ms rest fits e in (took.0, leb-true (length ms) 32 took.1.passes));
      again = λ ms rest few. short.again ms rest (record { passes = le_test (length ms) 32 few; few = omega arith; each = all_any ms });
    }

-- ---- records

-- a record that has a spelling
pub record IsRecord (r : Record) : Type 0 where
  pub page : r.page < 2 ^ 32
  pub few : AreMarks r.marks

pub record IsJoinRecord (r : JoinRecord) : Type 0 where
  pub page : r.page < 2 ^ 32
  pub few : AreMarks r.marks

record_takes : (bytes : List ℕ) (x : Record) (rest : List ℕ) → IsBytes bytes → record_at bytes ≡ Ok (x, rest) → Takes bytes (record_bytes x) rest × IsRecord x
unfolding record_at
record_takes bytes x rest fits e =
    let page = bind_ok (number_at 4 bytes) (λ page. marks_at page.1 >>= λ marks. Ok (record { page = page.0; marks = marks.0 }, marks.1)) (x, rest) e in
    let took_page = (number_reader 4 (2 ^ 32) wide32).takes bytes page.0.0 page.0.1 fits page.1 in
    let marks = bind_ok (marks_at page.0.1) (λ marks. Ok (record { page = page.0.0; marks = marks.0 }, marks.1)) (x, rest) page.2 in
    let took_marks = marks_reader.takes page.0.1 marks.0.0 marks.0.1 took_page.0.rest_bytes marks.1 in
    let from_page = Takes-then bytes (big_bytes 4 page.0.0) page.0.1 (listed 1 mark_bytes marks.0.0) marks.0.1 took_page.0 took_marks.0 in
    let made : Record = record { page = page.0.0; marks = marks.0.0 } in
    subst (λ (y : Record × List ℕ). Takes bytes (record_bytes y.0) y.1 × IsRecord y.0) (ok_is (made, marks.0.1) (x, rest) marks.2)
    (from_page, record { page = took_page.1; few = took_marks.1 })

record_again : (x : Record) (rest : List ℕ) → IsRecord x → record_at (record_bytes x ++ rest) ≡ Ok (x, rest)
unfolding record_at
record_again x rest fits =
    let regrouped : record_bytes x ++ rest ≡ big_bytes 4 x.page ++ (listed 1 mark_bytes x.marks ++ rest) = append_assoc (big_bytes 4 x.page) (listed 1 mark_bytes x.marks) rest in
    ap (record_at) regrouped ∙ rw ((number_reader 4 (2 ^ 32) wide32).again x.page (listed 1 mark_bytes x.marks ++ rest) fits.page, marks_reader.again x.marks rest fits.few) refl

pub record_reader : IsReader IsRecord record_bytes record_at
record_reader = record { takes = record_takes; again = record_again }

join_record_takes : (bytes : List ℕ) (x : JoinRecord) (rest : List ℕ) → IsBytes bytes → join_record_at bytes ≡ Ok (x, rest) → Takes bytes (join_record_bytes x) rest × IsJoinRecord x
unfolding join_record_at
join_record_takes bytes x rest fits e =
    let side = bind_ok (side_at bytes) (λ side. number_at 4 side.1 >>= λ page. marks_at page.1 >>= λ marks. Ok (record { right = side.0; page = page.0; marks = marks.0 }, marks.1)) (x, rest) e in
    let took_side = side_reader.takes bytes side.0.0 side.0.1 fits side.1 in
    let page = bind_ok (number_at 4 side.0.1) (λ page. marks_at page.1 >>= λ marks. Ok (record { right = side.0.0; page = page.0; marks = marks.0 }, marks.1)) (x, rest) side.2 in
    let took_page = (number_reader 4 (2 ^ 32) wide32).takes side.0.1 page.0.0 page.0.1 took_side.0.rest_bytes page.1 in
    let marks = bind_ok (marks_at page.0.1) (λ marks. Ok (record { right = side.0.0; page = page.0.0; marks = marks.0 }, marks.1)) (x, rest) page.2 in
    let took_marks = marks_reader.takes page.0.1 marks.0.0 marks.0.1 took_page.0.rest_bytes marks.1 in
    let from_page = Takes-then side.0.1 (big_bytes 4 page.0.0) page.0.1 (listed 1 mark_bytes marks.0.0) marks.0.1 took_page.0 took_marks.0 in
    let from_side = Takes-then bytes (side_bytes side.0.0) side.0.1 (big_bytes 4 page.0.0 ++ (listed 1 mark_bytes marks.0.0)) marks.0.1 took_side.0 from_page in
    let made : JoinRecord = record { right = side.0.0; page = page.0.0; marks = marks.0.0 } in
    subst (λ (y : JoinRecord × List ℕ). Takes bytes (join_record_bytes y.0) y.1 × IsJoinRecord y.0) (ok_is (made, marks.0.1) (x, rest) marks.2)
    (from_side, record { page = took_page.1; few = took_marks.1 })

join_record_again : (x : JoinRecord) (rest : List ℕ) → IsJoinRecord x → join_record_at (join_record_bytes x ++ rest) ≡ Ok (x, rest)
unfolding join_record_at
join_record_again x rest fits =
    let regrouped : join_record_bytes x ++ rest ≡ side_bytes x.right ++ (big_bytes 4 x.page ++ (listed 1 mark_bytes x.marks ++ rest)) = append_assoc (side_bytes x.right) (big_bytes 4 x.page ++ (listed 1 mark_bytes x.marks)) rest ∙ ap (λ (t : List ℕ). side_bytes x.right ++ t) (append_assoc (big_bytes 4 x.page) (listed 1 mark_bytes x.marks) rest) in
    ap (join_record_at) regrouped ∙ rw (side_reader.again x.right (big_bytes 4 x.page ++ (listed 1 mark_bytes x.marks ++ rest)) tt, (number_reader 4 (2 ^ 32) wide32).again x.page (listed 1 mark_bytes x.marks ++ rest) fits.page, marks_reader.again x.marks rest fits.few) refl

pub join_record_reader : IsReader IsJoinRecord join_record_bytes join_record_at
join_record_reader = record { takes = join_record_takes; again = join_record_again }
