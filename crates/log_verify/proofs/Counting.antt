-- What a node's marks and a log's records cost, counted up.
use Rattle.std.proofs.Common.{◌≡◌, ℕ, zero, suc, ◌+◌, ◌<◌, ◌≤◌, List, [], ◌∷◌, length, get_or, take, refl, sym, ap, ◌∙◌, arith}
use Rattle.metric_laws.specs.Counts.{next_count, count_up, CountsUpTo}
use Rattle.log_model.specs.declared.marks.Mark.{Mark}
use Rattle.log_model.specs.declared.marks.Mark.TheVariants.{Skip, Far, Near}
use Rattle.log_model.specs.declared.marks.JoinRecord.{JoinRecord}
use Rattle.log_model.specs.Counts.{measured_by, join_measured}
use Rattle.page_store.specs.Shelf.{Shelf}
use Rattle.log_verify.specs.Causes.{AskBothUpTo}

-- a count that rises by `m` and then by `n` rises by their sum
pub count_up-add : (c m n : ℕ) → count_up c (m + n) ≡ count_up (count_up c m) n
count_up-add c zero n = ap (count_up c) (let e : zero + n ≡ n = omega arith in e)
count_up-add c (suc m) n = ap (count_up c) (let e : suc m + n ≡ suc (m + n) = omega arith in e) ∙ count_up-add (next_count c) m n

measured_cons : (m : Mark) (marks : List Mark) → measured_by (m ∷ marks) ≡ measured_by (m ∷ []) + measured_by marks
measured_cons Skip marks = omega arith
measured_cons Far marks = omega arith
measured_cons Near marks = omega arith

pub measured_next : (marks : List Mark) (i : ℕ) (m : Mark) → i < length marks → m ≡ get_or marks i m → measured_by (take (i + 1) marks) ≡ measured_by (take i marks) + measured_by (m ∷ [])
measured_next [] i m low is = absurd (let e : ⊥ = omega arith in e)
measured_next (x ∷ xs) zero m low is = measured_cons x (take 0 xs) ∙ ap (λ (y : Mark). measured_by (y ∷ []) + 0) (sym is) ∙ omega arith
measured_next (x ∷ xs) (suc i) m low is =
    let ih = measured_next xs i m (omega arith) is in
    let e : suc i + 1 ≡ suc (i + 1) = omega arith in
    ap (λ (k : ℕ). measured_by (take k (x ∷ xs))) e ∙ measured_cons x (take (i + 1) xs)
    ∙ (let both = measured_cons x (take i xs) in omega (arith, ih, both))

pub measured_take : (marks : List Mark) (n : ℕ) → measured_by (take n marks) ≤ measured_by marks
measured_take marks zero = omega arith
measured_take [] (suc n) = omega arith
measured_take (x ∷ xs) (suc n) = omega (arith, measured_take xs n, measured_cons x (take n xs), measured_cons x xs)

-- one more mark was checked
pub next_counted : (start used now : ℕ) (marks : List Mark) (i : ℕ) (m : Mark) → i < length marks → m ≡ get_or marks i m → used ≡ count_up start (measured_by (take i marks))
    → now ≡ count_up used (measured_by (m ∷ [])) → now ≡ count_up start (measured_by (take (i + 1) marks))
next_counted start used now marks i m low is so_far one =
    one ∙ ap (λ (u : ℕ). count_up u (measured_by (m ∷ []))) so_far ∙ sym (count_up-add start (measured_by (take i marks)) (measured_by (m ∷ [])))
    ∙ ap (count_up start) (sym (measured_next marks i m low is))

-- the cost so far is at most that of all marks
pub so_far_counted : (start now : ℕ) (marks : List Mark) (n : ℕ) → now ≡ count_up start (measured_by (take n marks)) → CountsUpTo start now (measured_by marks)
so_far_counted start now marks n is = (measured_by (take n marks), measured_take marks n, is)

-- it rose once
pub once_counted : (old new : ℕ) → new ≡ next_count old → CountsUpTo old new 1
once_counted old new is = (1, omega arith, is)

-- a count that rises by at most `m` and then by at most `n` rises by at most their sum
pub upto_both : (a b c m n : ℕ) → CountsUpTo a b m → CountsUpTo b c n → CountsUpTo a c (m + n)
upto_both a b c m n one two =
    (one.0 + two.0, omega (arith, one.1, two.1), two.2 ∙ ap (λ (u : ℕ). count_up u two.0) one.2 ∙ sym (count_up-add a one.0 two.0))

pub upto_more : (a b m n : ℕ) → CountsUpTo a b m → m ≤ n → CountsUpTo a b n
upto_more a b m n one le = (one.0, omega (arith, one.1), one.2)

pub upto_none : (a n : ℕ) → CountsUpTo a a n
upto_none a n = (0, omega arith, refl)

-- one more mark of a join was checked
pub next_upto : (start used now : ℕ) (marks : List Mark) (i : ℕ) (m : Mark) → i < length marks → m ≡ get_or marks i m → CountsUpTo start used (measured_by (take i marks))
    → CountsUpTo used now (measured_by (m ∷ [])) → CountsUpTo start now (measured_by (take (i + 1) marks))
next_upto start used now marks i m low is so_far one =
    upto_more start now (measured_by (take i marks) + measured_by (m ∷ [])) (measured_by (take (i + 1) marks)) (upto_both start used now (measured_by (take i marks)) (measured_by (m ∷ [])) so_far one)
    (omega (arith, measured_next marks i m low is))

pub marks_upto : (start now : ℕ) (marks : List Mark) (n : ℕ) → CountsUpTo start now (measured_by (take n marks)) → CountsUpTo start now (measured_by marks)
marks_upto start now marks n is = upto_more start now (measured_by (take n marks)) (measured_by marks) is (measured_take marks n)

-- one more record of a join was taken
join_measured_next : (records : List JoinRecord) (i : ℕ) (r : JoinRecord) → i < length records → r ≡ get_or records i r → join_measured (take (i + 1) records) ≡ join_measured (take i records) + measured_by r.marks
join_measured_next [] i r low is = absurd (let e : ⊥ = omega arith in e)
join_measured_next (x ∷ xs) zero r low is = ap (λ (y : JoinRecord). measured_by y.marks + 0) (sym is) ∙ omega arith
join_measured_next (x ∷ xs) (suc i) r low is =
    let ih = join_measured_next xs i r (omega arith) is in
    let e : suc i + 1 ≡ suc (i + 1) = omega arith in
    ap (λ (k : ℕ). join_measured (take k (x ∷ xs))) e ∙ omega (arith, ih)

join_measured_front : (records : List JoinRecord) (n : ℕ) → join_measured (take n records) ≤ join_measured records
join_measured_front records zero = omega arith
join_measured_front [] (suc n) = omega arith
join_measured_front (x ∷ xs) (suc n) = omega (arith, join_measured_front xs n)

pub record_upto : (start mid now : ℕ) (records : List JoinRecord) (i : ℕ) (r : JoinRecord) → i < length records → r ≡ get_or records i r → CountsUpTo start mid (join_measured (take i records))
    → CountsUpTo mid now (measured_by r.marks) → CountsUpTo start now (join_measured (take (i + 1) records))
record_upto start mid now records i r low is so_far one =
    upto_more start now (join_measured (take i records) + measured_by r.marks) (join_measured (take (i + 1) records)) (upto_both start mid now (join_measured (take i records)) (measured_by r.marks) so_far one)
    (omega (arith, join_measured_next records i r low is))

pub records_upto : (start now : ℕ) (records : List JoinRecord) (n : ℕ) → CountsUpTo start now (join_measured (take n records)) → CountsUpTo start now (join_measured records)
records_upto start now records n is = upto_more start now (join_measured (take n records)) (join_measured records) is (join_measured_front records n)

-- both sides were asked for no more pages
pub ask_none : (l r : Shelf) (n : ℕ) → AskBothUpTo l l r r n
ask_none l r n = record { on_left = 0; on_right = 0; few = omega arith; left_asked = refl; right_asked = refl; left_reads = omega arith; right_reads = omega arith }

pub ask_left : (l l2 r : Shelf) → l2.asked ≡ next_count l.asked → l2.reads ≤ l.reads + 1 → AskBothUpTo l l2 r r 1
ask_left l l2 r asked reads = record { on_left = 1; on_right = 0; few = omega arith; left_asked = asked; right_asked = refl; left_reads = reads; right_reads = omega arith }

pub ask_right : (l r r2 : Shelf) → r2.asked ≡ next_count r.asked → r2.reads ≤ r.reads + 1 → AskBothUpTo l l r r2 1
ask_right l r r2 asked reads = record { on_left = 0; on_right = 1; few = omega arith; left_asked = refl; right_asked = asked; left_reads = omega arith; right_reads = reads }

-- both sides were asked for at most `m` and then `n` pages, which is at most `k`
pub ask_on : (l l2 l3 r r2 r3 : Shelf) (m n k : ℕ) → AskBothUpTo l l2 r r2 m → AskBothUpTo l2 l3 r2 r3 n → m + n ≤ k → AskBothUpTo l l3 r r3 k
ask_on l l2 l3 r r2 r3 m n k one two le = record {
  on_left = one.on_left + two.on_left;
  on_right = one.on_right + two.on_right;
  few = omega (arith, one.few, two.few);
  left_asked = two.left_asked ∙ ap (λ (u : ℕ). count_up u two.on_left) one.left_asked ∙ sym (count_up-add l.asked one.on_left two.on_left);
  right_asked = two.right_asked ∙ ap (λ (u : ℕ). count_up u two.on_right) one.right_asked ∙ sym (count_up-add r.asked one.on_right two.on_right);
  left_reads = omega (arith, one.left_reads, two.left_reads);
  right_reads = omega (arith, one.right_reads, two.right_reads);
}

pub ask_more : (l l2 r r2 : Shelf) (m n : ℕ) → AskBothUpTo l l2 r r2 m → m ≤ n → AskBothUpTo l l2 r r2 n
ask_more l l2 r r2 m n one le = record {
  on_left = one.on_left;
  on_right = one.on_right;
  few = omega (arith, one.few);
  left_asked = one.left_asked;
  right_asked = one.right_asked;
  left_reads = one.left_reads;
  right_reads = one.right_reads;
}
