-- From one record to the next: what is shown, and how deep the pairs stand that are to come.
use Rattle.std.proofs.Common.{◌≡◌, ℕ, zero, suc, ◌+◌, ◌<◌, ◌≤◌, Bool, true, false, Option, Some, List, [], ◌∷◌, ◌++◌, length, map, drop, get_or, reverse, refl, sym, ap, subst, ◌∙◌, arith, append_assoc}
use Rattle.std.specs.Prelude.{IsTrue, if◌then◌else◌}
use Rattle.std.specs.List.{AllByRecursion}
use Rattle.std.specs.Option.{is_none}
use Rattle.std.proofs.lemmas.List.{reverse-append, drop_more}
use Rattle.tree_shape.specs.declared.entry.Node.{Node}
use Rattle.page_store.specs.Reading.{Read}
use Rattle.page_store.specs.Shelf.{Shelf}
use Rattle.page_store.proofs.Published.{holds_none, holds_both}
use Rattle.log_model.specs.declared.marks.Mark.{Mark}
use Rattle.log_model.specs.declared.marks.JoinRecord.{JoinRecord}
use Rattle.log_model.specs.declared.pairs.JoinNeed.{JoinNeed}
use Rattle.log_model.specs.JoinWalk.{JoinSearch, centre_of, other}
use Rattle.log_verify.specs.JoinJudged.{join_wrong_in}
use Rattle.job_show.specs.declared.shown.Counts.{Counts}
use Rattle.job_show.specs.Steps.{together}
use Rattle.job_show.specs.Walks.{with_marks}
use Rattle.job_show_joins.specs.declared.shown.PairComing.{PairComing}
use Rattle.job_show_joins.specs.declared.shown.PairWalk.{PairWalk}
use Rattle.job_show_joins.specs.Walks.{PairsShown, coming_at, measured_beside, node_then, node_told, nothing_shown, pair_lines, pairs_coming, shown, shown_on}
use Rattle.job_join.specs.Both.{HoldBoth}
use Rattle.job_show_joins.specs.Steps.{AreUpTo, shown_then}

-- ---- both sides

pub hold_none : (l r : Shelf) → HoldBoth l l r r
hold_none l r = record { left = holds_none l; right = holds_none r }

pub hold_both : (l0 l1 l2 r0 r1 r2 : Shelf) → HoldBoth l0 l1 r0 r1 → HoldBoth l1 l2 r1 r2 → HoldBoth l0 l2 r0 r2
hold_both l0 l1 l2 r0 r1 r2 first second = record { left = holds_both l0 l1 l2 first.left second.left; right = holds_both r0 r1 r2 first.right second.right }

-- ---- one record

same_counts : (a b : Counts) → a.opened ≡ b.opened → a.skips ≡ b.skips → a.fars ≡ b.fars → a.nears ≡ b.nears → a ≡ b
same_counts a b opened skips fars nears =
    ap (λ (n : ℕ). let c : Counts = record { opened = n; skips = a.skips; fars = a.fars; nears = a.nears } in c) opened
    ∙ ap (λ (n : ℕ). let c : Counts = record { opened = b.opened; skips = n; fars = a.fars; nears = a.nears } in c) skips
    ∙ ap (λ (n : ℕ). let c : Counts = record { opened = b.opened; skips = b.skips; fars = n; nears = a.nears } in c) fars
    ∙ ap (λ (n : ℕ). let c : Counts = record { opened = b.opened; skips = b.skips; fars = b.fars; nears = n } in c) nears

together_with : (marks : List Mark) (a b : Counts) → together (with_marks marks a) b ≡ together a (with_marks marks b)
together_with marks a b = same_counts (together (with_marks marks a) b) (together a (with_marks marks b)) (omega arith) (omega arith) (omega arith) (omega arith)

abbrev shown_as : List ℕ → Counts → ℕ → PairsShown
shown_as lines counts measured = record { lines = lines; counts = counts; measured = measured }

all_same : (lines lines2 : List ℕ) (counts counts2 : Counts) (measured measured2 : ℕ) → lines ≡ lines2 → counts ≡ counts2 → measured ≡ measured2 → shown_as lines counts measured ≡ shown_as lines2 counts2 measured2
all_same lines lines2 counts counts2 measured measured2 first second third =
    ap (λ (l : List ℕ). shown_as l counts measured) first ∙ ap (λ (k : Counts). shown_as lines2 k measured) second ∙ ap (shown_as lines2 counts2) third

goes_on : (j : JoinSearch) (left right : Read) (rs : List JoinRecord) (cs : List PairComing) (b : Bool) → (if b then shown j left right cs rs else nothing_shown) ≡ shown j left right (if b then cs else []) rs
goes_on j left right rs cs true = refl
goes_on j left right rs cs false = refl

-- a record whose node is shown
pub told_on : (j : JoinSearch) (left right : Read) (walk0 walk1 : PairWalk) (c : PairComing) (cs : List PairComing) (node : Node) (r : JoinRecord) (rs : List JoinRecord) → reverse walk0.stack.items ≡ c ∷ cs
    → node_told left right c.need r ≡ Some node → walk1.lines.items ≡ walk0.lines.items ++ pair_lines j c node r.marks → walk1.counts ≡ with_marks r.marks walk0.counts
    → walk1.measured ≡ walk0.measured + measured_beside (centre_of (other c.need)) r.marks
    → reverse walk1.stack.items ≡ (if is_none (join_wrong_in j c.need node r.marks) then pairs_coming j c node r.marks ++ cs else [])
    → shown_then walk0 (shown j left right (reverse walk0.stack.items) (r ∷ rs)) ≡ shown_then walk1 (shown j left right (reverse walk1.stack.items) rs)
told_on j left right walk0 walk1 c cs node r rs was told lines_are counts_are measured_is stack_is =
    let rest : PairsShown = shown j left right (reverse walk1.stack.items) rs in
    let beside : ℕ = measured_beside (centre_of (other c.need)) r.marks in
    let here : shown j left right (c ∷ cs) (r ∷ rs) ≡ node_then j c node r.marks rest =
    ap (λ (o : Option Node). shown_on j c r.marks o (λ n. shown j left right (pairs_coming j c n r.marks ++ cs) rs)) told
    ∙ ap (node_then j c node r.marks)
    (goes_on j left right rs (pairs_coming j c node r.marks ++ cs) (is_none (join_wrong_in j c.need node r.marks)) ∙ ap (λ (s : List PairComing). shown j left right s rs) (sym stack_is)) in
    ap (λ (s : List PairComing). shown_then walk0 (shown j left right s (r ∷ rs))) was
    ∙ ap (shown_then walk0) here
    ∙ all_same (walk0.lines.items ++ (pair_lines j c node r.marks ++ rest.lines)) (walk1.lines.items ++ rest.lines) (together walk0.counts (with_marks r.marks rest.counts)) (together walk1.counts rest.counts)
    (walk0.measured + (beside + rest.measured)) (walk1.measured + rest.measured)
    (sym (append_assoc walk0.lines.items (pair_lines j c node r.marks) rest.lines) ∙ ap (λ (l : List ℕ). l ++ rest.lines) (sym lines_are))
    (sym (together_with r.marks walk0.counts rest.counts) ∙ ap (λ (k : Counts). together k rest.counts) (sym counts_are))
    (omega (arith, measured_is))

-- ---- the loop over records

-- what a walk has shown, and then what these records show
abbrev pub then_shown : JoinSearch → PairWalk → Read → Read → List JoinRecord → PairsShown
then_shown j walk left right rs = shown_then walk (shown j left right (reverse walk.stack.items) rs)

module _ (j : JoinSearch) (l lm r rm : Shelf) (same : HoldBoth l lm r rm) (records : List JoinRecord) (i : ℕ) (told : JoinRecord) (low : i < length records) (is : told ≡ get_or records i told) (whole : PairsShown) where
  -- one record further
  pub way_next : (walk walk2 : PairWalk)
      → (IsTrue lm.is_known → IsTrue rm.is_known → (rs : List JoinRecord) → then_shown j walk lm.read rm.read (told ∷ rs) ≡ then_shown j walk2 lm.read rm.read rs)
      → (IsTrue l.is_known → IsTrue r.is_known → then_shown j walk l.read r.read (drop i records) ≡ whole)
      → IsTrue l.is_known → IsTrue r.is_known → then_shown j walk2 l.read r.read (drop (i + 1) records) ≡ whole
  way_next walk walk2 step so_far t u =
      ap (λ (read : Read). then_shown j walk2 read r.read (drop (i + 1) records)) (sym same.left.read)
      ∙ ap (λ (read : Read). then_shown j walk2 lm.read read (drop (i + 1) records)) (sym same.right.read)
      ∙ sym (step (same.left.is_known ∙ t) (same.right.is_known ∙ u) (drop (i + 1) records))
      ∙ ap (λ (read : Read). then_shown j walk read rm.read (told ∷ drop (i + 1) records)) same.left.read
      ∙ ap (λ (read : Read). then_shown j walk l.read read (told ∷ drop (i + 1) records)) same.right.read
      ∙ ap (λ (rs : List JoinRecord). then_shown j walk l.read r.read rs) (ap (λ (x : JoinRecord). x ∷ drop (i + 1) records) is ∙ sym (drop_more records i told low))
      ∙ so_far t u

-- record i has few marks
pub short_at : (records : List JoinRecord) (i : ℕ) (r : JoinRecord) → i < length records → r ≡ get_or records i r → AllByRecursion (λ r. length r.marks ≤ 32) records → length r.marks ≤ 32
short_at [] i r low is all = absurd (let e : ⊥ = omega arith in e)
short_at (x ∷ xs) zero r low is all = subst (λ (y : JoinRecord). length y.marks ≤ 32) (sym is) all.0
short_at (x ∷ xs) (suc i) r low is all = short_at xs i r (omega arith) is all.1

-- ---- depths

-- the pair on top of the stack
pub popped : (old rest : List PairComing) (c : PairComing) → old ≡ rest ++ c ∷ [] → reverse old ≡ c ∷ reverse rest
popped old rest c is = ap reverse is ∙ reverse-append rest (c ∷ [])

upto_more : (n m : ℕ) (cs : List PairComing) → n ≤ m → AreUpTo n cs → AreUpTo m cs
upto_more n m [] le all = tt
upto_more n m (c ∷ cs) le all = (omega (arith, all.0), upto_more n m cs le all.1)

upto_append : (n : ℕ) (xs ys : List PairComing) → AreUpTo n xs → AreUpTo n ys → AreUpTo n (xs ++ ys)
upto_append n [] ys first second = second
upto_append n (x ∷ xs) ys first second = (first.0, upto_append n xs ys first.1 second)

upto_needs : (n depth : ℕ) → depth ≤ n → (needs : List JoinNeed) → AreUpTo n (map (coming_at depth) needs)
upto_needs n depth le [] = tt
upto_needs n depth le (need ∷ needs) = (le, upto_needs n depth le needs)

upto_if : (n : ℕ) (cs : List PairComing) (b : Bool) → AreUpTo n cs → AreUpTo n (if b then cs else [])
upto_if n cs true all = all
upto_if n cs false all = tt

-- the pairs that come after a shown node
pub depths_on : (stack0 stack1 : List PairComing) (c : PairComing) (cs : List PairComing) (needs : List JoinNeed) (b : Bool) (depth : ℕ) → stack0 ≡ c ∷ cs
    → stack1 ≡ (if b then map (coming_at (c.depth + 1)) needs ++ cs else []) → AreUpTo depth stack0 → AreUpTo (depth + 1) stack1
depths_on stack0 stack1 c cs needs b depth was is all =
    let parts : AreUpTo depth (c ∷ cs) = subst (AreUpTo depth) was all in
    subst (AreUpTo (depth + 1)) (sym is)
    (upto_if (depth + 1) (map (coming_at (c.depth + 1)) needs ++ cs) b
    (upto_append (depth + 1) (map (coming_at (c.depth + 1)) needs) cs (upto_needs (depth + 1) (c.depth + 1) (omega (arith, parts.0)) needs) (upto_more depth (depth + 1) cs (omega arith) parts.1)))
