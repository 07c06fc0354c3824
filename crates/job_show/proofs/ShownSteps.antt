-- From one record to the next: what is shown, and how deep the pages stand that are to come.
use Rattle.std.proofs.Common.{◌≡◌, ℕ, ◌+◌, ◌<◌, ◌≤◌, Bool, true, false, List, [], ◌∷◌, ◌++◌, length, drop, get_or, reverse, sym, ap, subst, ◌∙◌, arith}
use Rattle.std.specs.Prelude.{IsTrue, if◌then◌else◌}
use Rattle.std.proofs.lemmas.List.{reverse-append, drop_more}
use Rattle.tree_shape.specs.declared.entry.InnerEntry.{InnerEntry}
use Rattle.tree_shape.specs.declared.entry.Node.{Node}
use Rattle.tree_shape.specs.declared.entry.Node.TheVariants.{Leaf, Inner}
use Rattle.page_store.specs.Reading.{Read}
use Rattle.page_store.specs.Shelf.{Shelf, HoldsSame}
use Rattle.log_model.specs.declared.marks.Mark.{Mark}
use Rattle.log_model.specs.declared.marks.Mark.TheVariants.{Skip, Far, Near}
use Rattle.log_model.specs.declared.marks.Record.{Record}
use Rattle.log_model.specs.Walk.{Search}
use Rattle.job_show.specs.declared.shown.Coming.{Coming}
use Rattle.job_show.specs.declared.shown.Counts.{Counts}
use Rattle.job_show.specs.Walks.{Shown, coming_from, comings_of, shown}
use Rattle.job_show.specs.Steps.{AreUpTo, together}

-- ---- what is shown

-- lines and counts, and then the rest
abbrev pub with_rest : List ℕ → Counts → Shown → Shown
with_rest lines counts rest = record { lines = lines ++ rest.lines; counts = together counts rest.counts }

-- ---- the loop over records

module _ (f : Search) (old mid : Shelf) (same : HoldsSame old mid) (records : List Record) (i : ℕ) (r : Record) (low : i < length records) (is : r ≡ get_or records i r) (whole : Shown) where
  -- one record further
  pub way_next : (lines lines2 : List ℕ) (counts counts2 : Counts) (stack stack2 : List Coming)
      → (IsTrue mid.is_known → (rs : List Record) → with_rest lines counts (shown f mid.read stack (r ∷ rs)) ≡ with_rest lines2 counts2 (shown f mid.read stack2 rs))
      → (IsTrue old.is_known → with_rest lines counts (shown f old.read stack (drop i records)) ≡ whole)
      → IsTrue old.is_known → with_rest lines2 counts2 (shown f old.read stack2 (drop (i + 1) records)) ≡ whole
  way_next lines lines2 counts counts2 stack stack2 step so_far is_known =
      ap (λ (read : Read). with_rest lines2 counts2 (shown f read stack2 (drop (i + 1) records))) (sym same.read)
      ∙ sym (step (same.is_known ∙ is_known) (drop (i + 1) records))
      ∙ ap (λ (read : Read). with_rest lines counts (shown f read stack (r ∷ drop (i + 1) records))) same.read
      ∙ ap (λ (rs : List Record). with_rest lines counts (shown f old.read stack rs)) (ap (λ (x : Record). x ∷ drop (i + 1) records) is ∙ sym (drop_more records i r low))
      ∙ so_far is_known

-- ---- depths

-- the page on top of the stack
pub popped : (old rest : List Coming) (c : Coming) → old ≡ rest ++ c ∷ [] → reverse old ≡ c ∷ reverse rest
popped old rest c is = ap reverse is ∙ reverse-append rest (c ∷ [])

pub upto_more : (n m : ℕ) (cs : List Coming) → n ≤ m → AreUpTo n cs → AreUpTo m cs
upto_more n m [] le all = tt
upto_more n m (c ∷ cs) le all = (omega (arith, all.0), upto_more n m cs le all.1)

upto_append : (n : ℕ) (xs ys : List Coming) → AreUpTo n xs → AreUpTo n ys → AreUpTo n (xs ++ ys)
upto_append n [] ys first second = second
upto_append n (x ∷ xs) ys first second = (first.0, upto_append n xs ys first.1 second)

upto_needs : (f : Search) (c : Coming) (n : ℕ) → c.depth ≤ n → (es : List InnerEntry) (marks : List Mark) → AreUpTo (n + 1) (comings_of f c es marks)
upto_needs f c n le [] marks = tt
upto_needs f c n le (e ∷ es) [] = tt
upto_needs f c n le (e ∷ es) (Skip ∷ marks) = upto_needs f c n le es marks
upto_needs f c n le (e ∷ es) (Far ∷ marks) = upto_needs f c n le es marks
upto_needs f c n le (e ∷ es) (Near ∷ marks) = (omega arith, upto_needs f c n le es marks)

upto_from : (f : Search) (c : Coming) (n : ℕ) (node : Node) (marks : List Mark) → c.depth ≤ n → AreUpTo (n + 1) (coming_from f c node marks)
upto_from f c n (Leaf es) marks le = tt
upto_from f c n (Inner level es) marks le = upto_needs f c n le es marks

upto_if : (n : ℕ) (cs : List Coming) (b : Bool) → AreUpTo n cs → AreUpTo n (if b then cs else [])
upto_if n cs true all = all
upto_if n cs false all = tt

-- the pages that come after a shown node
pub depths_on : (f : Search) (stack0 stack1 : List Coming) (c : Coming) (cs : List Coming) (node : Node) (marks : List Mark) (b : Bool) (depth : ℕ) → stack0 ≡ c ∷ cs
    → stack1 ≡ (if b then coming_from f c node marks ++ cs else []) → AreUpTo depth stack0 → AreUpTo (depth + 1) stack1
depths_on f stack0 stack1 c cs node marks b depth was is all =
    let parts : AreUpTo depth (c ∷ cs) = subst (AreUpTo depth) was all in
    subst (AreUpTo (depth + 1)) (sym is)
    (upto_if (depth + 1) (coming_from f c node marks ++ cs) b
    (upto_append (depth + 1) (coming_from f c node marks) cs (upto_from f c depth node marks parts.0) (upto_more depth (depth + 1) cs (omega arith) parts.1)))
