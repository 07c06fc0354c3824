-- One entry more of a node.
use Rattle.std.proofs.Common.{◌≡◌, ℕ, zero, suc, ◌+◌, ◌<◌, ◌&&◌, Bool, true, false, Option, Some, List, [], ◌∷◌, ◌++◌, length, drop, get_or, refl, sym, ap, ◌∙◌, arith, append_assoc}
use Rattle.std.specs.Prelude.{if◌then◌else◌, codes}
use Rattle.std.specs.Option.{is_none}
use Rattle.std.proofs.lemmas.List.{drop_more}
use Rattle.tree_shape.specs.declared.entry.InnerEntry.{InnerEntry}
use Rattle.log_model.specs.declared.marks.Mark.{Mark}
use Rattle.log_model.specs.declared.marks.Mark.TheVariants.{Skip, Far, Near}
use Rattle.log_model.specs.Walk.{Search, away, near_ones}
use Rattle.log_verify.specs.Judged.{first_wrong}
use Rattle.job_show.specs.declared.shown.Coming.{Coming}
use Rattle.job_show.specs.Walks.{coming_of, comings_of, indent, marked_lines}

-- ---- blanks

blanks_turn : (depth : ℕ) → codes "  " ++ indent depth ≡ indent depth ++ codes "  "
blanks_turn zero = refl
blanks_turn (suc depth) = ap (λ (l : List ℕ). codes "  " ++ l) (blanks_turn depth)

-- one step more
pub indent_more : (depth : ℕ) → indent (depth + 1) ≡ indent depth ++ codes "  "
indent_more depth = ap indent (let e : depth + 1 ≡ suc depth = omega arith in e) ∙ blanks_turn depth

-- ---- a loop over entries

-- entry i with its mark, and what stands behind them
pub at_entry : {X Y : Type 0} (F : List X → List Mark → Y) (es : List X) (marks : List Mark) (i : ℕ) (e : X) → i < length es → length marks ≡ length es → e ≡ get_or es i e
    → F (drop i es) (drop i marks) ≡ F (e ∷ drop (i + 1) es) (get_or marks i Skip ∷ drop (i + 1) marks)
at_entry {X} {Y} F es marks i e low long is =
    ap (λ (xs : List X). F xs (drop i marks)) (drop_more es i e low ∙ ap (λ (x : X). x ∷ drop (i + 1) es) (sym is))
    ∙ ap (F (e ∷ drop (i + 1) es)) (drop_more marks i Skip (omega (arith, long, low)))

-- the lines of the entries so far, and those that are left
pub lines_next : {X : Type 0} (line : ℕ → X → Mark → List ℕ) (es : List X) (marks : List Mark) (i : ℕ) (e : X) (old new whole : List ℕ) → i < length es → length marks ≡ length es → e ≡ get_or es i e
    → new ≡ old ++ line i e (get_or marks i Skip) → old ++ marked_lines line i (drop i es) (drop i marks) ≡ whole → new ++ marked_lines line (i + 1) (drop (i + 1) es) (drop (i + 1) marks) ≡ whole
lines_next {X} line es marks i e old new whole low long is grown so_far =
    ap (λ (l : List ℕ). l ++ marked_lines line (i + 1) (drop (i + 1) es) (drop (i + 1) marks)) grown
    ∙ append_assoc old (line i e (get_or marks i Skip)) (marked_lines line (i + 1) (drop (i + 1) es) (drop (i + 1) marks))
    ∙ ap (λ (l : List ℕ). old ++ l) (sym (at_entry (λ (xs : List X) (ms : List Mark). marked_lines line i xs ms) es marks i e low long is)) ∙ so_far

and_assoc : (x y z : Bool) → ((x && y) && z) ≡ (x && (y && z))
and_assoc true y z = refl
and_assoc false y z = refl

none_if : (b : Bool) (rest : Option ℕ) (j : ℕ) → is_none (if b then rest else Some j) ≡ (b && is_none rest)
none_if true rest j = refl
none_if false rest j = refl

-- whether the marks so far are allowed, and those that are left
pub allowed_next : {X : Type 0} (allows : X → Mark → Bool) (es : List X) (marks : List Mark) (i : ℕ) (e : X) (before here whole : Bool) → i < length es → length marks ≡ length es → e ≡ get_or es i e
    → here ≡ allows e (get_or marks i Skip) → (before && is_none (first_wrong allows (drop i es) (drop i marks) i)) ≡ whole
    → ((before && here) && is_none (first_wrong allows (drop (i + 1) es) (drop (i + 1) marks) (i + 1))) ≡ whole
allowed_next {X} allows es marks i e before here whole low long is tested so_far =
    let rest : Option ℕ = first_wrong allows (drop (i + 1) es) (drop (i + 1) marks) (i + 1) in
    and_assoc before here (is_none rest)
    ∙ ap (λ (b : Bool). before && b)
    (ap (λ (b : Bool). b && is_none rest) tested ∙ sym (none_if (allows e (get_or marks i Skip)) rest i)
    ∙ sym (at_entry (λ (xs : List X) (ms : List Mark). is_none (first_wrong allows xs ms i)) es marks i e low long is))
    ∙ so_far

-- what an entry needs is known where it is marked Near
need_same : (m : Mark) (one other : Coming) → (m ≡ Near → one ≡ other) → near_ones (one ∷ []) (m ∷ []) ≡ near_ones (other ∷ []) (m ∷ [])
need_same Skip one other same = refl
need_same Far one other same = refl
need_same Near one other same = ap (λ (c : Coming). c ∷ []) (same refl)

need_first : (f : Search) (c : Coming) (e : InnerEntry) (es : List InnerEntry) (m : Mark) (marks : List Mark) → comings_of f c (e ∷ es) (m ∷ marks) ≡ near_ones (coming_of f c e ∷ []) (m ∷ []) ++ comings_of f c es marks
need_first f c e es Skip marks = refl
need_first f c e es Far marks = refl
need_first f c e es Near marks = refl

abbrev pub below_at : Coming → ℕ → ℕ → Coming
below_at c page dist = record { need = record { page = page; above = Some dist }; depth = c.depth + 1 }

-- the pages that the entries so far need, and those that are left
pub needs_next : (f : Search) (c : Coming) (es : List InnerEntry) (marks : List Mark) (i : ℕ) (e : InnerEntry) (dist : ℕ) (old new whole : List Coming) → i < length es → length marks ≡ length es → e ≡ get_or es i e
    → (get_or marks i Skip ≡ Near → dist ≡ away f e.point) → new ≡ old ++ near_ones (below_at c e.child dist ∷ []) (get_or marks i Skip ∷ [])
    → old ++ comings_of f c (drop i es) (drop i marks) ≡ whole → new ++ comings_of f c (drop (i + 1) es) (drop (i + 1) marks) ≡ whole
needs_next f c es marks i e dist old new whole low long is far grown so_far =
    let m : Mark = get_or marks i Skip in
    let rest : List Coming = comings_of f c (drop (i + 1) es) (drop (i + 1) marks) in
    ap (λ (l : List Coming). l ++ rest) (grown ∙ ap (λ (l : List Coming). old ++ l) (need_same m (below_at c e.child dist) (coming_of f c e) (λ near. ap (below_at c e.child) (far near))))
    ∙ append_assoc old (near_ones (coming_of f c e ∷ []) (m ∷ [])) rest
    ∙ ap (λ (l : List Coming). old ++ l) (sym (need_first f c e (drop (i + 1) es) m (drop (i + 1) marks)) ∙ sym (at_entry (comings_of f c) es marks i e low long is))
    ∙ so_far
