-- One entry more of a node beside another item.
use Rattle.std.proofs.Common.{◌≡◌, ℕ, ◌+◌, ◌<◌, Bool, Option, Some, List, [], ◌∷◌, ◌++◌, length, map, drop, get_or, refl, sym, ap, ◌∙◌, append_assoc}
use Rattle.std.specs.Prelude.{if◌then◌else◌}
use Rattle.metric_laws.specs.Space.{Space}
use Rattle.log_model.specs.declared.marks.Mark.{Mark}
use Rattle.log_model.specs.declared.marks.Mark.TheVariants.{Skip, Far, Near}
use Rattle.log_model.specs.declared.pairs.JoinNeed.{JoinNeed}
use Rattle.log_model.specs.Items.{Item}
use Rattle.log_model.specs.Walk.{near_ones}
use Rattle.log_model.specs.JoinWalk.{Entry, with_entry}
use Rattle.log_model.specs.JoinSteps.{needs_among, paired}
use Rattle.log_model.proofs.Published.{paired_same, needs_append}
use Rattle.log_verify.specs.Judged.{first_wrong}
use Rattle.job_show.specs.Walks.{marked_lines}
use Rattle.job_show.proofs.Published.{at_entry}

-- ---- what the entries of a node as it stands give

abbrev pub lines_from : {X : Type 0} → (X → Entry) → (ℕ → Entry → Mark → List ℕ) → ℕ → List X → List Mark → List ℕ
lines_from entry line place es marks = marked_lines (λ p e m. line p (entry e) m) place es marks

abbrev pub wrong_from : {X : Type 0} → (X → Entry) → (Entry → Mark → Bool) → List X → List Mark → ℕ → Option ℕ
wrong_from entry allows es marks k = first_wrong (λ e m. allows (entry e) m) es marks k

abbrev pub needs_from : {X : Type 0} → (X → Entry) → Space → JoinNeed → List X → List Mark → List JoinNeed
needs_from entry s n es marks = needs_among (map (λ e. with_entry s n (entry e)) (near_ones es marks))

pub lines_map : {X : Type 0} (entry : X → Entry) (line : ℕ → Entry → Mark → List ℕ) (place : ℕ) (es : List X) (marks : List Mark) → lines_from entry line place es marks ≡ marked_lines line place (map entry es) marks
lines_map entry line place [] marks = refl
lines_map entry line place (e ∷ es) [] = refl
lines_map entry line place (e ∷ es) (m ∷ marks) = ap (λ (l : List ℕ). line place (entry e) m ++ l) (lines_map entry line (place + 1) es marks)

pub wrong_map : {X : Type 0} (entry : X → Entry) (allows : Entry → Mark → Bool) (es : List X) (marks : List Mark) (k : ℕ) → wrong_from entry allows es marks k ≡ first_wrong allows (map entry es) marks k
wrong_map entry allows [] marks k = refl
wrong_map entry allows (e ∷ es) [] k = refl
wrong_map entry allows (e ∷ es) (m ∷ marks) k = ap (λ (o : Option ℕ). if allows (entry e) m then o else Some k) (wrong_map entry allows es marks (k + 1))

near_map : {X : Type 0} (entry : X → Entry) (s : Space) (n : JoinNeed) (es : List X) (marks : List Mark) → map (λ e. with_entry s n (entry e)) (near_ones es marks) ≡ map (with_entry s n) (near_ones (map entry es) marks)
near_map entry s n [] marks = refl
near_map entry s n (e ∷ es) [] = refl
near_map entry s n (e ∷ es) (Skip ∷ marks) = near_map entry s n es marks
near_map entry s n (e ∷ es) (Far ∷ marks) = near_map entry s n es marks
near_map entry s n (e ∷ es) (Near ∷ marks) = ap (λ (l : List JoinNeed). with_entry s n (entry e) ∷ l) (near_map entry s n es marks)

pub needs_map : {X : Type 0} (entry : X → Entry) (s : Space) (n : JoinNeed) (es : List X) (marks : List Mark) → needs_from entry s n es marks ≡ needs_among (map (with_entry s n) (near_ones (map entry es) marks))
needs_map entry s n es marks = ap needs_among (near_map entry s n es marks)

-- ---- the pairs of one entry

need_first : {X : Type 0} (entry : X → Entry) (s : Space) (n : JoinNeed) (e : X) (es : List X) (apart : Option ℕ) (m : Mark) (marks : List Mark) → (m ≡ Near → apart ≡ (with_entry s n (entry e)).apart)
    → needs_from entry s n (e ∷ es) (m ∷ marks) ≡ needs_among (near_ones (paired n (entry e).item apart ∷ []) (m ∷ [])) ++ needs_from entry s n es marks
need_first entry s n e es apart Skip marks same = refl
need_first entry s n e es apart Far marks same = refl
need_first entry s n e es apart Near marks same =
    needs_append (with_entry s n (entry e) ∷ []) (map (λ x. with_entry s n (entry x)) (near_ones es marks))
    ∙ ap (λ (p : JoinNeed). needs_among (p ∷ []) ++ needs_from entry s n es marks) (sym (ap (paired n (entry e).item) (same refl) ∙ paired_same s n (entry e)))

-- the pairs that the entries so far need, and those that are left
pub needs_next : {X : Type 0} (entry : X → Entry) (s : Space) (n : JoinNeed) (es : List X) (marks : List Mark) (i : ℕ) (e : X) (item : Item) (apart : Option ℕ) (old new whole : List JoinNeed) → i < length es → length marks ≡ length es → e ≡ get_or es i e
    → item ≡ (entry e).item → (get_or marks i Skip ≡ Near → apart ≡ (with_entry s n (entry e)).apart) → new ≡ old ++ needs_among (near_ones (paired n item apart ∷ []) (get_or marks i Skip ∷ []))
    → old ++ needs_from entry s n (drop i es) (drop i marks) ≡ whole → new ++ needs_from entry s n (drop (i + 1) es) (drop (i + 1) marks) ≡ whole
needs_next {X} entry s n es marks i e item apart old new whole low long is here_is same grown so_far =
    let here : List JoinNeed = needs_among (near_ones (paired n (entry e).item apart ∷ []) (get_or marks i Skip ∷ [])) in
    let rest : List JoinNeed = needs_from entry s n (drop (i + 1) es) (drop (i + 1) marks) in
    ap (λ (l : List JoinNeed). l ++ rest) (grown ∙ ap (λ (x : Item). old ++ needs_among (near_ones (paired n x apart ∷ []) (get_or marks i Skip ∷ []))) here_is) ∙ append_assoc old here rest
    ∙ ap (λ (l : List JoinNeed). old ++ l)
    (sym (need_first entry s n e (drop (i + 1) es) apart (get_or marks i Skip) (drop (i + 1) marks) same) ∙ sym (at_entry (needs_from entry s n) es marks i e low long is))
    ∙ so_far
