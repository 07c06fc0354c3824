-- One mark of a join's record that is allowed.
use Rattle.std.proofs.Common.{◌≡◌, ℕ, ◌+◌, ◌<◌, Bool, true, Option, Some, List, [], ◌∷◌, ◌++◌, length, map, drop, get_or, refl, sym, ap, ◌∙◌, append_assoc}
use Rattle.std.specs.Prelude.{if◌then◌else◌}
use Rattle.metric_laws.specs.Space.{Space}
use Rattle.scan_model.specs.declared.hit.Pair.{Pair}
use Rattle.log_model.specs.declared.marks.Mark.{Mark}
use Rattle.log_model.specs.declared.marks.Mark.TheVariants.{Skip, Far, Near}
use Rattle.log_model.specs.declared.pairs.JoinNeed.{JoinNeed}
use Rattle.log_model.specs.Items.{Item}
use Rattle.log_model.specs.Walk.{near_ones}
use Rattle.log_model.specs.JoinWalk.{Entry, with_entry}
use Rattle.log_model.specs.JoinSteps.{paired, hits_among, needs_among}
use Rattle.log_model.proofs.Published.{paired_same, hits_append, needs_append}
use Rattle.log_verify.specs.Judged.{first_wrong}
use Rattle.log_verify.proofs.OneMark.{one_left, one_named, near_same}

-- entries as a list of their own
wrong_map : {X Y : Type 0} (f : X → Y) (allows : Y → Mark → Bool) (es : List X) (marks : List Mark) (k : ℕ) → first_wrong allows (map f es) marks k ≡ first_wrong (λ e m. allows (f e) m) es marks k
wrong_map f allows [] marks k = refl
wrong_map f allows (e ∷ es) [] k = refl
wrong_map f allows (e ∷ es) (m ∷ marks) k = ap (λ (o : Option ℕ). if allows (f e) m then o else Some k) (wrong_map f allows es marks (k + 1))

near_map : {X Y Z : Type 0} (f : X → Y) (h : Y → Z) (es : List X) (marks : List Mark) → map h (near_ones (map f es) marks) ≡ map (λ e. h (f e)) (near_ones es marks)
near_map f h [] marks = refl
near_map f h (e ∷ es) [] = refl
near_map f h (e ∷ es) (Skip ∷ marks) = near_map f h es marks
near_map f h (e ∷ es) (Far ∷ marks) = near_map f h es marks
near_map f h (e ∷ es) (Near ∷ marks) = ap (λ t. h (f e) ∷ t) (near_map f h es marks)

module _ {X : Type 0} (s : Space) (n : JoinNeed) (entry : X → Entry) (es : List X) (marks : List Mark) (i : ℕ) (e : X) (item : Item) (apart : Option ℕ) (low : i < length es) (long : length marks ≡ length es) (is : e ≡ get_or es i e)
    (same : item ≡ (entry e).item) (dist : get_or marks i Skip ≡ Near → apart ≡ (with_entry s n (entry e)).apart) where
  one : map (with_entry s n) (near_ones (map entry (drop i es)) (drop i marks))
      ≡ near_ones (paired n item apart ∷ []) (get_or marks i Skip ∷ []) ++ map (with_entry s n) (near_ones (map entry (drop (i + 1) es)) (drop (i + 1) marks))
  one =
      near_map entry (with_entry s n) (drop i es) (drop i marks)
      ∙ one_named (λ x. with_entry s n (entry x)) es marks i e low long is
      ∙ ap (λ (t : List JoinNeed). t ++ map (λ x. with_entry s n (entry x)) (near_ones (drop (i + 1) es) (drop (i + 1) marks)))
      (sym (near_same (get_or marks i Skip) (paired n item apart) (with_entry s n (entry e))
      (λ near. ap (λ (x : Item). paired n x apart) same ∙ ap (paired n (entry e).item) (dist near) ∙ paired_same s n (entry e))))
      ∙ ap (λ (t : List JoinNeed). near_ones (paired n item apart ∷ []) (get_or marks i Skip ∷ []) ++ t) (sym (near_map entry (with_entry s n) (drop (i + 1) es) (drop (i + 1) marks)))

  pub hits_next : (old new all : List Pair) → new ≡ old ++ hits_among (near_ones (paired n item apart ∷ []) (get_or marks i Skip ∷ []))
      → old ++ hits_among (map (with_entry s n) (near_ones (map entry (drop i es)) (drop i marks))) ≡ all
      → new ++ hits_among (map (with_entry s n) (near_ones (map entry (drop (i + 1) es)) (drop (i + 1) marks))) ≡ all
  hits_next old new all grown so_far =
      let rest : List JoinNeed = map (with_entry s n) (near_ones (map entry (drop (i + 1) es)) (drop (i + 1) marks)) in
      let here : List JoinNeed = near_ones (paired n item apart ∷ []) (get_or marks i Skip ∷ []) in
      ap (λ (t : List Pair). t ++ hits_among rest) grown ∙ append_assoc old (hits_among here) (hits_among rest) ∙ ap (λ (t : List Pair). old ++ t) (sym (hits_append here rest) ∙ ap hits_among (sym one)) ∙ so_far

  pub needs_next : (old new all : List JoinNeed) → new ≡ old ++ needs_among (near_ones (paired n item apart ∷ []) (get_or marks i Skip ∷ []))
      → old ++ needs_among (map (with_entry s n) (near_ones (map entry (drop i es)) (drop i marks))) ≡ all
      → new ++ needs_among (map (with_entry s n) (near_ones (map entry (drop (i + 1) es)) (drop (i + 1) marks))) ≡ all
  needs_next old new all grown so_far =
      let rest : List JoinNeed = map (with_entry s n) (near_ones (map entry (drop (i + 1) es)) (drop (i + 1) marks)) in
      let here : List JoinNeed = near_ones (paired n item apart ∷ []) (get_or marks i Skip ∷ []) in
      ap (λ (t : List JoinNeed). t ++ needs_among rest) grown ∙ append_assoc old (needs_among here) (needs_among rest) ∙ ap (λ (t : List JoinNeed). old ++ t) (sym (needs_append here rest) ∙ ap needs_among (sym one)) ∙ so_far

-- what is left to check
pub left_mapped : {X : Type 0} (allows : Entry → Mark → Bool) (entry : X → Entry) (es : List X) (marks : List Mark) (i : ℕ) (e : X) → i < length es → length marks ≡ length es → e ≡ get_or es i e
    → allows (entry e) (get_or marks i Skip) ≡ true
    → first_wrong allows (map entry (drop (i + 1) es)) (drop (i + 1) marks) (i + 1) ≡ first_wrong allows (map entry (drop i es)) (drop i marks) i
left_mapped allows entry es marks i e low long is fine =
    wrong_map entry allows (drop (i + 1) es) (drop (i + 1) marks) (i + 1) ∙ one_left (λ x m. allows (entry x) m) es marks i e low long is fine ∙ sym (wrong_map entry allows (drop i es) (drop i marks) i)
