-- Entries that are rightly marked Skip, one after the other.
use Rattle.std.proofs.Common.{◌≡◌, ℕ, zero, suc, ◌+◌, ◌-◌, ◌<◌, ◌≤◌, Bool, true, false, Option, Some, List, [], ◌∷◌, length, map, drop, take, get_or, refl, sym, ap, ◌∙◌, subst, arith}
use Rattle.std.specs.Prelude.{if◌then◌else◌}
use Rattle.std.proofs.lemmas.List.{drop-drop, get_or-drop, length-drop}
use Rattle.log_model.specs.declared.marks.Mark.{Mark}
use Rattle.log_model.specs.declared.marks.Mark.TheVariants.{Skip}
use Rattle.log_model.specs.declared.pairs.JoinNeed.{JoinNeed}
use Rattle.log_model.specs.Counts.{measured_by}
use Rattle.log_model.specs.Walk.{near_ones}
use Rattle.log_model.specs.JoinWalk.{JoinSearch, Entry, join_skips, allows_entry}
use Rattle.log_verify.specs.Judged.{first_wrong}
use Rattle.log_verify.proofs.Counting.{measured_next}

chosen : {Y : Type 0} (b : Bool) (one other : Y) → b ≡ true → (if b then one else other) ≡ one
chosen true one other is = refl
chosen false one other is = absurd (let no = is in cc)

module _ {X : Type 0} (j : JoinSearch) (n : JoinNeed) (entry : X → Entry) where
  abbrev AreSkipped : ℕ → List X → List Mark → Type 0
  AreSkipped k xs marks = (m : ℕ) (d : X) → m < k → (get_or marks m Skip ≡ Skip) × (join_skips j.rho n (entry (get_or xs m d)) ≡ true)

  wrong_run : (k : ℕ) (xs : List X) (marks : List Mark) (i : ℕ) → k ≤ length xs → length marks ≡ length xs → AreSkipped k xs marks →
      first_wrong (allows_entry j n) (map entry xs) marks i ≡ first_wrong (allows_entry j n) (map entry (drop k xs)) (drop k marks) (i + k)
  wrong_run zero xs marks i few long skipped = ap (λ (p : ℕ). first_wrong (allows_entry j n) (map entry xs) marks p) (let e : i ≡ i + 0 = omega arith in e)
  wrong_run (suc k) [] marks i few long skipped = absurd (omega arith)
  wrong_run (suc k) (x ∷ xs) [] i few long skipped = absurd (omega arith)
  wrong_run (suc k) (x ∷ xs) (m ∷ marks) i few long skipped =
      let here = skipped 0 x (omega arith) in
      let rest : Option ℕ = first_wrong (allows_entry j n) (map entry xs) marks (i + 1) in
      ap (λ (y : Mark). if allows_entry j n (entry x) y then rest else Some i) here.0 ∙ chosen (join_skips j.rho n (entry x)) rest (Some i) here.1
      ∙ wrong_run k xs marks (i + 1) (omega arith) (omega arith) (λ p d below. skipped (suc p) d (omega arith))
      ∙ ap (λ (p : ℕ). first_wrong (allows_entry j n) (map entry (drop k xs)) (drop k marks) p) (let e : i + 1 + k ≡ i + suc k = omega arith in e)

  near_run : (k : ℕ) (xs : List X) (marks : List Mark) → k ≤ length xs → length marks ≡ length xs → AreSkipped k xs marks → near_ones (map entry xs) marks ≡ near_ones (map entry (drop k xs)) (drop k marks)
  near_run zero xs marks few long skipped = refl
  near_run (suc k) [] marks few long skipped = absurd (omega arith)
  near_run (suc k) (x ∷ xs) [] few long skipped = absurd (omega arith)
  near_run (suc k) (x ∷ xs) (m ∷ marks) few long skipped =
      ap (λ (y : Mark). near_ones (entry x ∷ map entry xs) (y ∷ marks)) (skipped 0 x (omega arith)).0
      ∙ near_run k xs marks (omega arith) (omega arith) (λ p d below. skipped (suc p) d (omega arith))

  -- from one place to another
  module _ (es : List X) (marks : List Mark) (at next : ℕ) (low : at ≤ next) (high : next ≤ length es) (long : length marks ≡ length es)
      (marked : (k : ℕ) → at ≤ k → k < next → get_or marks k Skip ≡ Skip) (skipped : (k : ℕ) (d : X) → at ≤ k → k < next → join_skips j.rho n (entry (get_or es k d)) ≡ true) where
    here : AreSkipped (next - at) (drop at es) (drop at marks)
    here m d below = (
      get_or-drop at marks m Skip ∙ marked (at + m) (omega arith) (omega arith),
      subst (λ (x : X). join_skips j.rho n (entry x) ≡ true) (sym (get_or-drop at es m d)) (skipped (at + m) d (omega arith) (omega arith)),
    )

    up : at + (next - at) ≡ next
    up = omega arith

    there : {Y : Type 0} (ys : List Y) → drop (next - at) (drop at ys) ≡ drop next ys
    there ys = drop-drop (next - at) at ys ∙ ap (λ (k : ℕ). drop k ys) up

    few : next - at ≤ length (drop at es)
    few = omega (arith, length-drop at es)

    alike : length (drop at marks) ≡ length (drop at es)
    alike = omega (arith, length-drop at es, length-drop at marks)

    pub wrong_on : first_wrong (allows_entry j n) (map entry (drop next es)) (drop next marks) next ≡ first_wrong (allows_entry j n) (map entry (drop at es)) (drop at marks) at
    wrong_on =
        sym (wrong_run (next - at) (drop at es) (drop at marks) at few alike here
        ∙ ap (λ (k : ℕ). first_wrong (allows_entry j n) (map entry (drop (next - at) (drop at es))) (drop (next - at) (drop at marks)) k) up
        ∙ ap (λ (xs : List X). first_wrong (allows_entry j n) (map entry xs) (drop (next - at) (drop at marks)) next) (there es)
        ∙ ap (λ (ms : List Mark). first_wrong (allows_entry j n) (map entry (drop next es)) ms next) (there marks))

    pub near_on : near_ones (map entry (drop next es)) (drop next marks) ≡ near_ones (map entry (drop at es)) (drop at marks)
    near_on =
        sym (near_run (next - at) (drop at es) (drop at marks) few alike here
        ∙ ap (λ (xs : List X). near_ones (map entry xs) (drop (next - at) (drop at marks))) (there es)
        ∙ ap (λ (ms : List Mark). near_ones (map entry (drop next es)) ms) (there marks))

    pub measured_on : measured_by (take next marks) ≡ measured_by (take at marks)
    measured_on = ap (λ (k : ℕ). measured_by (take k marks)) (sym up) ∙ upward (next - at) (omega arith)
      where
        upward : (k : ℕ) → at + k ≤ next → measured_by (take (at + k) marks) ≡ measured_by (take at marks)
        upward zero within = ap (λ (i : ℕ). measured_by (take i marks)) (let e : at + 0 ≡ at = omega arith in e)
        upward (suc k) within =
            let e : at + suc k ≡ at + k + 1 = omega arith in
            let one = measured_next marks (at + k) Skip (omega (arith, long, high)) (sym (marked (at + k) (omega arith) (omega arith))) in
            ap (λ (i : ℕ). measured_by (take i marks)) e ∙ one ∙ omega (arith, upward k (omega arith))
