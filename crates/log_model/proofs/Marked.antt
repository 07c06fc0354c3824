-- The entries of a node, which are marked one after the other.
use Rattle.std.proofs.Common.{◌≡◌, ◌∙◌, ℕ, zero, suc, ◌+◌, ◌<◌, ◌≤◌, true, false, Option, List, [], ◌∷◌, ◌++◌, map, drop, drop-cons, set, length, get_or, add-one, append_assoc, refl, sym, ap, arith}
use Rattle.std.specs.Prelude.{replicate}
use Rattle.metric_laws.specs.Counts.{next_count, count_up}
use Rattle.metric_laws.specs.Pruning.{centre_rules_out}
use Rattle.tree_shape.specs.declared.entry.LeafEntry.{LeafEntry}
use Rattle.tree_shape.specs.declared.entry.InnerEntry.{InnerEntry}
use Rattle.log_model.specs.declared.marks.Mark.{Mark}
use Rattle.log_model.specs.declared.marks.Mark.TheVariants.{Skip, Far, Near}
use Rattle.log_model.specs.Counts.{measured_by}
use Rattle.log_model.specs.Walk.{Search, away, is_skipped, least_for_object, least_for_subtree, near_ones}

-- the least marks of the entries before a place; each of the others is still marked Skip
abbrev pub marked_to : {X : Type 0} (least : X → Mark) → ℕ → List X → List Mark
marked_to least zero es = replicate (length es) Skip
marked_to least (suc at) [] = []
marked_to least (suc at) (e ∷ es) = least e ∷ marked_to least at es

-- what entries name
abbrev pub named_by : {X Y : Type 0} (least : X → Mark) (name : X → Y) → List X → List Y
named_by least name es = map name (near_ones es (map least es))

-- the entries from a place on, up to another, are marked Skip
abbrev pub AreSkipped : {X : Type 0} (least : X → Mark) → ℕ → ℕ → List X → Type 0
AreSkipped least from to es = (k : ℕ) (d : _) → from ≤ k → k < to → least (get_or es k d) ≡ Skip

-- the entries before a place were marked and measured, and what they name was added to what was named before
pub record IsMarkedTo {X Y : Type 0} (least : X → Mark) (name : X → Y) (es : List X) (at : ℕ) (marks : List Mark) (used used2 : ℕ) (old new : List Y) : Type 0 where
  pub made : marks ≡ marked_to least at es
  pub counted : count_up used2 (measured_by (map least (drop at es))) ≡ count_up used (measured_by (map least es))
  pub named : new ++ named_by least name (drop at es) ≡ old ++ named_by least name es

module _ {X : Type 0} (least : X → Mark) where
  pub length-marked : (at : ℕ) (es : List X) → length (marked_to least at es) ≡ length es
  length-marked zero [] = refl
  length-marked zero (e ∷ es) = ap suc (length-marked zero es)
  length-marked (suc at) [] = refl
  length-marked (suc at) (e ∷ es) = ap suc (length-marked at es)

  -- an entry is marked
  pub marked_next : (at : ℕ) (es : List X) (e : X) (m : Mark) → at < length es → e ≡ get_or es at e → least e ≡ m → set (marked_to least at es) at m ≡ marked_to least (suc at) es
  marked_next at [] e m low is mark = absurd (omega arith)
  marked_next zero (x ∷ es) e m low is mark = ap (λ (n : Mark). n ∷ replicate (length es) Skip) (sym mark ∙ ap least is)
  marked_next (suc at) (x ∷ es) e m low is mark = ap (λ (ms : List Mark). least x ∷ ms) (marked_next at es e m (omega arith) is mark)

  -- entries that are marked Skip need no new mark
  pub marked_skipped : (at next : ℕ) (es : List X) → at ≤ next → AreSkipped least at next es → marked_to least at es ≡ marked_to least next es
  marked_skipped zero zero es low out = refl
  marked_skipped zero (suc next) [] low out = refl
  marked_skipped zero (suc next) (e ∷ es) low out =
      ap (λ (m : Mark). m ∷ replicate (length es) Skip) (sym (out 0 e (omega arith) (omega arith)))
      ∙ ap (λ (ms : List Mark). least e ∷ ms) (marked_skipped zero next es (omega arith) (λ k d from to. out (suc k) d (omega arith) (omega arith)))
  marked_skipped (suc at) zero es low out = absurd (omega arith)
  marked_skipped (suc at) (suc next) [] low out = refl
  marked_skipped (suc at) (suc next) (e ∷ es) low out =
      ap (λ (ms : List Mark). least e ∷ ms) (marked_skipped at next es (omega arith) (λ k d from to. out (suc k) d (omega arith) (omega arith)))

  pub marked_all : (at : ℕ) (es : List X) → length es ≤ at → marked_to least at es ≡ map least es
  marked_all zero [] high = refl
  marked_all zero (e ∷ es) high = absurd (omega arith)
  marked_all (suc at) [] high = refl
  marked_all (suc at) (e ∷ es) high = ap (λ (ms : List Mark). least e ∷ ms) (marked_all at es (omega arith))

  -- what does not depend on entries that are marked Skip
  same_skipped : {Z : Type 0} (of : List X → Z) → ((e : X) (es : List X) → least e ≡ Skip → of (e ∷ es) ≡ of es) →
      (at next : ℕ) (es : List X) → at ≤ next → AreSkipped least at next es → of (drop at es) ≡ of (drop next es)
  same_skipped of same zero zero es low out = refl
  same_skipped of same zero (suc next) [] low out = refl
  same_skipped of same zero (suc next) (e ∷ es) low out =
      same e es (out 0 e (omega arith) (omega arith)) ∙ same_skipped of same zero next es (omega arith) (λ k d from to. out (suc k) d (omega arith) (omega arith))
  same_skipped of same (suc at) zero es low out = absurd (omega arith)
  same_skipped of same (suc at) (suc next) [] low out = refl
  same_skipped of same (suc at) (suc next) (e ∷ es) low out = same_skipped of same at next es (omega arith) (λ k d from to. out (suc k) d (omega arith) (omega arith))

  nothing_left : (at : ℕ) (es : List X) → length es ≤ at → drop at es ≡ []
  nothing_left zero [] high = refl
  nothing_left zero (e ∷ es) high = absurd (omega arith)
  nothing_left (suc at) [] high = refl
  nothing_left (suc at) (e ∷ es) high = nothing_left at es (omega arith)

module _ {X Y : Type 0} (least : X → Mark) (name : X → Y) (es : List X) where
  pub length-made : (at : ℕ) (marks : List Mark) (used used2 : ℕ) (old new : List Y) → IsMarkedTo least name es at marks used used2 old new → length marks ≡ length es
  length-made at marks used used2 old new so_far = ap length so_far.made ∙ length-marked least at es

  -- entries that are marked Skip are passed
  pub skipped : (at next : ℕ) (marks : List Mark) (used used2 : ℕ) (old new : List Y) → at ≤ next → AreSkipped least at next es →
      IsMarkedTo least name es at marks used used2 old new → IsMarkedTo least name es next marks used used2 old new
  skipped at next marks used used2 old new low out so_far = record {
    made = so_far.made ∙ marked_skipped least at next es low out;
    counted = ap (count_up used2) (sym (same_skipped least (λ (l : List X). measured_by (map least l)) (λ e l skip. rw skip refl) at next es low out)) ∙ so_far.counted;
    named = ap (λ (l : List Y). new ++ l) (sym (same_skipped least (named_by least name) (λ e l skip. rw skip refl) at next es low out)) ∙ so_far.named;
  }

  -- none is marked yet
  pub begun : (used : ℕ) (old : List Y) → IsMarkedTo least name es 0 (replicate (length es) Skip) used used old old
  begun used old = record { made = refl; counted = refl; named = refl }

  -- an entry is marked, and the next one is to be marked
  module _ (at : ℕ) (e : X) (low : at < length es) (is : e ≡ get_or es at e) where
    split : drop at es ≡ e ∷ drop (at + 1) es
    split = rw (add-one, drop-cons es at e low, ← is) refl

    next_marks : (m : Mark) (marks : List Mark) → least e ≡ m → marks ≡ marked_to least at es → set marks at m ≡ marked_to least (at + 1) es
    next_marks m marks mark so_far = rw (add-one, so_far) (marked_next least at es e m low is mark)

    next_counted : (m : Mark) (used used2 total : ℕ) → least e ≡ m → measured_by (m ∷ map least (drop (at + 1) es)) ≡ suc (measured_by (map least (drop (at + 1) es))) → used2 ≡ next_count used →
        count_up used (measured_by (map least (drop at es))) ≡ total → count_up used2 (measured_by (map least (drop (at + 1) es))) ≡ total
    next_counted m used used2 total mark costs up so_far =
        ap (λ (u : ℕ). count_up u (measured_by (map least (drop (at + 1) es)))) up
        ∙ ap (count_up used) (sym costs)
        ∙ ap (λ (n : Mark). count_up used (measured_by (n ∷ map least (drop (at + 1) es)))) (sym mark)
        ∙ ap (λ (l : List X). count_up used (measured_by (map least l))) (sym split)
        ∙ so_far

    next_named : (m : Mark) (old : List Y) → least e ≡ m → old ++ named_by least name (drop at es) ≡ old ++ map name (near_ones (e ∷ drop (at + 1) es) (m ∷ map least (drop (at + 1) es)))
    next_named m old mark =
        ap (λ (l : List X). old ++ named_by least name l) split ∙ ap (λ (n : Mark). old ++ map name (near_ones (e ∷ drop (at + 1) es) (n ∷ map least (drop (at + 1) es)))) mark

    pub far_next : (marks : List Mark) (used used2 used3 : ℕ) (old new : List Y) → least e ≡ Far → used3 ≡ next_count used2 →
        IsMarkedTo least name es at marks used used2 old new → IsMarkedTo least name es (at + 1) (set marks at Far) used used3 old new
    far_next marks used used2 used3 old new mark up so_far = record {
      made = next_marks Far marks mark so_far.made;
      counted = next_counted Far used2 used3 (count_up used (measured_by (map least es))) mark refl up so_far.counted;
      named = sym (next_named Far new mark) ∙ so_far.named;
    }

    pub near_next : (marks : List Mark) (used used2 used3 : ℕ) (old new newer : List Y) → least e ≡ Near → used3 ≡ next_count used2 → newer ≡ new ++ name e ∷ [] →
        IsMarkedTo least name es at marks used used2 old new → IsMarkedTo least name es (at + 1) (set marks at Near) used used3 old newer
    near_next marks used used2 used3 old new newer mark up added so_far = record {
      made = next_marks Near marks mark so_far.made;
      counted = next_counted Near used2 used3 (count_up used (measured_by (map least es))) mark refl up so_far.counted;
      named = ap (λ (l : List Y). l ++ named_by least name (drop (at + 1) es)) added
          ∙ append_assoc new (name e ∷ []) (named_by least name (drop (at + 1) es)) ∙ sym (next_named Near new mark) ∙ so_far.named;
    }

  -- all are marked
  pub all_marked : (at : ℕ) (marks : List Mark) (used used2 : ℕ) (old new : List Y) → length es ≤ at → IsMarkedTo least name es at marks used used2 old new →
      (marks ≡ map least es) × (used2 ≡ count_up used (measured_by (map least es))) × (new ≡ old ++ named_by least name es)
  all_marked at marks used used2 old new high so_far = (
    so_far.made ∙ marked_all least at es high,
    ap (λ (l : List X). count_up used2 (measured_by (map least l))) (sym (nothing_left least at es high)) ∙ so_far.counted,
    nothing new ∙ ap (λ (l : List X). new ++ named_by least name l) (sym (nothing_left least at es high)) ∙ so_far.named,
  )
    where
      nothing : {Z : Type 0} (l : List Z) → l ≡ l ++ []
      nothing [] = refl
      nothing (x ∷ xs) = ap (λ (ys : List _). x ∷ ys) (nothing xs)

-- the least mark of an object, and of a subtree, by what was tested
module _ (f : Search) (above : Option ℕ) (e : LeafEntry) where
  pub object_skipped : is_skipped f above e.parent 0 ≡ true → least_for_object f above e ≡ Skip
  object_skipped skip = rw skip refl

  pub object_far : is_skipped f above e.parent 0 ≡ false → centre_rules_out (away f e.point) f.rho 0 ≡ true → least_for_object f above e ≡ Far
  object_far unskipped far = rw (unskipped, far) refl

  pub object_near : is_skipped f above e.parent 0 ≡ false → centre_rules_out (away f e.point) f.rho 0 ≡ false → least_for_object f above e ≡ Near
  object_near unskipped near = rw (unskipped, near) refl

module _ (f : Search) (above : Option ℕ) (e : InnerEntry) where
  pub subtree_skipped : is_skipped f above e.parent e.radius ≡ true → least_for_subtree f above e ≡ Skip
  subtree_skipped skip = rw skip refl

  pub subtree_far : is_skipped f above e.parent e.radius ≡ false → centre_rules_out (away f e.point) f.rho e.radius ≡ true → least_for_subtree f above e ≡ Far
  subtree_far unskipped far = rw (unskipped, far) refl

  pub subtree_near : is_skipped f above e.parent e.radius ≡ false → centre_rules_out (away f e.point) f.rho e.radius ≡ false → least_for_subtree f above e ≡ Near
  subtree_near unskipped near = rw (unskipped, near) refl
