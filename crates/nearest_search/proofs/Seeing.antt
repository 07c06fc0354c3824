-- What was seen of the entries gives their least marks at each radius up to that of the search.
use Rattle.std.proofs.Common.{◌≡◌, ℕ, zero, suc, ◌+◌, ◌-◌, ◌<◌, ◌≤◌, Bool, true, false, List, [], ◌∷◌, ◌++◌, refl, sym, ap, ◌∙◌, arith, subst, length, length-append, append_assoc, drop, drop-cons, add-one, get_or, Option, Some, None}
use Rattle.std.specs.Prelude.{map, nat_lt, replicate, All, if◌then◌else◌}
use Rattle.std.proofs.lemmas.Bool.Decides.{nat_tests}
use Rattle.std.proofs.lemmas.List.{length-replicate, length-set}
use Rattle.std.proofs.Math.Seq.{set-append_seam}
use Rattle.metric_laws.specs.Space.{Space}
use Rattle.metric_laws.specs.Pruning.{gap, centre_rules_out}
use Rattle.tree_shape.specs.declared.entry.LeafEntry.{LeafEntry}
use Rattle.tree_shape.specs.declared.entry.InnerEntry.{InnerEntry}
use Rattle.log_model.specs.declared.marks.Mark.{Mark}
use Rattle.log_model.specs.declared.marks.Mark.TheVariants.{Skip, Far, Near}
use Rattle.log_model.specs.Walk.{Search, search_at, away, parent_skips, is_skipped, least_for_object, least_for_subtree, leaf_marks, inner_marks, inner_needs, near_ones, hit_of, need_of}
use Rattle.log_model.specs.Met.{tagged_of, leaf_tagged}
use Rattle.nearest_search.specs.declared.seen.Sight.{Sight}
use Rattle.nearest_search.specs.Machine.{pending_of}
use Rattle.nearest_search.specs.Opened.{leaf_dists, inner_pendings}
use Rattle.nearest_search.specs.Seeing.{skip_of, object_sight, subtree_sight, sights_from, objects_seen, subtrees_seen, mark_at, put_mark, marked_by, marks_seen, seen_near, tagged_seen, need_seen, Objects, Subtrees}
use Rattle.nearest_search.specs.Keeping.{IsFew}

less_less : (rho radius d : ℕ) → nat_lt rho (d - radius) ≡ nat_lt (rho + radius) d
less_less rho radius d = cases (nat_lt (rho + radius) d) refl
  where
    cases : (b : Bool) → nat_lt (rho + radius) d ≡ b → nat_lt rho (d - radius) ≡ b
    cases true e = grind (arith, nat_tests)
    cases false e = grind (arith, nat_tests)

less_far : (rho d : ℕ) → nat_lt rho d ≡ nat_lt (rho + 0) d
less_far rho d = let same : rho + 0 ≡ rho = omega arith in rw same refl

skips_same : (above : Option ℕ) (stored radius rho : ℕ) → nat_lt rho (skip_of above stored radius) ≡ parent_skips above stored rho radius
skips_same None stored radius rho = grind (arith, nat_tests)
skips_same (Some dist) stored radius rho = less_less rho radius (gap dist stored)

-- there are as many marks as before
length-put : (marks : List Mark) (place : ℕ) (m : Mark) → length (put_mark marks place m) ≡ length marks
length-put marks place Skip = refl
length-put marks place Far = length-set marks place Far
length-put marks place Near = length-set marks place Near

length-marked : (rho : ℕ) (marks : List Mark) (xs : List Sight) → length (marked_by rho marks xs) ≡ length marks
length-marked rho marks [] = refl
length-marked rho marks (x ∷ xs) = length-marked rho (put_mark marks x.place (mark_at rho x)) xs ∙ length-put marks x.place (mark_at rho x)

pub length-marks : (rho count : ℕ) (xs : List Sight) → length (marks_seen rho count xs) ≡ count
length-marks rho count xs = length-marked rho (replicate count Skip) xs ∙ length-replicate count Skip

-- the first of the marks Skip is set anew
put_first : (ms rest : List Mark) (m : Mark) → put_mark (ms ++ Skip ∷ rest) (length ms) m ≡ ms ++ m ∷ rest
put_first ms rest Skip = refl
put_first ms rest Far = set-append_seam ms Skip rest Far
put_first ms rest Near = set-append_seam ms Skip rest Near

-- what does not depend on entries that are skipped; the first entry stands at a place
passed : {X Z : Type 0} (skips : X → Bool) (of : ℕ → List X → Z) → ((place : ℕ) (e : X) (es : List X) → skips e ≡ true → of place (e ∷ es) ≡ of (suc place) es) →
    (from to : ℕ) (es : List X) → from ≤ to → to ≤ length es → ((k : ℕ) (d : X) → from ≤ k → k < to → skips (get_or es k d) ≡ true) → of from (drop from es) ≡ of to (drop to es)
passed skips of same zero zero es low high out = refl
passed skips of same zero (suc to) [] low high out = absurd (omega arith)
passed skips of same zero (suc to) (e ∷ es) low high out =
    same 0 e es (out 0 e (omega arith) (omega arith))
    ∙ passed skips (λ place l. of (suc place) l) (λ place d l skip. same (suc place) d l skip) zero to es (omega arith) (omega arith) (λ k d above below. out (suc k) d (omega arith) (omega arith))
passed skips of same (suc from) zero es low high out = absurd (omega arith)
passed skips of same (suc from) (suc to) [] low high out = absurd (omega arith)
passed skips of same (suc from) (suc to) (e ∷ es) low high out =
    passed skips (λ place l. of (suc place) l) (λ place d l skip. same (suc place) d l skip) from to es (omega arith) (omega arith) (λ k d above below. out (suc k) d (omega arith) (omega arith))

-- entries, some of them skipped, and the sights of the others
module _ {X : Type 0} (skips : X → Bool) (sight : ℕ → X → Sight) where
  -- there is no sight of an entry that is skipped
  unseen_skipped : (place : ℕ) (e : X) (es : List X) → skips e ≡ true → sights_from skips sight place (e ∷ es) ≡ sights_from skips sight (suc place) es
  unseen_skipped place e es skip = rw skip refl

  -- one that is not skipped is seen
  seen_next : (xs ys : List Sight) (es : List X) (i : ℕ) (e : X) (x : Sight) → i < length es → e ≡ get_or es i e → skips e ≡ false → x ≡ sight i e → ys ≡ xs ++ x ∷ [] →
      ys ++ sights_from skips sight (i + 1) (drop (i + 1) es) ≡ xs ++ sights_from skips sight i (drop i es)
  seen_next xs ys es i e x low is left seen pushed =
      rw (pushed, seen, add-one, drop-cons es i e low, ← is, left) (append_assoc xs (sight i e ∷ []) (sights_from skips sight (suc i) (drop (suc i) es)))

  -- there are no more sights than entries
  no_more : (place : ℕ) (es : List X) → length (sights_from skips sight place es) ≤ length es
  no_more place [] = omega arith
  no_more place (e ∷ es) = cases (skips e) (no_more (suc place) es)
    where
      cases : (b : Bool) → length (sights_from skips sight (suc place) es) ≤ length es →
          length (if b then sights_from skips sight (suc place) es else sight place e ∷ sights_from skips sight (suc place) es) ≤ suc (length es)
      cases true few = omega arith
      cases false few = omega arith

  module _ (there : (place : ℕ) (e : X) → (sight place e).place ≡ place) where
    -- each is of one of the entries
    placed : (place count : ℕ) (es : List X) → place + length es ≤ count → All (λ x. x.place < count) (sights_from skips sight place es)
    placed place count [] few k d low = absurd (omega arith)
    placed place count (e ∷ es) few k d low = cases (skips e) (placed (suc place) count es (omega arith)) k d low
      where
        cases : (b : Bool) → All (λ x. x.place < count) (sights_from skips sight (suc place) es) →
            All (λ x. x.place < count) (if b then sights_from skips sight (suc place) es else sight place e ∷ sights_from skips sight (suc place) es)
        cases true rest k d low = rest k d low
        cases false rest zero d low = omega (arith, few, there place e)
        cases false rest (suc k) d low = rest k d (omega arith)

    -- where a sight gives the least mark of its entry, and those that are skipped are marked Skip
    module _ (rho : ℕ) (least : X → Mark) (out : (e : X) → skips e ≡ true → least e ≡ Skip) (mark : (place : ℕ) (e : X) → mark_at rho (sight place e) ≡ least e) where
      -- the sights give the least marks
      marked_rest : (ms : List Mark) (es : List X) → marked_by rho (ms ++ replicate (length es) Skip) (sights_from skips sight (length ms) es) ≡ ms ++ map least es
      marked_rest ms [] = refl
      marked_rest ms (e ∷ es) = cases (skips e) refl (λ m. marked_rest (ms ++ m ∷ []) es)
        where
          more : (m : Mark) → length (ms ++ m ∷ []) ≡ suc (length ms)
          more m = length-append ms (m ∷ []) ∙ add-one (length ms)

          IsMarked : Mark → Type 0
          IsMarked m = marked_by rho ((ms ++ m ∷ []) ++ replicate (length es) Skip) (sights_from skips sight (length (ms ++ m ∷ [])) es) ≡ (ms ++ m ∷ []) ++ map least es

          moved : (m : Mark) → IsMarked m → m ≡ least e →
              marked_by rho (ms ++ m ∷ replicate (length es) Skip) (sights_from skips sight (suc (length ms)) es) ≡ ms ++ least e ∷ map least es
          moved m rest is =
              ap (λ (l : List Mark). marked_by rho l (sights_from skips sight (suc (length ms)) es)) (sym (append_assoc ms (m ∷ []) (replicate (length es) Skip)))
              ∙ ap (λ (n : ℕ). marked_by rho ((ms ++ m ∷ []) ++ replicate (length es) Skip) (sights_from skips sight n es)) (sym (more m))
              ∙ rest ∙ append_assoc ms (m ∷ []) (map least es) ∙ ap (λ (n : Mark). ms ++ n ∷ map least es) is

          cases : (b : Bool) → skips e ≡ b → ((m : Mark) → IsMarked m) →
              marked_by rho (ms ++ Skip ∷ replicate (length es) Skip) (if b then sights_from skips sight (suc (length ms)) es else sight (length ms) e ∷ sights_from skips sight (suc (length ms)) es)
              ≡ ms ++ least e ∷ map least es
          cases true skip rest = moved Skip (rest Skip) (sym (out e skip))
          cases false skip rest =
              ap (λ (l : List Mark). marked_by rho l (sights_from skips sight (suc (length ms)) es))
              (ap (λ (n : ℕ). put_mark (ms ++ Skip ∷ replicate (length es) Skip) n (mark_at rho (sight (length ms) e))) (there (length ms) e)
              ∙ put_first ms (replicate (length es) Skip) (mark_at rho (sight (length ms) e)))
              ∙ moved (mark_at rho (sight (length ms) e)) (rest (mark_at rho (sight (length ms) e))) (mark (length ms) e)

      marked : (es : List X) → marks_seen rho (length es) (sights_from skips sight 0 es) ≡ map least es
      marked es = marked_rest [] es

      -- those that are marked Near
      named : {Y : Type 0} (of : Sight → Y) (name : X → Y) → ((place : ℕ) (e : X) → of (sight place e) ≡ name e) → (place : ℕ) (es : List X) →
          map of (seen_near rho (sights_from skips sight place es)) ≡ map name (near_ones es (map least es))
      named of name same place [] = refl
      named of name same place (e ∷ es) = cases (skips e) refl (named of name same (suc place) es)
        where
          one : (m : Mark) → mark_at rho (sight place e) ≡ m → map of (seen_near rho (sights_from skips sight (suc place) es)) ≡ map name (near_ones es (map least es)) →
              map of (seen_near rho (sight place e ∷ sights_from skips sight (suc place) es)) ≡ map name (near_ones (e ∷ es) (least e ∷ map least es))
          one Skip is rest = rw (← mark place e, is) rest
          one Far is rest = rw (← mark place e, is) rest
          one Near is rest = rw (← mark place e, is, same place e) (ap (λ (l : List _). name e ∷ l) rest)

          cases : (b : Bool) → skips e ≡ b → map of (seen_near rho (sights_from skips sight (suc place) es)) ≡ map name (near_ones es (map least es)) →
              map of (seen_near rho (if b then sights_from skips sight (suc place) es else sight place e ∷ sights_from skips sight (suc place) es)) ≡ map name (near_ones (e ∷ es) (least e ∷ map least es))
          cases true skip rest = rw (out e skip) rest
          cases false skip rest = one (mark_at rho (sight place e)) refl rest

-- the entries that are marked Near, from one on that was measured
module _ {X : Type 0} (least : X → Mark) (es : List X) (i : ℕ) (e : X) (low : i < length es) (is : e ≡ get_or es i e) where
  split : drop i es ≡ e ∷ drop (i + 1) es
  split = rw (add-one, drop-cons es i e low, ← is) refl

  near_ones_near : least e ≡ Near → near_ones (drop i es) (map least (drop i es)) ≡ e ∷ near_ones (drop (i + 1) es) (map least (drop (i + 1) es))
  near_ones_near near = ap (λ (l : List X). near_ones l (map least l)) split ∙ ap (λ (m : Mark). near_ones (e ∷ drop (i + 1) es) (m ∷ map least (drop (i + 1) es))) near

  near_ones_far : least e ≡ Far → near_ones (drop i es) (map least (drop i es)) ≡ near_ones (drop (i + 1) es) (map least (drop (i + 1) es))
  near_ones_far far = ap (λ (l : List X). near_ones l (map least l)) split ∙ ap (λ (m : Mark). near_ones (e ∷ drop (i + 1) es) (m ∷ map least (drop (i + 1) es))) far

-- what the parent test rules out at a radius, it rules out at each lower one
module _ (rho r : ℕ) (low : rho ≤ r) where
  lower : (above : Option ℕ) (stored radius : ℕ) → parent_skips above stored r radius ≡ true → parent_skips above stored rho radius ≡ true
  lower None stored radius skip = skip
  lower (Some dist) stored radius skip = grind (arith, nat_tests)

module _ (s : Space) (q : List ℕ) (rho r : ℕ) (low : rho ≤ r) (above : Option ℕ) where
  object_out : (e : LeafEntry) → is_skipped (search_at s q r) above e.parent 0 ≡ true → least_for_object (search_at s q rho) above e ≡ Skip
  object_out e skip = rw (lower rho r low above e.parent 0 skip) refl

  object_mark : (place : ℕ) (e : LeafEntry) → mark_at rho (object_sight (search_at s q r) above place e) ≡ least_for_object (search_at s q rho) above e
  object_mark place e = rw (skips_same above e.parent 0 rho, less_far rho (s.dist e.point q)) refl

  pub objects_marked : (es : List LeafEntry) → marks_seen rho (length es) (objects_seen (search_at s q r) above 0 es) ≡ leaf_marks (search_at s q rho) above es
  objects_marked es = marked (λ e. is_skipped (search_at s q r) above e.parent 0) (object_sight (search_at s q r) above) (λ place e. refl) rho (least_for_object (search_at s q rho) above) object_out object_mark es

  pub objects_named : (es : List LeafEntry) → map tagged_seen (seen_near rho (objects_seen (search_at s q r) above 0 es)) ≡ leaf_tagged (search_at s q rho) above es
  objects_named es =
      named (λ e. is_skipped (search_at s q r) above e.parent 0) (object_sight (search_at s q r) above) (λ place e. refl) rho (least_for_object (search_at s q rho) above) object_out object_mark
      tagged_seen (tagged_of s q) (λ place e. refl) 0 es

  subtree_out : (e : InnerEntry) → is_skipped (search_at s q r) above e.parent e.radius ≡ true → least_for_subtree (search_at s q rho) above e ≡ Skip
  subtree_out e skip = rw (lower rho r low above e.parent e.radius skip) refl

  subtree_mark : (place : ℕ) (e : InnerEntry) → mark_at rho (subtree_sight (search_at s q r) above place e) ≡ least_for_subtree (search_at s q rho) above e
  subtree_mark place e = rw (skips_same above e.parent e.radius rho, less_less rho e.radius (s.dist e.point q)) refl

  pub subtrees_marked : (es : List InnerEntry) → marks_seen rho (length es) (subtrees_seen (search_at s q r) above 0 es) ≡ inner_marks (search_at s q rho) above es
  subtrees_marked es =
      marked (λ e. is_skipped (search_at s q r) above e.parent e.radius) (subtree_sight (search_at s q r) above) (λ place e. refl) rho (least_for_subtree (search_at s q rho) above) subtree_out subtree_mark es

  pub subtrees_needed : (es : List InnerEntry) → map need_seen (seen_near rho (subtrees_seen (search_at s q r) above 0 es)) ≡ inner_needs (search_at s q rho) above es
  subtrees_needed es =
      named (λ e. is_skipped (search_at s q r) above e.parent e.radius) (subtree_sight (search_at s q r) above) (λ place e. refl) rho (least_for_subtree (search_at s q rho) above) subtree_out subtree_mark
      need_seen (need_of (search_at s q rho)) (λ place e. refl) 0 es

-- the loop over a node's entries: those that the parent test rules out are passed, and the next one is measured
module _ (f : Search) (above : Option ℕ) (es : List LeafEntry) where
  module _ (from to : ℕ) (low : from ≤ to) (high : to ≤ length es) (out : (k : ℕ) (e : LeafEntry) → from ≤ k → k < to → is_skipped f above (get_or es k e).parent 0 ≡ true) where
    pub objects_passed : (seen all : List Sight) → seen ++ objects_seen f above from (drop from es) ≡ all → seen ++ objects_seen f above to (drop to es) ≡ all
    objects_passed seen all so_far =
        subst (λ (xs : List Sight). seen ++ xs ≡ all)
        (passed (λ e. is_skipped f above e.parent 0) (objects_seen f above) (unseen_skipped (λ e. is_skipped f above e.parent 0) (object_sight f above)) from to es low high out) so_far

    pub dists_passed : leaf_dists f above (drop from es) ≡ leaf_dists f above (drop to es)
    dists_passed = passed (λ e. is_skipped f above e.parent 0) (λ place l. leaf_dists f above l) (λ place e l skip. rw skip refl) from to es low high out

  module _ (i : ℕ) (e : LeafEntry) (low : i < length es) (is : e ≡ get_or es i e) (left : is_skipped f above e.parent 0 ≡ false) where
    pub object_seen : (old new all : List Sight) (x : Sight) → x ≡ object_sight f above i e → new ≡ old ++ x ∷ [] → old ++ objects_seen f above i (drop i es) ≡ all →
        new ++ objects_seen f above (i + 1) (drop (i + 1) es) ≡ all
    object_seen old new all x seen pushed so_far = seen_next (λ d. is_skipped f above d.parent 0) (object_sight f above) old new es i e x low is left seen pushed ∙ so_far

    module _ (dist : ℕ) (away_is : dist ≡ away f e.point) where
      pub object_near : dist ≤ f.rho → leaf_dists f above (drop i es) ≡ dist ∷ leaf_dists f above (drop (i + 1) es)
      object_near near =
          let test : centre_rules_out (away f e.point) f.rho 0 ≡ false = grind (arith, nat_tests, near, away_is) in
          ap (λ (xs : List LeafEntry). map (λ h. h.dist) (map (hit_of f) xs)) (near_ones_near (least_for_object f above) es i e low is (rw (left, test) refl))
          ∙ ap (λ (d : ℕ). d ∷ leaf_dists f above (drop (i + 1) es)) (sym away_is)

      pub object_far : f.rho < dist → leaf_dists f above (drop i es) ≡ leaf_dists f above (drop (i + 1) es)
      object_far far =
          let test : centre_rules_out (away f e.point) f.rho 0 ≡ true = grind (arith, nat_tests, far, away_is) in
          ap (λ (xs : List LeafEntry). map (λ h. h.dist) (map (hit_of f) xs)) (near_ones_far (least_for_object f above) es i e low is (rw (left, test) refl))

module _ (f : Search) (above : Option ℕ) (es : List InnerEntry) where
  module _ (from to : ℕ) (low : from ≤ to) (high : to ≤ length es)
      (out : (k : ℕ) (e : InnerEntry) → from ≤ k → k < to → is_skipped f above (get_or es k e).parent (get_or es k e).radius ≡ true) where
    pub subtrees_passed : (seen all : List Sight) → seen ++ subtrees_seen f above from (drop from es) ≡ all → seen ++ subtrees_seen f above to (drop to es) ≡ all
    subtrees_passed seen all so_far =
        subst (λ (xs : List Sight). seen ++ xs ≡ all)
        (passed (λ e. is_skipped f above e.parent e.radius) (subtrees_seen f above) (unseen_skipped (λ e. is_skipped f above e.parent e.radius) (subtree_sight f above)) from to es low high out) so_far

    pub pendings_passed : inner_pendings f above (drop from es) ≡ inner_pendings f above (drop to es)
    pendings_passed = passed (λ e. is_skipped f above e.parent e.radius) (λ place l. inner_pendings f above l) (λ place e l skip. rw skip refl) from to es low high out

  module _ (i : ℕ) (e : InnerEntry) (low : i < length es) (is : e ≡ get_or es i e) (left : is_skipped f above e.parent e.radius ≡ false) where
    pub subtree_seen : (old new all : List Sight) (x : Sight) → x ≡ subtree_sight f above i e → new ≡ old ++ x ∷ [] → old ++ subtrees_seen f above i (drop i es) ≡ all →
        new ++ subtrees_seen f above (i + 1) (drop (i + 1) es) ≡ all
    subtree_seen old new all x seen pushed so_far = seen_next (λ d. is_skipped f above d.parent d.radius) (subtree_sight f above) old new es i e x low is left seen pushed ∙ so_far

    module _ (far : ℕ) (far_is : far ≡ away f e.point - e.radius) where
      pub subtree_near : far ≤ f.rho → inner_pendings f above (drop i es) ≡ pending_of f e ∷ inner_pendings f above (drop (i + 1) es)
      subtree_near near =
          let test : centre_rules_out (away f e.point) f.rho e.radius ≡ false = grind (arith, nat_tests, near, far_is) in
          ap (λ (xs : List InnerEntry). map (pending_of f) xs) (near_ones_near (least_for_subtree f above) es i e low is (rw (left, test) refl))

      pub subtree_far : f.rho < far → inner_pendings f above (drop i es) ≡ inner_pendings f above (drop (i + 1) es)
      subtree_far beyond =
          let test : centre_rules_out (away f e.point) f.rho e.radius ≡ true = grind (arith, nat_tests, beyond, far_is) in
          ap (λ (xs : List InnerEntry). map (pending_of f) xs) (near_ones_far (least_for_subtree f above) es i e low is (rw (left, test) refl))

-- what was seen of a node is few
module _ (f : Search) (above : Option ℕ) where
  pub few_objects : (es : List LeafEntry) → length es ≤ 32 → IsFew (Objects (length es) (objects_seen f above 0 es))
  few_objects es few = record {
    few = few;
    no_more = no_more (λ e. is_skipped f above e.parent 0) (object_sight f above) 0 es;
    placed = placed (λ e. is_skipped f above e.parent 0) (object_sight f above) (λ place e. refl) 0 (length es) es (omega arith);
  }

  pub few_subtrees : (es : List InnerEntry) → length es ≤ 32 → IsFew (Subtrees (length es) (subtrees_seen f above 0 es))
  few_subtrees es few = record {
    few = few;
    no_more = no_more (λ e. is_skipped f above e.parent e.radius) (subtree_sight f above) 0 es;
    placed = placed (λ e. is_skipped f above e.parent e.radius) (subtree_sight f above) (λ place e. refl) 0 (length es) es (omega arith);
  }
