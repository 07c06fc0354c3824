-- A candidate is given.
use Rattle.std.proofs.Common.{◌≡◌, ◌⊎◌, ℕ, zero, suc, ◌+◌, ◌<◌, ◌≤◌, List, [], ◌∷◌, ◌++◌, Option, Some, None, refl, sym, ap, inl, inr, arith, ◌∙◌, get_or, take, drop, subst}
use Rattle.std.specs.Prelude.{IsPermutation, slice_index_or}
use Rattle.std.specs.List.{flat_map}
use Rattle.std.proofs.lemmas.Bool.Decides.{nat_tests}
use Rattle.metric_laws.specs.Space.{Space, IsSpace, bound}
use Rattle.metric_laws.specs.Lists.{IsIn}
use Rattle.metric_laws.proofs.Published.{all_in, in-append, in-append_left, in-append_right, in-map, map-in}
use Rattle.scan_model.specs.declared.hit.Hit.{Hit}
use Rattle.scan_model.specs.Scan.{nearest_hits, range_hits}
use Rattle.scan_model.specs.Laws.{Ascends, HitBefore, IsRangeAnswer}
use Rattle.scan_model.proofs.Published.{range_answers}
use Rattle.tree_shape.specs.declared.entry.LeafEntry.{LeafEntry}
use Rattle.tree_shape.specs.Tree.{Nodes, IsSoundAt, IsSoundTree, objects_at, objects, points_by_id, tags_by_id, tags_from, tag_of}
use Rattle.page_store.proofs.Published.{tag_of-in, once_counted}
use Rattle.log_model.proofs.Published.{AreIds, length-points, id_below, at_id, ascends_take}
use Rattle.pin_cursor.specs.declared.waiting.Subtree.{Subtree}
use Rattle.pin_cursor.specs.declared.waiting.Candidate.{Candidate}
use Rattle.pin_cursor.specs.Order.{IsReach, AllBeyond, IsFirst}
use Rattle.pin_cursor.specs.Cursor.{OpenCursor, candidate_of, hit_of, node_level, objects_below, coming, waiting, rest_of, IsCursorOn}
use Rattle.nearest_search.specs.Counts.{total}
use Rattle.nearest_search.proofs.Published.{total-append, total-permutation, in-permutation, in-permutation_back}
use Rattle.pin_cursor.proofs.Lists.{one_of, times_total, flat_map-in, drop_add}

-- ---- lists

pub in-take : {X : Type 0} (k : ℕ) (l : List X) (x : X) → IsIn x (take k l) → IsIn x l
in-take zero l x k = absurd k
in-take (suc n) [] x k = absurd k
in-take (suc n) (y ∷ l) x k = elim k [ inl e ↦ inl e | inr w ↦ inr (in-take n l x w) ]

pub in-drop : {X : Type 0} (k : ℕ) (l : List X) (x : X) → IsIn x (drop k l) → IsIn x l
in-drop zero l x k = k
in-drop (suc n) [] x k = absurd k
in-drop (suc n) (y ∷ l) x k = inr (in-drop n l x k)

ascends_drop : {X : Type 0} (P : X → X → Type 0) (k : ℕ) (l : List X) → Ascends P l → Ascends P (drop k l)
ascends_drop P zero l up = up
ascends_drop P (suc n) [] up = tt
ascends_drop P (suc n) (y ∷ l) up = ascends_drop P n l up.1

-- nearer, or as near and of no greater id
abbrev pub NoLater : Hit → Hit → Type 0
NoLater a b = (a.dist < b.dist) ⊎ ((a.dist ≡ b.dist) × (a.id ≤ b.id))

late : (a b : Hit) → HitBefore b a → NoLater a b → ⊥
late a b before after =
    elim before [
      | inl near ↦ elim after [ inl far ↦ omega arith | inr tie ↦ (let e = tie.0 in omega arith) ]
      | inr tied ↦ (let e = tied.0 in let f = tied.1 in elim after [ inl far ↦ omega arith | inr tie ↦ (let g = tie.1 in omega arith) ])
    ]

-- what stands in an ascending list and comes after none of it stands first
head_is : (l : List Hit) (h : Hit) → Ascends HitBefore l → IsIn h l → ((z : Hit) → IsIn z l → NoLater h z) → (t : List Hit) × (l ≡ h ∷ t)
head_is [] h up k least = absurd k
head_is (r ∷ rs) h up k least =
    elim k [
      | inl e ↦ (rs, ap (λ (z : Hit). z ∷ rs) (sym e))
      | inr w ↦ absurd (late h r (all_in (HitBefore r) rs h up.0 w) (least r (inl refl)))
    ]

not_again : (h : Hit) (t : List Hit) → Ascends HitBefore (h ∷ t) → IsIn h t → ⊥
not_again h t up k = late h h (all_in (HitBefore h) t h up.0 k) (inr (refl, omega arith))

once_at_least : (l : List Candidate) (y : Candidate) (id : ℕ) → IsIn y l → y.id ≡ id → 1 ≤ total (one_of id) l
once_at_least [] y id k is = absurd k
once_at_least (x ∷ l) y id k is =
    elim k [ inl e ↦ first (sym (ap (λ (z : Candidate). z.id) e) ∙ is) | inr w ↦ (let ih = once_at_least l y id w is in omega arith) ]
  where
    first : x.id ≡ id → 1 ≤ total (one_of id) (x ∷ l)
    first same = let one : one_of id x ≡ 1 = grind (arith, nat_tests) in omega arith

-- ---- tags

pub tag_at : (es : List LeafEntry) (i n k : ℕ) → k < n → get_or (tags_from es i n) k 0 ≡ tag_of (i + k) es
tag_at es i zero k low = absurd (omega arith)
tag_at es i (suc n) zero low = ap (λ j. tag_of j es) (let e : i ≡ i + 0 = omega arith in e)
tag_at es i (suc n) (suc k) low = tag_at es (i + 1) n k (omega arith) ∙ ap (λ j. tag_of j es) (let e : (i + 1) + k ≡ i + suc k = omega arith in e)

pub own_tag : (es : List LeafEntry) (count : ℕ) → AreIds es count → (o : LeafEntry) → IsIn o es → get_or (tags_from es 0 count) o.id 0 ≡ o.tag
own_tag es count ids o k =
    tag_at es 0 count o.id (id_below es count ids o k).0 ∙ ap (λ j. tag_of j es) (let e : 0 + o.id ≡ o.id = omega arith in e)
    ∙ tag_of-in es o k (once_counted es count o.id ids)

-- ---- levels

pub level_is : (s : Space) (nodes : Nodes) (h least : ℕ) (above : Option (List ℕ)) (page : ℕ) → IsSoundAt s nodes h least above page → node_level (nodes page) ≡ h
level_is s nodes zero least above page sound = ap node_level sound.1
level_is s nodes (suc h) least above page sound = ap node_level sound.1

-- ---- the step

module _ (s : Space) (axioms : IsSpace s) (nodes : Nodes) (c : OpenCursor) (sound : IsSoundTree s nodes c.live) (on : IsCursorOn s nodes c) where
  abbrev all : List Hit
  all = nearest_hits s (points_by_id nodes c.live) c.point c.live.count

  rest_rises : Ascends HitBefore (rest_of s nodes c)
  rest_rises = ascends_drop HitBefore c.given all
      (ascends_take HitBefore c.live.count (range_hits s (points_by_id nodes c.live) c.point bound) (range_answers s (points_by_id nodes c.live) c.point bound).0)

  -- each hit that is still to be given waits
  pub standing : (h : Hit) → IsIn h (rest_of s nodes c) → (y : Candidate) × IsIn y (waiting s nodes c) × (hit_of y ≡ h)
  standing h k =
      let answer : IsRangeAnswer s (points_by_id nodes c.live) c.point bound h =
      ((range_answers s (points_by_id nodes c.live) c.point bound).1 h).0 (in-take c.live.count (range_hits s (points_by_id nodes c.live) c.point bound) h (in-drop c.given all h k)) in
      let low : h.id < c.live.count = (let o = answer.object in let l = length-points (objects nodes c.live) 0 c.live.count in omega arith) in
      let e = at_id (objects nodes c.live) c.live.count sound.ids h.id low in
      let dist : s.dist e.0.point c.point ≡ h.dist = ap (λ p. s.dist p c.point) (sym e.3) ∙ sym answer.dist in
      let same : ◌≡◌ {A = Hit} (hit_of (candidate_of s c.point e.0)) h = (λ i. record { id = e.2 i; dist = dist i }) in
      (candidate_of s c.point e.0, (on.waits (candidate_of s c.point e.0)).1 (map-in (candidate_of s c.point) (objects nodes c.live) e.0 e.1, subst (λ (z : Hit). IsIn z (rest_of s nodes c)) (sym same) k), same)

  module _ (x : Candidate) (rest : List Candidate) (popped : IsPermutation c.candidates (x ∷ rest)) (first : IsFirst x c.candidates)
      (reach : Option ℕ) (is : IsReach c.candidates reach) (beyond : AllBeyond reach c.subtrees) where
    there : IsIn x c.candidates
    there = in-permutation_back c.candidates (x ∷ rest) x popped (inl refl)

    waits_there : IsIn x (waiting s nodes c)
    waits_there = in-append_left c.candidates (flat_map (coming s c.point nodes) c.subtrees) x there

    nearer : (reach : Option ℕ) → IsReach c.candidates reach → AllBeyond reach c.subtrees → (y : Subtree) → IsIn y c.subtrees → x.dist < y.low
    nearer None is none y k = absurd (subst (λ (l : List Subtree). IsIn y l) none k)
    nearer (Some r) is far y k =
        let f = far y k in let d = is.2 in elim (first is.0 is.1) [ inl less ↦ omega arith | inr tie ↦ (let t = tie.0 in omega arith) ]

    no_later : (y : Candidate) → IsIn y (waiting s nodes c) → NoLater (hit_of x) (hit_of y)
    no_later y k =
        elim (in-append c.candidates (flat_map (coming s c.point nodes) c.subtrees) y k) [
          | inl here ↦ first y here
          | inr deep ↦ (let d = flat_map-in (coming s c.point nodes) c.subtrees y deep in below d.0 d.1 (in-map (candidate_of s c.point) (objects_below nodes d.0) y d.2))
        ]
      where
        below : (z : Subtree) → IsIn z c.subtrees → (o : LeafEntry) × IsIn o (objects_below nodes z) × (y ≡ candidate_of s c.point o) → NoLater (hit_of x) (hit_of y)
        below z k o =
            let subtree = on.subtrees z k in
            let level = level_is s nodes subtree.height subtree.least subtree.above z.page subtree.sound in
            let low = subtree.low o.0 (subst (λ (h : ℕ). IsIn o.0 (objects_at nodes h z.page)) level o.1) in
            let far = nearer reach is beyond z k in
            let dist : y.dist ≡ s.dist o.0.point c.point = ap (λ (w : Candidate). w.dist) o.2 in
            inl (omega arith)

    pub given_first : (t : List Hit) × (rest_of s nodes c ≡ hit_of x ∷ t)
    given_first =
        head_is (rest_of s nodes c) (hit_of x) rest_rises ((on.waits x).0 waits_there).1
        (λ z k. let y = standing z k in subst (λ (w : Hit). NoLater (hit_of x) w) y.2 (no_later y.0 y.1))

    abbrev pub next : OpenCursor
    next = record { live = c.live; point = c.point; given = c.given + 1; opened = c.opened; subtrees = c.subtrees; candidates = rest }

    abbrev later : List Candidate
    later = flat_map (coming s c.point nodes) c.subtrees

    rest_next : rest_of s nodes next ≡ given_first.0
    rest_next = sym (drop_add c.given 1 all) ∙ ap (drop 1) given_first.1

    rises_next : Ascends HitBefore (hit_of x ∷ given_first.0)
    rises_next = subst (Ascends HitBefore) given_first.1 rest_rises

    back : (y : Candidate) → IsIn y (rest ++ later) → IsIn y (waiting s nodes c)
    back y k =
        elim (in-append rest later y k) [
          | inl here ↦ in-append_left c.candidates later y (in-permutation_back c.candidates (x ∷ rest) y popped (inr here))
          | inr deep ↦ in-append_right c.candidates later y deep
        ]

    onward : (y : Candidate) → IsIn y (waiting s nodes c) → (y ≡ x) ⊎ IsIn y (rest ++ later)
    onward y k =
        elim (in-append c.candidates later y k) [
          | inl here ↦ elim (in-permutation c.candidates (x ∷ rest) y popped here) [ inl e ↦ inl e | inr w ↦ inr (in-append_left rest later y w) ]
          | inr deep ↦ inr (in-append_right rest later y deep)
        ]

    counts : (id : ℕ) → total (one_of id) (waiting s nodes c) ≡ one_of id x + total (one_of id) (rest ++ later)
    counts id =
        let p = total-permutation (one_of id) c.candidates (x ∷ rest) popped in
        let a = total-append (one_of id) c.candidates later in let b = total-append (one_of id) rest later in omega arith

    few : (id : ℕ) → total (one_of id) (waiting s nodes c) ≤ 1
    few id = let o = on.once id in let t = times_total id (waiting s nodes c) in omega arith

    another : (y : Candidate) → IsIn y (rest ++ later) → hit_of y ≡ hit_of x → ⊥
    another y k same =
        let f = few x.id in let n = counts x.id in let one : one_of x.id x ≡ 1 = grind (arith, nat_tests) in
        let more = once_at_least (rest ++ later) y x.id k (ap (λ (h : Hit). h.id) same) in omega arith

    pub given_stands : IsCursorOn s nodes next
    given_stands = record {
      subtrees = on.subtrees;
      waits = λ y. (
        (λ k. let o = (on.waits y).0 (back y k) in (
          o.0,
          elim (subst (λ (l : List Hit). IsIn (hit_of y) l) given_first.1 o.1) [
            | inl same ↦ absurd (another y k same)
            | inr w ↦ subst (λ (l : List Hit). IsIn (hit_of y) l) (sym rest_next) w
          ],
        )),
        (λ k.
            let behind : IsIn (hit_of y) given_first.0 = subst (λ (l : List Hit). IsIn (hit_of y) l) rest_next k.1 in
            elim (onward y ((on.waits y).1 (k.0, subst (λ (l : List Hit). IsIn (hit_of y) l) (sym given_first.1) (inr behind)))) [
              | inl e ↦ absurd (not_again (hit_of x) given_first.0 rises_next (subst (λ (z : Candidate). IsIn (hit_of z) given_first.0) e behind))
              | inr w ↦ w
            ]),
      );
      once = λ id. let f = few id in let n = counts id in let t = times_total id (rest ++ later) in omega arith;
      opened = on.opened;
    }

    -- the hit's tag is the candidate's
    pub given_tag : slice_index_or (tags_by_id nodes c.live) x.id 0 ≡ x.tag
    given_tag =
        let o = in-map (candidate_of s c.point) (objects nodes c.live) x ((on.waits x).0 waits_there).0 in
        ap (λ (z : Candidate). get_or (tags_from (objects nodes c.live) 0 c.live.count) z.id 0) o.2 ∙ own_tag (objects nodes c.live) c.live.count sound.ids o.0 o.1
        ∙ sym (ap (λ (z : Candidate). z.tag) o.2)
