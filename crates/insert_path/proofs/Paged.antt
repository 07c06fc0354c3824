-- The pages of a file with staged nodes.
use Rattle.std.proofs.Common.{◌≡◌, ◌⊎◌, ℕ, zero, suc, ◌+◌, ◌<◌, Bool, true, false, List, [], ◌∷◌, ◌++◌, refl, sym, ap, ◌∙◌, arith, length, map, subst, get_or, inl, inr}
use Rattle.std.specs.Prelude.{Option, Some, IsTrue}
use Rattle.std.specs.List.{flat_map}
use Rattle.metric_laws.specs.Lists.{IsIn}
use Rattle.metric_laws.proofs.Published.{flat_map-append, in-append}
use Rattle.tree_shape.specs.declared.entry.LeafEntry.{LeafEntry}
use Rattle.tree_shape.specs.declared.entry.InnerEntry.{InnerEntry}
use Rattle.tree_shape.specs.declared.entry.Node.{Node}
use Rattle.tree_shape.specs.declared.entry.Node.TheVariants.{Leaf, Inner}
use Rattle.tree_shape.specs.Tree.{Nodes, inner_entries, pages_at, times, parent_distance}
use Rattle.tree_growth.specs.Dealing.{Ball, split_of}
use Rattle.tree_growth.specs.Insertion.{taken, left, chosen}
use Rattle.tree_shape.proofs.Published.{times-append, Agree, same_pages, flat_map_agree, in-flat_map}
use Rattle.promote_split.specs.declared.halves.Half.{Half}
use Rattle.promote_split.specs.Halves.{IsHalf}
use Rattle.page_store.specs.Shelf.{Shelf}
use Rattle.page_store.specs.Reading.{nodes_of}
use Rattle.page_store.proofs.Published.{below_in, HoldsFrom, holds_after, pages_from, pages_more}
use Rattle.insert_path.specs.declared.grew.Grew.{Grew}
use Rattle.insert_path.specs.declared.grew.Grew.TheVariants.{One, Two}
use Rattle.insert_path.specs.Walk.{inner_ball}
use Rattle.insert_path.specs.Descent.{Plan, leaf_ball, leaf_with, inner_with, new_entry, entry_of, regrown, IsStaged, Descends}
use Rattle.insert_path.proofs.Holding.{holds_staged, agree_below, chosen_in}
use Rattle.insert_path.proofs.Walked.{told_node}

-- the pages of what has grown
abbrev pub grown_pages : Nodes → ℕ → Grew → List ℕ
grown_pages file h (One page) = pages_at file h page
grown_pages file h (Two c d) = pages_at file h c.page ++ pages_at file h d.page

pub times_parts : {X : Type 0} (n : ℕ) (f : X → List ℕ) (ms : List Bool) (xs : List X) → times n (flat_map f (taken ms xs)) + times n (flat_map f (left ms xs)) ≡ times n (flat_map f xs)
times_parts n f [] xs = omega arith
times_parts n f (m ∷ ms) [] = refl
times_parts n f (true ∷ ms) (x ∷ xs) = let ih = times_parts n f ms xs in
    let a = times-append n (f x) (flat_map f (taken ms xs)) in let b = times-append n (f x) (flat_map f xs) in omega (arith, ih, a, b)
times_parts n f (false ∷ ms) (x ∷ xs) = let ih = times_parts n f ms xs in
    let a = times-append n (f x) (flat_map f (left ms xs)) in let b = times-append n (f x) (flat_map f xs) in omega (arith, ih, a, b)

pub flat_same : {X Y : Type 0} (f : X → List Y) (g : X → X) (xs : List X) → ((x : X) → f (g x) ≡ f x) → flat_map f (map g xs) ≡ flat_map f xs
flat_same f g [] same = refl
flat_same f g (x ∷ xs) same = ap (λ r. r ++ flat_map f (map g xs)) (same x) ∙ ap (λ r. f x ++ r) (flat_same f g xs same)

one_page : (n page : ℕ) (rest : List ℕ) (o new flat : ℕ) → new ≡ o + times n (page ∷ []) → flat ≡ times n rest → times n (page ∷ rest) + o ≡ flat + new
one_page n page rest o new flat is same = omega (arith, is, same)

two_pages : (n p q : ℕ) (rest rest' : List ℕ) (o new flat : ℕ) → new ≡ o + times n (p ∷ q ∷ []) → times n rest + times n rest' ≡ flat → times n ((p ∷ rest) ++ (q ∷ rest')) + o ≡ flat + new
two_pages n p q rest rest' o new flat is same = omega (arith, is, same, times-append n (p ∷ rest) (q ∷ rest'))

-- a staged node has its own pages and those below its entries
pub staged_pages : {E : Type 0} (P : Plan) (ball : E → Ball) (set : E → ℕ → E) (make : List E → Node) (es : List E) (file : Nodes) (h : ℕ) (f : E → List ℕ) (old new : List Node) (g : Grew) →
    ((e : E) (d : ℕ) → f (set e d) ≡ f e) → ((page : ℕ) (xs : List E) → file page ≡ Some (make xs) → pages_at file h page ≡ page ∷ flat_map f xs) →
    IsStaged P ball set make es old new g → HoldsFrom file P.number 0 new → (n : ℕ) →
    times n (grown_pages file h g) + times n (pages_from P.number 0 old) ≡ times n (flat_map f es) + times n (pages_from P.number 0 new)
staged_pages {E} P ball set make es file h f old new g keeps opens staged holds n = elim staged [
  | inl w ↦ (let at = (holds_after file P.number old (make es ∷ []) new w.staged holds).1.0 in
      rw (w.grew, opens (P.number (length old)) es at)
      (one_page n (P.number (length old)) (flat_map f es) (times n (pages_from P.number 0 old)) _ _ (pages_more P.number old (make es ∷ []) new n w.staged) refl))
  | inr k ↦ (let on = (holds_after file P.number old (make k.0.first.entries ∷ make k.0.second.entries ∷ []) new k.1.staged holds).1 in
      rw (k.1.grew, opens (P.number (length old)) k.0.first.entries on.0, opens (P.number (length old + 1)) k.0.second.entries on.1.0)
      (two_pages n (P.number (length old)) (P.number (length old + 1)) (flat_map f k.0.first.entries) (flat_map f k.0.second.entries) (times n (pages_from P.number 0 old)) _ _
      (pages_more P.number old (make k.0.first.entries ∷ make k.0.second.entries ∷ []) new n k.1.staged)
      (rw (
        half (split_of P.space P.promote P.split P.least (map ball es)).first (taken (split_of P.space P.promote P.split P.least (map ball es)).mask es) k.0.first k.1.halves.split.0,
        half (split_of P.space P.promote P.split P.least (map ball es)).second (left (split_of P.space P.promote P.split P.least (map ball es)).mask es) k.0.second k.1.halves.split.1,
      )
      (times_parts n f (split_of P.space P.promote P.split P.least (map ball es)).mask es))))
]
  where
    half : (b : Ball) (xs : List E) (k : Half E) → IsHalf P.space ball set b xs k → flat_map f k.entries ≡ flat_map f xs
    half b xs k is = ap (flat_map f) is.entries_are ∙ flat_same f (λ e. set e (P.space.dist (ball e).0 b.0)) xs (λ e. keeps e (P.space.dist (ball e).0 b.0))

abbrev pub no_pages : {X : Type 0} → X → List ℕ
no_pages x = []

pub none_flat : {X : Type 0} (xs : List X) → flat_map no_pages xs ≡ []
none_flat [] = refl
none_flat (x ∷ xs) = none_flat xs

pub leaf_pages : (P : Plan) (es : List LeafEntry) (file : Nodes) (old new : List Node) (g : Grew) → IsStaged P leaf_ball leaf_with Leaf es old new g → HoldsFrom file P.number 0 new → (n : ℕ) →
    times n (grown_pages file zero g) + times n (pages_from P.number 0 old) ≡ times n (pages_from P.number 0 new)
leaf_pages P es file old new g staged holds n =
    let all = staged_pages P leaf_ball leaf_with Leaf es file zero no_pages old new g (λ e d. refl) (λ page xs at. ap (λ r. page ∷ r) (sym (none_flat xs))) staged holds n in
    let none = ap (times n) (none_flat es) in omega (arith, all, none)

pub inner_pages : (P : Plan) (es : List InnerEntry) (file : Nodes) (h level : ℕ) (old new : List Node) (g : Grew) → IsStaged P inner_ball inner_with (Inner level) es old new g → HoldsFrom file P.number 0 new → (n : ℕ) →
    times n (grown_pages file (suc h) g) + times n (pages_from P.number 0 old) ≡ times n (flat_map (below_in file h) es) + times n (pages_from P.number 0 new)
inner_pages P es file h level old new g staged holds n =
    staged_pages P inner_ball inner_with (Inner level) es file (suc h) (below_in file h) old new g (λ e d. refl) (λ page xs at. ap (λ (o : Option Node). page ∷ flat_map (below_in file h) (inner_entries o)) at) staged holds n

-- the pages below a node whose subtree has grown
pub regrown_pages : (old new : Nodes) (h n : ℕ) (far par : List ℕ → ℕ) (g : Grew) (i : ℕ) (es : List InnerEntry) (z : InnerEntry) → i < length es → ((e : InnerEntry) → IsIn e es → below_in new h e ≡ below_in old h e) →
    times n (flat_map (below_in new h) (regrown far par i g es)) + times n (below_in old h (get_or es i z)) ≡ times n (flat_map (below_in old h) es) + times n (grown_pages new h g)
regrown_pages old new h n far par g i [] z low same = absurd (omega arith)
regrown_pages old new h n far par (One page) zero (e ∷ es) z low same =
    let rest = ap (times n) (flat_map_agree (below_in new h) (below_in old h) es (λ x k. same x (inr k))) in
    let a = times-append n (pages_at new h page) (flat_map (below_in new h) es) in
    let b = times-append n (below_in old h e) (flat_map (below_in old h) es) in omega (arith, rest, a, b)
regrown_pages old new h n far par (Two c d) zero (e ∷ es) z low same =
    let rest = ap (times n) (flat_map_agree (below_in new h) (below_in old h) es (λ x k. same x (inr k))) in
    let a = times-append n (pages_at new h c.page) (flat_map (below_in new h) (es ++ entry_of par d ∷ [])) in
    let m = ap (times n) (flat_map-append (below_in new h) es (entry_of par d ∷ [])) in
    let k = times-append n (flat_map (below_in new h) es) (pages_at new h d.page ++ []) in
    let l = times-append n (pages_at new h d.page) [] in
    let p = times-append n (pages_at new h c.page) (pages_at new h d.page) in
    let b = times-append n (below_in old h e) (flat_map (below_in old h) es) in omega (arith, rest, a, m, k, l, p, b)
regrown_pages old new h n far par g (suc i) (e ∷ es) z low same =
    let ih = regrown_pages old new h n far par g i es z (omega arith) (λ x k. same x (inr k)) in
    let a = times-append n (below_in new h e) (flat_map (below_in new h) (regrown far par i g es)) in
    let b = times-append n (below_in old h e) (flat_map (below_in old h) es) in
    let s = ap (times n) (same e (inl refl)) in omega (arith, ih, a, b, s)

-- each page of the new subtree is one of the old one that was not left, or a staged one
pub descends_pages : (P : Plan) (shelf : Shelf) (new : Nodes) → IsTrue shelf.is_known → (h page : ℕ) (above : Option (List ℕ)) (l0 : List ℕ) (old : List Node) (l1 : List ℕ) (nodes : List Node) (g : Grew) →
    Descends P shelf h page above l0 old l1 nodes g → HoldsFrom new P.number 0 nodes → Agree (nodes_of shelf.read) new (pages_at (nodes_of shelf.read) h page) → (n : ℕ) →
    times n (grown_pages new h g) + times n l1 + times n (pages_from P.number 0 old) ≡ times n (pages_at (nodes_of shelf.read) h page) + times n l0 + times n (pages_from P.number 0 nodes)
descends_pages P shelf new is_known zero page above l0 old l1 nodes g d holds agree n =
    let staged = leaf_pages P (d.0 ++ new_entry P above ∷ []) new old nodes g d.3 holds n in
    let left = ap (times n) d.2 ∙ times-append n l0 (page ∷ []) in omega (arith, staged, left)
descends_pages P shelf new is_known (suc h) page above l0 old l1 nodes g d holds agree n =
    let is : nodes_of shelf.read page ≡ Some (Inner (suc h) d.0) = told_node shelf page (Inner (suc h) d.0) (d.4.told is_known) in
    let below = descends_pages P shelf new is_known h d.1.child (Some d.1.point) (l0 ++ page ∷ []) old l1 d.2 d.3 d.7 (holds_staged P inner_ball inner_with (Inner (suc h)) _ new d.2 nodes g d.8 holds)
    (agree_below (nodes_of shelf.read) new h page (suc h) d.0 d.1 is agree (chosen_in d.0 (chosen P.space (map inner_ball d.0) P.object.point) d.1 d.5 d.6)) n in
    let staged = inner_pages P (regrown (P.space.dist P.object.point) (parent_distance P.space above) (chosen P.space (map inner_ball d.0) P.object.point) d.3 d.0) new h (suc h) d.2 nodes g d.8 holds n in
    let grown = regrown_pages (nodes_of shelf.read) new h n (P.space.dist P.object.point) (parent_distance P.space above) d.3 (chosen P.space (map inner_ball d.0) P.object.point) d.0 d.1 d.5
    (λ e k. same_pages (nodes_of shelf.read) new h e.child (agree_below (nodes_of shelf.read) new h page (suc h) d.0 e is agree k)) in
    let mine = ap (λ (e : InnerEntry). times n (below_in (nodes_of shelf.read) h e)) d.6 in
    let here = ap (λ (o : Option Node). times n (page ∷ flat_map (below_in (nodes_of shelf.read) h) (inner_entries o))) is in
    let l = times-append n l0 (page ∷ []) in
    omega (arith, below, staged, grown, mine, here, l)

-- the pages that are left are pages of the old subtree
pub descends_in : (P : Plan) (shelf : Shelf) → IsTrue shelf.is_known → (h page : ℕ) (above : Option (List ℕ)) (l0 : List ℕ) (old : List Node) (l1 : List ℕ) (nodes : List Node) (g : Grew) →
    Descends P shelf h page above l0 old l1 nodes g → (n : ℕ) → IsIn n l1 → IsIn n l0 ⊎ IsIn n (pages_at (nodes_of shelf.read) h page)
descends_in P shelf is_known zero page above l0 old l1 nodes g d n k = in-append l0 (page ∷ []) n (subst (IsIn n) d.2 k)
descends_in P shelf is_known (suc h) page above l0 old l1 nodes g d n k =
    elim (descends_in P shelf is_known h d.1.child (Some d.1.point) (l0 ++ page ∷ []) old l1 d.2 d.3 d.7 n k) [
      | inl a ↦ elim (in-append l0 (page ∷ []) n a) [ inl b ↦ inl b | inr b ↦ elim b [ inl e ↦ inr (inl e) | inr w ↦ absurd w ] ]
      | inr b ↦ inr (inr (in-flat_map (below_in (nodes_of shelf.read) h) (inner_entries (nodes_of shelf.read page)) d.1 n
          (subst (λ (o : Option Node). IsIn d.1 (inner_entries o)) (sym (told_node shelf page (Inner (suc h) d.0) (d.4.told is_known))) (chosen_in d.0 (chosen P.space (map inner_ball d.0) P.object.point) d.1 d.5 d.6)) b))
    ]
