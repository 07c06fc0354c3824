-- What a file with staged nodes shows: the tree of what has grown.
use Rattle.std.proofs.Common.{◌≡◌, ℕ, zero, suc, ◌+◌, ◌<◌, ◌≤◌, true, false, List, [], ◌∷◌, ◌++◌, refl, sym, ap, ◌∙◌, arith, length, map, subst, get_or, inl, inr}
use Rattle.std.specs.Prelude.{Option, Some, max, nat_le, slice_index_or}
use Rattle.std.proofs.lemmas.Bool.Decides.{nat_tests}
use Rattle.metric_laws.proofs.Published.{length_map}
use Rattle.metric_laws.specs.Space.{Space}
use Rattle.metric_laws.specs.Lists.{IsIn}
use Rattle.tree_shape.specs.declared.entry.LeafEntry.{LeafEntry}
use Rattle.tree_shape.specs.declared.entry.InnerEntry.{InnerEntry}
use Rattle.tree_shape.specs.declared.entry.Node.{Node}
use Rattle.tree_shape.specs.declared.entry.Node.TheVariants.{Leaf, Inner}
use Rattle.tree_shape.specs.Tree.{Nodes, leaf_entries, inner_entries, pages_at}
use Rattle.tree_shape.specs.Plain.{Object, Branch, Plain, object_of, tree_at}
use Rattle.tree_growth.specs.Dealing.{Ball, split_of}
use Rattle.tree_growth.specs.Insertion.{Grown, One as Whole, Two as Halves2, taken, left, branch, fit, object_ball, branch_ball, with_grown, grown_at}
use Rattle.tree_growth.proofs.Published.{taken_map, left_map}
use Rattle.tree_shape.proofs.Published.{Agree, child_agrees}
use Rattle.promote_split.specs.declared.halves.Half.{Half}
use Rattle.promote_split.specs.declared.halves.Halves.{Halves}
use Rattle.promote_split.specs.Halves.{IsHalf, IsSplit}
use Rattle.page_store.proofs.Published.{branch_at, HoldsFrom, holds_after, in_get}
use Rattle.insert_path.specs.declared.grew.Stem.{Stem}
use Rattle.insert_path.specs.declared.grew.Grew.{Grew}
use Rattle.insert_path.specs.declared.grew.Grew.TheVariants.{One, Two}
use Rattle.insert_path.specs.Walk.{inner_ball}
use Rattle.insert_path.specs.Descent.{Plan, rules_of, leaf_ball, leaf_with, inner_with, stem_of, entry_of, with_child, regrown, IsStaged}

abbrev pub stem_branch : Nodes → (h : ℕ) → Stem → Branch (Plain h)
stem_branch new h c = record { point = c.point; radius = c.radius; below = tree_at new h c.page }

-- what has grown, as a file shows it
abbrev pub grown_tree : Nodes → (h : ℕ) → Grew → Grown (Plain h)
grown_tree new h (One page) = Whole (tree_at new h page)
grown_tree new h (Two c d) = Halves2 (stem_branch new h c) (stem_branch new h d)

pub holds_staged : {E : Type 0} (P : Plan) (ball : E → Ball) (set : E → ℕ → E) (make : List E → Node) (es : List E) (file : Nodes) (old new : List Node) (g : Grew) →
    IsStaged P ball set make es old new g → HoldsFrom file P.number 0 new → HoldsFrom file P.number 0 old
holds_staged P ball set make es file old new g staged holds = elim staged [
  | inl w ↦ (holds_after file P.number old _ new w.staged holds).0
  | inr h ↦ (holds_after file P.number old _ new h.1.staged holds).0
]

-- what holds of the grown tree of whole nodes and of halves holds of all
pub by_staged : {E : Type 0} (P : Plan) (ball : E → Ball) (set : E → ℕ → E) (make : List E → Node) (es : List E) (file : Nodes) (old new : List Node) (g : Grew) (Q : Grew → Type 0) →
    IsStaged P ball set make es old new g → HoldsFrom file P.number 0 new →
    (length es ≤ P.most → file (P.number (length old)) ≡ Some (make es) → Q (One (P.number (length old)))) →
    (P.most < length es → (hs : Halves E) → IsSplit P.space ball set P.promote P.split P.least es hs → file (P.number (length old)) ≡ Some (make hs.first.entries) → file (P.number (length old + 1)) ≡ Some (make hs.second.entries) →
    Q (Two (stem_of (P.number (length old)) hs.first) (stem_of (P.number (length old + 1)) hs.second))) → Q g
by_staged P ball set make es file old new g Q staged holds whole halves = elim staged [
  | inl w ↦ subst Q (sym w.grew) (whole w.few (holds_after file P.number old _ new w.staged holds).1.0)
  | inr h ↦ (let on = (holds_after file P.number old _ new h.1.staged holds).1 in subst Q (sym h.1.grew) (halves h.1.many h.0 h.1.halves.split on.0 on.1.0))
]

pub leaf_balls : (es : List LeafEntry) → map object_ball (map object_of es) ≡ map leaf_ball es
leaf_balls [] = refl
leaf_balls (e ∷ es) = ap (λ r. leaf_ball e ∷ r) (leaf_balls es)

pub leaves_same : (f : LeafEntry → ℕ) (es : List LeafEntry) → map object_of (map (λ e. leaf_with e (f e)) es) ≡ map object_of es
leaves_same f [] = refl
leaves_same f (e ∷ es) = ap (λ r. object_of e ∷ r) (leaves_same f es)

pub inner_balls : (file : Nodes) (h : ℕ) (es : List InnerEntry) → map branch_ball (map (branch_at file h) es) ≡ map inner_ball es
inner_balls file h [] = refl
inner_balls file h (e ∷ es) = ap (λ r. inner_ball e ∷ r) (inner_balls file h es)

pub branches_same : (file : Nodes) (h : ℕ) (f : InnerEntry → ℕ) (es : List InnerEntry) → map (branch_at file h) (map (λ e. inner_with e (f e)) es) ≡ map (branch_at file h) es
branches_same file h f [] = refl
branches_same file h f (e ∷ es) = ap (λ r. branch_at file h e ∷ r) (branches_same file h f es)

two : {X : Type 0} {a b c d : Branch X} → a ≡ b → c ≡ d → ◌≡◌ {A = Grown X} (Halves2 a c) (Halves2 b d)
two e f = cc

-- one half of a leaf, on its page
leaf_half : (file : Nodes) (s : Space) (b : Ball) (es : List LeafEntry) (h : Half LeafEntry) (page : ℕ) → IsHalf s leaf_ball leaf_with b es h → file page ≡ Some (Leaf h.entries) →
    stem_branch file zero (stem_of page h) ≡ branch b (map object_of es)
leaf_half file s b es h page half is =
    rw (half.point_is, half.radius_is, is) (ap (λ (os : List Object). record { point = b.0; radius = b.1; below = os }) (ap (map object_of) half.entries_are ∙ leaves_same (λ e. s.dist (leaf_ball e).0 b.0) es))

-- a leaf on its new pages
pub leaf_shown : (P : Plan) (file : Nodes) (es : List LeafEntry) (old new : List Node) (g : Grew) → IsStaged P leaf_ball leaf_with Leaf es old new g → HoldsFrom file P.number 0 new →
    grown_tree file zero g ≡ fit (rules_of P) object_ball (map object_of es)
leaf_shown P file es old new g staged holds =
    by_staged P leaf_ball leaf_with Leaf es file old new g (λ g. grown_tree file zero g ≡ fit (rules_of P) object_ball (map object_of es)) staged holds whole halves
  where
    n : length (map object_of es) ≡ length es
    n = length_map object_of es

    whole : length es ≤ P.most → file (P.number (length old)) ≡ Some (Leaf es) → grown_tree file zero (One (P.number (length old))) ≡ fit (rules_of P) object_ball (map object_of es)
    whole few at = let e : nat_le (length (map object_of es)) P.most ≡ true = let m = n in grind (arith, nat_tests) in rw (e, at) refl

    halves : P.most < length es → (hs : Halves LeafEntry) → IsSplit P.space leaf_ball leaf_with P.promote P.split P.least es hs → file (P.number (length old)) ≡ Some (Leaf hs.first.entries) → file (P.number (length old + 1)) ≡ Some (Leaf hs.second.entries) →
        grown_tree file zero (Two (stem_of (P.number (length old)) hs.first) (stem_of (P.number (length old + 1)) hs.second)) ≡ fit (rules_of P) object_ball (map object_of es)
    halves many hs by at at' =
        let e : nat_le (length (map object_of es)) P.most ≡ false = let m = n in grind (arith, nat_tests) in
        let w = split_of P.space P.promote P.split P.least (map leaf_ball es) in
        rw (e, leaf_balls es, taken_map object_of w.mask es, left_map object_of w.mask es)
        (two (leaf_half file P.space w.first (taken w.mask es) hs.first (P.number (length old)) by.0 at)
        (leaf_half file P.space w.second (left w.mask es) hs.second (P.number (length old + 1)) by.1 at'))

-- one half of an inner node, on its page
inner_half : (file : Nodes) (h level : ℕ) (s : Space) (b : Ball) (es : List InnerEntry) (half : Half InnerEntry) (page : ℕ) → IsHalf s inner_ball inner_with b es half → file page ≡ Some (Inner level half.entries) →
    stem_branch file (suc h) (stem_of page half) ≡ branch b (map (branch_at file h) es)
inner_half file h level s b es half page is_half is =
    rw (is_half.point_is, is_half.radius_is, is)
    (ap (λ (os : List (Branch (Plain h))). record { point = b.0; radius = b.1; below = os }) (ap (map (branch_at file h)) is_half.entries_are ∙ branches_same file h (λ e. s.dist (inner_ball e).0 b.0) es))

-- an inner node on its new pages
pub inner_shown : (P : Plan) (file : Nodes) (h level : ℕ) (es : List InnerEntry) (old new : List Node) (g : Grew) → IsStaged P inner_ball inner_with (Inner level) es old new g → HoldsFrom file P.number 0 new →
    grown_tree file (suc h) g ≡ fit (rules_of P) branch_ball (map (branch_at file h) es)
inner_shown P file h level es old new g staged holds =
    by_staged P inner_ball inner_with (Inner level) es file old new g (λ g. grown_tree file (suc h) g ≡ fit (rules_of P) branch_ball (map (branch_at file h) es)) staged holds whole halves
  where
    n : length (map (branch_at file h) es) ≡ length es
    n = length_map (branch_at file h) es

    whole : length es ≤ P.most → file (P.number (length old)) ≡ Some (Inner level es) → grown_tree file (suc h) (One (P.number (length old))) ≡ fit (rules_of P) branch_ball (map (branch_at file h) es)
    whole few at = let e : nat_le (length (map (branch_at file h) es)) P.most ≡ true = let m = n in grind (arith, nat_tests) in rw (e, at) refl

    halves : P.most < length es → (hs : Halves InnerEntry) → IsSplit P.space inner_ball inner_with P.promote P.split P.least es hs → file (P.number (length old)) ≡ Some (Inner level hs.first.entries) → file (P.number (length old + 1)) ≡ Some (Inner level hs.second.entries) →
        grown_tree file (suc h) (Two (stem_of (P.number (length old)) hs.first) (stem_of (P.number (length old + 1)) hs.second)) ≡ fit (rules_of P) branch_ball (map (branch_at file h) es)
    halves many hs by at at' =
        let e : nat_le (length (map (branch_at file h) es)) P.most ≡ false = let m = n in grind (arith, nat_tests) in
        let w = split_of P.space P.promote P.split P.least (map inner_ball es) in
        rw (e, inner_balls file h es, taken_map (branch_at file h) w.mask es, left_map (branch_at file h) w.mask es)
        (two (inner_half file h level P.space w.first (taken w.mask es) hs.first (P.number (length old)) by.0 at)
        (inner_half file h level P.space w.second (left w.mask es) hs.second (P.number (length old + 1)) by.1 at'))

-- the entries of a node whose subtree has grown show what the rules make of the branches
pub regrown_shown : (old new : Nodes) (h : ℕ) (grow : Plain h → Grown (Plain h)) (far par : List ℕ → ℕ) (g : Grew) (i : ℕ) (es : List InnerEntry) (z : InnerEntry) → i < length es →
    grown_tree new h g ≡ grow (tree_at old h (get_or es i z).child) → ((e : InnerEntry) → IsIn e es → tree_at new h e.child ≡ tree_at old h e.child) →
    map (branch_at new h) (regrown far par i g es) ≡ grown_at grow far i (map (branch_at old h) es)
regrown_shown old new h grow far par g i [] z low is same = absurd (omega arith)
regrown_shown old new h grow far par g zero (e ∷ es) z low is same = subst (λ (t : Grown (Plain h)). map (branch_at new h) (with_child (far e.point) par e g es) ≡ with_grown (far e.point) (branch_at old h e) t (map (branch_at old h) es)) is (cases g)
  where
    rest : (xs : List InnerEntry) → ((x : InnerEntry) → IsIn x xs → tree_at new h x.child ≡ tree_at old h x.child) → map (branch_at new h) xs ≡ map (branch_at old h) xs
    rest [] f = refl
    rest (x ∷ xs) f =
        ap (λ (t : Plain h). record { point = x.point; radius = x.radius; below = t } ∷ map (branch_at new h) xs) (f x (inl refl))
        ∙ ap (λ (r : List (Branch (Plain h))). branch_at old h x ∷ r) (rest xs (λ y k. f y (inr k)))

    more : (xs ys : List InnerEntry) → map (branch_at new h) (xs ++ ys) ≡ map (branch_at new h) xs ++ map (branch_at new h) ys
    more [] ys = refl
    more (x ∷ xs) ys = ap (λ (r : List (Branch (Plain h))). branch_at new h x ∷ r) (more xs ys)

    cases : (g : Grew) → map (branch_at new h) (with_child (far e.point) par e g es) ≡ with_grown (far e.point) (branch_at old h e) (grown_tree new h g) (map (branch_at old h) es)
    cases (One page) = ap (λ (r : List (Branch (Plain h))). record { point = e.point; radius = max e.radius (far e.point); below = tree_at new h page } ∷ r) (rest es (λ y k. same y (inr k)))
    cases (Two c d) = ap (λ (r : List (Branch (Plain h))). stem_branch new h c ∷ r)
        (more es (entry_of par d ∷ []) ∙ ap (λ (r : List (Branch (Plain h))). r ++ stem_branch new h d ∷ []) (rest es (λ y k. same y (inr k))))
regrown_shown old new h grow far par g (suc i) (e ∷ es) z low is same =
    ap (λ (t : Plain h). record { point = e.point; radius = e.radius; below = t } ∷ map (branch_at new h) (regrown far par i g es)) (same e (inl refl))
    ∙ ap (λ (r : List (Branch (Plain h))). branch_at old h e ∷ r) (regrown_shown old new h grow far par g i es z (omega arith) is (λ x k. same x (inr k)))

pub map_agree : {X Y : Type 0} (f g : X → Y) (xs : List X) → ((x : X) → IsIn x xs → f x ≡ g x) → map f xs ≡ map g xs
map_agree f g [] h = refl
map_agree f g (x ∷ xs) h = ap (λ (y : _). y ∷ map f xs) (h x (inl refl)) ∙ ap (λ r. g x ∷ r) (map_agree f g xs (λ y k. h y (inr k)))

pub tree_same : (old new : Nodes) (h page : ℕ) → Agree old new (pages_at old h page) → tree_at new h page ≡ tree_at old h page
tree_same old new zero page agree = ap (λ o. map object_of (leaf_entries o)) (agree page (inl refl))
tree_same old new (suc h) page agree =
    ap (λ o. map (branch_at new h) (inner_entries o)) (agree page (inl refl))
    ∙ map_agree (branch_at new h) (branch_at old h) (inner_entries (old page))
    (λ e k. ap (λ (t : Plain h). record { point = e.point; radius = e.radius; below = t }) (tree_same old new h e.child (child_agrees old new h page agree e k)))

pub map_more : {X Y : Type 0} (f : X → Y) (xs : List X) (x : X) → map f (xs ++ x ∷ []) ≡ map f xs ++ f x ∷ []
map_more f [] x = refl
map_more f (y ∷ xs) x = ap (λ r. f y ∷ r) (map_more f xs x)

-- the pages of the entry that was chosen
pub agree_below : (old new : Nodes) (h page level : ℕ) (es : List InnerEntry) (e : InnerEntry) → old page ≡ Some (Inner level es) → Agree old new (pages_at old (suc h) page) → IsIn e es → Agree old new (pages_at old h e.child)
agree_below old new h page level es e is agree k = child_agrees old new h page agree e (subst (λ (p : Option Node). IsIn e (inner_entries p)) (sym is) k)

pub chosen_in : (es : List InnerEntry) (i : ℕ) (c : InnerEntry) → i < length es → c ≡ slice_index_or es i c → IsIn c es
chosen_in es i c low is = subst (λ (e : InnerEntry). IsIn e es) (sym is) (in_get es i c low)
