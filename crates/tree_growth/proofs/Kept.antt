-- An insertion keeps a tree sound.
use Rattle.std.proofs.Common.{◌≡◌, ℕ, zero, suc, ◌+◌, ◌<◌, ◌≤◌, Bool, true, false, List, [], ◌∷◌, ◌++◌, refl, sym, ap, ◌∙◌, arith, length, subst, inl, inr}
use Rattle.std.specs.Prelude.{map, if◌then◌else◌, nat_le, IsTrue, max}
use Rattle.std.specs.List.{AllByRecursion, flat_map}
use Rattle.std.proofs.lemmas.Bool.Decides.{nat_tests}
use Rattle.metric_laws.specs.Space.{Space, IsSpace, bound}
use Rattle.metric_laws.specs.Pruning.{capped}
use Rattle.metric_laws.specs.Lists.{IsIn}
use Rattle.metric_laws.proofs.Published.{all_weaker, all_append, all_flat_map, length_map}
use Rattle.tree_shape.specs.Fill.{least_for, most_for}
use Rattle.tree_shape.specs.Plain.{Object, Branch, Plain, objects_in}
use Rattle.tree_growth.specs.Insertion.{Grown, One, Two, Rules, taken, left, inserted, branch, fit, with_grown, grown_at, object_ball, branch_ball}
use Rattle.tree_growth.specs.Dealing.{Ball, Split}
use Rattle.tree_shape.specs.Sound.{ObjectFits, BranchCovers, IsSoundPlain}

abbrev pub IsSoundBranch : Space → (h : ℕ) → Branch (Plain h) → Type 0
IsSoundBranch s h b = IsTrue (s.is_point b.point) × BranchCovers s h b × IsSoundPlain s h (least_for s.dimension) b.below

abbrev pub IsSoundGrown : Space → (h : ℕ) → ℕ → Grown (Plain h) → Type 0
IsSoundGrown s h least (One t) = IsSoundPlain s h least t
IsSoundGrown s h least (Two c d) = IsSoundBranch s h c × IsSoundBranch s h d

-- what a split of a node keeps: each half has its share, its point is one of the node's, and its radius reaches over its entries
abbrev pub Reaches : Space → Ball → List Ball → Type 0
Reaches s c bs = AllByRecursion (λ b. capped (s.dist b.0 c.0) b.1 ≤ c.1) bs

pub record IsValidSplit (s : Space) (bs : List Ball) (w : Split) : Type 0 where
  pub first_enough : least_for s.dimension ≤ length (taken w.mask bs)
  pub second_enough : least_for s.dimension ≤ length (left w.mask bs)
  pub first_in : IsIn w.first.0 (map (λ b. b.0) bs)
  pub second_in : IsIn w.second.0 (map (λ b. b.0) bs)
  pub first_reaches : Reaches s w.first (taken w.mask bs)
  pub second_reaches : Reaches s w.second (left w.mask bs)

pub record IsValid (s : Space) (R : Rules) : Type 0 where
  pub most_is : R.most ≡ most_for s.dimension
  pub dist_is : R.dist ≡ s.dist
  pub chooses : (bs : List Ball) (p : List ℕ) → 0 < length bs → R.choose bs p < length bs
  pub splits : (bs : List Ball) → length bs ≡ most_for s.dimension + 1 → IsValidSplit s bs (R.split bs)

-- masks and maps
pub taken_map : {X Y : Type 0} (f : X → Y) (ms : List Bool) (xs : List X) → taken ms (map f xs) ≡ map f (taken ms xs)
taken_map f [] xs = refl
taken_map f (m ∷ ms) [] = refl
taken_map f (true ∷ ms) (x ∷ xs) = ap (λ r. f x ∷ r) (taken_map f ms xs)
taken_map f (false ∷ ms) (x ∷ xs) = taken_map f ms xs

pub left_map : {X Y : Type 0} (f : X → Y) (ms : List Bool) (xs : List X) → left ms (map f xs) ≡ map f (left ms xs)
left_map f [] xs = refl
left_map f (m ∷ ms) [] = refl
left_map f (true ∷ ms) (x ∷ xs) = left_map f ms xs
left_map f (false ∷ ms) (x ∷ xs) = ap (λ r. f x ∷ r) (left_map f ms xs)

pub all_taken : {X : Type 0} (P : X → Type 0) (ms : List Bool) (xs : List X) → AllByRecursion P xs → AllByRecursion P (taken ms xs)
all_taken P [] xs all = tt
all_taken P (m ∷ ms) [] all = tt
all_taken P (true ∷ ms) (x ∷ xs) all = (all.0, all_taken P ms xs all.1)
all_taken P (false ∷ ms) (x ∷ xs) all = all_taken P ms xs all.1

pub all_left : {X : Type 0} (P : X → Type 0) (ms : List Bool) (xs : List X) → AllByRecursion P xs → AllByRecursion P (left ms xs)
all_left P [] xs all = all
all_left P (m ∷ ms) [] all = tt
all_left P (true ∷ ms) (x ∷ xs) all = all_left P ms xs all.1
all_left P (false ∷ ms) (x ∷ xs) all = (all.0, all_left P ms xs all.1)

pub parts_long : {X : Type 0} (ms : List Bool) (xs : List X) → length (taken ms xs) + length (left ms xs) ≡ length xs
parts_long [] xs = omega arith
parts_long (m ∷ ms) [] = refl
parts_long (true ∷ ms) (x ∷ xs) = let ih = parts_long ms xs in omega arith
parts_long (false ∷ ms) (x ∷ xs) = let ih = parts_long ms xs in omega arith

pub all_both : {X : Type 0} (P Q R : X → Type 0) (xs : List X) → ((x : X) → P x → Q x → R x) → AllByRecursion P xs → AllByRecursion Q xs → AllByRecursion R xs
all_both P Q R [] f p q = tt
all_both P Q R (x ∷ xs) f p q = (f x p.0 q.0, all_both P Q R xs f p.1 q.1)

-- a point among an entries' points has what they have
pub point_in : {X : Type 0} (P : List ℕ → Type 0) (g : X → List ℕ) (ball : X → Ball) (p : List ℕ) (xs : List X) → ((x : X) → (ball x).0 ≡ g x) → IsIn p (map (λ b. b.0) (map ball xs)) → AllByRecursion (λ x. P (g x)) xs → P p
point_in P g ball p [] is k all = absurd k
point_in P g ball p (x ∷ xs) is k all = elim k [ inl e ↦ subst P (sym (e ∙ is x)) all.0 | inr w ↦ point_in P g ball p xs is w all.1 ]

-- the objects of a sound tree fit
pub objects_fit : (s : Space) (h least : ℕ) (t : Plain h) → IsSoundPlain s h least t → AllByRecursion (ObjectFits s) (objects_in h t)
objects_fit s zero least os sound = sound.1
objects_fit s (suc h) least bs sound =
    all_flat_map (ObjectFits s) (λ (b : Branch (Plain h)). objects_in h b.below) bs
    (all_weaker (IsSoundBranch s h) (λ (b : Branch (Plain h)). AllByRecursion (ObjectFits s) (objects_in h b.below)) bs (λ b w. objects_fit s h (least_for s.dimension) b.below w.2) sound.1)

-- a distance by way of another point, within what the capped sum says
pub reach_far : (d e r c x : ℕ) → d ≤ x → x ≤ e + r → e ≤ c → x ≤ c → d ≤ x
reach_far d e r c x a b f g = a

pub by_way : (x y z radius : ℕ) → z ≤ x + y → z ≤ bound → x ≤ radius → (big : ℕ) → capped y radius ≤ big → z ≤ big
by_way x y z radius tri low inside big reach = omega arith

-- the ball of a half reaches over all objects below its entries
pub half_covers : (s : Space) → IsSpace s → (h : ℕ) (c : Ball) → IsTrue (s.is_point c.0) → (bs : List (Branch (Plain h))) → AllByRecursion (IsSoundBranch s h) bs → Reaches s c (map branch_ball bs) →
    AllByRecursion (λ o. s.dist o.point c.0 ≤ c.1) (objects_in (suc h) bs)
half_covers s space h c is_point [] sound reach = tt
half_covers s space h c is_point (b ∷ bs) sound reach =
    all_append (λ (o : Object). s.dist o.point c.0 ≤ c.1) (objects_in h b.below) (objects_in (suc h) bs)
    (all_both (ObjectFits s) (λ (o : Object). s.dist o.point b.point ≤ b.radius) (λ (o : Object). s.dist o.point c.0 ≤ c.1) (objects_in h b.below)
    (λ o f w. by_way (s.dist o.point b.point) (s.dist b.point c.0) (s.dist o.point c.0) b.radius (space.triangle o.point b.point c.0 f sound.0.0 is_point) (space.bounded o.point c.0 f is_point) w c.1 reach.0)
    (objects_fit s h (least_for s.dimension) b.below sound.0.2) sound.0.1)
    (half_covers s space h c is_point bs sound.1 reach.1)

pub leaf_covers : (s : Space) → IsSpace s → (c : Ball) → IsTrue (s.is_point c.0) → (os : List Object) → AllByRecursion (ObjectFits s) os → Reaches s c (map object_ball os) →
    AllByRecursion (λ o. s.dist o.point c.0 ≤ c.1) os
leaf_covers s space c is_point [] sound reach = tt
leaf_covers s space c is_point (o ∷ os) sound reach =
    (by_way 0 (s.dist o.point c.0) (s.dist o.point c.0) 0 (omega arith) (space.bounded o.point c.0 sound.0 is_point) (omega arith) c.1 reach.0, leaf_covers s space c is_point os sound.1 reach.1)

module _ (s : Space) (space : IsSpace s) (some : 1 ≤ least_for s.dimension) (R : Rules) (valid : IsValid s R) where
  -- a leaf that may have one object too many
  pub fit_leaf : (least : ℕ) (os : List Object) → least ≤ length os → length os ≤ most_for s.dimension + 1 → AllByRecursion (ObjectFits s) os → IsSoundGrown s zero least (fit R object_ball os)
  fit_leaf least os enough few sound = cases (nat_le (length os) R.most) refl
    where
      cases : (b : Bool) → nat_le (length os) R.most ≡ b → IsSoundGrown s zero least (if b then One os
          else Two (branch (R.split (map object_ball os)).first (taken (R.split (map object_ball os)).mask os)) (branch (R.split (map object_ball os)).second (left (R.split (map object_ball os)).mask os)))
      cases true e = let m = valid.most_is in (record { enough = enough; at_most = (let f : length os ≤ R.most = grind (arith, nat_tests) in omega arith) }, sound)
      cases false e =
          let m = valid.most_is in
          let full : R.most < length os = grind (arith, nat_tests) in
          let bs : List Ball = map object_ball os in
          let n = length_map object_ball os in
          let w = valid.splits bs (omega arith) in
          let ms : List Bool = (R.split bs).mask in
          let both = parts_long ms os in
          let a : length (taken ms bs) ≡ length (taken ms os) = ap length (taken_map object_ball ms os) ∙ length_map object_ball (taken ms os) in
          let b : length (left ms bs) ≡ length (left ms os) = ap length (left_map object_ball ms os) ∙ length_map object_ball (left ms os) in
          let u = w.first_enough in
          let v = w.second_enough in
          let fit₁ = point_in (λ p. IsTrue (s.is_point p)) (λ (o : Object). o.point) object_ball (R.split bs).first.0 os (λ o. refl) w.first_in sound in
          let fit₂ = point_in (λ p. IsTrue (s.is_point p)) (λ (o : Object). o.point) object_ball (R.split bs).second.0 os (λ o. refl) w.second_in sound in (
            (
              fit₁,
              leaf_covers s space (R.split bs).first fit₁ (taken ms os) (all_taken (ObjectFits s) ms os sound) (subst (Reaches s (R.split bs).first) (taken_map object_ball ms os) w.first_reaches),
              (record { enough = omega arith; at_most = omega arith }, all_taken (ObjectFits s) ms os sound),
            ),
            (
              fit₂,
              leaf_covers s space (R.split bs).second fit₂ (left ms os) (all_left (ObjectFits s) ms os sound) (subst (Reaches s (R.split bs).second) (left_map object_ball ms os) w.second_reaches),
              (record { enough = omega arith; at_most = omega arith }, all_left (ObjectFits s) ms os sound),
            ),
          )

  -- an inner node that may have one entry too many
  pub fit_inner : (h least : ℕ) (os : List (Branch (Plain h))) → least ≤ length os → length os ≤ most_for s.dimension + 1 → AllByRecursion (IsSoundBranch s h) os → IsSoundGrown s (suc h) least (fit R branch_ball os)
  fit_inner h least os enough few sound = cases (nat_le (length os) R.most) refl
    where
      cases : (b : Bool) → nat_le (length os) R.most ≡ b → IsSoundGrown s (suc h) least (if b then One os
          else Two (branch (R.split (map branch_ball os)).first (taken (R.split (map branch_ball os)).mask os)) (branch (R.split (map branch_ball os)).second (left (R.split (map branch_ball os)).mask os)))
      cases true e = let m = valid.most_is in (record { enough = enough; at_most = (let f : length os ≤ R.most = grind (arith, nat_tests) in omega arith) }, sound)
      cases false e =
          let m = valid.most_is in
          let full : R.most < length os = grind (arith, nat_tests) in
          let bs : List Ball = map branch_ball os in
          let n = length_map branch_ball os in
          let w = valid.splits bs (omega arith) in
          let ms : List Bool = (R.split bs).mask in
          let both = parts_long ms os in
          let a : length (taken ms bs) ≡ length (taken ms os) = ap length (taken_map branch_ball ms os) ∙ length_map branch_ball (taken ms os) in
          let b : length (left ms bs) ≡ length (left ms os) = ap length (left_map branch_ball ms os) ∙ length_map branch_ball (left ms os) in
          let u = w.first_enough in
          let v = w.second_enough in
          let points = all_weaker (IsSoundBranch s h) (λ (b : Branch (Plain h)). IsTrue (s.is_point b.point)) os (λ b k. k.0) sound in
          let fit₁ = point_in (λ p. IsTrue (s.is_point p)) (λ (b : Branch (Plain h)). b.point) branch_ball (R.split bs).first.0 os (λ b. refl) w.first_in points in
          let fit₂ = point_in (λ p. IsTrue (s.is_point p)) (λ (b : Branch (Plain h)). b.point) branch_ball (R.split bs).second.0 os (λ b. refl) w.second_in points in (
            (
              fit₁,
              half_covers s space h (R.split bs).first fit₁ (taken ms os) (all_taken (IsSoundBranch s h) ms os sound) (subst (Reaches s (R.split bs).first) (taken_map branch_ball ms os) w.first_reaches),
              (record { enough = omega arith; at_most = omega arith }, all_taken (IsSoundBranch s h) ms os sound),
            ),
            (
              fit₂,
              half_covers s space h (R.split bs).second fit₂ (left ms os) (all_left (IsSoundBranch s h) ms os sound) (subst (Reaches s (R.split bs).second) (left_map branch_ball ms os) w.second_reaches),
              (record { enough = omega arith; at_most = omega arith }, all_left (IsSoundBranch s h) ms os sound),
            ),
          )

-- what holds of all objects of a tree that has grown
abbrev pub GrownAll : (Object → Type 0) → (h : ℕ) → Grown (Plain h) → Type 0
GrownAll P h (One t) = AllByRecursion P (objects_in h t)
GrownAll P h (Two c d) = AllByRecursion P (objects_in h c.below) × AllByRecursion P (objects_in h d.below)

pub all_append_back : {X : Type 0} (P : X → Type 0) (xs ys : List X) → AllByRecursion P (xs ++ ys) → AllByRecursion P xs × AllByRecursion P ys
all_append_back P [] ys all = (tt, all)
all_append_back P (x ∷ xs) ys all = let r = all_append_back P xs ys all.1 in ((all.0, r.0), r.1)

pub all_flat_back : {X Y : Type 0} (P : Y → Type 0) (f : X → List Y) (xs : List X) → AllByRecursion P (flat_map f xs) → AllByRecursion (λ x. AllByRecursion P (f x)) xs
all_flat_back P f [] all = tt
all_flat_back P f (x ∷ xs) all = let r = all_append_back P (f x) (flat_map f xs) all in (r.0, all_flat_back P f xs r.1)

abbrev pub BelowAll : (Object → Type 0) → (h : ℕ) → Branch (Plain h) → Type 0
BelowAll P h b = AllByRecursion P (objects_in h b.below)

pub fit_all_leaf : (R : Rules) (P : Object → Type 0) (os : List Object) → AllByRecursion P os → GrownAll P zero (fit R object_ball os)
fit_all_leaf R P os all = cases (nat_le (length os) R.most)
  where
    cases : (b : Bool) → GrownAll P zero (if b then One os
        else Two (branch (R.split (map object_ball os)).first (taken (R.split (map object_ball os)).mask os)) (branch (R.split (map object_ball os)).second (left (R.split (map object_ball os)).mask os)))
    cases true = all
    cases false = (all_taken P (R.split (map object_ball os)).mask os all, all_left P (R.split (map object_ball os)).mask os all)

pub fit_all_inner : (R : Rules) (P : Object → Type 0) (h : ℕ) (bs : List (Branch (Plain h))) → AllByRecursion (BelowAll P h) bs → GrownAll P (suc h) (fit R branch_ball bs)
fit_all_inner R P h bs all = cases (nat_le (length bs) R.most)
  where
    flat : (cs : List (Branch (Plain h))) → AllByRecursion (BelowAll P h) cs → AllByRecursion P (objects_in (suc h) cs)
    flat cs a = all_flat_map P (λ (b : Branch (Plain h)). objects_in h b.below) cs a

    cases : (b : Bool) → GrownAll P (suc h) (if b then One bs
        else Two (branch (R.split (map branch_ball bs)).first (taken (R.split (map branch_ball bs)).mask bs)) (branch (R.split (map branch_ball bs)).second (left (R.split (map branch_ball bs)).mask bs)))
    cases true = flat bs all
    cases false = (
      flat (taken (R.split (map branch_ball bs)).mask bs) (all_taken (BelowAll P h) (R.split (map branch_ball bs)).mask bs all),
      flat (left (R.split (map branch_ball bs)).mask bs) (all_left (BelowAll P h) (R.split (map branch_ball bs)).mask bs all),
    )

pub with_grown_all : (P : Object → Type 0) (h d : ℕ) (b : Branch (Plain h)) (g : Grown (Plain h)) (bs : List (Branch (Plain h))) → GrownAll P h g → AllByRecursion (BelowAll P h) bs →
    AllByRecursion (BelowAll P h) (with_grown d b g bs)
with_grown_all P h d b (One x) bs g all = (g, all)
with_grown_all P h d b (Two c e) bs g all = (g.0, all_append (BelowAll P h) bs (e ∷ []) all (g.1, tt))

pub grown_at_all : (P : Object → Type 0) (h : ℕ) (grow : Plain h → Grown (Plain h)) (far : List ℕ → ℕ) (i : ℕ) (bs : List (Branch (Plain h))) →
    ((t : Plain h) → AllByRecursion P (objects_in h t) → GrownAll P h (grow t)) → AllByRecursion (BelowAll P h) bs → AllByRecursion (BelowAll P h) (grown_at grow far i bs)
grown_at_all P h grow far i [] ih all = tt
grown_at_all P h grow far zero (b ∷ bs) ih all = with_grown_all P h (far b.point) b (grow b.below) bs (ih b.below all.0) all.1
grown_at_all P h grow far (suc i) (b ∷ bs) ih all = (all.0, grown_at_all P h grow far i bs ih all.1)

-- an insertion adds its object and no other
pub inserted_all : (R : Rules) (P : Object → Type 0) (o : Object) → P o → (h : ℕ) (t : Plain h) → AllByRecursion P (objects_in h t) → GrownAll P h (inserted R o h t)
inserted_all R P o p zero os all = fit_all_leaf R P (os ++ o ∷ []) (all_append P os (o ∷ []) all (p, tt))
inserted_all R P o p (suc h) bs all =
    fit_all_inner R P h (grown_at (inserted R o h) (R.dist o.point) (R.choose (map branch_ball bs) o.point) bs)
    (grown_at_all P h (inserted R o h) (R.dist o.point) (R.choose (map branch_ball bs) o.point) bs (λ t a. inserted_all R P o p h t a)
    (all_flat_back P (λ (b : Branch (Plain h)). objects_in h b.below) bs all))

pub grown_at_long : {X : Type 0} (grow : X → Grown X) (far : List ℕ → ℕ) (i : ℕ) (bs : List (Branch X)) →
    (length bs ≤ length (grown_at grow far i bs)) × (length (grown_at grow far i bs) ≤ length bs + 1)
grown_at_long grow far i [] = (omega arith, omega arith)
grown_at_long {X} grow far zero (b ∷ bs) = cases (grow b.below)
  where
    more : (xs : List (Branch X)) (e : Branch X) → length (xs ++ e ∷ []) ≡ length xs + 1
    more [] e = refl
    more (x ∷ xs) e = let ih = more xs e in omega arith

    cases : (g : Grown X) → (length (b ∷ bs) ≤ length (with_grown (far b.point) b g bs)) × (length (with_grown (far b.point) b g bs) ≤ length (b ∷ bs) + 1)
    cases (One x) = (omega arith, omega arith)
    cases (Two c e) = let m = more bs e in (omega arith, omega arith)
grown_at_long grow far (suc i) (b ∷ bs) = let ih = grown_at_long grow far i bs in let l = ih.0 in let h = ih.1 in (omega arith, omega arith)

module _ (s : Space) (space : IsSpace s) (some : 1 ≤ least_for s.dimension) (R : Rules) (valid : IsValid s R) (o : Object) (is_point : ObjectFits s o) where
  -- the chosen branch with what it has grown to
  pub with_grown_sound : (h : ℕ) (b : Branch (Plain h)) (bs : List (Branch (Plain h))) (g : Grown (Plain h)) → IsSoundBranch s h b → AllByRecursion (IsSoundBranch s h) bs →
      IsSoundGrown s h (least_for s.dimension) g → GrownAll (λ p. s.dist p.point b.point ≤ max b.radius (s.dist o.point b.point)) h g →
      AllByRecursion (IsSoundBranch s h) (with_grown (s.dist o.point b.point) b g bs)
  with_grown_sound h b bs (One x) here rest grown all = ((here.0, all, grown), rest)
  with_grown_sound h b bs (Two c e) here rest grown all = (grown.0, all_append (IsSoundBranch s h) bs (e ∷ []) rest (grown.1, tt))

  pub inserted_sound : (h least : ℕ) (t : Plain h) → (0 < h → 1 ≤ least) → IsSoundPlain s h least t → IsSoundGrown s h least (inserted R o h t)
  inserted_sound zero least os filled sound =
      fit_leaf s space some R valid least (os ++ o ∷ []) (let l = more os in let e = sound.0.enough in omega arith) (let l = more os in let e = sound.0.at_most in omega arith)
      (all_append (ObjectFits s) os (o ∷ []) sound.1 (is_point, tt))
    where
      more : (xs : List Object) → length (xs ++ o ∷ []) ≡ length xs + 1
      more [] = refl
      more (x ∷ xs) = let ih = more xs in omega arith
  inserted_sound (suc h) least bs filled sound =
      let i : ℕ = R.choose (map branch_ball bs) o.point in
      let long = grown_at_long (inserted R o h) (R.dist o.point) i bs in
      let l = long.0 in
      let u = long.1 in
      fit_inner s space some R valid h least (grown_at (inserted R o h) (R.dist o.point) i bs) (let e = sound.0.enough in omega arith) (let e = sound.0.at_most in omega arith)
      (subst (λ (d : List ℕ → List ℕ → ℕ). AllByRecursion (IsSoundBranch s h) (grown_at (inserted R o h) (d o.point) i bs)) (sym valid.dist_is)
      (each i bs sound.1 (λ t k. inserted_sound h (least_for s.dimension) t (λ z. some) k)))
    where
      wider : (cs : Branch (Plain h)) → IsSoundBranch s h cs → AllByRecursion (λ p. s.dist p.point cs.point ≤ max cs.radius (s.dist o.point cs.point)) (objects_in h cs.below)
      wider c w = all_weaker (λ (p : Object). s.dist p.point c.point ≤ c.radius) (λ (p : Object). s.dist p.point c.point ≤ max c.radius (s.dist o.point c.point)) (objects_in h c.below) (λ p k. omega arith) w.1

      each : (i : ℕ) (cs : List (Branch (Plain h))) → AllByRecursion (IsSoundBranch s h) cs → ((t : Plain h) → IsSoundPlain s h (least_for s.dimension) t → IsSoundGrown s h (least_for s.dimension) (inserted R o h t)) →
          AllByRecursion (IsSoundBranch s h) (grown_at (inserted R o h) (s.dist o.point) i cs)
      each i [] all ih = tt
      each zero (c ∷ cs) all ih =
          with_grown_sound h c cs (inserted R o h c.below) all.0 all.1 (ih c.below all.0.2)
          (inserted_all R (λ p. s.dist p.point c.point ≤ max c.radius (s.dist o.point c.point)) o (omega arith) h c.below (wider c all.0))
      each (suc i) (c ∷ cs) all ih = (all.0, each i cs all.1 ih)
