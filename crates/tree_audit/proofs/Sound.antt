-- An audit without a fault is of a sound tree.
use Rattle.std.proofs.Common.{◌≡◌, ℕ, zero, suc, ◌<◌, ◌≤◌, Bool, true, false, List, [], ◌∷◌, ◌++◌, refl, sym, ap, arith, ◌∙◌, Option, Some, None, Result, Ok, Err, append_assoc, subst, length}
use Rattle.std.specs.Prelude.{IsTrue, map, slice_get, ◌-◌, nat_le, nat_lt, if◌then◌else◌, ◌==◌, ◌&&◌}
use Rattle.std.specs.List.{AllByRecursion, flat_map}
use Rattle.std.proofs.lemmas.Bool.Decides.{nat_tests}
use Rattle.std.proofs.lemmas.List.{append-nil}
use Rattle.std.proofs.Common.{length-append}
use Rattle.metric_laws.specs.Space.{Space}
use Rattle.metric_laws.proofs.Published.{all_weaker, all_both, all_append, all_flat_map}
use Rattle.tree_shape.specs.declared.entry.LeafEntry.{LeafEntry}
use Rattle.tree_shape.specs.declared.entry.InnerEntry.{InnerEntry}
use Rattle.tree_shape.specs.declared.entry.Node.{Node}
use Rattle.tree_shape.specs.declared.entry.Node.TheVariants.{Leaf, Inner}
use Rattle.tree_shape.specs.declared.live.Live.{Live}
use Rattle.tree_shape.specs.Fill.{most_for, least_for, root_least, IsFilled}
use Rattle.tree_shape.specs.Tree.{times, parent_distance, objects_at, pages_at, IsSoundAt, IsSoundObject, IsSoundEntry, objects, IsNodePage, IsSoundTree}
use Rattle.tree_shape.proofs.Published.{times-append, each_once, each_once_back}
use Rattle.page_store.specs.declared.pages.PageFault.{PageFault}
use Rattle.page_store.specs.Reading.{Read, nodes_of, node_or_none}
use Rattle.tree_audit.specs.declared.faults.AuditFault.{AuditFault}
use Rattle.tree_audit.specs.declared.faults.AuditFault.TheVariants.{Count}
use Rattle.tree_audit.specs.declared.walking.Step.{Step}
use Rattle.tree_audit.specs.Laws.{HasNodesWithin}
use Rattle.tree_audit.specs.Audited.{step, point_of_step, Seen, each_entry, last_point, first_outside, if_inside, check_object, check_entry, is_filled, arrived, after_node, on_arrival, leaf_node, inner_node, audited_at, after_walk, audit_fault}
use Rattle.tree_audit.proofs.Folds.{Once, OnceSeen, grown, Passed, each_passes, passes_each}

ok_from_some : (o : Result Node PageFault) (node : Node) → node_or_none o ≡ Some node → o ≡ Ok node
ok_from_some (Ok m) node is = (let e : m ≡ node = cc in ap Ok e)
ok_from_some (Err fault) node is = absurd (cc)

-- every page of a sound subtree may hold a node
pages_within : (s : Space) (read : Read) (t : Live) → HasNodesWithin read t.pages → (h least : ℕ) (above : Option (List ℕ)) (page : ℕ) → IsSoundAt s (nodes_of read) h least above page
    → AllByRecursion (IsNodePage t) (pages_at (nodes_of read) h page)
pages_within s read t within zero least above page sound = (within page (Leaf sound.0) (ok_from_some (read page) (Leaf sound.0) sound.1), tt)
pages_within s read t within (suc h) least above page sound =
    let es : List InnerEntry = sound.0 in (
      within page (Inner (suc h) es) (ok_from_some (read page) (Inner (suc h) es) sound.1),
      rw sound.1 (all_flat_map (IsNodePage t) (λ e. pages_at (nodes_of read) h e.child) es
          (all_weaker _ _ es (λ e k. pages_within s read t within h (least_for s.dimension) (Some e.point) e.child k.1) sound.3)),
    )

-- the point lies in the spheres of the steps
abbrev pub Inside : Space → List Step → List ℕ → Type 0
Inside s path p = AllByRecursion (λ t. s.dist p t.point ≤ t.radius) path

pub inside_from_none : (s : Space) (path : List Step) (p : List ℕ) → first_outside s path p ≡ None → Inside s path p
inside_from_none s [] p none = tt
inside_from_none s (t ∷ path) p none = cases (nat_le (s.dist p t.point) t.radius) refl (inside_from_none s path p) none
  where
    cases : (b : Bool) → nat_le (s.dist p t.point) t.radius ≡ b → (first_outside s path p ≡ None → Inside s path p) →
        (if b then first_outside s path p else Some t) ≡ None → (s.dist p t.point ≤ t.radius) × Inside s path p
    cases true e ih none = ((let l : s.dist p t.point ≤ t.radius = grind (arith, nat_tests) in l), ih none)
    cases false e ih none = absurd (cc)

pub none_from_inside : (s : Space) (path : List Step) (p : List ℕ) → Inside s path p → first_outside s path p ≡ None
none_from_inside s [] p all = refl
none_from_inside s (t ∷ path) p all =
    let low = all.0 in
    let e : nat_le (s.dist p t.point) t.radius ≡ true = grind (arith, nat_tests) in rw e (none_from_inside s path p all.1)

-- what the audit finds of an object
pub record FineObject (s : Space) (count : ℕ) (above : Option (List ℕ)) (path : List Step) (o : LeafEntry) : Type 0 where
  pub sound : IsSoundObject s above o
  pub inside : Inside s path o.point
  pub id_below : o.id < count

-- tests that lead to an answer Ok
pub if_true : {A : Type 0} (b : Bool) (fault : AuditFault) (y : Result A AuditFault) (after : A) → (if b then y else Err fault) ≡ Ok after → (b ≡ true) × (y ≡ Ok after)
if_true true fault y after is = (refl, is)
if_true false fault y after is = absurd (cc)

pub inside_ok : (t : Option Step) (id : ℕ) (y : Result Seen AuditFault) (after : Seen) → if_inside t id y ≡ Ok after → (t ≡ None) × (y ≡ Ok after)
inside_ok None id y after is = (refl, is)
inside_ok (Some t) id y after is = absurd (cc)

pub both_true : (a b : Bool) → (a && b) ≡ true → (a ≡ true) × (b ≡ true)
both_true true b e = (refl, e)
both_true false b e = absurd (cc)

pub same_number : (a b : ℕ) → (a == b) ≡ true → a ≡ b
same_number a b e = grind (arith, nat_tests)

pub number_itself : (a : ℕ) → (a == a) ≡ true
number_itself a = grind (arith, nat_tests)

pub below_true : (a b : ℕ) → nat_lt a b ≡ true → a < b
below_true a b e = grind (arith, nat_tests)

pub true_below : (a b : ℕ) → a < b → nat_lt a b ≡ true
true_below a b l = grind (arith, nat_tests)

-- one more number that isn't there yet
pub once_push : (xs : List ℕ) (x : ℕ) → Once xs → times x xs ≡ 0 → Once (xs ++ x ∷ [])
once_push xs x once new k = let a = times-append k xs (x ∷ []) in let o = once k in one k
  where
    one : (k : ℕ) → times k (xs ++ x ∷ []) ≤ 1
    one k = cases (x == k) refl
      where
        cases : (b : Bool) → (x == k) ≡ b → times k (xs ++ x ∷ []) ≤ 1
        cases true e = let i = same_number x k e in let n = times-append k xs (x ∷ []) in let z : times k xs ≡ 0 = rw (← i) new in
            let one : ◌≡◌ {A = ℕ} (if x == k then 1 else 0) 1 = rw e refl in omega arith
        cases false e = let n = times-append k xs (x ∷ []) in let o = once k in let none : ◌≡◌ {A = ℕ} (if x == k then 1 else 0) 0 = rw e refl in omega arith

pub push_once : (xs : List ℕ) (x : ℕ) → Once (xs ++ x ∷ []) → times x xs ≡ 0
push_once xs x once = let n = times-append x xs (x ∷ []) in let o = once x in let one : ◌≡◌ {A = ℕ} (if x == x then 1 else 0) 1 = rw (number_itself x) refl in omega arith

pub object_passes : (s : Space) (count : ℕ) (above : Option (List ℕ)) (path : List Step) (page i : ℕ) (o : LeafEntry) (seen after : Seen) → OnceSeen seen →
    check_object s count above path page i o seen ≡ Ok after → Passed (FineObject s count above path o) seen [] (o.id ∷ []) after
object_passes s count above path page i o seen after once is =
    let a = if_true (s.is_point o.point) _ _ after is in
    let b = if_true (o.parent == parent_distance s above o.point) _ _ after a.1 in
    let c = inside_ok (first_outside s path o.point) o.id _ after b.1 in
    let d = if_true (nat_lt o.id count && (times o.id seen.ids == 0)) _ _ after c.1 in
    let e = both_true (nat_lt o.id count) (times o.id seen.ids == 0) d.0 in
    let new = same_number (times o.id seen.ids) 0 e.1 in
    let made : after ≡ record { pages = seen.pages; ids = seen.ids ++ o.id ∷ [] } = cc d.1 in (
      record {
        sound = record { point_fits = a.0; parent_is = same_number o.parent (parent_distance s above o.point) b.0 };
        inside = inside_from_none s path o.point c.0;
        id_below = below_true o.id count e.0;
      },
      made ∙ (λ i. record { pages = sym (append-nil seen.pages) i; ids = seen.ids ++ o.id ∷ [] }),
      subst OnceSeen (sym made) (once.0, once_push seen.ids o.id once.1 new),
    )

pub passes_object : (s : Space) (count : ℕ) (above : Option (List ℕ)) (path : List Step) (page i : ℕ) (o : LeafEntry) (seen : Seen) → FineObject s count above path o →
    OnceSeen (grown seen [] (o.id ∷ [])) → check_object s count above path page i o seen ≡ Ok (grown seen [] (o.id ∷ []))
passes_object s count above path page i o seen fine once =
    rw (fine.sound.point_fits, parent, none_from_inside s path o.point fine.inside, true_below o.id count fine.id_below, new)
    (ap Ok (λ i. record { pages = sym (append-nil seen.pages) i; ids = seen.ids ++ o.id ∷ [] }))
  where
    parent : (o.parent == parent_distance s above o.point) ≡ true
    parent = rw fine.sound.parent_is (number_itself (parent_distance s above o.point))

    new : (times o.id seen.ids == 0) ≡ true
    new = rw (push_once seen.ids o.id once.1) refl

-- the path to a child
pub last_point-push : (path : List Step) (t : Step) → last_point (path ++ t ∷ []) ≡ Some t.point
last_point-push path t =
    let long : length (path ++ t ∷ []) - 1 ≡ length path = (let a = length-append path (t ∷ []) in omega arith) in
    ap (λ n. point_of_step (slice_get (path ++ t ∷ []) n)) long ∙ ap point_of_step (at_end path)
  where
    at_end : (path : List Step) → slice_get (path ++ t ∷ []) (length path) ≡ Some t
    at_end [] = refl
    at_end (u ∷ path) = at_end path

pub inside_front : (s : Space) (path : List Step) (t : Step) (p : List ℕ) → Inside s (path ++ t ∷ []) p → Inside s path p × (s.dist p t.point ≤ t.radius)
inside_front s [] t p all = (tt, all.0)
inside_front s (u ∷ path) t p all = let deep = inside_front s path t p all.1 in ((all.0, deep.0), deep.1)

pub inside_push : (s : Space) (path : List Step) (t : Step) (p : List ℕ) → Inside s path p → s.dist p t.point ≤ t.radius → Inside s (path ++ t ∷ []) p
inside_push s path t p all low = all_append _ path (t ∷ []) all (low, tt)

pub flat_map_none : {X : Type 0} (xs : List X) → flat_map {A = ℕ} (λ x. []) xs ≡ []
flat_map_none [] = refl
flat_map_none (x ∷ xs) = flat_map_none xs

abbrev pub ids_of : List LeafEntry → List ℕ
ids_of os = map (λ o. o.id) os

pub ids_single : (os : List LeafEntry) → flat_map (λ o. o.id ∷ []) os ≡ ids_of os
ids_single [] = refl
ids_single (o ∷ os) = ap (λ r. o.id ∷ r) (ids_single os)

pub ids-append : (os ps : List LeafEntry) → ids_of (os ++ ps) ≡ ids_of os ++ ids_of ps
ids-append [] ps = refl
ids-append (o ∷ os) ps = ap (λ r. o.id ∷ r) (ids-append os ps)

pub ids-flat_map : {X : Type 0} (f : X → List LeafEntry) (xs : List X) → ids_of (flat_map f xs) ≡ flat_map (λ x. ids_of (f x)) xs
ids-flat_map f [] = refl
ids-flat_map f (x ∷ xs) = ids-append (f x) (flat_map f xs) ∙ ap (λ r. ids_of (f x) ++ r) (ids-flat_map f xs)

pub filled : (s : Space) (least count : ℕ) → is_filled s least count ≡ true → IsFilled s.dimension least count
filled s least count e = record { enough = (let l : least ≤ count = grind (arith, nat_tests) in l); at_most = (let l : count ≤ most_for s.dimension = grind (arith, nat_tests) in l) }

pub is_filled-true : (s : Space) (least count : ℕ) → IsFilled s.dimension least count → is_filled s least count ≡ true
is_filled-true s least count f = let a = f.enough in let b = f.at_most in grind (arith, nat_tests)

-- a page that gives a node
pub arrival_ok : (read : Read) (page : ℕ) (seen : Seen) (rest : Node → Result Seen AuditFault) (after : Seen) → on_arrival read page seen rest ≡ Ok after →
    (times page seen.pages ≡ 0) × ((node : Node) × (read page ≡ Ok node) × (rest node ≡ Ok after))
arrival_ok read page seen rest after is =
    let a = if_true (times page seen.pages == 0) _ _ after is in (same_number (times page seen.pages) 0 a.0, node (read page) refl a.1)
  where
    node : (o : Result Node PageFault) → read page ≡ o → after_node o rest ≡ Ok after → (node : Node) × (read page ≡ Ok node) × (rest node ≡ Ok after)
    node (Ok n) e is = (n, e, is)
    node (Err fault) e is = absurd (cc)

pub ok_arrival : (read : Read) (page : ℕ) (seen : Seen) (rest : Node → Result Seen AuditFault) (node : Node) → times page seen.pages ≡ 0 → read page ≡ Ok node →
    on_arrival read page seen rest ≡ rest node
ok_arrival read page seen rest node new is = rw (new, is) refl

pub flat_map_all : {X Y : Type 0} (P : Y → Type 0) (f : X → List Y) (xs : List X) → AllByRecursion P (flat_map f xs) → AllByRecursion (λ x. AllByRecursion P (f x)) xs
flat_map_all P f [] all = tt
flat_map_all P f (x ∷ xs) all = let parts = append_all P (f x) (flat_map f xs) all in (parts.0, flat_map_all P f xs parts.1)
  where
    append_all : {Y : Type 0} (P : Y → Type 0) (ys zs : List Y) → AllByRecursion P (ys ++ zs) → AllByRecursion P ys × AllByRecursion P zs
    append_all P [] zs all = (tt, all)
    append_all P (y ∷ ys) zs all = let deep = append_all P ys zs all.1 in ((all.0, deep.0), deep.1)

pub all_ids : (n : ℕ) (os : List LeafEntry) → AllByRecursion (λ o. o.id < n) os → AllByRecursion (λ x. x < n) (ids_of os)
all_ids n [] all = tt
all_ids n (o ∷ os) all = (all.0, all_ids n os all.1)

pub ids_all : (n : ℕ) (os : List LeafEntry) → AllByRecursion (λ x. x < n) (ids_of os) → AllByRecursion (λ o. o.id < n) os
ids_all n [] all = tt
ids_all n (o ∷ os) all = (all.0, ids_all n os all.1)

module _ (s : Space) (read : Read) (count : ℕ) where
  -- the objects of a page lie in the spheres of the path, and their ids are below the count
  abbrev pub FineBelow : ℕ → List Step → ℕ → Type 0
  FineBelow h path page = AllByRecursion (λ o. Inside s path o.point × (o.id < count)) (objects_at (nodes_of read) h page)

  abbrev pub FineAt : ℕ → ℕ → List Step → ℕ → Type 0
  FineAt h least path page = IsSoundAt s (nodes_of read) h least (last_point path) page × FineBelow h path page

  -- an entry of an inner node
  abbrev pub FineEntry : ℕ → List Step → InnerEntry → Type 0
  FineEntry h path e =
      (IsSoundEntry s (last_point path) (objects_at (nodes_of read) h e.child) e × IsSoundAt s (nodes_of read) h (least_for s.dimension) (Some e.point) e.child) × FineBelow h path e.child

  pub fine_entry : (h : ℕ) (path : List Step) (page i : ℕ) (e : InnerEntry) → IsTrue (s.is_point e.point) → e.parent ≡ parent_distance s (last_point path) e.point →
      FineAt h (least_for s.dimension) (path ++ step page i e ∷ []) e.child → FineEntry h path e
  fine_entry h path page i e is_point parent fine =
      let split = all_weaker _ (λ o. (Inside s path o.point × (s.dist o.point e.point ≤ e.radius)) × (o.id < count)) (objects_at (nodes_of read) h e.child)
      (λ o k. (inside_front s path (step page i e) o.point k.0, k.1)) fine.1 in (
        (
          record { point_fits = is_point; parent_is = parent; covers = all_weaker _ (λ o. s.dist o.point e.point ≤ e.radius) (objects_at (nodes_of read) h e.child) (λ o k. k.0.1) split },
          subst (λ (a : Option (List ℕ)). IsSoundAt s (nodes_of read) h (least_for s.dimension) a e.child) (last_point-push path (step page i e)) fine.0,
        ),
        all_weaker _ (λ o. Inside s path o.point × (o.id < count)) (objects_at (nodes_of read) h e.child) (λ o k. (k.0.0, k.1)) split,
      )

  pub entry_fine : (h : ℕ) (path : List Step) (page i : ℕ) (e : InnerEntry) → FineEntry h path e → FineAt h (least_for s.dimension) (path ++ step page i e ∷ []) e.child
  entry_fine h path page i e fine = (
    subst (λ (a : Option (List ℕ)). IsSoundAt s (nodes_of read) h (least_for s.dimension) a e.child) (sym (last_point-push path (step page i e))) fine.0.1,
    all_weaker _ _ (objects_at (nodes_of read) h e.child) (λ o k. (inside_push s path (step page i e) o.point k.0.0 k.1, k.0.1))
        (all_both _ _ (objects_at (nodes_of read) h e.child) fine.1 fine.0.0.covers),
  )

  pub leaf_ok : (least page : ℕ) (node : Node) (rest : List LeafEntry → Result Seen AuditFault) (after : Seen) → leaf_node s least page node rest ≡ Ok after →
      (es : List LeafEntry) × (node ≡ Leaf es) × IsFilled s.dimension least (length es) × (rest es ≡ Ok after)
  leaf_ok least page (Leaf es) rest after is = let a = if_true (is_filled s least (length es)) _ _ after is in (es, refl, filled s least (length es) a.0, a.1)
  leaf_ok least page (Inner level es) rest after is = absurd (cc)

  pub inner_ok : (h least page : ℕ) (node : Node) (rest : List InnerEntry → Result Seen AuditFault) (after : Seen) → inner_node s h least page node rest ≡ Ok after →
      (es : List InnerEntry) × (node ≡ Inner h es) × IsFilled s.dimension least (length es) × (rest es ≡ Ok after)
  inner_ok h least page (Leaf es) rest after is = absurd (cc)
  inner_ok h least page (Inner level es) rest after is =
      let a = if_true ((level == h) && is_filled s least (length es)) _ _ after is in
      let b = both_true (level == h) (is_filled s least (length es)) a.0 in
      (es, ap (λ l. Inner l es) (same_number level h b.0), filled s least (length es) b.1, a.1)

  pub once_arrived : (seen : Seen) (page : ℕ) → OnceSeen seen → times page seen.pages ≡ 0 → OnceSeen (arrived seen page)
  once_arrived seen page once new = (once_push seen.pages page once.0 new, once.1)

  pub grown-arrived : (seen : Seen) (page : ℕ) (ps js : List ℕ) → grown (arrived seen page) ps js ≡ grown seen (page ∷ ps) js
  grown-arrived seen page ps js = λ i. record { pages = append_assoc seen.pages (page ∷ []) ps i; ids = seen.ids ++ js }

  -- a walk that ends without a fault
  pub passes_at : (h least : ℕ) (path : List Step) (page : ℕ) (seen after : Seen) → OnceSeen seen → audited_at s read count h least path page seen ≡ Ok after →
      Passed (FineAt h least path page) seen (pages_at (nodes_of read) h page) (ids_of (objects_at (nodes_of read) h page)) after
  passes_at zero least path page seen after once is =
      let a = arrival_ok read page seen _ after is in
      let n = leaf_ok least page a.1.0 _ after a.1.2 in
      let es : List LeafEntry = n.0 in
      let there : nodes_of read page ≡ Some (Leaf es) = ap node_or_none a.1.1 ∙ ap Some n.1 in
      let each = each_passes (check_object s count (last_point path) path page) (FineObject s count (last_point path) path) (λ o. []) (λ o. o.id ∷ [])
      (λ i o before then'. object_passes s count (last_point path) path page i o before then') 0 es (arrived seen page) after (once_arrived seen page once a.0) n.3 in
      let made : after ≡ grown seen (page ∷ []) (ids_of es) =
      each.1 ∙ ap (λ ps. grown (arrived seen page) ps (flat_map (λ o. o.id ∷ []) es)) (flat_map_none es)
      ∙ ap (λ js. grown (arrived seen page) [] js) (ids_single es) ∙ grown-arrived seen page [] (ids_of es) in (
        (
          (es, there, n.2, all_weaker _ (IsSoundObject s (last_point path)) es (λ o k. k.sound) each.0),
          rw there (all_weaker _ (λ o. Inside s path o.point × (o.id < count)) es (λ o k. (k.inside, k.id_below)) each.0),
        ),
        rw there made,
        each.2,
      )
  passes_at (suc h) least path page seen after once is =
      let a = arrival_ok read page seen _ after is in
      let n = inner_ok (suc h) least page a.1.0 _ after a.1.2 in
      let es : List InnerEntry = n.0 in
      let there : nodes_of read page ≡ Some (Inner (suc h) es) = ap node_or_none a.1.1 ∙ ap Some n.1 in
      let each = each_passes (λ i e before. check_entry s (last_point path) page i e
      (audited_at s read count h (least_for s.dimension) (path ++ step page i e ∷ []) e.child before))
      (FineEntry h path) (λ e. pages_at (nodes_of read) h e.child) (λ e. ids_of (objects_at (nodes_of read) h e.child))
      (λ i e before then' fresh ok. one i e before then' fresh ok (λ p b t f k. passes_at h (least_for s.dimension) p e.child b t f k)) 0 es (arrived seen page) after (once_arrived seen page once a.0) n.3 in
      let made : after ≡ grown seen (page ∷ flat_map (λ e. pages_at (nodes_of read) h e.child) es) (ids_of (flat_map (λ e. objects_at (nodes_of read) h e.child) es)) =
      each.1 ∙ grown-arrived seen page (flat_map (λ e. pages_at (nodes_of read) h e.child) es) (flat_map (λ e. ids_of (objects_at (nodes_of read) h e.child)) es)
      ∙ ap (λ js. grown seen (page ∷ flat_map (λ e. pages_at (nodes_of read) h e.child) es) js) (sym (ids-flat_map (λ e. objects_at (nodes_of read) h e.child) es)) in (
        (
          (es, there, n.2, all_weaker (FineEntry h path) _ es (λ e k. k.0) each.0),
          rw there (all_flat_map (λ o. Inside s path o.point × (o.id < count)) (λ e. objects_at (nodes_of read) h e.child) es (all_weaker (FineEntry h path) _ es (λ e k. k.1) each.0)),
        ),
        rw there made,
        each.2,
      )
    where
      one : (i : ℕ) (e : InnerEntry) (before then' : Seen) → OnceSeen before →
          check_entry s (last_point path) page i e (audited_at s read count h (least_for s.dimension) (path ++ step page i e ∷ []) e.child before) ≡ Ok then' →
          ((p : List Step) (b t : Seen) → OnceSeen b → audited_at s read count h (least_for s.dimension) p e.child b ≡ Ok t →
          Passed (FineAt h (least_for s.dimension) p e.child) b (pages_at (nodes_of read) h e.child) (ids_of (objects_at (nodes_of read) h e.child)) t) →
          Passed (FineEntry h path e) before (pages_at (nodes_of read) h e.child) (ids_of (objects_at (nodes_of read) h e.child)) then'
      one i e before then' fresh ok deep =
          let a = if_true (s.is_point e.point) _ _ then' ok in
          let b = if_true (e.parent == parent_distance s (last_point path) e.point) _ _ then' a.1 in
          let d = deep (path ++ step page i e ∷ []) before then' fresh b.1 in
          (fine_entry h path page i e a.0 (same_number e.parent (parent_distance s (last_point path) e.point) b.0) d.0, d.1, d.2)

  pub ok_leaf : (least page : ℕ) (es : List LeafEntry) (rest : List LeafEntry → Result Seen AuditFault) → IsFilled s.dimension least (length es) → leaf_node s least page (Leaf es) rest ≡ rest es
  ok_leaf least page es rest full = rw (is_filled-true s least (length es) full) refl

  pub ok_inner : (h least page : ℕ) (es : List InnerEntry) (rest : List InnerEntry → Result Seen AuditFault) → IsFilled s.dimension least (length es) → inner_node s h least page (Inner h es) rest ≡ rest es
  ok_inner h least page es rest full = rw (number_itself h, is_filled-true s least (length es) full) refl

  pub new_page : (seen : Seen) (page : ℕ) (ps js : List ℕ) → OnceSeen (grown seen (page ∷ ps) js) → times page seen.pages ≡ 0
  new_page seen page ps js once =
      let o = once.0 page in let n = times-append page seen.pages (page ∷ ps) in let one : ◌≡◌ {A = ℕ} (if page == page then 1 else 0) 1 = rw (number_itself page) refl in omega arith

  -- a sound tree has no fault
  pub at_passes : (h least : ℕ) (path : List Step) (page : ℕ) (seen : Seen) → FineAt h least path page →
      OnceSeen (grown seen (pages_at (nodes_of read) h page) (ids_of (objects_at (nodes_of read) h page))) →
      audited_at s read count h least path page seen ≡ Ok (grown seen (pages_at (nodes_of read) h page) (ids_of (objects_at (nodes_of read) h page)))
  at_passes zero least path page seen fine once =
      let es : List LeafEntry = fine.0.0 in
      let there : nodes_of read page ≡ Some (Leaf es) = fine.0.1 in
      let all : AllByRecursion (λ o. Inside s path o.point × (o.id < count)) es = rw there at fine.1 in
      let once2 : OnceSeen (grown seen (page ∷ []) (ids_of es)) = rw there at once in
      let same : grown (arrived seen page) (flat_map {X = LeafEntry} (λ o. []) es) (flat_map (λ o. o.id ∷ []) es) ≡ grown seen (page ∷ []) (ids_of es) =
      ap (λ ps. grown (arrived seen page) ps (flat_map (λ o. o.id ∷ []) es)) (flat_map_none es)
      ∙ ap (λ js. grown (arrived seen page) [] js) (ids_single es) ∙ grown-arrived seen page [] (ids_of es) in
      let each = passes_each (check_object s count (last_point path) path page) (FineObject s count (last_point path) path) (λ o. []) (λ o. o.id ∷ [])
      (λ i o before good fresh. passes_object s count (last_point path) path page i o before good fresh) 0 es (arrived seen page)
      (all_weaker _ (FineObject s count (last_point path) path) es (λ o k. record { sound = k.0; inside = k.1.0; id_below = k.1.1 })
      (all_both (IsSoundObject s (last_point path)) (λ o. Inside s path o.point × (o.id < count)) es fine.0.3 all))
      (subst OnceSeen (sym same) once2) in
      rw there (ok_arrival read page seen _ (Leaf es) (new_page seen page [] (ids_of es) once2) (ok_from_some (read page) (Leaf es) there)
      ∙ ok_leaf least page es (λ x. each_entry (check_object s count (last_point path) path page) 0 x (arrived seen page)) fine.0.2 ∙ each ∙ ap Ok same)
  at_passes (suc h) least path page seen fine once =
      let es : List InnerEntry = fine.0.0 in
      let there : nodes_of read page ≡ Some (Inner (suc h) es) = fine.0.1 in
      let all : AllByRecursion (λ o. Inside s path o.point × (o.id < count)) (flat_map (λ e. objects_at (nodes_of read) h e.child) es) = rw there at fine.1 in
      let once2 : OnceSeen (grown seen (page ∷ flat_map (λ e. pages_at (nodes_of read) h e.child) es) (ids_of (flat_map (λ e. objects_at (nodes_of read) h e.child) es))) = rw there at once in
      let same : grown (arrived seen page) (flat_map (λ e. pages_at (nodes_of read) h e.child) es) (flat_map (λ e. ids_of (objects_at (nodes_of read) h e.child)) es)
      ≡ grown seen (page ∷ flat_map (λ e. pages_at (nodes_of read) h e.child) es) (ids_of (flat_map (λ e. objects_at (nodes_of read) h e.child) es)) =
      grown-arrived seen page (flat_map (λ e. pages_at (nodes_of read) h e.child) es) (flat_map (λ e. ids_of (objects_at (nodes_of read) h e.child)) es)
      ∙ ap (λ js. grown seen (page ∷ flat_map (λ e. pages_at (nodes_of read) h e.child) es) js) (sym (ids-flat_map (λ e. objects_at (nodes_of read) h e.child) es)) in
      let each = passes_each (λ i e before. check_entry s (last_point path) page i e
      (audited_at s read count h (least_for s.dimension) (path ++ step page i e ∷ []) e.child before))
      (FineEntry h path) (λ e. pages_at (nodes_of read) h e.child) (λ e. ids_of (objects_at (nodes_of read) h e.child))
      (λ i e before good fresh. one i e before good (at_passes h (least_for s.dimension) (path ++ step page i e ∷ []) e.child before (entry_fine h path page i e good) fresh))
      0 es (arrived seen page)
      (all_both _ _ es fine.0.3 (flat_map_all (λ o. Inside s path o.point × (o.id < count)) (λ e. objects_at (nodes_of read) h e.child) es all))
      (subst OnceSeen (sym same) once2) in
      rw there (ok_arrival read page seen _ (Inner (suc h) es) (new_page seen page (flat_map (λ e. pages_at (nodes_of read) h e.child) es) (ids_of (flat_map (λ e. objects_at (nodes_of read) h e.child) es)) once2)
      (ok_from_some (read page) (Inner (suc h) es) there)
      ∙ ok_inner (suc h) least page es (λ x. each_entry (λ i e after. check_entry s (last_point path) page i e (audited_at s read count h (least_for s.dimension) (path ++ step page i e ∷ []) e.child after)) 0 x (arrived seen page)) fine.0.2 ∙ each ∙ ap Ok same)
    where
      one : (i : ℕ) (e : InnerEntry) (before : Seen) → FineEntry h path e → {o : Result Seen AuditFault} →
          audited_at s read count h (least_for s.dimension) (path ++ step page i e ∷ []) e.child before ≡ o →
          check_entry s (last_point path) page i e (audited_at s read count h (least_for s.dimension) (path ++ step page i e ∷ []) e.child before) ≡ o
      one i e before good is =
          let p : (e.parent == parent_distance s (last_point path) e.point) ≡ true = rw good.0.0.parent_is (number_itself (parent_distance s (last_point path) e.point)) in
          rw (good.0.0.point_fits, p) is

-- the audit's answer and the tree
pub sound_from_none : (s : Space) (read : Read) (t : Live) → HasNodesWithin read t.pages → audit_fault s read t ≡ None → IsSoundTree s (nodes_of read) t
sound_from_none s read t within none = walk (audited_at s read t.count t.height (root_least t.height) [] t.root (record { pages = []; ids = [] })) refl none
  where
    walk : (o : Result Seen AuditFault) → audited_at s read t.count t.height (root_least t.height) [] t.root (record { pages = []; ids = [] }) ≡ o → after_walk t.count o ≡ None → IsSoundTree s (nodes_of read) t
    walk (Err fault) is none = absurd (cc)
    walk (Ok seen) is none = counted (length seen.ids == t.count) refl none
      where
        counted : (b : Bool) → (length seen.ids == t.count) ≡ b → (if b then None else Some (Count t.count (length seen.ids))) ≡ None → IsSoundTree s (nodes_of read) t
        counted false e none = absurd (cc)
        counted true e none =
            let passed = passes_at s read t.count t.height (root_least t.height) [] t.root (record { pages = []; ids = [] }) seen ((λ k. omega arith), (λ k. omega arith)) is in
            let pages : seen.pages ≡ pages_at (nodes_of read) t.height t.root = ap (λ (v : Seen). v.pages) passed.1 in
            let ids : seen.ids ≡ ids_of (objects (nodes_of read) t) = ap (λ (v : Seen). v.ids) passed.1 in
            record {
              parts = passed.0.0;
              within = pages_within s read t within t.height (root_least t.height) None t.root passed.0.0;
              once = subst Once pages passed.2.0;
              ids = each_once t.count (ids_of (objects (nodes_of read) t)) (all_ids t.count (objects (nodes_of read) t) (all_weaker _ (λ o. o.id < t.count) (objects (nodes_of read) t) (λ o k. k.1) passed.0.1))
                  (subst Once ids passed.2.1) (ap length (sym ids) ∙ same_number (length seen.ids) t.count e);
            }

pub none_from_sound : (s : Space) (read : Read) (t : Live) → IsSoundTree s (nodes_of read) t → audit_fault s read t ≡ None
none_from_sound s read t sound =
    let ids = each_once_back t.count (ids_of (objects (nodes_of read) t)) sound.ids in
    let walk = at_passes s read t.count t.height (root_least t.height) [] t.root (record { pages = []; ids = [] })
    (sound.parts, all_weaker _ _ (objects (nodes_of read) t) (λ o k. (tt, k)) (ids_all t.count (objects (nodes_of read) t) ids.0)) (sound.once, ids.1) in
    let long : (length (ids_of (objects (nodes_of read) t)) == t.count) ≡ true = rw ids.2 (number_itself t.count) in
    rw (walk, long) refl

-- the pages that a walk of the whole tree went to are the tree's
pub walked_pages : (s : Space) (read : Read) (t : Live) (seen : Seen) → audited_at s read t.count t.height (root_least t.height) [] t.root (record { pages = []; ids = [] }) ≡ Ok seen
    → seen.pages ≡ pages_at (nodes_of read) t.height t.root
walked_pages s read t seen is =
    let passed = passes_at s read t.count t.height (root_least t.height) [] t.root (record { pages = []; ids = [] }) seen ((λ k. omega arith), (λ k. omega arith)) is in
    ap (λ (v : Seen). v.pages) passed.1
