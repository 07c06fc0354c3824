-- A log has no fault exactly where it is sound.
use Rattle.std.proofs.Common.{◌≡◌, ℕ, suc, ◌+◌, Bool, true, false, List, [], ◌∷◌, ◌++◌, refl, sym, ap, arith, ◌∙◌, length, Option, Some, None, Result, Ok, Err, append_assoc, subst}
use Rattle.std.specs.Prelude.{IsTrue, if◌then◌else◌, ◌==◌, ◌&&◌}
use Rattle.std.specs.List.{AllZip}
use Rattle.std.proofs.lemmas.List.{append-nil}
use Rattle.std.proofs.lemmas.Bool.Decides.{nat_tests}
use Rattle.metric_laws.specs.Space.{Space}
use Rattle.scan_model.specs.declared.hit.Hit.{Hit}
use Rattle.tree_shape.specs.declared.live.Live.{Live}
use Rattle.tree_shape.specs.declared.entry.Node.{Node}
use Rattle.tree_shape.specs.declared.entry.Node.TheVariants.{Leaf, Inner}
use Rattle.log_model.specs.declared.marks.Mark.{Mark}
use Rattle.log_model.specs.declared.marks.Record.{Record}
use Rattle.log_model.specs.declared.logs.Log.{Log}
use Rattle.log_model.specs.declared.marks.Need.{Need}
use Rattle.log_model.specs.Grammar.{query_point}
use Rattle.log_model.specs.Walk.{Search, WalksBy, AreAllowed, allows_object, allows_subtree, needs_of, hits_of, root_need}
use Rattle.log_model.specs.Sound.{search_for, selected, IsSoundLog}
use Rattle.page_store.specs.declared.pages.PageFault.{PageFault}
use Rattle.page_store.specs.Reading.{Read, nodes_of, node_or_none}
use Rattle.log_verify.specs.declared.faults.Verdict.{Verdict}
use Rattle.log_verify.specs.declared.faults.Verdict.TheVariants.{WrongCount, WrongAnswer, WrongPage, Point, OtherState}
use Rattle.log_model.specs.Counts.{entry_count}
use Rattle.log_verify.specs.Judged.{first_wrong, first_wrong_in, after_marks, after_page, walked, first_difference, after_walk, walk_of, log_fault}

-- no mark is refused, and there is one for each entry
pub all_allowed : {X : Type 0} (allows : X → Mark → Bool) (es : List X) (ms : List Mark) (j : ℕ) → length ms ≡ length es → first_wrong allows es ms j ≡ None →
    AllZip (λ e m. IsTrue (allows e m)) es ms
all_allowed allows [] [] j long none = tt
all_allowed allows [] (m ∷ ms) j long none = absurd (omega arith)
all_allowed allows (e ∷ es) [] j long none = absurd (omega arith)
all_allowed allows (e ∷ es) (m ∷ ms) j long none = cases (allows e m) refl (all_allowed allows es ms (j + 1) (omega arith)) none
  where
    cases : (b : Bool) → allows e m ≡ b → (first_wrong allows es ms (j + 1) ≡ None → AllZip (λ e m. IsTrue (allows e m)) es ms) →
        (if b then first_wrong allows es ms (j + 1) else Some j) ≡ None → IsTrue (allows e m) × AllZip (λ e m. IsTrue (allows e m)) es ms
    cases true e ih none = (e, ih none)
    cases false e ih none = absurd (cc)

pub none_wrong : {X : Type 0} (allows : X → Mark → Bool) (es : List X) (ms : List Mark) (j : ℕ) → AllZip (λ e m. IsTrue (allows e m)) es ms →
    (length ms ≡ length es) × (first_wrong allows es ms j ≡ None)
none_wrong allows [] [] j all = (refl, refl)
none_wrong allows [] (m ∷ ms) j all = absurd all
none_wrong allows (e ∷ es) [] j all = absurd all
none_wrong allows (e ∷ es) (m ∷ ms) j all =
    let ih = none_wrong allows es ms (j + 1) all.1 in (ap suc ih.0, rw all.0 ih.1)

pub marks_allowed : (f : Search) (above : Option ℕ) (node : Node) (marks : List Mark) → length marks ≡ entry_count node → first_wrong_in f above node marks ≡ None →
    AreAllowed f above node marks
marks_allowed f above (Leaf es) marks long none = all_allowed (allows_object f above) es marks 0 long none
marks_allowed f above (Inner level es) marks long none = all_allowed (allows_subtree f above) es marks 0 long none

pub allowed_marks : (f : Search) (above : Option ℕ) (node : Node) (marks : List Mark) → AreAllowed f above node marks →
    (length marks ≡ entry_count node) × (first_wrong_in f above node marks ≡ None)
allowed_marks f above (Leaf es) marks all = none_wrong (allows_object f above) es marks 0 all
allowed_marks f above (Inner level es) marks all = none_wrong (allows_subtree f above) es marks 0 all

-- what follows a walk that has no fault
abbrev pub Follows : Search → Read → List Hit → List Need → List Record → List Hit → Type 0
Follows f read found ns rs all = (hits : List Hit) × WalksBy AreAllowed f (nodes_of read) ns rs hits × (all ≡ found ++ hits)

-- a page that gives a node, whose marks are allowed, and what follows
abbrev pub Opened : Search → Option ℕ → List Mark → Result Node PageFault → (Node → Result (List Hit) Verdict) → List Hit → Type 0
Opened f above marks o rest all = (node : Node) × (o ≡ Ok node) × AreAllowed f above node marks × (rest node ≡ Ok all)

-- a record's part of a walk that has no fault
pub opened_fine : (f : Search) (above : Option ℕ) (marks : List Mark) (i : ℕ) (o : Result Node PageFault) (rest : Node → Result (List Hit) Verdict) (all : List Hit) →
    after_page f above marks i o rest ≡ Ok all → Opened f above marks o rest all
opened_fine f above marks i (Err fault) rest all is = absurd (cc)
opened_fine f above marks i (Ok node) rest all is = counted (length marks == entry_count node) refl is
  where
    checked : (w : Option ℕ) → first_wrong_in f above node marks ≡ w → length marks ≡ entry_count node → after_marks i w (rest node) ≡ Ok all →
        Opened f above marks (Ok node) rest all
    checked None none long is = (node, refl, marks_allowed f above node marks long none, is)
    checked (Some j) some long is = absurd (cc)

    counted : (b : Bool) → (length marks == entry_count node) ≡ b → (if b then after_marks i (first_wrong_in f above node marks) (rest node) else Err (WrongCount i)) ≡ Ok all →
        Opened f above marks (Ok node) rest all
    counted true same is = checked (first_wrong_in f above node marks) refl (let e : length marks ≡ entry_count node = grind (arith, nat_tests) in e) is
    counted false other is = absurd (cc)

pub fine_opened : (f : Search) (above : Option ℕ) (marks : List Mark) (i : ℕ) (o : Result Node PageFault) (node : Node) (rest : Node → Result (List Hit) Verdict) →
    o ≡ Ok node → AreAllowed f above node marks → after_page f above marks i o rest ≡ rest node
fine_opened f above marks i o node rest is allowed =
    let fine = allowed_marks f above node marks allowed in
    rw is (counted (length marks == entry_count node) refl fine.0 fine.1)
  where
    counted : (b : Bool) → (length marks == entry_count node) ≡ b → length marks ≡ entry_count node → first_wrong_in f above node marks ≡ None →
        (if b then after_marks i (first_wrong_in f above node marks) (rest node) else Err (WrongCount i)) ≡ rest node
    counted true test long none = rw none refl
    counted false test long none = absurd (grind (arith, nat_tests))

pub ok_from_some : (o : Result Node PageFault) (node : Node) → node_or_none o ≡ Some node → o ≡ Ok node
ok_from_some (Ok m) node is = (let e : m ≡ node = cc in ap Ok e)
ok_from_some (Err fault) node is = absurd (cc)

pub follows_from_walked : (f : Search) (read : Read) (found : List Hit) (ns : List Need) (rs : List Record) (i : ℕ) (all : List Hit) →
    walked f read found ns rs i ≡ Ok all → Follows f read found ns rs all
follows_from_walked f read found [] [] i all is = ([], refl, (let e : all ≡ found = cc in e ∙ sym (append-nil found)))
follows_from_walked f read found [] (r ∷ rs) i all is = absurd (cc)
follows_from_walked f read found (n ∷ ns) [] i all is = absurd (cc)
follows_from_walked f read found (n ∷ ns) (r ∷ rs) i all is =
    paged (r.page == n.page) refl (λ found' ns'. follows_from_walked f read found' ns' rs (i + 1) all) is
  where
    opened : Opened f n.above r.marks (read n.page) (λ node. walked f read (found ++ hits_of f node r.marks) (needs_of f node r.marks ++ ns) rs (i + 1)) all →
        ((found' : List Hit) (ns' : List Need) → walked f read found' ns' rs (i + 1) ≡ Ok all → Follows f read found' ns' rs all) →
        r.page ≡ n.page → Follows f read found (n ∷ ns) (r ∷ rs) all
    opened o ih same =
        let deep = ih (found ++ hits_of f o.0 r.marks) (needs_of f o.0 r.marks ++ ns) o.3 in
        (hits_of f o.0 r.marks ++ deep.0, (o.0, ap node_or_none o.1, same, o.2, (deep.0, deep.1, refl)), deep.2 ∙ append_assoc found (hits_of f o.0 r.marks) deep.0)

    paged : (b : Bool) → (r.page == n.page) ≡ b →
        ((found' : List Hit) (ns' : List Need) → walked f read found' ns' rs (i + 1) ≡ Ok all → Follows f read found' ns' rs all) →
        (if b then after_page f n.above r.marks i (read n.page) (λ node. walked f read (found ++ hits_of f node r.marks) (needs_of f node r.marks ++ ns) rs (i + 1)) else Err (WrongPage i)) ≡ Ok all →
        Follows f read found (n ∷ ns) (r ∷ rs) all
    paged true same ih is = opened (opened_fine f n.above r.marks i (read n.page) _ all is) ih (let e : r.page ≡ n.page = grind (arith, nat_tests) in e)
    paged false other ih is = absurd (cc)

pub walked_from_follows : (f : Search) (read : Read) (found : List Hit) (ns : List Need) (rs : List Record) (i : ℕ) (hits : List Hit) →
    WalksBy AreAllowed f (nodes_of read) ns rs hits → walked f read found ns rs i ≡ Ok (found ++ hits)
walked_from_follows f read found [] [] i hits walk = rw walk (ap Ok (sym (append-nil found)))
walked_from_follows f read found [] (r ∷ rs) i hits walk = absurd walk
walked_from_follows f read found (n ∷ ns) [] i hits walk = absurd walk
walked_from_follows f read found (n ∷ ns) (r ∷ rs) i hits walk =
    let node : Node = walk.0 in
    let next = walked_from_follows f read (found ++ hits_of f node r.marks) (needs_of f node r.marks ++ ns) rs (i + 1) walk.4.0 walk.4.1 in
    let here = fine_opened f n.above r.marks i (read n.page) node (λ m. walked f read (found ++ hits_of f m r.marks) (needs_of f m r.marks ++ ns) rs (i + 1)) (ok_from_some (read n.page) node walk.1) walk.3 in
    paged (r.page == n.page) refl walk.2 (Err (WrongPage i)) (here ∙ next ∙ ap Ok (append_assoc found (hits_of f node r.marks) walk.4.0 ∙ ap (λ t. found ++ t) (sym walk.4.2)))
  where
    paged : (b : Bool) → (r.page == n.page) ≡ b → r.page ≡ n.page → {A : Type 0} {x y : A} (z : A) → x ≡ y → (if b then x else z) ≡ y
    paged true test same z e = e
    paged false test same z e = absurd (grind (arith, nat_tests))

pub same_hit : (x y : Hit) → ((x.id == y.id) && (x.dist == y.dist)) ≡ true → x ≡ y
same_hit x y e = grind (arith, nat_tests)

pub hit_itself : (x : Hit) → ((x.id == x.id) && (x.dist == x.dist)) ≡ true
hit_itself x = grind (arith, nat_tests)

-- two lists of answers that don't differ
pub same_answers : (i : ℕ) (xs ys : List Hit) → first_difference i xs ys ≡ None → xs ≡ ys
same_answers i [] [] none = refl
same_answers i [] (y ∷ ys) none = absurd (cc)
same_answers i (x ∷ xs) [] none = absurd (cc)
same_answers i (x ∷ xs) (y ∷ ys) none = cases ((x.id == y.id) && (x.dist == y.dist)) refl (same_answers (i + 1) xs ys) none
  where
    cases : (b : Bool) → ((x.id == y.id) && (x.dist == y.dist)) ≡ b → (first_difference (i + 1) xs ys ≡ None → xs ≡ ys) →
        (if b then first_difference (i + 1) xs ys else Some (WrongAnswer i)) ≡ None → ◌≡◌ {A = List Hit} (x ∷ xs) (y ∷ ys)
    cases true e ih none = (let h = same_hit x y e in let t = ih none in cc)
    cases false e ih none = absurd (cc)

pub no_difference : (i : ℕ) (xs : List Hit) → first_difference i xs xs ≡ None
no_difference i [] = refl
no_difference i (x ∷ xs) = rw (hit_itself x) (no_difference (i + 1) xs)

pub same_both : (a b c d : ℕ) → ((a == b) && (c == d)) ≡ true → (a ≡ b) × (c ≡ d)
same_both a b c d is = (let e : a ≡ b = grind (arith, nat_tests) in e, let e : c ≡ d = grind (arith, nat_tests) in e)

pub both_same : (a b c d : ℕ) → a ≡ b → c ≡ d → ((a == b) && (c == d)) ≡ true
both_same a b c d one two = grind (arith, nat_tests)

pub sound_from_none : (s : Space) (read : Read) (live : Live) (log : Log) → log_fault s read live log ≡ None → IsSoundLog s (nodes_of read) live log
sound_from_none s read live log none = state ((log.generation == live.generation) && (log.root == live.root)) refl none
  where
    walks : (w : Result (List Hit) Verdict) → walk_of s read live log ≡ w → after_walk log w ≡ None →
        (log.generation ≡ live.generation) × (log.root ≡ live.root) → IsTrue (s.is_point (query_point log.query)) → IsSoundLog s (nodes_of read) live log
    walks (Err fault) is none state is_point = absurd cc
    walks (Ok hits) is none state is_point =
        let deep = follows_from_walked (search_for s log.query log.answers) read [] (root_need live.root ∷ []) log.records 0 hits is in
        record {
          generation_is = state.0;
          root_is = state.1;
          point_fits = is_point;
          hits = deep.0;
          walk = deep.1;
          answers_are = same_answers 0 log.answers (selected log.query hits) none ∙ ap (selected log.query) deep.2;
        }

    points : (b : Bool) → s.is_point (query_point log.query) ≡ b → (log.generation ≡ live.generation) × (log.root ≡ live.root) →
        (if b then after_walk log (walk_of s read live log) else Some Point) ≡ None → IsSoundLog s (nodes_of read) live log
    points true is_point state none = walks (walk_of s read live log) refl none state is_point
    points false is_point state none = absurd cc

    state : (b : Bool) → ((log.generation == live.generation) && (log.root == live.root)) ≡ b →
        (if b then (if s.is_point (query_point log.query) then after_walk log (walk_of s read live log) else Some Point) else Some (OtherState (log.generation, log.root) (live.generation, live.root))) ≡ None →
        IsSoundLog s (nodes_of read) live log
    state true same none = points (s.is_point (query_point log.query)) refl (same_both log.generation live.generation log.root live.root same) none
    state false other none = absurd cc

pub none_from_sound : (s : Space) (read : Read) (live : Live) (log : Log) → IsSoundLog s (nodes_of read) live log → log_fault s read live log ≡ None
none_from_sound s read live log wise =
    let w = walked_from_follows (search_for s log.query log.answers) read [] (root_need live.root ∷ []) log.records 0 wise.hits wise.walk in
    let d : first_difference 0 log.answers (selected log.query wise.hits) ≡ None =
    subst (λ (others : List Hit). first_difference 0 log.answers others ≡ None) wise.answers_are (no_difference 0 log.answers) in
    rw (both_same log.generation live.generation log.root live.root wise.generation_is wise.root_is, wise.point_fits, w) d
