-- A join's log has no fault exactly where it is sound.
use Rattle.std.proofs.Common.{◌≡◌, ℕ, ◌+◌, Bool, true, false, List, [], ◌∷◌, ◌++◌, length, refl, sym, ap, subst, ◌∙◌, arith, Option, Some, None, Result, Ok, Err, append_assoc}
use Rattle.std.specs.Prelude.{if◌then◌else◌, ◌==◌, ◌&&◌}
use Rattle.std.proofs.lemmas.List.{append-nil, length-map}
use Rattle.std.proofs.lemmas.Bool.Decides.{nat_tests}
use Rattle.metric_laws.specs.Space.{Space}
use Rattle.scan_model.specs.declared.hit.Pair.{Pair}
use Rattle.tree_shape.specs.declared.live.Live.{Live}
use Rattle.tree_shape.specs.declared.entry.Node.{Node}
use Rattle.tree_shape.specs.declared.entry.Node.TheVariants.{Leaf, Inner}
use Rattle.page_store.specs.declared.pages.PageFault.{PageFault}
use Rattle.page_store.specs.Reading.{Read, nodes_of, node_or_none}
use Rattle.log_model.specs.declared.marks.Mark.{Mark}
use Rattle.log_model.specs.declared.marks.JoinRecord.{JoinRecord}
use Rattle.log_model.specs.declared.pairs.JoinNeed.{JoinNeed}
use Rattle.log_model.specs.declared.logs.JoinLog.{JoinLog}
use Rattle.log_model.specs.InOrder.{in_order, pair_before}
use Rattle.log_model.specs.JoinWalk.{JoinSearch, JoinAllowed, JoinWalksBy, opens_right, opened, page_of, entries_of, object_entry, subtree_entry, allows_entry, side_of, join_needs, join_hits}
use Rattle.log_model.specs.SoundJoin.{join_at, root_pair, IsSoundJoinLog}
use Rattle.log_verify.specs.declared.faults.JoinVerdict.{JoinVerdict}
use Rattle.log_verify.specs.declared.faults.JoinVerdict.TheVariants.{OtherState, WrongPage, WrongCount, WrongAnswer}
use Rattle.log_model.specs.Counts.{entry_count}
use Rattle.log_verify.specs.JoinJudged.{join_wrong_in, after_join_marks, after_join_page, read_of, is_same_side, is_of, join_walked, pair_difference, after_join_walk, join_walk_of, names, join_fault}
use Rattle.log_verify.proofs.Soundness.{all_allowed, none_wrong, ok_from_some, same_both, both_same}

pub length-entries : (node : Node) → length (entries_of node) ≡ entry_count node
length-entries (Leaf es) = length-map es object_entry
length-entries (Inner level es) = length-map es (subtree_entry level)

-- what follows a walk that has no fault
abbrev Follows : JoinSearch → Read → Read → List Pair → List JoinNeed → List JoinRecord → List Pair → Type 0
Follows j left right named ns rs all = (hits : List Pair) × JoinWalksBy JoinAllowed j (nodes_of left) (nodes_of right) ns rs hits × (all ≡ named ++ hits)

-- a page that gives a node, whose marks are allowed, and what follows
abbrev Opened : JoinSearch → JoinNeed → List Mark → Result Node PageFault → (Node → Result (List Pair) JoinVerdict) → List Pair → Type 0
Opened j n marks o rest all = (node : Node) × (o ≡ Ok node) × JoinAllowed j n node marks × (rest node ≡ Ok all)

opened_fine : (j : JoinSearch) (n : JoinNeed) (marks : List Mark) (i : ℕ) (o : Result Node PageFault) (rest : Node → Result (List Pair) JoinVerdict) (all : List Pair)
    → after_join_page j n marks i o rest ≡ Ok all → Opened j n marks o rest all
opened_fine j n marks i (Err fault) rest all is = absurd cc
opened_fine j n marks i (Ok node) rest all is = counted (length marks == entry_count node) refl is
  where
    checked : (w : Option ℕ) → join_wrong_in j n node marks ≡ w → length marks ≡ entry_count node → after_join_marks i w (rest node) ≡ Ok all → Opened j n marks (Ok node) rest all
    checked None none long is = (node, refl, all_allowed (allows_entry j n) (entries_of node) marks 0 (long ∙ sym (length-entries node)) none, is)
    checked (Some k) some long is = absurd cc

    counted : (b : Bool) → (length marks == entry_count node) ≡ b → (if b then after_join_marks i (join_wrong_in j n node marks) (rest node) else Err (WrongCount i)) ≡ Ok all
        → Opened j n marks (Ok node) rest all
    counted true same is = checked (join_wrong_in j n node marks) refl (let e : length marks ≡ entry_count node = grind (arith, nat_tests) in e) is
    counted false other is = absurd cc

fine_opened : (j : JoinSearch) (n : JoinNeed) (marks : List Mark) (i : ℕ) (o : Result Node PageFault) (node : Node) (rest : Node → Result (List Pair) JoinVerdict)
    → o ≡ Ok node → JoinAllowed j n node marks → after_join_page j n marks i o rest ≡ rest node
fine_opened j n marks i o node rest is allowed =
    let fine = none_wrong (allows_entry j n) (entries_of node) marks 0 allowed in
    rw is (counted (length marks == entry_count node) refl (fine.0 ∙ length-entries node) fine.1)
  where
    counted : (b : Bool) → (length marks == entry_count node) ≡ b → length marks ≡ entry_count node → join_wrong_in j n node marks ≡ None
        → (if b then after_join_marks i (join_wrong_in j n node marks) (rest node) else Err (WrongCount i)) ≡ rest node
    counted true test long none = rw none refl
    counted false test long none = absurd (grind (arith, nat_tests))

-- a side's node and its page's
side_node : (left right : Read) (b : Bool) (page : ℕ) → side_of (nodes_of left) (nodes_of right) b page ≡ node_or_none (read_of left right b page)
side_node left right true page = refl
side_node left right false page = refl

side_is : (one other : Bool) → is_same_side one other ≡ true → one ≡ other
side_is true true e = refl
side_is true false e = absurd cc
side_is false false e = refl
side_is false true e = absurd cc

side_itself : (b : Bool) → is_same_side b b ≡ true
side_itself true = refl
side_itself false = refl

and_both : (a b : Bool) → (a && b) ≡ true → (a ≡ true) × (b ≡ true)
and_both true b e = (refl, e)
and_both false b e = absurd cc

of_fine : (n : JoinNeed) (r : JoinRecord) → is_of n r ≡ true → (r.right ≡ opens_right n) × (r.page ≡ page_of (opened n))
of_fine n r e =
    let both = and_both (is_same_side r.right (opens_right n)) (r.page == page_of (opened n)) e in
    (side_is r.right (opens_right n) both.0, same r.page (page_of (opened n)) both.1)
  where
    same : (a b : ℕ) → (a == b) ≡ true → a ≡ b
    same a b e = grind (arith, nat_tests)

fine_of : (n : JoinNeed) (r : JoinRecord) → r.right ≡ opens_right n → r.page ≡ page_of (opened n) → is_of n r ≡ true
fine_of n r side page = rw (side, side_itself (opens_right n)) (same r.page (page_of (opened n)) page)
  where
    same : (a b : ℕ) → a ≡ b → (a == b) ≡ true
    same a b e = grind (arith, nat_tests)

pub join_from_walked : (j : JoinSearch) (left right : Read) (named : List Pair) (ns : List JoinNeed) (rs : List JoinRecord) (i : ℕ) (all : List Pair)
    → join_walked j left right named ns rs i ≡ Ok all → Follows j left right named ns rs all
join_from_walked j left right named [] [] i all is = ([], refl, (let e : all ≡ named = cc in e ∙ sym (append-nil named)))
join_from_walked j left right named [] (r ∷ rs) i all is = absurd cc
join_from_walked j left right named (n ∷ ns) [] i all is = absurd cc
join_from_walked j left right named (n ∷ ns) (r ∷ rs) i all is = paged (is_of n r) refl (λ named' ns'. join_from_walked j left right named' ns' rs (i + 1) all) is
  where
    opens : Opened j n r.marks (read_of left right (opens_right n) (page_of (opened n))) (λ node. join_walked j left right (named ++ join_hits j n node r.marks) (join_needs j n node r.marks ++ ns) rs (i + 1)) all
        → ((named' : List Pair) (ns' : List JoinNeed) → join_walked j left right named' ns' rs (i + 1) ≡ Ok all → Follows j left right named' ns' rs all)
        → (r.right ≡ opens_right n) × (r.page ≡ page_of (opened n)) → Follows j left right named (n ∷ ns) (r ∷ rs) all
    opens o ih same =
        let deep = ih (named ++ join_hits j n o.0 r.marks) (join_needs j n o.0 r.marks ++ ns) o.3 in (
          join_hits j n o.0 r.marks ++ deep.0,
          (o.0, side_node left right (opens_right n) (page_of (opened n)) ∙ ap node_or_none o.1, same.0, same.1, o.2, (deep.0, deep.1, refl)),
          deep.2 ∙ append_assoc named (join_hits j n o.0 r.marks) deep.0,
        )

    paged : (b : Bool) → is_of n r ≡ b
        → ((named' : List Pair) (ns' : List JoinNeed) → join_walked j left right named' ns' rs (i + 1) ≡ Ok all → Follows j left right named' ns' rs all)
        → (if b then after_join_page j n r.marks i (read_of left right (opens_right n) (page_of (opened n))) (λ node. join_walked j left right (named ++ join_hits j n node r.marks) (join_needs j n node r.marks ++ ns) rs (i + 1)) else Err (WrongPage i)) ≡ Ok all
        → Follows j left right named (n ∷ ns) (r ∷ rs) all
    paged true same ih is = opens (opened_fine j n r.marks i (read_of left right (opens_right n) (page_of (opened n))) _ all is) ih (of_fine n r same)
    paged false other ih is = absurd cc

pub walked_from_join : (j : JoinSearch) (left right : Read) (named : List Pair) (ns : List JoinNeed) (rs : List JoinRecord) (i : ℕ) (hits : List Pair)
    → JoinWalksBy JoinAllowed j (nodes_of left) (nodes_of right) ns rs hits → join_walked j left right named ns rs i ≡ Ok (named ++ hits)
walked_from_join j left right named [] [] i hits walk = rw walk (ap Ok (sym (append-nil named)))
walked_from_join j left right named [] (r ∷ rs) i hits walk = absurd walk
walked_from_join j left right named (n ∷ ns) [] i hits walk = absurd walk
walked_from_join j left right named (n ∷ ns) (r ∷ rs) i hits walk =
    let node : Node = walk.0 in
    let next = walked_from_join j left right (named ++ join_hits j n node r.marks) (join_needs j n node r.marks ++ ns) rs (i + 1) walk.5.0 walk.5.1 in
    let gives = ok_from_some (read_of left right (opens_right n) (page_of (opened n))) node (sym (side_node left right (opens_right n) (page_of (opened n))) ∙ walk.1) in
    let here = fine_opened j n r.marks i (read_of left right (opens_right n) (page_of (opened n))) node (λ m. join_walked j left right (named ++ join_hits j n m r.marks) (join_needs j n m r.marks ++ ns) rs (i + 1)) gives walk.4 in
    chosen (is_of n r) (fine_of n r walk.2 walk.3) (Err (WrongPage i)) (here ∙ next ∙ ap Ok (append_assoc named (join_hits j n node r.marks) walk.5.0 ∙ ap (λ t. named ++ t) (sym walk.5.2)))
  where
    chosen : (b : Bool) → b ≡ true → {A : Type 0} {x y : A} (z : A) → x ≡ y → (if b then x else z) ≡ y
    chosen true test z e = e
    chosen false test z e = absurd cc

same_pair : (x y : Pair) → ((x.left == y.left) && ((x.right == y.right) && (x.dist == y.dist))) ≡ true → x ≡ y
same_pair x y e = grind (arith, nat_tests)

pair_itself : (x : Pair) → ((x.left == x.left) && ((x.right == x.right) && (x.dist == x.dist))) ≡ true
pair_itself x = grind (arith, nat_tests)

same_pairs : (i : ℕ) (xs ys : List Pair) → pair_difference i xs ys ≡ None → xs ≡ ys
same_pairs i [] [] none = refl
same_pairs i [] (y ∷ ys) none = absurd cc
same_pairs i (x ∷ xs) [] none = absurd cc
same_pairs i (x ∷ xs) (y ∷ ys) none = cases ((x.left == y.left) && ((x.right == y.right) && (x.dist == y.dist))) refl (same_pairs (i + 1) xs ys) none
  where
    cases : (b : Bool) → ((x.left == y.left) && ((x.right == y.right) && (x.dist == y.dist))) ≡ b → (pair_difference (i + 1) xs ys ≡ None → xs ≡ ys)
        → (if b then pair_difference (i + 1) xs ys else Some (WrongAnswer i)) ≡ None → ◌≡◌ {A = List Pair} (x ∷ xs) (y ∷ ys)
    cases true e ih none = (let h = same_pair x y e in let t = ih none in cc)
    cases false e ih none = absurd cc

no_pair_difference : (i : ℕ) (xs : List Pair) → pair_difference i xs xs ≡ None
no_pair_difference i [] = refl
no_pair_difference i (x ∷ xs) = rw (pair_itself x) (no_pair_difference (i + 1) xs)

pub join_sound_from_none : (s : Space) (left right : Read) (l r : Live) (log : JoinLog) → join_fault s left right l r log ≡ None → IsSoundJoinLog s (nodes_of left) (nodes_of right) l r log
join_sound_from_none s left right l r log none = of_left (names log.left l) refl none
  where
    walks : (w : Result (List Pair) JoinVerdict) → join_walk_of s left right l r log ≡ w → after_join_walk log w ≡ None → (log.left.0 ≡ l.generation) × (log.left.1 ≡ l.root)
        → (log.right.0 ≡ r.generation) × (log.right.1 ≡ r.root) → IsSoundJoinLog s (nodes_of left) (nodes_of right) l r log
    walks (Err fault) is none one two = absurd cc
    walks (Ok hits) is none one two =
        let deep = join_from_walked (join_at s log.r) left right [] (root_pair l r ∷ []) log.records 0 hits is in
        record {
          left_generation_is = one.0;
          left_root_is = one.1;
          right_generation_is = two.0;
          right_root_is = two.1;
          hits = deep.0;
          walk = deep.1;
          answers_are = same_pairs 0 log.answers (in_order pair_before hits) none ∙ ap (in_order pair_before) deep.2;
        }

    of_right : (b : Bool) → names log.right r ≡ b → (log.left.0 ≡ l.generation) × (log.left.1 ≡ l.root)
        → (if b then after_join_walk log (join_walk_of s left right l r log) else Some (OtherState true log.right (r.generation, r.root))) ≡ None
        → IsSoundJoinLog s (nodes_of left) (nodes_of right) l r log
    of_right true same one none = walks (join_walk_of s left right l r log) refl none one (same_both log.right.0 r.generation log.right.1 r.root same)
    of_right false other one none = absurd cc

    of_left : (b : Bool) → names log.left l ≡ b
        → (if b then (if names log.right r then after_join_walk log (join_walk_of s left right l r log) else Some (OtherState true log.right (r.generation, r.root)))
        else Some (OtherState false log.left (l.generation, l.root))) ≡ None
        → IsSoundJoinLog s (nodes_of left) (nodes_of right) l r log
    of_left true same none = of_right (names log.right r) refl (same_both log.left.0 l.generation log.left.1 l.root same) none
    of_left false other none = absurd cc

pub join_none_from_sound : (s : Space) (left right : Read) (l r : Live) (log : JoinLog) → IsSoundJoinLog s (nodes_of left) (nodes_of right) l r log → join_fault s left right l r log ≡ None
join_none_from_sound s left right l r log wise =
    let w = walked_from_join (join_at s log.r) left right [] (root_pair l r ∷ []) log.records 0 wise.hits wise.walk in
    let d : pair_difference 0 log.answers (in_order pair_before wise.hits) ≡ None =
    subst (λ (others : List Pair). pair_difference 0 log.answers others ≡ None) wise.answers_are (no_pair_difference 0 log.answers) in
    rw (
      both_same log.left.0 l.generation log.left.1 l.root wise.left_generation_is wise.left_root_is,
      both_same log.right.0 r.generation log.right.1 r.root wise.right_generation_is wise.right_root_is,
      w,
    ) d
