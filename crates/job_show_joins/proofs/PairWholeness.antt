-- What is shown of a sound join log.
use Rattle.std.proofs.Common.{◌≡◌, ℕ, suc, ◌+◌, Bool, true, false, Option, Some, None, Result, Ok, List, [], ◌∷◌, ◌++◌, length, map, refl, sym, ap, subst, ◌∙◌, arith}
use Rattle.std.specs.Prelude.{if◌then◌else◌, ◌==◌, ◌&&◌}
use Rattle.std.specs.Option.{is_none}
use Rattle.std.proofs.lemmas.Bool.Decides.{nat_tests}
use Rattle.std.proofs.lemmas.List.{map-append, length-map}
use Rattle.metric_laws.specs.Space.{Space}
use Rattle.scan_model.specs.declared.hit.Pair.{Pair}
use Rattle.tree_shape.specs.declared.live.Live.{Live}
use Rattle.tree_shape.specs.declared.entry.Node.{Node}
use Rattle.tree_shape.specs.declared.entry.Node.TheVariants.{Leaf, Inner}
use Rattle.page_store.specs.declared.pages.PageFault.{PageFault}
use Rattle.page_store.specs.Reading.{Read, nodes_of}
use Rattle.log_model.specs.declared.logs.JoinLog.{JoinLog}
use Rattle.log_model.specs.declared.marks.Mark.{Mark}
use Rattle.log_model.specs.declared.marks.JoinRecord.{JoinRecord}
use Rattle.log_model.specs.declared.pairs.JoinNeed.{JoinNeed}
use Rattle.log_model.specs.Counts.{entry_count}
use Rattle.log_model.specs.JoinWalk.{JoinSearch, JoinAllowed, JoinWalksBy, allows_entry, entries_of, join_needs, object_entry, opened, opens_right, page_of, side_of, subtree_entry}
use Rattle.log_model.specs.SoundJoin.{IsSoundJoinLog, join_at, root_pair}
use Rattle.log_verify.specs.JoinJudged.{is_of, is_same_side, join_wrong_in, names, read_of}
use Rattle.job_show.specs.Walks.{node_marked}
use Rattle.job_show.proofs.Published.{none_wrong, ok_from_some}
use Rattle.job_show_joins.specs.declared.shown.PairComing.{PairComing}
use Rattle.job_show_joins.specs.Frames.{shown_of}
use Rattle.job_show_joins.specs.Walks.{PairsShown, coming_at, node_then, node_told, nothing_shown, pairs_coming, shown, shown_on}

counted : (node : Node) → length (entries_of node) ≡ entry_count node
counted (Leaf es) = length-map es object_entry
counted (Inner level es) = length-map es (subtree_entry level)

marks_fine : (j : JoinSearch) (n : JoinNeed) (node : Node) (marks : List Mark) → JoinAllowed j n node marks → (length marks ≡ entry_count node) × (join_wrong_in j n node marks ≡ None)
marks_fine j n node marks all =
    let fine = none_wrong (allows_entry j n) (entries_of node) marks 0 all in
    (fine.0 ∙ counted node, fine.1)

same_side : (a b : Bool) → a ≡ b → is_same_side a b ≡ true
same_side true true is = refl
same_side true false is = sym is
same_side false true is = is
same_side false false is = refl

side_ok : (left right : Read) (b : Bool) (page : ℕ) (node : Node) → side_of (nodes_of left) (nodes_of right) b page ≡ Some node → read_of left right b page ≡ Ok node
side_ok left right true page node there = ok_from_some (right page) node there
side_ok left right false page node there = ok_from_some (left page) node there

-- a record of a sound walk agrees with its node
told_sound : (left right : Read) (n : JoinNeed) (r : JoinRecord) (node : Node) → side_of (nodes_of left) (nodes_of right) (opens_right n) (page_of (opened n)) ≡ Some node
    → r.right ≡ opens_right n → r.page ≡ page_of (opened n) → length r.marks ≡ entry_count node → node_told left right n r ≡ Some node
told_sound left right n r node there side page long =
    let names_side : is_same_side r.right (opens_right n) ≡ true = same_side r.right (opens_right n) side in
    let names_page : (r.page == page_of (opened n)) ≡ true = grind (arith, nat_tests) in
    let of : is_of n r ≡ true = ap (λ (b : Bool). b && (r.page == page_of (opened n))) names_side ∙ names_page in
    let ok : read_of left right (opens_right n) (page_of (opened n)) ≡ Ok node = side_ok left right (opens_right n) (page_of (opened n)) node there in
    let is_point : (length r.marks == entry_count node) ≡ true = grind (arith, nat_tests) in
    ap (λ (b : Bool). if b then node_marked r.marks (read_of left right (opens_right n) (page_of (opened n))) else None) of
    ∙ ap (λ (o : Result Node PageFault). node_marked r.marks o) ok
    ∙ ap (λ (b : Bool). if b then Some node else None) is_point

need_map : (depth : ℕ) (needs : List JoinNeed) → map (λ c. c.need) (map (coming_at depth) needs) ≡ needs
need_map depth [] = refl
need_map depth (need ∷ needs) = ap (λ (l : List JoinNeed). need ∷ l) (need_map depth needs)

all_shown : (j : JoinSearch) (left right : Read) (cs : List PairComing) (rs : List JoinRecord) (hits : List Pair) → JoinWalksBy JoinAllowed j (nodes_of left) (nodes_of right) (map (λ c. c.need) cs) rs hits
    → (shown j left right cs rs).counts.opened ≡ length rs
all_shown j left right [] [] hits walk = refl
all_shown j left right [] (r ∷ rs) hits walk = absurd walk
all_shown j left right (c ∷ cs) [] hits walk = absurd walk
all_shown j left right (c ∷ cs) (r ∷ rs) hits walk =
    let node : Node = walk.0 in
    let fine = marks_fine j c.need node r.marks walk.4 in
    let after : List PairComing = pairs_coming j c node r.marks ++ cs in
    let needs : map (λ c. c.need) after ≡ join_needs j c.need node r.marks ++ map (λ c. c.need) cs =
    map-append (λ (c : PairComing). c.need) (pairs_coming j c node r.marks) cs ∙ ap (λ (l : List JoinNeed). l ++ map (λ c. c.need) cs) (need_map (c.depth + 1) (join_needs j c.need node r.marks)) in
    let deep = all_shown j left right after rs walk.5.0 (subst (λ (ns : List JoinNeed). JoinWalksBy JoinAllowed j (nodes_of left) (nodes_of right) ns rs walk.5.0) (sym needs) walk.5.1) in
    let here : shown j left right (c ∷ cs) (r ∷ rs) ≡ node_then j c node r.marks (shown j left right after rs) =
    ap (λ (o : Option Node). shown_on j c r.marks o (λ n. shown j left right (pairs_coming j c n r.marks ++ cs) rs)) (told_sound left right c.need r node walk.1 walk.2 walk.3 fine.0)
    ∙ ap (λ (o : Option ℕ). node_then j c node r.marks (if is_none o then shown j left right after rs else nothing_shown)) fine.1 in
    ap (λ (s : PairsShown). s.counts.opened) here ∙ ap suc deep

named : (a b c d e f g h : ℕ) → a ≡ b → c ≡ d → e ≡ f → g ≡ h → (((a == b) && (c == d)) && ((e == f) && (g == h))) ≡ true
named a b c d e f g h one two three four = grind (arith, nat_tests)

pub sound_whole : (s : Space) (left right : Read) (l r : Live) (log : JoinLog) → IsSoundJoinLog s (nodes_of left) (nodes_of right) l r log → (shown_of s left right l r log).counts.opened ≡ length log.records
sound_whole s left right l r log sound =
    let both : (names log.left l && names log.right r) ≡ true =
    named log.left.0 l.generation log.left.1 l.root log.right.0 r.generation log.right.1 r.root sound.left_generation_is sound.left_root_is sound.right_generation_is sound.right_root_is in
    let whole = all_shown (join_at s log.r) left right (coming_at 0 (root_pair l r) ∷ []) log.records sound.hits sound.walk in
    subst (λ (b : Bool). (if b then shown (join_at s log.r) left right (coming_at 0 (root_pair l r) ∷ []) log.records else nothing_shown).counts.opened ≡ length log.records) (sym both) whole
