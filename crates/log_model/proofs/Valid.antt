-- The logs of walks have a spelling.
use Rattle.std.proofs.Common.{◌≡◌, ℕ, suc, ◌<◌, ◌≤◌, ◌^◌, Bool, true, false, List, [], ◌∷◌, arith, length, length-take, subst, sym, refl, ap, Option}
use Rattle.std.specs.Prelude.{if◌then◌else◌, map}
use Rattle.std.specs.List.{AllByRecursion}
use Rattle.scan_model.specs.declared.hit.Hit.{Hit}
use Rattle.scan_model.specs.declared.query.Query.{Query}
use Rattle.scan_model.specs.declared.query.Query.TheVariants.{Range, Nearest}
use Rattle.scan_model.specs.Laws.{Ascends, HitBefore}
use Rattle.tree_shape.specs.declared.entry.Node.{Node}
use Rattle.tree_shape.specs.declared.entry.Node.TheVariants.{Leaf, Inner}
use Rattle.log_model.specs.declared.logs.Log.{Log}
use Rattle.log_model.specs.declared.marks.Mark.{Mark}
use Rattle.log_model.specs.declared.marks.Mark.TheVariants.{Skip, Far, Near}
use Rattle.log_model.specs.Counts.{entry_count}
use Rattle.log_model.specs.Walk.{Search, near_ones, least_for_object, least_for_subtree, least_marks, hits_of, hit_of}
use Rattle.log_model.specs.Grammar.{IsValidQuery, IsValidLog}
use Rattle.log_model.specs.InOrder.{put_once, in_order, hit_before}
use Rattle.log_model.specs.Sound.{selected}
use Rattle.log_model.proofs.Order.{rising-in_order}
use Rattle.log_model.proofs.Orders.{hit_order, ascending_hits}
use Rattle.log_model.proofs.Hits.{ascends_take}

length-put_once : {X : Type 0} (before : X → X → Bool) (x : X) (xs : List X) → length (put_once before x xs) ≤ suc (length xs)
length-put_once before x [] = omega arith
length-put_once before x (y ∷ ys) = cases (before x y) (before y x) (length-put_once before x ys)
  where
    cases : (b c : Bool) → length (put_once before x ys) ≤ suc (length ys) → length (if b then x ∷ y ∷ ys else (if c then y ∷ put_once before x ys else y ∷ ys)) ≤ suc (suc (length ys))
    cases true c ih = omega arith
    cases false true ih = omega arith
    cases false false ih = omega arith

pub length-in_order : {X : Type 0} (before : X → X → Bool) (xs : List X) → length (in_order before xs) ≤ length xs
length-in_order before [] = omega arith
length-in_order before (x ∷ xs) =
    let one = length-put_once before x (in_order before xs) in
    let ih = length-in_order before xs in
    omega arith

pub length-selected : (query : Query) (hits : List Hit) → length (selected query hits) ≤ length hits
length-selected (Range q r) hits = length-in_order hit_before hits
length-selected (Nearest q k) hits =
    let ih = length-in_order hit_before hits in
    let t = length-take k (in_order hit_before hits) in
    omega arith

pub ascends-selected : (query : Query) (hits : List Hit) → Ascends HitBefore (selected query hits)
ascends-selected (Range q r) hits = ascending_hits (in_order hit_before hits) (rising-in_order hit_before hit_order hits)
ascends-selected (Nearest q k) hits = ascends_take HitBefore k (in_order hit_before hits) (ascending_hits (in_order hit_before hits) (rising-in_order hit_before hit_order hits))

pub valid_log : (log : Log) (hits : List Hit) → IsValidQuery log.query → log.answers ≡ selected log.query hits → length hits < 2 ^ 32 → length log.records < 2 ^ 32 →
    AllByRecursion (λ r. length r.marks ≤ 32) log.records → IsValidLog log
valid_log log hits query is few_hits few_records marks = record {
  query = query;
  answers_ascend = subst (Ascends HitBefore) (sym is) (ascends-selected log.query hits);
  few_answers = subst (λ (l : List Hit). length l < 2 ^ 32) (sym is) (let l = length-selected log.query hits in omega arith);
  few_records = few_records;
  few_marks = marks;
}

-- as many marks as entries, and no more hits

map_long : {X Y : Type 0} (g : X → Y) (xs : List X) → length (map g xs) ≡ length xs
map_long g [] = refl
map_long g (x ∷ xs) = ap suc (map_long g xs)

near_few : {X : Type 0} (es : List X) (ms : List Mark) → length (near_ones es ms) ≤ length es
near_few [] ms = omega arith
near_few (e ∷ es) [] = omega arith
near_few (e ∷ es) (Skip ∷ ms) = let ih = near_few es ms in omega arith
near_few (e ∷ es) (Far ∷ ms) = let ih = near_few es ms in omega arith
near_few (e ∷ es) (Near ∷ ms) = let ih = near_few es ms in omega arith

pub marks_long : (f : Search) (above : Option ℕ) (node : Node) → length (least_marks f above node) ≡ entry_count node
marks_long f above (Leaf es) = map_long (least_for_object f above) es
marks_long f above (Inner level es) = map_long (least_for_subtree f above) es

pub hits_few : (f : Search) (node : Node) (marks : List Mark) → length (hits_of f node marks) ≤ entry_count node
hits_few f (Leaf es) marks =
    let n = near_few es marks in
    let l = map_long (hit_of f) (near_ones es marks) in
    omega arith
hits_few f (Inner level es) marks = omega arith
