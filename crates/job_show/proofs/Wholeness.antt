-- What is shown of a sound log, and of marks that are allowed.
use Rattle.std.proofs.Common.{◌≡◌, ℕ, suc, ◌+◌, Bool, true, false, Option, Some, None, Result, Ok, Err, List, [], ◌∷◌, ◌++◌, length, map, refl, sym, ap, subst, ◌∙◌, arith}
use Rattle.std.specs.Prelude.{IsTrue, if◌then◌else◌, ◌==◌, ◌&&◌, nat_le, nat_lt}
use Rattle.std.specs.List.{AllZip}
use Rattle.std.specs.Option.{is_none}
use Rattle.std.proofs.lemmas.Bool.{true≢false}
use Rattle.std.proofs.lemmas.Bool.Decides.{nat_tests}
use Rattle.std.proofs.lemmas.List.{map-append}
use Rattle.metric_laws.specs.Space.{Space}
use Rattle.scan_model.specs.declared.hit.Hit.{Hit}
use Rattle.tree_shape.specs.declared.live.Live.{Live}
use Rattle.tree_shape.specs.declared.entry.LeafEntry.{LeafEntry}
use Rattle.tree_shape.specs.declared.entry.InnerEntry.{InnerEntry}
use Rattle.tree_shape.specs.declared.entry.Node.{Node}
use Rattle.tree_shape.specs.declared.entry.Node.TheVariants.{Leaf, Inner}
use Rattle.page_store.specs.declared.pages.PageFault.{PageFault}
use Rattle.page_store.specs.Reading.{Read, nodes_of, node_or_none}
use Rattle.log_model.specs.declared.logs.Log.{Log}
use Rattle.log_model.specs.declared.marks.Mark.{Mark}
use Rattle.log_model.specs.declared.marks.Mark.TheVariants.{Skip, Far, Near}
use Rattle.log_model.specs.declared.marks.Need.{Need}
use Rattle.log_model.specs.declared.marks.Record.{Record}
use Rattle.log_model.specs.Counts.{entry_count, measured, measured_by}
use Rattle.log_model.specs.Grammar.{query_point}
use Rattle.log_model.specs.Sound.{IsSoundLog, search_for}
use Rattle.log_model.specs.Walk.{Search, AreAllowed, WalksBy, allows_object, allows_subtree, away, near_ones, need_of, needs_of}
use Rattle.log_verify.specs.Judged.{first_wrong, first_wrong_in}
use Rattle.job_show.specs.declared.shown.Coming.{Coming}
use Rattle.job_show.specs.Frames.{distances, names_tree, shown_of}
use Rattle.job_show.specs.Laws.{Holds}
use Rattle.job_show.specs.Reasons.{object_reach, subtree_reach}
use Rattle.job_show.specs.Walks.{Shown, coming_from, coming_of, fars_in, nears_in, node_lines, node_then, node_told, nothing_shown, root_coming, shown, shown_on}

-- ---- marks that are allowed

within : (d rho : ℕ) → nat_le d rho ≡ true → nat_lt (rho + 0) d ≡ false
within d rho is = grind (arith, nat_tests)

pub object_holds : (f : Search) (above : Option ℕ) (e : LeafEntry) (m : Mark) → IsTrue (allows_object f above e m) → Holds above e.parent (away f e.point) (object_reach f) m
object_holds f None e Skip allowed = absurd (true≢false (sym allowed))
object_holds f None e Far allowed = allowed
object_holds f None e Near allowed = within (away f e.point) f.rho allowed
object_holds f (Some above) e Skip allowed = allowed
object_holds f (Some above) e Far allowed = allowed
object_holds f (Some above) e Near allowed = within (away f e.point) f.rho allowed

pub subtree_holds : (f : Search) (above : Option ℕ) (e : InnerEntry) (m : Mark) → ¬ (m ≡ Near) → IsTrue (allows_subtree f above e m) → Holds above e.parent (away f e.point) (subtree_reach f e) m
subtree_holds f None e Skip other allowed = absurd (true≢false (sym allowed))
subtree_holds f None e Far other allowed = allowed
subtree_holds f None e Near other allowed = absurd (other refl)
subtree_holds f (Some above) e Skip other allowed = allowed
subtree_holds f (Some above) e Far other allowed = allowed
subtree_holds f (Some above) e Near other allowed = absurd (other refl)

-- ---- the records of a sound log

pub none_wrong : {X : Type 0} (allows : X → Mark → Bool) (es : List X) (ms : List Mark) (j : ℕ) → AllZip (λ e m. IsTrue (allows e m)) es ms →
    (length ms ≡ length es) × (first_wrong allows es ms j ≡ None)
none_wrong allows [] [] j all = (refl, refl)
none_wrong allows [] (m ∷ ms) j all = absurd all
none_wrong allows (e ∷ es) [] j all = absurd all
none_wrong allows (e ∷ es) (m ∷ ms) j all =
    let ih = none_wrong allows es ms (j + 1) all.1 in (ap suc ih.0, rw all.0 ih.1)

marks_fine : (f : Search) (above : Option ℕ) (node : Node) (marks : List Mark) → AreAllowed f above node marks →
    (length marks ≡ entry_count node) × (first_wrong_in f above node marks ≡ None)
marks_fine f above (Leaf es) marks all = none_wrong (allows_object f above) es marks 0 all
marks_fine f above (Inner level es) marks all = none_wrong (allows_subtree f above) es marks 0 all

pub ok_from_some : (o : Result Node PageFault) (node : Node) → node_or_none o ≡ Some node → o ≡ Ok node
ok_from_some (Ok m) node is = (let e : m ≡ node = cc in ap Ok e)
ok_from_some (Err fault) node is = absurd (cc)

-- a record of a sound walk agrees with its node
told_sound : (read : Read) (page : ℕ) (r : Record) (node : Node) → nodes_of read page ≡ Some node → r.page ≡ page → length r.marks ≡ entry_count node → node_told read page r ≡ Some node
told_sound read page r node there names long =
    let ok : read page ≡ Ok node = ok_from_some (read page) node there in
    let here : (r.page == page) ≡ true = grind (arith, nat_tests) in
    let counted : (length r.marks == entry_count node) ≡ true = grind (arith, nat_tests) in
    rw (here, ok, counted) refl

need_map : (f : Search) (c : Coming) (es : List InnerEntry) → map (λ c. c.need) (map (coming_of f c) es) ≡ map (need_of f) es
need_map f c [] = refl
need_map f c (e ∷ es) = ap (λ (l : List Need). need_of f e ∷ l) (need_map f c es)

needs_are : (f : Search) (c : Coming) (node : Node) (marks : List Mark) → map (λ c. c.need) (coming_from f c node marks) ≡ needs_of f node marks
needs_are f c (Leaf es) marks = refl
needs_are f c (Inner level es) marks = need_map f c (near_ones es marks)

measured_is : (marks : List Mark) → measured_by marks ≡ fars_in marks + nears_in marks
measured_is [] = refl
measured_is (Skip ∷ marks) = measured_is marks
measured_is (Far ∷ marks) = let deep = measured_is marks in omega (arith, deep)
measured_is (Near ∷ marks) = let deep = measured_is marks in omega (arith, deep)

abbrev IsAll : Shown → List Record → Type 0
IsAll what rs = (what.counts.opened ≡ length rs) × (distances what.counts ≡ measured rs)

one_more : (f : Search) (c : Coming) (node : Node) (r : Record) (rs : List Record) (rest : Shown) → IsAll rest rs → IsAll (node_then (node_lines f c node r.marks) r.marks rest) (r ∷ rs)
one_more f c node r rs rest deep = (ap suc deep.0, omega (arith, measured_is r.marks, deep.1))

all_shown : (f : Search) (read : Read) (cs : List Coming) (rs : List Record) (hits : List Hit) → WalksBy AreAllowed f (nodes_of read) (map (λ c. c.need) cs) rs hits → IsAll (shown f read cs rs) rs
all_shown f read [] [] hits walk = (refl, refl)
all_shown f read [] (r ∷ rs) hits walk = absurd walk
all_shown f read (c ∷ cs) [] hits walk = absurd walk
all_shown f read (c ∷ cs) (r ∷ rs) hits walk =
    let node : Node = walk.0 in
    let fine = marks_fine f c.need.above node r.marks walk.3 in
    let after : List Coming = coming_from f c node r.marks ++ cs in
    let needs : map (λ c. c.need) after ≡ needs_of f node r.marks ++ map (λ c. c.need) cs =
    map-append (λ (c : Coming). c.need) (coming_from f c node r.marks) cs ∙ ap (λ (l : List Need). l ++ map (λ c. c.need) cs) (needs_are f c node r.marks) in
    let deep = all_shown f read after rs walk.4.0 (subst (λ (ns : List Need). WalksBy AreAllowed f (nodes_of read) ns rs walk.4.0) (sym needs) walk.4.1) in
    let here : shown f read (c ∷ cs) (r ∷ rs) ≡ node_then (node_lines f c node r.marks) r.marks (shown f read after rs) =
    ap (λ (o : Option Node). shown_on f c r.marks o (λ n. shown f read (coming_from f c n r.marks ++ cs) rs)) (told_sound read c.need.page r node walk.1 walk.2 fine.0)
    ∙ ap (λ (o : Option ℕ). node_then (node_lines f c node r.marks) r.marks (if is_none o then shown f read after rs else nothing_shown)) fine.1 in
    subst (λ (what : Shown). IsAll what (r ∷ rs)) (sym here) (one_more f c node r rs (shown f read after rs) deep)

named : (a b c d : ℕ) (is_point : Bool) → a ≡ b → c ≡ d → is_point ≡ true → ((a == b) && ((c == d) && is_point)) ≡ true
named a b c d is_point one two three = grind (arith, nat_tests)

pub sound_whole : (s : Space) (read : Read) (live : Live) (log : Log) → IsSoundLog s (nodes_of read) live log → IsAll (shown_of s read live log) log.records
sound_whole s read live log sound =
    let names : names_tree s live log ≡ true = named log.generation live.generation log.root live.root (s.is_point (query_point log.query)) sound.generation_is sound.root_is sound.point_fits in
    let whole = all_shown (search_for s log.query log.answers) read (root_coming live.root ∷ []) log.records sound.hits sound.walk in
    subst (λ (b : Bool). IsAll (if b then shown (search_for s log.query log.answers) read (root_coming live.root ∷ []) log.records else nothing_shown) log.records) (sym names) whole
