-- The least marks are allowed, and there is one walk with them.
use Rattle.std.proofs.Common.{◌≡◌, ℕ, Bool, true, false, List, [], ◌∷◌, ◌++◌, refl, sym, ap, ◌∙◌, Option, arith, subst}
use Rattle.std.specs.Prelude.{IsTrue, map, if◌then◌else◌, nat_le}
use Rattle.std.specs.List.{AllZip}
use Rattle.std.proofs.lemmas.Bool.Decides.{nat_tests}
use Rattle.metric_laws.specs.Pruning.{centre_rules_out}
use Rattle.scan_model.specs.declared.hit.Hit.{Hit}
use Rattle.tree_shape.specs.declared.entry.LeafEntry.{LeafEntry}
use Rattle.tree_shape.specs.declared.entry.InnerEntry.{InnerEntry}
use Rattle.tree_shape.specs.declared.entry.Node.{Node}
use Rattle.tree_shape.specs.declared.entry.Node.TheVariants.{Leaf, Inner}
use Rattle.tree_shape.specs.Tree.{Nodes}
use Rattle.log_model.specs.declared.marks.Mark.{Mark}
use Rattle.log_model.specs.declared.marks.Mark.TheVariants.{Skip, Far, Near}
use Rattle.log_model.specs.declared.marks.Record.{Record}
use Rattle.log_model.specs.declared.marks.Need.{Need}
use Rattle.log_model.proofs.Walk.{same_node}
use Rattle.log_model.specs.Walk.{Search, Rule, WalksBy, AreAllowed, AreLeast, away, is_skipped, allows_object, allows_subtree, least_for_object, least_for_subtree, least_marks, needs_of, hits_of}

pub near_allowed : (d rho : ℕ) → centre_rules_out d rho 0 ≡ false → nat_le d rho ≡ true
near_allowed d rho h = grind (arith, nat_tests)

pub object_allowed : (f : Search) (above : Option ℕ) (e : LeafEntry) → IsTrue (allows_object f above e (least_for_object f above e))
object_allowed f above e = cases (is_skipped f above e.parent 0) (centre_rules_out (away f e.point) f.rho 0) refl refl
  where
    cases : (s c : Bool) → is_skipped f above e.parent 0 ≡ s → centre_rules_out (away f e.point) f.rho 0 ≡ c →
        IsTrue (allows_object f above e (if s then Skip else (if c then Far else Near)))
    cases true c i j = i
    cases false true i j = j
    cases false false i j = near_allowed (away f e.point) f.rho j

pub subtree_allowed : (f : Search) (above : Option ℕ) (e : InnerEntry) → IsTrue (allows_subtree f above e (least_for_subtree f above e))
subtree_allowed f above e = cases (is_skipped f above e.parent e.radius) (centre_rules_out (away f e.point) f.rho e.radius) refl refl
  where
    cases : (s c : Bool) → is_skipped f above e.parent e.radius ≡ s → centre_rules_out (away f e.point) f.rho e.radius ≡ c →
        IsTrue (allows_subtree f above e (if s then Skip else (if c then Far else Near)))
    cases true c i j = i
    cases false true i j = j
    cases false false i j = refl

pub zip-map : {X : Type 0} (allows : X → Mark → Bool) (g : X → Mark) → ((x : X) → IsTrue (allows x (g x))) → (xs : List X) → AllZip (λ e m. IsTrue (allows e m)) xs (map g xs)
zip-map allows g h [] = tt
zip-map allows g h (x ∷ xs) = (h x, zip-map allows g h xs)

pub least_allowed : (f : Search) (above : Option ℕ) (node : Node) (marks : List Mark) → AreLeast f above node marks → AreAllowed f above node marks
least_allowed f above (Leaf es) marks is = subst (AreAllowed f above (Leaf es)) (sym is) (zip-map (allows_object f above) (least_for_object f above) (object_allowed f above) es)
least_allowed f above (Inner level es) marks is = subst (AreAllowed f above (Inner level es)) (sym is) (zip-map (allows_subtree f above) (least_for_subtree f above) (subtree_allowed f above) es)

-- a walk by one rule is one by a wider rule
pub walks_wider : (P Q : Rule) (f : Search) (nodes : Nodes) → ((above : Option ℕ) (node : Node) (marks : List Mark) → P f above node marks → Q f above node marks) →
    (ns : List Need) (rs : List Record) (hits : List Hit) → WalksBy P f nodes ns rs hits → WalksBy Q f nodes ns rs hits
walks_wider P Q f nodes h [] [] hits walk = walk
walks_wider P Q f nodes h [] (r ∷ rs) hits walk = absurd walk
walks_wider P Q f nodes h (n ∷ ns) [] hits walk = absurd walk
walks_wider P Q f nodes h (n ∷ ns) (r ∷ rs) hits walk =
    (walk.0, walk.1, walk.2, h n.above walk.0 r.marks walk.3, (walk.4.0, walks_wider P Q f nodes h (needs_of f walk.0 r.marks ++ ns) rs walk.4.0 walk.4.1, walk.4.2))

pub same_list : (r r' : Record) (rs rs' : List Record) → r.page ≡ r'.page → r.marks ≡ r'.marks → rs ≡ rs' → ◌≡◌ {A = List Record} (r ∷ rs) (r' ∷ rs')
same_list r r' rs rs' page marks rest = (λ i. record { page = page i; marks = marks i } ∷ rest i)

-- there is one walk with the least marks
pub least_same : (f : Search) (nodes : Nodes) (ns : List Need) (rs rs' : List Record) (hits hits' : List Hit) →
    WalksBy AreLeast f nodes ns rs hits → WalksBy AreLeast f nodes ns rs' hits' → (rs ≡ rs') × (hits ≡ hits')
least_same f nodes [] [] [] hits hits' walk walk' = (refl, walk ∙ sym walk')
least_same f nodes [] [] (r ∷ rs') hits hits' walk walk' = absurd walk'
least_same f nodes [] (r ∷ rs) rs' hits hits' walk walk' = absurd walk
least_same f nodes (n ∷ ns) [] rs' hits hits' walk walk' = absurd walk
least_same f nodes (n ∷ ns) (r ∷ rs) [] hits hits' walk walk' = absurd walk'
least_same f nodes (n ∷ ns) (r ∷ rs) (r' ∷ rs') hits hits' walk walk' =
    let node = same_node (nodes n.page) walk.0 walk'.0 walk.1 walk'.1 in
    let marks : r.marks ≡ r'.marks = walk.3 ∙ ap (least_marks f n.above) node ∙ sym walk'.3 in
    let page : r.page ≡ r'.page = walk.2 ∙ sym walk'.2 in
    let needs : needs_of f walk'.0 r'.marks ++ ns ≡ needs_of f walk.0 r.marks ++ ns = cc in
    let named : hits_of f walk'.0 r'.marks ≡ hits_of f walk.0 r.marks = cc in
    let ih = least_same f nodes (needs_of f walk.0 r.marks ++ ns) rs rs' walk.4.0 walk'.4.0 walk.4.1
    (subst (λ (ms : List Need). WalksBy AreLeast f nodes ms rs' walk'.4.0) needs walk'.4.1) in
    (same_list r r' rs rs' page marks ih.0, walk.4.2 ∙ ap (λ t. hits_of f walk.0 r.marks ++ t) ih.1 ∙ ap (λ t. t ++ walk'.4.0) (sym named) ∙ sym walk'.4.2)
