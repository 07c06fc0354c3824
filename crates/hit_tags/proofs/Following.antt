-- The walk from record to record: what it meets, where it ends, and why.
use Rattle.std.proofs.Common.{◌≡◌, ℕ, suc, ◌+◌, ◌-◌, ◌<◌, ◌≤◌, false, List, ◌∷◌, ◌++◌, length, drop, get_or, reverse, map, Some, Result, Ok, Err, IfOk, refl, sym, ap, subst, ◌∙◌, arith, append_assoc, drop-cons, inr}
use Rattle.std.specs.Prelude.{IsTrue, IfErr}
use Rattle.std.proofs.lemmas.List.{append-nil, length-drop}
use Rattle.metric_laws.specs.Counts.{next_count, count_up, CountsUpTo}
use Rattle.tree_shape.specs.declared.entry.LeafEntry.{LeafEntry}
use Rattle.tree_shape.specs.declared.entry.Node.{Node}
use Rattle.tree_shape.specs.Tree.{Nodes}
use Rattle.page_store.specs.declared.pages.PageFault.{PageFault}
use Rattle.page_store.specs.declared.pages.PageFault.TheVariants.{Disk, Bad, Outside, Memory, Repeats, Level}
use Rattle.page_store.specs.Reading.{Read, IsWithin, is_within, nodes_of}
use Rattle.page_store.specs.Shelf.{Shelf, HoldsSame, HasPageCause}
use Rattle.log_model.specs.declared.marks.Record.{Record}
use Rattle.log_model.proofs.Published.{count_up_both, map-append}
use Rattle.hit_tags.specs.declared.walking.Walk.{Walk}
use Rattle.log_model.specs.Met.{near_objects, near_pages, marked_node, met}
use Rattle.hit_tags.specs.Comes.{ComesTo}
use Rattle.hit_tags.specs.Tags.{HasTagsCause}
use Rattle.hit_tags.specs.Wanted.{leaf_tag, TakesIn}
use Rattle.hit_tags.specs.Steps.{IsUnderWay, HasFollowed}
use Rattle.hit_tags.proofs.Taking.{takes_both}

-- ---- one record

pub goes_on : (nodes : Nodes) (old new : Walk) (r : Record) (page : ℕ) (rest : List ℕ) → reverse old.stack.items ≡ page ∷ rest → (node : Node) → marked_node nodes page r ≡ Some node →
    TakesIn old.wanted (map leaf_tag (near_objects node r.marks)) new.wanted → reverse new.stack.items ≡ near_pages node r.marks ++ rest → (rs : List Record) → IsUnderWay nodes old (r ∷ rs) new rs
goes_on nodes old new r page rest stack node marked taken pages rs = record {
  objects = near_objects node r.marks;
  taken = taken;
  whole = rw (pages, stack, marked) refl;
  comes = λ p comes. subst (λ (ns : List ℕ). ComesTo nodes ns (r ∷ rs) p) (sym stack) (inr (node, marked, subst (λ (ns : List ℕ). ComesTo nodes ns rs p) pages comes));
}

-- ---- from record to record

module _ (nodes : Nodes) (start : Walk) (all : List Record) where
  module _ (mid : Walk) (i : ℕ) (r : Record) (low : i < length all) (is : r ≡ get_or all i r) (way : IsUnderWay nodes start all mid (drop i all)) where
    here : IsUnderWay nodes start all mid (r ∷ drop (suc i) all)
    here = subst (IsUnderWay nodes start all mid) (drop-cons all i r low ∙ ap (λ (e : Record). e ∷ drop (suc i) all) (sym is)) way

    pub way_on : (new : Walk) → IsUnderWay nodes mid (r ∷ drop (suc i) all) new (drop (suc i) all) → IsUnderWay nodes start all new (drop (i + 1) all)
    way_on new step =
        let so_far : IsUnderWay nodes start all mid (r ∷ drop (suc i) all) = here in
        subst (λ (k : ℕ). IsUnderWay nodes start all new (drop k all)) (let e : suc i ≡ i + 1 = omega arith in e)
        (record {
          objects = so_far.objects ++ step.objects;
          taken = subst (λ (ts : List (ℕ × ℕ)). TakesIn start.wanted ts new.wanted) (sym (map-append leaf_tag so_far.objects step.objects))
              (takes_both start.wanted mid.wanted new.wanted (map leaf_tag so_far.objects) (map leaf_tag step.objects) so_far.taken step.taken);
          whole = append_assoc so_far.objects step.objects (met nodes (reverse new.stack.items) (drop (suc i) all)) ∙ ap (λ (os : List LeafEntry). so_far.objects ++ os) step.whole ∙ so_far.whole;
          comes = λ page comes. so_far.comes page (step.comes page comes);
        })

    pub way_ends : (new : Walk) → HasFollowed nodes mid r new false → TakesIn start.wanted (map leaf_tag (met nodes (reverse start.stack.items) all)) new.wanted
    way_ends new ended =
        let so_far : IsUnderWay nodes start all mid (r ∷ drop (suc i) all) = here in
        rw ended.0 (subst (λ (os : List LeafEntry). TakesIn start.wanted (map leaf_tag os) mid.wanted)
        (sym (append-nil so_far.objects) ∙ ap (λ (os : List LeafEntry). so_far.objects ++ os) (sym (ended.1 (drop (suc i) all))) ∙ so_far.whole) so_far.taken)

    pub way_comes : (page : ℕ) → ComesTo nodes (reverse mid.stack.items) (r ∷ drop (suc i) all) page → ComesTo nodes (reverse start.stack.items) all page
    way_comes = here.comes

-- ---- causes

-- a page's cause since an earlier state
page_cause_kept : (old mid new : Shelf) (page : ℕ) (fault : PageFault) → HoldsSame old mid → HasPageCause mid new page fault → HasPageCause old new page fault
page_cause_kept old mid new page Disk same cause = let c = cause in omega (arith, same.faults, c)
page_cause_kept old mid new page (Bad p fault) same cause = (
  cause.0,
  subst (λ (n : ℕ). IsWithin n page) same.pages cause.1,
  λ is_known. ap (λ (read : Read). read page) (sym same.read) ∙ cause.2 (same.is_known ∙ is_known),
)
page_cause_kept old mid new page (Outside p) same cause = (
  cause.0,
  ap (λ (n : ℕ). is_within n page) (sym same.pages) ∙ cause.1,
  λ is_known. ap (λ (read : Read). read page) (sym same.read) ∙ cause.2 (same.is_known ∙ is_known),
)
page_cause_kept old mid new page Memory same cause = tt
page_cause_kept old mid new page (Repeats p) same cause = cause
page_cause_kept old mid new page (Level p) same cause = cause

-- a cause since the walk began
module _ (old mid new : Shelf) (same : HoldsSame old mid) (ns ms : List ℕ) (rs ss : List Record)
    (comes : IsTrue old.is_known → (page : ℕ) → ComesTo (nodes_of old.read) ms ss page → ComesTo (nodes_of old.read) ns rs page) where
  kept : (fault : PageFault) → (page : ℕ) × HasPageCause mid new page fault × (IsTrue mid.is_known → ComesTo (nodes_of mid.read) ms ss page) →
      (page : ℕ) × HasPageCause old new page fault × (IsTrue old.is_known → ComesTo (nodes_of old.read) ns rs page)
  kept fault cause = (
    cause.0,
    page_cause_kept old mid new cause.0 fault same cause.1,
    λ is_known. comes is_known cause.0 (subst (λ (read : Read). ComesTo (nodes_of read) ms ss cause.0) same.read (cause.2 (same.is_known ∙ is_known))),
  )

  pub cause_kept : (fault : PageFault) → HasTagsCause mid new ms ss fault → HasTagsCause old new ns rs fault
  cause_kept Memory cause = tt
  cause_kept Disk cause = kept Disk cause
  cause_kept (Bad p fault) cause = kept (Bad p fault) cause
  cause_kept (Outside p) cause = kept (Outside p) cause
  cause_kept (Repeats p) cause = kept (Repeats p) cause
  cause_kept (Level p) cause = kept (Level p) cause

-- ---- counts

pub upto_once : (a b : ℕ) → b ≡ next_count a → CountsUpTo a b 1
upto_once a b is = (1, omega arith, is)

-- a count that has risen by `n` so far, where the rest may make it rise by `left`, together at most `most`
abbrev pub SoFar : ℕ → ℕ → ℕ → ℕ → Type 0
SoFar old now left most = (n : ℕ) × (n + left ≤ most) × (now ≡ count_up old n)

pub far_next : (old now new left most : ℕ) → SoFar old now (suc left) most → CountsUpTo now new 1 → SoFar old new left most
far_next old now new left most far one = (far.0 + one.0, omega (arith, far.1, one.1), one.2 ∙ ap (λ (u : ℕ). count_up u one.0) far.2 ∙ count_up_both old far.0 one.0)

pub far_ends : (old now left most : ℕ) → SoFar old now left most → CountsUpTo old now most
far_ends old now left most far = (far.0, omega (arith, far.1), far.2)

-- a record that is left costs one more than those behind it
pub one_left : (rs : List Record) (i : ℕ) → i < length rs → length (drop i rs) ≡ suc (length (drop (i + 1) rs))
one_left rs i low = length-drop i rs ∙ (let e : length rs - i ≡ suc (length rs - (i + 1)) = omega arith in e) ∙ ap suc (sym (length-drop (i + 1) rs))

pub far_taken : (rs : List Record) (i : ℕ) → i < length rs → (old now new most : ℕ) → SoFar old now (length (drop i rs)) most → CountsUpTo now new 1 → SoFar old new (length (drop (i + 1) rs)) most
far_taken rs i low old now new most far one = far_next old now new (length (drop (i + 1) rs)) most (subst (λ (n : ℕ). SoFar old now n most) (one_left rs i low) far) one

-- ---- results

pub if_ok : {A E : Type 0} {P Q : A → Type 0} (r : Result A E) → ((a : A) → P a → Q a) → IfOk r P → IfOk r Q
if_ok (Ok a) so holds = so a holds
if_ok (Err e) so holds = tt

pub if_err : {A E : Type 0} {P Q : E → Type 0} (r : Result A E) → ((e : E) → P e → Q e) → IfErr r P → IfErr r Q
if_err (Ok a) so holds = tt
if_err (Err e) so holds = so e holds
