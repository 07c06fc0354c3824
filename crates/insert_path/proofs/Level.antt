-- One level of a descent.
use Rattle.std.proofs.Common.{◌≡◌, ◌≢◌, ℕ, zero, suc, ◌-◌, ◌<◌, ◌≤◌, Bool, true, false, List, [], ◌∷◌, ◌++◌, refl, sym, ap, ◌∙◌, arith, length, map, subst, get_or, inl, inr}
use Rattle.std.specs.Prelude.{Option, Some, Ok, Err, IsTrue, ◌==◌, if◌then◌else◌, slice_index}
use Rattle.std.specs.List.{AllByRecursion}
use Rattle.std.proofs.lemmas.Bool.Decides.{nat_tests}
use Rattle.metric_laws.specs.Space.{Space, bound}
use Rattle.metric_laws.proofs.Published.{all_weaker}
use Rattle.tree_shape.specs.declared.entry.LeafEntry.{LeafEntry}
use Rattle.tree_shape.specs.declared.entry.InnerEntry.{InnerEntry}
use Rattle.tree_shape.specs.declared.entry.Node.{Node}
use Rattle.tree_shape.specs.declared.entry.Node.TheVariants.{Leaf, Inner}
use Rattle.tree_shape.specs.declared.filling.Bounds.{Bounds}
use Rattle.tree_shape.specs.Tree.{parent_distance}
use Rattle.tree_shape.specs.Plain.{Object}
use Rattle.tree_growth.specs.Dealing.{Ball}
use Rattle.tree_growth.specs.Insertion.{chosen}
use Rattle.tree_growth.proofs.Published.{get_map}
use Rattle.node_page.specs.Nodes.{IsValidNode}
use Rattle.promote_split.specs.declared.promoting.Policy.{Policy}
use Rattle.page_store.specs.declared.pages.PageFault.{PageFault}
use Rattle.page_store.specs.declared.pages.PageFault.TheVariants.{Disk, Bad, Outside, Memory, Repeats, Level}
use Rattle.page_store.specs.Reading.{Read, IsWithin, is_within}
use Rattle.page_store.specs.Shelf.{Shelf, IsNodeOf, HoldsSame, HasPageCause}
use Rattle.insert_path.specs.declared.grew.Grew.{Grew}
use Rattle.insert_path.specs.Walk.{inner_ball, chosen_child, walk_fault, leaf_fault, inner_fault}
use Rattle.insert_path.specs.Causes.{HasWalkCause}
use Rattle.insert_path.specs.Descent.{Plan, plan_of, leaf_ball, leaf_with, inner_with, new_entry, regrown, IsNear, IsSmall, IsStaged, Descends}

-- a page that gives no node is the walk's fault
pub fault_here : (s : Space) (read : Read) (p : List ℕ) (h page : ℕ) (f : PageFault) → read page ≡ Err f → walk_fault s read p h page ≡ Some f
fault_here s read p zero page f is = ap (leaf_fault page) is
fault_here s read p (suc h) page f is = ap (inner_fault (walk_fault s read p h) s p (suc h) page) is

pub cause_here : (s : Space) (p : List ℕ) (h page : ℕ) (old new : Shelf) (f : PageFault) → HasPageCause old new page f → HasWalkCause old new (walk_fault s old.read p h page) f
cause_here s p h page old new Disk cause = cause
cause_here s p h page old new (Bad q f) cause = λ is_known. fault_here s old.read p h page (Bad page f) (cause.2 is_known) ∙ ap (λ (n : ℕ). Some (Bad n f)) (sym cause.0)
cause_here s p h page old new (Outside q) cause = (ap (is_within old.pages) cause.0 ∙ cause.1, λ is_known. fault_here s old.read p h page (Outside page) (cause.2 is_known) ∙ ap (λ (n : ℕ). Some (Outside n)) (sym cause.0))
cause_here s p h page old new Memory cause = tt
cause_here s p h page old new (Repeats q) cause = absurd cause
cause_here s p h page old new (Level q) cause = absurd cause

-- a leaf above the bottom
pub leaf_high : (s : Space) (read : Read) (p : List ℕ) (h page : ℕ) (node : Node) (es : List LeafEntry) → h ≢ 0 → node ≡ Leaf es → read page ≡ Ok node → walk_fault s read p h page ≡ Some (Level page)
leaf_high s read p zero page node es high leaf is = absurd (high refl)
leaf_high s read p (suc h) page node es high leaf is = ap (inner_fault (walk_fault s read p h) s p (suc h) page) (is ∙ ap (λ (n : Node). Ok n) leaf)

-- an inner node of another level
pub inner_other : (s : Space) (read : Read) (p : List ℕ) (h page own : ℕ) (node : Node) (es : List InnerEntry) → own ≢ h → node ≡ Inner own es → read page ≡ Ok node → walk_fault s read p h page ≡ Some (Level page)
inner_other s read p zero page own node es other inner is = ap (leaf_fault page) (is ∙ ap (λ (n : Node). Ok n) inner)
inner_other s read p (suc h) page own node es other inner is =
    let no : (own == suc h) ≡ false = grind (arith, nat_tests) in
    ap (inner_fault (walk_fault s read p h) s p (suc h) page) (is ∙ ap (λ (n : Node). Ok n) inner)
    ∙ ap (λ (b : Bool). if b then walk_fault s read p h (chosen_child s p es) else Some (Level page)) no

pub child_page : (es : List InnerEntry) (i : ℕ) (c : InnerEntry) → i < length es → c ≡ get_or es i c → slice_index (map (λ e. e.child) es) i ≡ c.child
child_page es i c low is = get_map (λ (e : InnerEntry). e.child) es i c 0 low ∙ ap (λ (e : InnerEntry). e.child) (sym is)

-- an inner node of the level: the walk goes on
pub fault_below : (s t : Space) (read read' : Read) (p : List ℕ) (h k page own : ℕ) (node : Node) (es fs ds : List InnerEntry) (place : ℕ) (c : InnerEntry) → t ≡ s → read' ≡ read → h ≡ suc k → own ≡ h →
    node ≡ Inner own es → fs ≡ es → ds ≡ fs → place ≡ chosen s (map inner_ball ds) p → place < length ds → c ≡ get_or fs place c → read page ≡ Ok node →
    walk_fault s read p h page ≡ walk_fault t read' p k c.child
fault_below s t read read' p h k page own node es fs ds place c ts rr hk oh inner fe df chose low isc is =
    rw hk (ap (inner_fault (walk_fault s read p k) s p (suc k) page) (is ∙ ap (λ (n : Node). Ok n) inner)
    ∙ ap (λ (b : Bool). if b then walk_fault s read p k (chosen_child s p es) else Some (Level page)) yes
    ∙ ap (walk_fault s read p k) at
    ∙ ap (λ (x : Space). walk_fault x read p k c.child) (sym ts) ∙ ap (λ (r : Read). walk_fault t r p k c.child) (sym rr))
  where
    yes : (own == suc k) ≡ true
    yes = let e : own ≡ suc k = oh ∙ hk in grind (arith, nat_tests)

    de : ds ≡ es
    de = df ∙ fe

    at : chosen_child s p es ≡ c.child
    at = ap (slice_index (map (λ (e : InnerEntry). e.child) es)) (sym (chose ∙ ap (λ (xs : List InnerEntry). chosen s (map inner_ball xs) p) de))
        ∙ child_page es place c (subst (λ (xs : List InnerEntry). place < length xs) de low) (isc ∙ ap (λ (xs : List InnerEntry). get_or xs place c) fe)

pub cause_below : (old mid new : Shelf) (first first' : Option PageFault) (f : PageFault) → HoldsSame old mid → (IsTrue old.is_known → first ≡ first') → HasWalkCause mid new first' f → HasWalkCause old new first f
cause_below old mid new first first' Disk same is cause = let m = same.faults in omega (arith, cause, m)
cause_below old mid new first first' (Bad q f) same is cause = λ is_known. is is_known ∙ cause (subst IsTrue (sym same.is_known) is_known)
cause_below old mid new first first' (Outside q) same is cause = (ap (λ (n : ℕ). is_within n q) (sym same.pages) ∙ cause.0, λ is_known. is is_known ∙ cause.1 (subst IsTrue (sym same.is_known) is_known))
cause_below old mid new first first' Memory same is cause = tt
cause_below old mid new first first' (Repeats q) same is cause = cause
cause_below old mid new first first' (Level q) same is cause = λ is_known. is is_known ∙ cause (subst IsTrue (sym same.is_known) is_known)

-- no radius and no distance of a node that was read is above the bound
pub read_near : (dim own : ℕ) (node : Node) (es fs : List InnerEntry) → IsValidNode dim node → node ≡ Inner own es → fs ≡ es → AllByRecursion IsNear fs
read_near dim own node es fs valid inner is =
    rw is (all_weaker (λ (e : InnerEntry). (length e.point ≡ dim) × (e.radius ≤ bound) × (e.parent ≤ bound)) IsNear es (λ e h. (h.1, h.2)) (subst (IsValidNode dim) inner valid).4)

pub level_above : (dim own h : ℕ) (node : Node) (es : List InnerEntry) → IsValidNode dim node → node ≡ Inner own es → own ≡ h → h ≡ suc (h - 1)
level_above dim own h node es valid inner same = let l : 1 ≤ own = (subst (IsValidNode dim) inner valid).0 in omega arith

pub small_staged : {E : Type 0} (P : Plan) (ball : E → Ball) (set : E → ℕ → E) (make : List E → Node) (es : List E) (old new : List Node) (g : Grew) → IsStaged P ball set make es old new g → IsSmall g
small_staged P ball set make es old new g staged = elim staged [ inl w ↦ rw w.grew tt | inr h ↦ rw h.1.grew h.1.halves.within ]

pub small_descends : (P : Plan) (shelf : Shelf) (h page : ℕ) (above : Option (List ℕ)) (left0 : List ℕ) (old : List Node) (left1 : List ℕ) (new : List Node) (g : Grew) → Descends P shelf h page above left0 old left1 new g → IsSmall g
small_descends P shelf zero page above left0 old left1 new g d = small_staged P leaf_ball leaf_with Leaf (d.0 ++ new_entry P above ∷ []) old new g d.3
small_descends P shelf (suc h) page above left0 old left1 new g d = small_staged P inner_ball inner_with (Inner (suc h)) _ d.2 new g d.8

pub node_same : (a b : Shelf) (page : ℕ) (node : Node) → HoldsSame a b → IsNodeOf b page node → IsNodeOf a page node
node_same a b page node same is = record {
  within = subst (λ (n : ℕ). IsWithin n page) same.pages is.within;
  valid = subst (λ (d : ℕ). IsValidNode d node) same.dim is.valid;
  told = λ is_known. ap (λ (r : Read). r page) (sym same.read) ∙ is.told (subst IsTrue (sym same.is_known) is_known);
}

pub descends_same : (P : Plan) (a b : Shelf) (h page : ℕ) (above : Option (List ℕ)) (left0 : List ℕ) (old : List Node) (left1 : List ℕ) (new : List Node) (g : Grew) → HoldsSame a b →
    Descends P b h page above left0 old left1 new g → Descends P a h page above left0 old left1 new g
descends_same P a b zero page above left0 old left1 new g same d = (d.0, node_same a b page (Leaf d.0) same d.1, d.2, d.3, d.4)
descends_same P a b (suc h) page above left0 old left1 new g same d =
    (d.0, d.1, d.2, d.3, node_same a b page (Inner (suc h) d.0) same d.4, d.5, d.6, descends_same P a b h d.1.child (Some d.1.point) (left0 ++ page ∷ []) old left1 d.2 d.3 same d.7, d.8, d.9)

module _ (policy : Policy) (bounds : Bounds) (number : ℕ → ℕ) (o : Object) where
  abbrev pub by : Space → Plan
  by s = plan_of s policy bounds number o

  pub leaf_step : (s : Space) (a : Shelf) (h page : ℕ) (above : Option (List ℕ)) (node : Node) (es fs : List LeafEntry) (left0 left1 : List ℕ) (old new : List Node) (g : Grew) →
      h ≡ 0 → IsNodeOf a page node → node ≡ Leaf es → fs ≡ es → left1 ≡ left0 ++ page ∷ [] → IsStaged (by s) leaf_ball leaf_with Leaf (fs ++ new_entry (by s) above ∷ []) old new g → parent_distance s above o.point ≤ bound →
      Descends (by s) a h page above left0 old left1 new g
  leaf_step s a h page above node es fs left0 left1 old new g low is leaf fe left staged within =
      rw low (es, subst (IsNodeOf a page) leaf is, left, subst (λ (xs : List LeafEntry). IsStaged (by s) leaf_ball leaf_with Leaf (xs ++ new_entry (by s) above ∷ []) old new g) fe staged, within)

  pub inner_step : (s t u : Space) (a b : Shelf) (h k page own : ℕ) (above : Option (List ℕ)) (node : Node) (es fs ds : List InnerEntry) (place : ℕ) (c : InnerEntry) (left0 left1 left2 : List ℕ) (old mid new : List Node) (below g : Grew) →
      t ≡ s → u ≡ t → HoldsSame a b → h ≡ suc k → own ≡ h → IsNodeOf a page node → node ≡ Inner own es → fs ≡ es → ds ≡ fs → place ≡ chosen s (map inner_ball ds) o.point → place < length ds → c ≡ get_or fs place c →
      left1 ≡ left0 ++ page ∷ [] → (q : List ℕ) → q ≡ c.point → Descends (by t) b k c.child (Some q) left1 old left2 mid below →
      IsStaged (by u) inner_ball inner_with (Inner h) (regrown (u.dist o.point) (parent_distance u above) place below fs) mid new g →
      AllByRecursion IsNear (regrown (u.dist o.point) (parent_distance u above) place below fs) →
      Descends (by s) a h page above left0 old left2 new g
  inner_step s t u a b h k page own above node es fs ds place c left0 left1 left2 old mid new below g ts ut same hk oh is inner fe df chose low isc left q at_q deep staged near =
      subst (λ (n : ℕ). Descends (by s) a n page above left0 old left2 new g) (sym hk) (
        es,
        c,
        mid,
        below,
        subst (IsNodeOf a page) (inner ∙ ap (λ (n : ℕ). Inner n es) (oh ∙ hk)) is,
        subst (λ (i : ℕ). i < length es) at (subst (λ (xs : List InnerEntry). place < length xs) de low),
        subst (λ (i : ℕ). c ≡ get_or es i c) at (isc ∙ ap (λ (xs : List InnerEntry). get_or xs place c) fe),
        descends_same (by s) a b k c.child (Some c.point) (left0 ++ page ∷ []) old left2 mid below same
            (subst (λ (x : Space). Descends (by x) b k c.child (Some c.point) (left0 ++ page ∷ []) old left2 mid below) ts
            (subst (λ (ls : List ℕ). Descends (by t) b k c.child (Some c.point) ls old left2 mid below) left
            (subst (λ (r : List ℕ). Descends (by t) b k c.child (Some r) left1 old left2 mid below) at_q deep))),
        subst (λ (i : ℕ). IsStaged (by s) inner_ball inner_with (Inner (suc k)) (regrown (s.dist o.point) (parent_distance s above) i below es) mid new g) at
            (subst (λ (n : ℕ). IsStaged (by s) inner_ball inner_with (Inner n) (regrown (s.dist o.point) (parent_distance s above) place below es) mid new g) hk
            (subst (λ (xs : List InnerEntry). IsStaged (by s) inner_ball inner_with (Inner h) (regrown (s.dist o.point) (parent_distance s above) place below xs) mid new g) fe
            (subst (λ (x : Space). IsStaged (by x) inner_ball inner_with (Inner h) (regrown (x.dist o.point) (parent_distance x above) place below fs) mid new g) (ut ∙ ts) staged))),
        subst (λ (i : ℕ). AllByRecursion IsNear (regrown (s.dist o.point) (parent_distance s above) i below es)) at
            (subst (λ (xs : List InnerEntry). AllByRecursion IsNear (regrown (s.dist o.point) (parent_distance s above) place below xs)) fe
            (subst (λ (x : Space). AllByRecursion IsNear (regrown (x.dist o.point) (parent_distance x above) place below fs)) (ut ∙ ts) near)),
      )
    where
      de : ds ≡ es
      de = df ∙ fe

      at : place ≡ chosen s (map inner_ball es) o.point
      at = chose ∙ ap (λ (xs : List InnerEntry). chosen s (map inner_ball xs) o.point) de
