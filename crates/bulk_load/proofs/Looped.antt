-- One group after another: what is added for a set.
use Rattle.std.proofs.Common.{◌≡◌, ◌≢◌, ℕ, zero, suc, ◌+◌, ◌-◌, ◌≤◌, Bool, List, [], ◌∷◌, ◌++◌, refl, sym, ap, ◌∙◌, arith, length, subst, length-append, append_assoc, append-nil}
use Rattle.std.specs.Prelude.{Option, Some}
use Rattle.std.specs.List.{AllByRecursion}
use Rattle.metric_laws.specs.Space.{IsSpace}
use Rattle.tree_shape.specs.declared.entry.InnerEntry.{InnerEntry}
use Rattle.tree_shape.specs.declared.entry.Node.{Node}
use Rattle.tree_shape.specs.declared.entry.Node.TheVariants.{Inner}
use Rattle.tree_growth.specs.declared.rules.Group.{Group}
use Rattle.tree_growth.specs.Bulk.{Load, groups_at}
use Rattle.bulk_load.specs.Sets.{IsValidLoad, IsSetFor, IsGroupFor}
use Rattle.bulk_load.specs.Postorder.{is_top, group_entry, last_of, below_groups, group_entries, nodes_at}
use Rattle.bulk_load.proofs.Suited.{groups_fit}

-- the nodes of a group, whose node is a level lower
abbrev pub group_nodes : Load → (ℕ → ℕ) → ℕ → Group → ℕ → List Node
group_nodes l number level g j = nodes_at l number (level - 1) (Some g.seed) g.members j

abbrev pub below_set : Load → (ℕ → ℕ) → ℕ → Option ℕ → List ℕ → ℕ → List Node
below_set l number level seed set i = below_groups (group_nodes l number level) i (groups_at l (is_top seed) level set)

abbrev pub entries_of_set : Load → (ℕ → ℕ) → ℕ → Option ℕ → List ℕ → ℕ → List InnerEntry
entries_of_set l number level seed set i = group_entries l number seed (group_nodes l number level) i (groups_at l (is_top seed) level set)

-- what is added so far, with what the groups that are left add, is what the set adds
pub record Loops (l : Load) (number : ℕ → ℕ) (level : ℕ) (seed : Option ℕ) (set : List ℕ) (old now : List Node) (made : List InnerEntry) (rest : List Group) : Type 0 where
  pub nodes : now ++ below_groups (group_nodes l number level) (length now) rest ≡ old ++ below_set l number level seed set (length old)
  pub entries : made ++ group_entries l number seed (group_nodes l number level) (length now) rest ≡ entries_of_set l number level seed set (length old)
  pub good : AllByRecursion (IsGroupFor l (level - 1)) rest

-- the nodes of a set above level 0
pub opened : (l : Load) (number : ℕ → ℕ) (level : ℕ) (seed : Option ℕ) (set : List ℕ) (i : ℕ) → level ≢ 0 →
    nodes_at l number level seed set i ≡ below_set l number level seed set i ++ Inner level (entries_of_set l number level seed set i) ∷ []
opened l number zero seed set i high = absurd (high refl)
opened l number (suc h) seed set i high =
    ap (λ (k : ℕ). below_groups (λ (g : Group) (j : ℕ). nodes_at l number k (Some g.seed) g.members j) i (groups_at l (is_top seed) (suc h) set)
    ++ Inner (suc h) (group_entries l number seed (λ (g : Group) (j : ℕ). nodes_at l number k (Some g.seed) g.members j) i (groups_at l (is_top seed) (suc h) set)) ∷ [])
    (let e : h ≡ suc h - 1 = omega arith in e)

pub groups_good : (l : Load) → IsSpace l.space → IsValidLoad l → (level : ℕ) (seed : Option ℕ) (set : List ℕ) → level ≢ 0 → IsSetFor l (is_top seed) level set →
    AllByRecursion (IsGroupFor l (level - 1)) (groups_at l (is_top seed) level set)
groups_good l space valid zero seed set high k = absurd (high refl)
groups_good l space valid (suc h) seed set high k =
    subst (λ (x : ℕ). AllByRecursion (IsGroupFor l x) (groups_at l (is_top seed) (suc h) set)) (let e : h ≡ suc h - 1 = omega arith in e) (groups_fit l space valid (is_top seed) h set k).each

pub begun : (l : Load) (number : ℕ → ℕ) (level : ℕ) (seed : Option ℕ) (set : List ℕ) (old : List Node) (made : List InnerEntry) (is_root : Bool) (rest : List Group) →
    IsSpace l.space → IsValidLoad l → level ≢ 0 → IsSetFor l (is_top seed) level set → made ≡ [] → is_root ≡ is_top seed → rest ≡ groups_at l is_root level set →
    Loops l number level seed set old old made rest
begun l number level seed set old made is_root rest space valid high k none root is =
    let same : rest ≡ groups_at l (is_top seed) level set = is ∙ ap (λ (b : Bool). groups_at l b level set) root in
    record {
      nodes = ap (λ (gs : List Group). old ++ below_groups (group_nodes l number level) (length old) gs) same;
      entries = ap (λ (es : List InnerEntry). es ++ group_entries l number seed (group_nodes l number level) (length old) rest) none ∙ ap (group_entries l number seed (group_nodes l number level) (length old)) same;
      good = subst (AllByRecursion (IsGroupFor l (level - 1))) (sym same) (groups_good l space valid level seed set high k);
    }

-- no group adds more than the set
pub within : (l : Load) (number : ℕ → ℕ) (level : ℕ) (seed : Option ℕ) (set ms : List ℕ) (old now : List Node) (made : List InnerEntry) (rest more : List Group) (g : Group) (most : ℕ) →
    level ≢ 0 → Loops l number level seed set old now made rest → rest ≡ g ∷ more → ms ≡ g.members → length old + length (nodes_at l number level seed set (length old)) ≤ most →
    length now + length (nodes_at l number (level - 1) (Some g.seed) ms (length now)) ≤ most
within l number level seed set ms old now made rest more g most high loops is same few =
    let a = ap length (opened l number level seed set (length old) high) ∙ length-append (below_set l number level seed set (length old)) (Inner level (entries_of_set l number level seed set (length old)) ∷ []) in
    let b = ap length loops.nodes ∙ length-append old (below_set l number level seed set (length old)) in
    let c = length-append now (below_groups (group_nodes l number level) (length now) rest) in
    let d = ap (λ (gs : List Group). length (below_groups (group_nodes l number level) (length now) gs)) is
    ∙ length-append (group_nodes l number level g (length now)) (below_groups (group_nodes l number level) (length now + length (group_nodes l number level g (length now))) more) in
    let e = ap (λ (ks : List ℕ). length (nodes_at l number (level - 1) (Some g.seed) ks (length now))) same in
    omega (arith, a, b, c, d, e, few)

pub went : (l : Load) (number : ℕ → ℕ) (level : ℕ) (seed : Option ℕ) (set ms : List ℕ) (old now next : List Node) (made more_made : List InnerEntry) (rest more : List Group) (g : Group) (page : ℕ) (entry : InnerEntry) →
    Loops l number level seed set old now made rest → rest ≡ g ∷ more → ms ≡ g.members →
    next ≡ now ++ nodes_at l number (level - 1) (Some g.seed) ms (length now) → page ≡ last_of number (length now) (nodes_at l number (level - 1) (Some g.seed) ms (length now)) →
    entry ≡ group_entry l seed g page → more_made ≡ made ++ entry ∷ [] → Loops l number level seed set old next more_made more
went l number level seed set ms old now next made more_made rest more g page entry loops is same nodes at entry_is grown =
    let own : next ≡ now ++ group_nodes l number level g (length now) = nodes ∙ ap (λ (ks : List ℕ). now ++ nodes_at l number (level - 1) (Some g.seed) ks (length now)) same in
    let long : length next ≡ length now + length (group_nodes l number level g (length now)) = ap length own ∙ length-append now (group_nodes l number level g (length now)) in
    let here : page ≡ last_of number (length now) (group_nodes l number level g (length now)) = at ∙ ap (λ (ks : List ℕ). last_of number (length now) (nodes_at l number (level - 1) (Some g.seed) ks (length now))) same in
    record {
      nodes = ap (λ (k : ℕ). next ++ below_groups (group_nodes l number level) k more) long
          ∙ ap (λ (ns : List Node). ns ++ below_groups (group_nodes l number level) (length now + length (group_nodes l number level g (length now))) more) own
          ∙ append_assoc now (group_nodes l number level g (length now)) (below_groups (group_nodes l number level) (length now + length (group_nodes l number level g (length now))) more)
          ∙ ap (λ (gs : List Group). now ++ below_groups (group_nodes l number level) (length now) gs) (sym is) ∙ loops.nodes;
      entries = ap (λ (k : ℕ). more_made ++ group_entries l number seed (group_nodes l number level) k more) long
          ∙ ap (λ (es : List InnerEntry). es ++ group_entries l number seed (group_nodes l number level) (length now + length (group_nodes l number level g (length now))) more)
          (grown ∙ ap (λ (e : InnerEntry). made ++ e ∷ []) (entry_is ∙ ap (group_entry l seed g) here))
          ∙ append_assoc made (group_entry l seed g (last_of number (length now) (group_nodes l number level g (length now))) ∷ [])
          (group_entries l number seed (group_nodes l number level) (length now + length (group_nodes l number level g (length now))) more)
          ∙ ap (λ (gs : List Group). made ++ group_entries l number seed (group_nodes l number level) (length now) gs) (sym is) ∙ loops.entries;
      good = (subst (AllByRecursion (IsGroupFor l (level - 1))) is loops.good).1;
    }

-- after the last group
pub all_below : (l : Load) (number : ℕ → ℕ) (level : ℕ) (seed : Option ℕ) (set : List ℕ) (old now : List Node) (made : List InnerEntry) (rest : List Group) → Loops l number level seed set old now made rest → rest ≡ [] →
    (now ≡ old ++ below_set l number level seed set (length old)) × (made ≡ entries_of_set l number level seed set (length old))
all_below l number level seed set old now made rest loops is = (
  sym (append-nil now) ∙ ap (λ (gs : List Group). now ++ below_groups (group_nodes l number level) (length now) gs) (sym is) ∙ loops.nodes,
  sym (append-nil made) ∙ ap (λ (gs : List Group). made ++ group_entries l number seed (group_nodes l number level) (length now) gs) (sym is) ∙ loops.entries,
)

-- there is room for one more
pub room_left : (l : Load) (number : ℕ → ℕ) (level : ℕ) (seed : Option ℕ) (set : List ℕ) (old now : List Node) (made : List InnerEntry) (rest : List Group) (most : ℕ) → level ≢ 0 →
    Loops l number level seed set old now made rest → rest ≡ [] → length old + length (nodes_at l number level seed set (length old)) ≤ most → length now + 1 ≤ most
room_left l number level seed set old now made rest most high loops is few =
    let a = ap length (opened l number level seed set (length old) high) ∙ length-append (below_set l number level seed set (length old)) (Inner level (entries_of_set l number level seed set (length old)) ∷ []) in
    let b = ap length (all_below l number level seed set old now made rest loops is).0 ∙ length-append old (below_set l number level seed set (length old)) in
    omega (arith, a, b, few)

-- the set's own node is the last
pub ended : (l : Load) (number : ℕ → ℕ) (level : ℕ) (seed : Option ℕ) (set : List ℕ) (old now new : List Node) (made entries : List InnerEntry) (rest : List Group) (page : ℕ) → level ≢ 0 →
    Loops l number level seed set old now made rest → rest ≡ [] → entries ≡ made → page ≡ number (length now) → new ≡ now ++ Inner level entries ∷ [] →
    (page ≡ last_of number (length old) (nodes_at l number level seed set (length old))) × (new ≡ old ++ nodes_at l number level seed set (length old))
ended l number level seed set old now new made entries rest page high loops is same at grown =
    let all = all_below l number level seed set old now made rest loops is in
    let open_set = opened l number level seed set (length old) high in
    let a = ap length open_set ∙ length-append (below_set l number level seed set (length old)) (Inner level (entries_of_set l number level seed set (length old)) ∷ []) in
    let b = ap length all.0 ∙ length-append old (below_set l number level seed set (length old)) in (
      at ∙ ap number (let e : length now ≡ length old + length (nodes_at l number level seed set (length old)) - 1 = omega (arith, a, b) in e),
      grown ∙ ap (λ (es : List InnerEntry). now ++ Inner level es ∷ []) (same ∙ all.1) ∙ ap (λ (ns : List Node). ns ++ Inner level (entries_of_set l number level seed set (length old)) ∷ []) all.0
          ∙ append_assoc old (below_set l number level seed set (length old)) (Inner level (entries_of_set l number level seed set (length old)) ∷ [])
          ∙ ap (λ (ns : List Node). old ++ ns) (sym open_set),
    )
