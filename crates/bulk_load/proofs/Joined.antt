-- The parts that workers made of a set's groups, joined one after another.
use Rattle.std.proofs.Common.{◌≡◌, ◌≢◌, ℕ, ◌+◌, ◌-◌, ◌≤◌, List, [], ◌∷◌, ◌++◌, Option, Some, refl, sym, ap, ◌∙◌, arith, length, length-append, drop, map, subst, Result, Ok}
use Rattle.std.specs.List.{AllByRecursion}
use Rattle.std.specs.declared.alloc.AllocError.{AllocError}
use Rattle.std.proofs.lemmas.List.{drop-drop}
use Rattle.metric_laws.proofs.Published.{length_map}
use Rattle.tree_shape.specs.declared.entry.InnerEntry.{InnerEntry}
use Rattle.tree_shape.specs.declared.entry.Node.{Node}
use Rattle.tree_growth.specs.declared.rules.Group.{Group}
use Rattle.tree_growth.specs.Bulk.{Load}
use Rattle.bulk_load.specs.declared.sharing.Made.{Made}
use Rattle.bulk_load.specs.Postorder.{group_entry, last_of, nodes_at}
use Rattle.bulk_load.specs.Apart.{apart, node_to, AreChildrenBelow, IsMadeOf, AreMadeOf}
use Rattle.bulk_load.proofs.Looped.{Loops, within, went}
use Rattle.bulk_load.proofs.Moved.{nodes_from, nodes_low}

-- what was made, of the groups and the parts by other names
pub made_of_all : (l : Load) (seed : Option ℕ) (h : ℕ) (xs gs : List Group) (ps rest : List (Result Made AllocError)) → xs ≡ gs → rest ≡ ps → AreMadeOf l seed h xs ps → AreMadeOf l seed h gs rest
made_of_all l seed h xs gs ps rest same is are = subst (λ (x : List Group). AreMadeOf l seed h x rest) same (subst (AreMadeOf l seed h xs) (sym is) are)

-- the first of the parts is that of the first group
pub record First (l : Load) (seed : Option ℕ) (h : ℕ) (gs : List Group) (part : Made) (more : List (Result Made AllocError)) : Type 0 where
  pub group : Group
  pub rest : List Group
  pub is : gs ≡ group ∷ rest
  pub made : IsMadeOf l seed h group part
  pub left : AreMadeOf l seed h rest more

first_of : (l : Load) (seed : Option ℕ) (h : ℕ) (gs : List Group) (parts more : List (Result Made AllocError)) (part : Made) → AreMadeOf l seed h gs parts → parts ≡ Ok part ∷ more → First l seed h gs part more
first_of l seed h [] parts more part are is = absurd (subst (AreMadeOf l seed h []) is are)
first_of l seed h (g ∷ gs) parts more part are is =
    let a = subst (AreMadeOf l seed h (g ∷ gs)) is are in record { group = g; rest = gs; is = refl; made = a.0; left = a.1 }

-- the entries so far are those of the first groups, and the parts that are left those of the others
pub record Joins (l : Load) (number : ℕ → ℕ) (level : ℕ) (seed : Option ℕ) (set : List ℕ) (old now : List Node) (made : List InnerEntry) (gs : List Group) (parts : List (Result Made AllocError)) : Type 0 where
  pub loops : Loops l number level seed set old now made (drop (length made) gs)
  pub left : AreMadeOf l seed (level - 1) (drop (length made) gs) parts

module _ (l : Load) (number : ℕ → ℕ) (level : ℕ) (seed : Option ℕ) (set : List ℕ) (old now : List Node) (made : List InnerEntry) (gs : List Group) (parts : List (Result Made AllocError)) where
  pub joins_first : Loops l number level seed set old now made gs → made ≡ [] → AreMadeOf l seed (level - 1) gs parts → Joins l number level seed set old now made gs parts
  joins_first loops none are =
      let all : drop (length made) gs ≡ gs = ap (λ (es : List InnerEntry). drop (length es) gs) none in
      record { loops = subst (Loops l number level seed set old now made) (sym all) loops; left = subst (λ (x : List Group). AreMadeOf l seed (level - 1) x parts) (sym all) are }

  -- nothing is left
  pub joins_all : Joins l number level seed set old now made gs parts → parts ≡ [] → drop (length made) gs ≡ []
  joins_all j none = go (drop (length made) gs) (subst (AreMadeOf l seed (level - 1) (drop (length made) gs)) none j.left)
    where
      go : (rest : List Group) → AreMadeOf l seed (level - 1) rest [] → rest ≡ []
      go [] are = refl
      go (g ∷ rest) are = absurd are

  module _ (part : Made) (more : List (Result Made AllocError)) (j : Joins l number level seed set old now made gs parts) (is : parts ≡ Ok part ∷ more) where
    next : First l seed (level - 1) (drop (length made) gs) part more
    next = first_of l seed (level - 1) (drop (length made) gs) parts more part j.left is

    -- the part's nodes among all nodes
    own : map (node_to (λ i. number (length now + i))) part.nodes.items ≡ nodes_at l number (level - 1) (Some next.group.seed) next.group.members (length now)
    own =
        ap (map (node_to (λ i. number (length now + i)))) next.made.nodes
        ∙ sym (nodes_from l number (length now) (level - 1) (Some next.group.seed) next.group.members)

    long : length part.nodes.items ≡ length (nodes_at l number (level - 1) (Some next.group.seed) next.group.members (length now))
    long = sym (length_map (node_to (λ i. number (length now + i))) part.nodes.items) ∙ ap length own

    pub joins_few : (most : ℕ) → level ≢ 0 → length old + length (nodes_at l number level seed set (length old)) ≤ most → length now + length part.nodes.items ≤ most
    joins_few most high few =
        let w = within l number level seed set next.group.members old now made (drop (length made) gs) next.rest next.group most high j.loops next.is refl few in
        let e = long in omega (arith, w, e)

    pub joins_low : AllByRecursion (AreChildrenBelow (length part.nodes.items)) part.nodes.items
    joins_low =
        subst (λ (ns : List Node). AllByRecursion (AreChildrenBelow (length ns)) ns) (sym next.made.nodes)
        (subst (λ (n : ℕ). AllByRecursion (AreChildrenBelow n) (nodes_at l apart (level - 1) (Some next.group.seed) next.group.members 0))
        (let e : 0 + length (nodes_at l apart (level - 1) (Some next.group.seed) next.group.members 0) ≡ length (nodes_at l apart (level - 1) (Some next.group.seed) next.group.members 0) = omega arith in e)
        (nodes_low l (level - 1) (Some next.group.seed) next.group.members 0))

    pub joins_next : (then : List Node) (page : ℕ) (entry : InnerEntry) (more_made : List InnerEntry) → then ≡ now ++ map (node_to (λ i. number (length now + i))) part.nodes.items →
        page ≡ number (length now + length part.nodes.items - 1) → entry ≡ record { child = page; radius = part.entry.radius; parent = part.entry.parent; point = part.entry.point } → more_made ≡ made ++ entry ∷ [] →
        Joins l number level seed set old then more_made gs more
    joins_next then page entry more_made grown at entry_is made_is =
        let here : entry ≡ group_entry l seed next.group page =
        entry_is ∙ ap (λ (e : InnerEntry). record { child = page; radius = e.radius; parent = e.parent; point = e.point }) next.made.entry in
        let last : page ≡ last_of number (length now) (nodes_at l number (level - 1) (Some next.group.seed) next.group.members (length now)) =
        at ∙ ap (λ (n : ℕ). number (length now + n - 1)) long in
        let loops = went l number level seed set next.group.members old now then made more_made (drop (length made) gs) next.rest next.group page entry j.loops next.is refl (grown ∙ ap (λ (ns : List Node). now ++ ns) own) last here made_is in
        let rest : next.rest ≡ drop (length more_made) gs =
        ap (drop 1) (sym next.is) ∙ drop-drop 1 (length made) gs ∙ ap (λ (k : ℕ). drop k gs) (sym (ap length made_is ∙ length-append made (entry ∷ []))) in
        record { loops = subst (Loops l number level seed set old then more_made) rest loops; left = subst (λ (x : List Group). AreMadeOf l seed (level - 1) x more) rest next.left }
