-- The walk by child numbers has one course.
use Rattle.std.proofs.Common.{◌≡◌, ℕ, ◌<◌, List, [], ◌∷◌, ◌++◌, sym, ◌∙◌, subst, Some, arith, length}
use Rattle.tree_shape.specs.declared.entry.Node.{Node}
use Rattle.tree_shape.specs.Tree.{Nodes}
use Rattle.page_store.specs.Tours.{children, Tours}
use Rattle.page_store.specs.Laws.{TourHasOneCourse}

pub same_some : (nodes : Nodes) (page : ℕ) (one other : Node) → nodes page ≡ Some one → nodes page ≡ Some other → one ≡ other
same_some nodes page one other is also = let e : Some one ≡ Some other = sym is ∙ also in cc

module _ (nodes : Nodes) where
  -- two walks that opened as many pages have the same still to open
  same_left : (ps os os' left left' : List ℕ) → Tours nodes ps os left → Tours nodes ps os' left' → length os ≡ length os' → left ≡ left'
  same_left ps [] [] left left' walk walk' long = walk ∙ sym walk'
  same_left ps [] (o ∷ os') left left' walk walk' long = absurd (omega arith)
  same_left ps (o ∷ os) [] left left' walk walk' long = absurd (omega arith)
  same_left [] (o ∷ os) (o' ∷ os') left left' walk walk' long = absurd walk
  same_left (p ∷ ps) (o ∷ os) (o' ∷ os') left left' walk walk' long =
      let node = same_some nodes p walk'.0 walk.0 walk'.1 walk.1 in
      same_left (children walk.0 ++ ps) os os' left left' walk.3 (subst (λ (m : Node). Tours nodes (children m ++ ps) os' left') node walk'.3) (omega (arith, long))

  -- a walk on its way opened fewer pages than the whole one, which opens the next
  inside : (ps os all : List ℕ) (p : ℕ) (rest : List ℕ) → Tours nodes ps os (p ∷ rest) → Tours nodes ps all [] → (length os < length all) × ((node : Node) × (nodes p ≡ Some node))
  inside [] [] all p rest walk whole = absurd (let e : ◌≡◌ {A = List ℕ} (p ∷ rest) [] = walk in cc)
  inside (q ∷ qs) [] [] p rest walk whole = absurd (let e : ◌≡◌ {A = List ℕ} [] (q ∷ qs) = whole in cc)
  inside (q ∷ qs) [] (a ∷ all) p rest walk whole =
      let first : q ≡ p = cc (walk) in
      (omega arith, (whole.0, subst (λ (k : ℕ). nodes k ≡ Some whole.0) first whole.1))
  inside [] (o ∷ os) all p rest walk whole = absurd walk
  inside (q ∷ qs) (o ∷ os) [] p rest walk whole = absurd (let e : ◌≡◌ {A = List ℕ} [] (q ∷ qs) = whole in cc)
  inside (q ∷ qs) (o ∷ os) (a ∷ all) p rest walk whole =
      let node = same_some nodes q whole.0 walk.0 whole.1 walk.1 in
      let deep = inside (children walk.0 ++ qs) os all p rest walk.3 (subst (λ (m : Node). Tours nodes (children m ++ qs) all []) node whole.3) in
      (omega (arith, deep.0), deep.1)

pub one_course : TourHasOneCourse
one_course nodes root opened page named = (
  λ other also.
      let same = same_left nodes (root ∷ []) named.before also.before (page ∷ named.rest) (other ∷ also.rest) named.walk also.walk (named.count ∙ sym also.count) in
      cc (same),
  λ most whole.
      let found = inside nodes (root ∷ []) named.before whole.pages page named.rest named.walk whole.walk in
      let count = named.count in
      let few = whole.few in
      (omega (arith, found.0, count, few), found.1),
)
