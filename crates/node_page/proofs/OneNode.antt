-- A node has one page.
use Rattle.std.proofs.Common.{◌≡◌, inl, inr, ℕ, zero, suc, ◌+◌, ◌*◌, ◌<◌, ◌≤◌, Bool, true, false, List, length, slice_index, get_or, refl, sym, ◌∙◌, ap, arith}
use Rattle.std.proofs.lemmas.Bool.{cases_lt}
use Rattle.std.proofs.lemmas.List.{ext_get_or}
use Rattle.tree_shape.specs.declared.entry.LeafEntry.{LeafEntry}
use Rattle.tree_shape.specs.declared.entry.InnerEntry.{InnerEntry}
use Rattle.tree_shape.specs.declared.entry.Node.{Node}
use Rattle.tree_shape.specs.declared.entry.Node.TheVariants.{Leaf, Inner}
use Rattle.node_page.specs.declared.node.Version.{Version}
use Rattle.node_page.specs.declared.node.Version.TheVariants.{First, Second}
use Rattle.node_page.specs.Bytes.{number_at}
use Rattle.node_page.specs.Nodes.{firsts, point_at, parent_place, leaf_in, inner_at, place_in, place_of, count_of, HasCount, SpellsIn}
use Rattle.node_page.specs.Laws.{IsPage}
use Rattle.node_page.proofs.Listing.{place-firsts}
use Rattle.node_page.proofs.OneSpelling.{number_same}

-- these bytes of two pages are the same
abbrev AreSame : List ℕ → List ℕ → ℕ → ℕ → Type 0
AreSame one other from to = (k : ℕ) → from ≤ k → k < to → slice_index one k ≡ slice_index other k

-- of pieces of one length that follow one another, each is the same
pieces_same : (one other : List ℕ) (start size n : ℕ) → ((i : ℕ) → i < n → AreSame one other (start + size * i) (start + size * i + size)) → AreSame one other start (start + size * n)
pieces_same one other start size zero each k from to = absurd (let e : ⊥ = omega arith in e)
pieces_same one other start size (suc n) each k from to = elim (cases_lt k (start + size * n)) [
  | inl below ↦ pieces_same one other start size n (λ i lt. each i (omega arith)) k from below
  | inr above ↦ each n (omega arith) k above (omega arith)
]

-- lists of equal numbers have equal numbers at each place
firsts_same : {E : Type 0} (f g : ℕ → E) (n i : ℕ) → firsts f n ≡ firsts g n → i < n → f i ≡ g i
firsts_same f g n i is below = sym (place-firsts f n i (f i) below) ∙ ap (λ es. get_or es i (f i)) is ∙ place-firsts g n i (f i) below

-- a point has one spelling
point_same : (dim at : ℕ) (one other : List ℕ) → IsPage one → IsPage other → point_at dim one at ≡ point_at dim other at → AreSame one other at (at + 4 * dim)
point_same dim at one other o q is = pieces_same one other at 4 dim (λ i below.
    number_same (at + 4 * i) 4 one other o.each q.each (firsts_same (λ j. number_at (at + 4 * j) 4 one) (λ j. number_at (at + 4 * j) 4 other) dim i is below))

-- the bytes of an entry are the same: its number, what stands between, its parent distance and its point
entry_same : (dim at between : ℕ) (one other : List ℕ) → IsPage one → IsPage other → number_at at 4 one ≡ number_at at 4 other
    → AreSame one other (at + 4) (at + between) → number_at (at + between) 8 one ≡ number_at (at + between) 8 other
    → point_at dim one (at + (between + 8)) ≡ point_at dim other (at + (between + 8)) → AreSame one other at (at + (between + 8 + 4 * dim))
entry_same dim at between one other o q number middle parent point k from to = elim (cases_lt k (at + 4)) [
  | inl below ↦ number_same at 4 one other o.each q.each number k from below
  | inr above ↦ (elim (cases_lt k (at + between)) [
    | inl below ↦ middle k above below
    | inr behind ↦ (elim (cases_lt k (at + between + 8)) [
      | inl below ↦ number_same (at + between) 8 one other o.each q.each parent k behind below
      | inr last ↦ point_same dim (at + (between + 8)) one other o q point k (omega arith) (omega arith)
    ])
  ])
]

leaf_same : (version : Version) (dim at : ℕ) (one other : List ℕ) → IsPage one → IsPage other → leaf_in version dim one at ≡ leaf_in version dim other at
    → AreSame one other at (at + (parent_place version true + 8 + 4 * dim))
unfolding leaf_in
leaf_same First dim at one other o q is =
    entry_same dim at 4 one other o q (ap (λ (e : LeafEntry). e.id) is) (λ k from to. absurd (let e : ⊥ = omega arith in e)) (ap (λ (e : LeafEntry). e.parent) is) (ap (λ (e : LeafEntry). e.point) is)
leaf_same Second dim at one other o q is =
    entry_same dim at 12 one other o q (ap (λ (e : LeafEntry). e.id) is)
    (λ k from to. number_same (at + 4) 8 one other o.each q.each (ap (λ (e : LeafEntry). e.tag) is) k from (omega arith)) (ap (λ (e : LeafEntry). e.parent) is) (ap (λ (e : LeafEntry). e.point) is)

inner_same : (dim at : ℕ) (one other : List ℕ) → IsPage one → IsPage other → inner_at dim one at ≡ inner_at dim other at → AreSame one other at (at + (20 + 4 * dim))
unfolding inner_at
inner_same dim at one other o q is k from to =
    entry_same dim at 12 one other o q (ap (λ (e : InnerEntry). e.child) is)
    (λ k from to. number_same (at + 4) 8 one other o.each q.each (ap (λ (e : InnerEntry). e.radius) is) k from (omega arith)) (ap (λ (e : InnerEntry). e.parent) is) (ap (λ (e : InnerEntry). e.point) is)
    k from (omega arith)

-- pages with one level and as many entries, each with one spelling, are one page
page_same : (leaf : Bool) (version : Version) (dim count : ℕ) (one other : List ℕ) → IsPage one → IsPage other → slice_index one 0 ≡ slice_index other 0
    → HasCount version leaf dim one count → HasCount version leaf dim other count → AreSame one other 16 (place_in version leaf dim count) → one ≡ other
unfolding count_of
page_same leaf version dim count one other o q level a b entries = ext_get_or 0 one other (o.size ∙ sym q.size) same
  where
    same : (k : ℕ) → k < length one → slice_index one k ≡ slice_index other k
    same k below = elim (cases_lt k 1) [
      | inl first ↦ (let e : k ≡ 0 = omega arith in rw e level)
      | inr from1 ↦ (elim (cases_lt k 2) [
        | inl below2 ↦ a.first k from1 below2 ∙ sym (b.first k from1 below2)
        | inr from2 ↦ (elim (cases_lt k 4) [
          | inl below4 ↦ number_same 2 2 one other o.each q.each (a.told ∙ sym b.told) k from2 below4
          | inr from4 ↦ (elim (cases_lt k 16) [
            | inl below16 ↦ a.between k from4 below16 ∙ sym (b.between k from4 below16)
            | inr from16 ↦ (elim (cases_lt k (place_in version leaf dim count)) [
              | inl inside ↦ entries k from16 inside
              | inr behind ↦ a.behind k behind (omega (arith, o.size, below)) ∙ sym (b.behind k behind (omega (arith, o.size, below)))
            ])
          ])
        ])
      ])
    ]

-- an inner entry is as long in both versions
inner_size : (version : Version) (dim count : ℕ) → place_in version false dim count ≡ 16 + (20 + 4 * dim) * count
inner_size First dim count = refl
inner_size Second dim count = refl

-- a node has one page
pub one_node : (version : Version) (dim : ℕ) (one other : List ℕ) (node : Node) → IsPage one → IsPage other → SpellsIn version dim one node → SpellsIn version dim other node → one ≡ other
one_node version dim one other (Leaf es) o q (level, has, are, near) (level2, has2, are2, near2) =
    page_same true version dim (length es) one other o q (level ∙ sym level2) has has2
    (pieces_same one other 16 (parent_place version true + 8 + 4 * dim) (length es) (λ i below k from to. leaf_same version dim (place_in version true dim i) one other o q
    (firsts_same (λ i. leaf_in version dim one (place_in version true dim i)) (λ i. leaf_in version dim other (place_in version true dim i)) (length es) i (sym are ∙ are2) below) k from (omega arith)))
one_node version dim one other (Inner level es) o q (told, low, high, has, some, are, near) (told2, low2, high2, has2, some2, are2, near2) =
    page_same false version dim (length es) one other o q (told ∙ sym told2) has has2 entries
  where
    entries : AreSame one other 16 (place_in version false dim (length es))
    entries k from to =
        pieces_same one other 16 (20 + 4 * dim) (length es) (λ i below k from to. inner_same dim (place_of dim i) one other o q
        (firsts_same (λ i. inner_at dim one (place_of dim i)) (λ i. inner_at dim other (place_of dim i)) (length es) i (sym are ∙ are2) below) k from (omega arith))
        k from (omega (arith, to, inner_size version dim (length es)))
