-- Pages that nodes were written into.
use Rattle.std.proofs.Common.{Bool, true, false, ◌≡◌, ◌⊎◌, inl, inr, ℕ, ◌<◌, ◌≤◌, List, [], ◌∷◌, length, slice_index, sym, ◌∙◌, arith}
use Rattle.std.specs.List.{AllByRecursion}
use Rattle.metric_laws.specs.Space.{bound}
use Rattle.tree_shape.specs.Fill.{most_for}
use Rattle.tree_shape.specs.declared.entry.LeafEntry.{LeafEntry}
use Rattle.tree_shape.specs.declared.entry.InnerEntry.{InnerEntry}
use Rattle.tree_shape.specs.declared.entry.Node.TheVariants.{Leaf, Inner}
use Rattle.node_page.specs.declared.node.Version.TheVariants.{Second}
use Rattle.node_page.specs.Bytes.{number_at}
use Rattle.node_page.specs.Nodes.{firsts, leaf_at, inner_at, place_of, count_of, HasCount, SpellsNode}
use Rattle.node_page.proofs.Numbers.{number_kept}

weaker : {E : Type 0} (P Q : E → Type 0) → ((e : E) → P e → Q e) → (xs : List E) → AllByRecursion P xs → AllByRecursion Q xs
weaker P Q implies [] all = tt
weaker P Q implies (x ∷ xs) all = (implies x all.0, weaker P Q implies xs all.1)

-- the count and the rest of a page whose first byte may be anything
has_count : (leaf : Bool) (dim n : ℕ) (zeros counted new : List ℕ) → n ≤ most_for dim → ((k : ℕ) → 1 ≤ k → slice_index zeros k ≡ 0) → number_at 2 2 counted ≡ n
    → ((k : ℕ) → (k < 2) ⊎ (4 ≤ k) → slice_index counted k ≡ slice_index zeros k) → ((k : ℕ) → (k < 16) ⊎ (place_of dim n ≤ k) → slice_index new k ≡ slice_index counted k) → HasCount Second leaf dim new n
unfolding count_of
has_count leaf dim n zeros counted new few zero told kept others = record {
  told = number_kept 2 2 new counted (λ k from to. others k (inl (omega arith))) ∙ told;
  at_most = few;
  first = λ k from to. others k (inl (omega arith)) ∙ kept k (inl (omega arith)) ∙ zero k (omega arith);
  between = λ k from to. others k (inl (omega arith)) ∙ kept k (inr (omega arith)) ∙ zero k (omega arith);
  behind = λ k from to. others k (inr from) ∙ kept k (inr (omega arith)) ∙ zero k (omega arith);
}

-- a page of zeros, with a count and entries
pub leaf_written : (dim : ℕ) (zeros counted new : List ℕ) (es : List LeafEntry) → length es ≤ most_for dim → ((k : ℕ) → slice_index zeros k ≡ 0) → number_at 2 2 counted ≡ length es
    → ((k : ℕ) → (k < 2) ⊎ (4 ≤ k) → slice_index counted k ≡ slice_index zeros k) → ((k : ℕ) → (k < 16) ⊎ (place_of dim (length es) ≤ k) → slice_index new k ≡ slice_index counted k)
    → firsts (λ i. leaf_at dim new (place_of dim i)) (length es) ≡ es → AllByRecursion (λ e. (length e.point ≡ dim) × (e.parent ≤ bound)) es → SpellsNode dim new (Leaf es)
leaf_written dim zeros counted new es few zero told kept others are all = (
  others 0 (inl (omega arith)) ∙ kept 0 (inl (omega arith)) ∙ zero 0,
  has_count true dim (length es) zeros counted new few (λ k from. zero k) told kept others,
  sym are,
  weaker (λ (e : LeafEntry). (length e.point ≡ dim) × (e.parent ≤ bound)) (λ (e : LeafEntry). e.parent ≤ bound) (λ e both. both.1) es all,
)

-- a page of zeros behind its level, with a count and entries
pub inner_written : (dim level : ℕ) (leveled counted new : List ℕ) (es : List InnerEntry) → 1 ≤ level → level ≤ 14 → 1 ≤ length es → length es ≤ most_for dim → slice_index leveled 0 ≡ level
    → ((k : ℕ) → 1 ≤ k → slice_index leveled k ≡ 0) → number_at 2 2 counted ≡ length es
    → ((k : ℕ) → (k < 2) ⊎ (4 ≤ k) → slice_index counted k ≡ slice_index leveled k) → ((k : ℕ) → (k < 16) ⊎ (place_of dim (length es) ≤ k) → slice_index new k ≡ slice_index counted k)
    → firsts (λ i. inner_at dim new (place_of dim i)) (length es) ≡ es → AllByRecursion (λ e. (length e.point ≡ dim) × (e.radius ≤ bound) × (e.parent ≤ bound)) es → SpellsNode dim new (Inner level es)
inner_written dim level leveled counted new es low high some few is zero told kept others are all = (
  others 0 (inl (omega arith)) ∙ kept 0 (inl (omega arith)) ∙ is,
  low,
  high,
  has_count false dim (length es) leveled counted new few zero told kept others,
  some,
  sym are,
  weaker (λ (e : InnerEntry). (length e.point ≡ dim) × (e.radius ≤ bound) × (e.parent ≤ bound)) (λ (e : InnerEntry). (e.radius ≤ bound) × (e.parent ≤ bound)) (λ e both. (both.1, both.2)) es all,
)
