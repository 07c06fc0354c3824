use Rattle.std.proofs.Common.{◌≡◌, ◌⊎◌, ℕ, ◌<◌, ◌≤◌, take, slice_index}
use Rattle.node_page.specs.Nodes.{firsts, inner_at, place_of}
use Rattle.node_page.proofs.writing.put_inners.Given as goal

abbrev pub invariant-loop-index : goal.invariant-loop-index
invariant-loop-index l = record {
  put : firsts (λ i. inner_at l.dim l.page (place_of l.dim i)) l.index ≡ take l.index l.entries;
  others : (k : ℕ) → (k < 16) ⊎ (place_of l.dim l.index ≤ k) → slice_index l.page k ≡ slice_index l.initial.page k;
}
