use Rattle.std.proofs.Common.{◌≡◌, ◌⊎◌, ℕ, ◌+◌, ◌*◌, ◌<◌, ◌≤◌, get_or, slice_index}
use Rattle.node_page.specs.Bytes.{number_at}
use Rattle.node_page.proofs.writing.put_point.Given as goal

abbrev pub invariant-loop-index : goal.invariant-loop-index
invariant-loop-index l = record {
  put : (i : ℕ) → i < l.index → number_at (l.at + 4 * i) 4 l.page ≡ get_or l.point i 0;
  others : (k : ℕ) → (k < l.at) ⊎ (l.at + 4 * l.index ≤ k) → slice_index l.page k ≡ slice_index l.initial.page k;
}
