use Rattle.std.proofs.Common.{◌≡◌, ℕ, ◌<◌, ◌≤◌, slice_index}
use Rattle.node_page.proofs.bytes.is_part_zero.Given as goal

-- the bytes so far are 0 exactly where all of them together are
abbrev pub invariant-loop-byte : goal.invariant-loop-byte
invariant-loop-byte l = record {
  least : (k : ℕ) → k < l.byte-index → slice_index l.byte-items k ≤ l.any;
  none : ((k : ℕ) → k < l.byte-index → slice_index l.byte-items k ≡ 0) → l.any ≡ 0;
}
