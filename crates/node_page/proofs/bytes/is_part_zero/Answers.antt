use Rattle.std.proofs.Common.{◌≡◌, ◌-◌, ◌≤◌, length, take, drop, slice_index, arith}
use Rattle.std.proofs.lemmas.Nat.{le_or_l, le_or_r}
use Rattle.std.specs.Int.Bits.{bit_or, or_zero_l}
use Rattle.std.proofs.lemmas.List.{length-take-le, length-drop}
use borrow.Author.Count.{below_more}
use Rattle.node_page.proofs.Rest.{test_in_part}
use Rattle.node_page.proofs.bytes.is_part_zero.Goals as goal

pub loop-byte-preserved : goal.loop-byte-preserved
loop-byte-preserved c =
    let any = c.loop-byte.any in
    let here = slice_index (take (c.args.to - c.args.from) (drop c.args.from c.args.page.now)) c.loop-byte.byte-index in
    let left : any ≤ bit_or any here = le_or_l any here in
    let right : here ≤ bit_or any here = le_or_r any here in
    record {
      least = below_more _ _ (λ k below. omega (arith, left, c.loop-byte.invariant.least k below)) right;
      none = λ zeros.
          let before : any ≡ 0 = c.loop-byte.invariant.none (λ k below. zeros k (omega arith)) in
          let last : here ≡ 0 = zeros c.loop-byte.byte-index (omega arith) in
          rw (before, last) (or_zero_l 0);
    }

pub returns : goal.returns
returns c =
    let n = c.args.to - c.args.from in
    let long : length (take n (drop c.args.from c.args.page.now)) ≡ n = length-take-le n (drop c.args.from c.args.page.now) (omega (arith, length-drop c.args.from c.args.page.now)) in
    test_in_part c.args.from n c.args.page.now c.loop-byte.any c.loop-byte.byte-index (omega (arith, long)) c.loop-byte.invariant.least c.loop-byte.invariant.none
