use Rattle.std.proofs.Common.{◌≡◌, ℕ, ◌+◌, ◌*◌, ◌-◌, take, drop, subst, arith}
use Rattle.byteorder.specs.Endian.{IsRead, big_number}
use Rattle.node_page.proofs.Entries.{some_read}
use Rattle.node_page.proofs.node.read_some.Goals as goal

pub returns-in-Some-clause-read : goal.returns-in-Some-clause-read
returns-in-Some-clause-read c k low high =
    let start = 16 + 4 * c.args.from in
    let bytes : start + 128 - start ≡ 4 * 32 = omega arith in
    some_read c.args.from 32 k c.args.page.now _ c.read_u32_into.new.dst _
    (omega (arith, c.split_at_mut-rest.ensures.front_len)) (omega arith) (omega arith)
    (subst (λ (n : ℕ). IsRead big_number 4 (take n (drop start c.args.page.now)) c.read_u32_into.new.dst) bytes c.read_u32_into.ensures)
    low high
