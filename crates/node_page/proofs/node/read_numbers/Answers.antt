use Rattle.std.proofs.Common.{inl, inr, ◌∙◌, ℕ, ◌-◌, length, take, drop, subst, arith}
use Rattle.std.proofs.lemmas.Bool.{cases_lt}
use Rattle.byteorder.specs.Endian.{IsRead, big_number}
use Rattle.node_page.proofs.Entries.{numbers_by, numbers_read}
use Rattle.node_page.proofs.node.read_numbers.Goals as goal

pub returns-then-count-lt-READ_AT_ONCE-clause-numbers : goal.returns-then-count-lt-READ_AT_ONCE-clause-numbers
returns-then-count-lt-READ_AT_ONCE-clause-numbers c = numbers_read (length c.args.numbers.now) c.args.page.now c.read_u32_into.new.dst (omega arith) (omega arith) (omega arith)
    (subst (λ (n : ℕ). IsRead big_number 4 (take n (drop 16 c.args.page.now)) c.read_u32_into.new.dst) (omega arith) c.read_u32_into.ensures)

pub returns-clause-numbers : goal.returns-clause-numbers
returns-clause-numbers c = numbers_by c.args.page.now c.read_some-2.new.numbers (λ k below. elim (cases_lt k (length c.args.numbers.now - 32)) [
  | inl before ↦ c.read_some-2.ensures.before k before ∙ c.loop-from.invariant.read k (omega arith)
  | inr behind ↦ c.read_some-2.ensures.read k behind (omega (arith, c.read_some-2.ensures.len, c.loop-from.invariant.len))
])
