use Rattle.std.proofs.Common.{arith, ap, sym, ◌∙◌, ℕ, List, ◌∷◌, ◌-◌, length, take, drop}
use Rattle.seal_log.specs.Digests.{paired}
use Rattle.seal_log.proofs.Trees.{paired-two, paired-one}
use Rattle.seal_log.proofs.tree.next_above.Goals as goal

pub returns-in-len1-clause-some : goal.returns-in-len1-clause-some
returns-in-len1-clause-some c = paired-one c.args.level.now (omega (arith, c.in-len1.len_below, c.in-len1.len_at_least))

pub returns-in-len2-up-clause-some : goal.returns-in-len2-up-clause-some
returns-in-len2-up-clause-some c = paired-two c.args.level.now c.in-len2-up.len_at_least ∙ ap (λ (d : List ℕ). d ∷ paired (take (length c.args.level.now - 2) (drop 2 c.args.level.now))) (sym c.pair_digest.ensures)
