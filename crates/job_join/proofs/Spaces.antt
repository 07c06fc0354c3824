-- Two heads of one space.
use Rattle.std.proofs.Common.{◌≡◌, ℕ, ◌==◌, ◌&&◌, Bool, true, false, refl, sym, ◌∙◌, ap, arith}
use Rattle.std.proofs.lemmas.Bool.{true≢false}
use Rattle.std.proofs.lemmas.Bool.Decides.{nat_tests}
use Rattle.metric_mix.specs.MixSpaces.{mix_space}
use Rattle.node_page.specs.declared.head.Head.{Head}
use Rattle.job_join.specs.Trees.{is_one_space}

both : (a b : Bool) → (a && b) ≡ true → (a ≡ true) × (b ≡ true)
both true true is = (refl, refl)
both true false is = absurd (true≢false (sym is))
both false b is = absurd (true≢false (sym is))

same_number : (a b : ℕ) → (a == b) ≡ true → a ≡ b
same_number a b is = grind (arith, nat_tests)

pub one_space : (left right : Head) → is_one_space left right ≡ true → mix_space right.kind right.dim ≡ mix_space left.kind left.dim
one_space left right is =
    let each = both (left.kind == right.kind) (left.dim == right.dim) is in
    sym (ap (λ (k : ℕ). mix_space k left.dim) (same_number left.kind right.kind each.0) ∙ ap (λ (d : ℕ). mix_space right.kind d) (same_number left.dim right.dim each.1))
