use Rattle.std.proofs.Common.{◌≡◌, ◌≢◌, ℕ, ◌+◌, ◌<◌, ◌≤◌, List, get_or, length, not, nat_eq, Contains, below_more, sym, ◌∙◌, subst, arith}
use Rattle.std.proofs.lemmas.Grind.{get_or_default_zero}
use Rattle.std.proofs.lemmas.List.Elements.{All-weaker, All-contains, All-contains_itself, All-filter}
use Rattle.tree_shape.specs.declared.entry.Node.{Node}
use Rattle.page_cache.specs.Keeping.{Pairs}
use Rattle.test_pages.proofs.caches.forget_each.Invariants.{Left}
use Rattle.test_pages.proofs.caches.forget_each.Goals as goal

pub loop-page-preserved : goal.loop-page-preserved
loop-page-preserved c =
    let kept = c.loop-page.kept in
    let page : ℕ = get_or c.args.written.now c.loop-page.page-index 0 in
    let law = c.forgetting_keeps_agreement.ensures kept page in
    subst (λ (k : Pairs). Left c.args.kept.now k (λ j. get_or c.args.written.now j 0) (c.loop-page.page-index + 1)) (sym c.forget.ensures)
    (record {
      agrees = λ shelf agrees. law.2 shelf (c.loop-page.invariant.agrees shelf agrees);
      gone = below_more _ _ (λ k low. All-filter (λ pair. not (nat_eq page pair.0)) (λ pair. get_or c.args.written.now k 0 ≢ pair.0) kept.entries (c.loop-page.invariant.gone k low)) law.1;
    })

-- a page that is not among the first `count` is not among them all
not_written : (written : List ℕ) (count page : ℕ) → length written ≤ count → ((k : ℕ) → k < count → get_or written k 0 ≢ page) → Contains written page → ⊥
not_written written count page whole others (k, low, at) = others k (omega arith) (sym (get_or_default_zero written k page low) ∙ at)

pub returns : goal.returns
returns c = λ old new grows agrees reads.
    let kept = c.loop-page.kept in
    let none : (pair : ℕ × Node) → Contains kept.entries pair → (k : ℕ) → k < c.loop-page.page-index → get_or c.args.written.now k 0 ≢ pair.0 =
    λ pair within k low. All-contains (λ p. get_or c.args.written.now k 0 ≢ p.0) kept.entries pair (c.loop-page.invariant.gone k low) within in
    c.agreement_lasts.ensures kept old new grows (c.loop-page.invariant.agrees old agrees)
    (λ is_known. All-weaker (Contains kept.entries) (λ pair. new.read pair.0 ≡ old.read pair.0)
    (λ pair within. reads is_known pair.0 (not_written c.args.written.now c.loop-page.page-index pair.0 c.loop-page-test.false (none pair within)))
    kept.entries (All-contains_itself kept.entries))
