use Rattle.std.proofs.Common.{◌≡◌, ℕ, ◌-◌, ◌++◌, Bool, List, [], ◌∷◌, cond, not, slice_index_or, length, false, sym, ap, subst, ◌∙◌, arith}
use Rattle.std.proofs.lemmas.List.{append-nil}
use Rattle.page_store.specs.Numbers.{AreNumbers}
use Rattle.free_pages.proofs.Ascending.{outside_numbers}
use Rattle.free_pages.proofs.Flags.{unset_in, unset_more, unset_are}
use Rattle.free_pages.proofs.queues.unopened.Goals as goal
use Rattle.free_pages.proofs.queues.unopened.Goals.{then-not-opened-page+in_ok-push_back, else-not-opened-page}

pub loop-page-preserved : goal.loop-page-preserved
loop-page-preserved c =
    let flags = c.args.opened.now in
    let page = c.loop-page.page in
    let more = unset_more flags page (omega arith) in
    record {
      free = elim c.if-not-opened-page.branch [
        | then-not-opened-page+in_ok-push_back w ↦
            rw w.free-is (w.in_ok-push_back.ensures.items ∙ ap (λ (xs : List ℕ). xs ++ page ∷ []) c.loop-page.invariant.free
            ∙ sym (more ∙ ap (λ (b : Bool). unset_in flags (page - 3) ++ cond (not b) (page ∷ []) []) w.if-not-opened-page.true))
        | else-not-opened-page w ↦
            rw w.free-is (c.loop-page.invariant.free ∙ sym (append-nil (unset_in flags (page - 3)))
            ∙ sym (more ∙ ap (λ (b : Bool). unset_in flags (page - 3) ++ cond (not b) (page ∷ []) []) w.if-not-opened-page.false))
      ];
      short = λ few. omega (arith, few, c.loop-page-test.true, c.loop-page.auto.page);
    }

pub returns-clause-outside : goal.returns-clause-outside
returns-clause-outside c tree are = c.loop-page.invariant.free ∙ unset_are c.args.opened.now tree (c.loop-page.page - 3) are (grind (arith, c.loop-page.invariant.short, c.loop-page-test.false, c.loop-page.auto.page-end, c.loop-page.auto.page))

pub returns-clause-numbers : goal.returns-clause-numbers
returns-clause-numbers c =
    let flags = c.args.opened.now in
    let end : c.loop-page.page - 3 ≡ length flags - 3 = grind (arith, c.loop-page.invariant.short, c.loop-page-test.false, c.loop-page.auto.page-end, c.loop-page.auto.page) in
    subst (AreNumbers (length flags)) (sym (c.loop-page.invariant.free ∙ ap (unset_in flags) end)) (outside_numbers (λ page. not (slice_index_or flags page false)) (length flags))
