use Rattle.std.proofs.Common.{List, ap, sym, ◌∙◌}
use Rattle.seal_log.specs.Digests.{Digest, levels_over}
use Rattle.seal_log.specs.Paths.{path_in}
use Rattle.seal_log.proofs.Trees.{path-none, path-some, path-done}
use Rattle.seal_log.proofs.tree.Tree.path.Goals as goal
use Rattle.seal_log.proofs.tree.Tree.path.Goals.{in-Some+in_ok-push, in_default}

pub levels-preserved : goal.levels-preserved
levels-preserved c =
    elim c.match-partner_at.branch [
      | in-Some+in_ok-push w ↦
          rw (w.path-is, w.in_ok-push.ensures.items)
          (path-some c.deref-level-items.result.now c.levels.level-index c.levels.place c.as_slice.result.now _ c.levels.path.items w.in-Some.partner (path_in c.deref-level-items.result.now c.args.page)
          c.levels-test.true (c.as_slice.ensures ∙ c.level-item.is) (sym c.partner_at.ensures ∙ w.in-Some.is) c.levels.invariant)
      | in_default w ↦
          rw w.path-is
          (path-none c.deref-level-items.result.now c.levels.level-index c.levels.place c.as_slice.result.now _ c.levels.path.items (path_in c.deref-level-items.result.now c.args.page)
          c.levels-test.true (c.as_slice.ensures ∙ c.level-item.is) (sym c.partner_at.ensures ∙ w.in_default.is) c.levels.invariant)
    ]

pub returns : goal.returns
returns c =
    path-done c.deref-level-items.result.now c.levels.level-index c.levels.place c.levels.path.items (path_in c.deref-level-items.result.now c.args.page) c.levels-test.false c.levels.invariant ∙ ap (λ (t : List (List Digest)). path_in t c.args.page) (c.deref-level-items.ensures.value ∙ c.self.invariant.whole ∙ ap levels_over c.self.view_is)
