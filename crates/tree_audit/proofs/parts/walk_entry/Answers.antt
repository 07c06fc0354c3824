use Rattle.std.proofs.Common.{◌≡◌, ℕ, ◌-◌, ◌∷◌, ◌++◌, [], List, Ok, sym, ◌∙◌, ap, subst}
use Rattle.std.specs.Prelude.{IfErr}
use Rattle.std.proofs.lemmas.Result.{err_from_is_err_and, on_ok_weaker}
use Rattle.tree_shape.specs.Entries.{inner_of}
use Rattle.tree_shape.specs.Fill.{least_for}
use Rattle.tree_audit.specs.declared.walking.Step.{Step}
use Rattle.tree_audit.specs.Audited.{audited_at, step, check_entry, last_point, IsWalkFault}
use Rattle.tree_audit.specs.Visits.{seen_of, entry_told, IsEntryFault}
use Rattle.tree_audit.proofs.Arrivals.{of_entry}
use Rattle.tree_audit.proofs.PartFaults.{walk_told}
use Rattle.tree_audit.proofs.parts.walk_entry.Goals as goal

pub returns-in_err-child-clause-err : goal.returns-in_err-child-clause-err
returns-in_err-child-clause-err g c =
    let p = err_from_is_err_and c.from_residual.result c.from_residual.ensures.1 in
    let s = g.R.M.Metric.space (g.R.Ruler.metric c.args.ruler.now) in
    let root = c.args.root.now in
    let entry = inner_of c.args.entry in
    let child = audited_at s (g.P.Pages.shelf c.args.pages.now).read c.args.visits.now.ids.limit (root.level - 1) (least_for s.dimension) (step root.page c.args.place entry ∷ []) entry.child (seen_of c.args.visits.now) in
    rw (p.1, p.2) (of_entry (g.P.Pages.shelf c.args.pages.now) (g.P.Pages.shelf c.args.pages.now) _ c.in_err-child.field-0.0
    (subst (λ (p : List Step). IsEntryFault (check_entry s (last_point p) root.page c.args.place entry child) c.in_err-child.field-0.0)
    c.new-path.ensures.items (c.in_err-child.ensures.err child)))

pub returns-clause-ok : goal.returns-clause-ok
returns-clause-ok g c =
    let s = g.R.M.Metric.space (g.R.Ruler.metric c.args.ruler.now) in
    let read = (g.P.Pages.shelf c.args.pages.now).read in
    let root = c.args.root.now in
    let entry = inner_of c.args.entry in
    let visits = c.args.visits.now in
    let child = audited_at s read visits.ids.limit (root.level - 1) (least_for s.dimension) (step root.page c.args.place entry ∷ []) entry.child (seen_of visits) in
    let passes : entry_told s read visits.ids.limit root.level [] root.page c.args.place entry (seen_of visits) ≡ child =
    subst (λ (p : List Step). check_entry s (last_point p) root.page c.args.place entry child ≡ child) c.new-path.ensures.items (c.in_ok-child.ensures.ok child) in
    let pushed : c.step_down.new.path.items ≡ step root.page c.args.place entry ∷ [] =
    c.in_ok-child.ensures.path ∙ ap (λ (xs : List Step). xs ++ step root.page c.args.place entry ∷ []) c.new-path.ensures.items in
    on_ok_weaker c.walk.result (λ told is_known. passes
    ∙ subst (λ (n : ℕ). audited_at s read visits.ids.limit (root.level - 1) n (step root.page c.args.place entry ∷ []) entry.child (seen_of visits) ≡ Ok (seen_of c.walk.new.visits))
    (c.in_ok-child.ensures.least ∙ ap least_for (sym c.requires.dimension))
    (rw (← c.in_ok-child.ensures.level, ← c.in_ok-child.ensures.page, ← pushed, ← c.step_down.ensures.same) (told is_known))) c.walk.ensures.ok

pub returns-clause-err : goal.returns-clause-err
returns-clause-err g c =
    let s = g.R.M.Metric.space (g.R.Ruler.metric c.args.ruler.now) in
    let read = (g.P.Pages.shelf c.args.pages.now).read in
    let root = c.args.root.now in
    let entry = inner_of c.args.entry in
    let visits = c.args.visits.now in
    let child = audited_at s read visits.ids.limit (root.level - 1) (least_for s.dimension) (step root.page c.args.place entry ∷ []) entry.child (seen_of visits) in
    let passes : entry_told s read visits.ids.limit root.level [] root.page c.args.place entry (seen_of visits) ≡ child =
    subst (λ (p : List Step). check_entry s (last_point p) root.page c.args.place entry child ≡ child) c.new-path.ensures.items (c.in_ok-child.ensures.ok child) in
    let pushed : c.step_down.new.path.items ≡ step root.page c.args.place entry ∷ [] =
    c.in_ok-child.ensures.path ∙ ap (λ (xs : List Step). xs ++ step root.page c.args.place entry ∷ []) c.new-path.ensures.items in
    walk_told c.walk.result (g.P.Pages.shelf c.args.pages.now) (g.P.Pages.shelf c.walk.new.pages) child _ (sym passes)
    (subst (λ (n : ℕ). IfErr c.walk.result (IsWalkFault (g.P.Pages.shelf c.args.pages.now) (g.P.Pages.shelf c.walk.new.pages)
    (audited_at s read visits.ids.limit (root.level - 1) n (step root.page c.args.place entry ∷ []) entry.child (seen_of visits))))
    (c.in_ok-child.ensures.least ∙ ap least_for (sym c.requires.dimension))
    (rw (← c.in_ok-child.ensures.level, ← c.in_ok-child.ensures.page, ← pushed, ← c.step_down.ensures.same) c.walk.ensures.err))
