use Rattle.std.proofs.Common.{◌≡◌, ℕ, suc, ◌+◌, ◌-◌, ◌∷◌, ◌++◌, [], List, length, drop, Result, Ok, true, false, refl, sym, ◌∙◌, ap, subst, arith}
use Rattle.std.specs.Prelude.{◌&&◌, ◌==◌}
use Rattle.std.proofs.Common.{length-append}
use Rattle.std.proofs.lemmas.Result.{err_from_is_err_and, on_ok_weaker}
use Rattle.std.proofs.Math.Seq.{drop-cons}
use Rattle.tree_shape.specs.Entries.{inner_of}
use Rattle.tree_shape.specs.Fill.{least_for}
use Rattle.tree_shape.specs.declared.entry.InnerEntry.{InnerEntry}
use Rattle.tree_shape.specs.declared.entry.Node.{Node}
use Rattle.tree_audit.specs.declared.faults.AuditFault.{AuditFault}
use Rattle.tree_audit.specs.Audited.{Seen, and_then, each_entry, audited_at, is_filled, step, IsWalkFault}
use Rattle.tree_audit.specs.Visits.{seen_of, entry_told}
use Rattle.tree_audit.proofs.Entries.{and_then_fault}
use Rattle.tree_audit.proofs.InnerPages.{inner_page, inner_zero, inner_fill}
use Rattle.tree_audit.proofs.Arrivals.{leaf_page, walk_same, walk_if_err, of_entry, of_child}
use Rattle.tree_audit.proofs.walking.+walk.Goals as goal

pub returns-in_err-node-clause-err : goal.returns-in_err-node-clause-err
returns-in_err-node-clause-err g t c =
    let p = err_from_is_err_and c.from_residual.result c.from_residual.ensures.1 in
    rw (p.1, p.2) (c.in_err-node.ensures.err (g.R.M.Metric.space (g.R.Ruler.metric c.args.ruler.now)) c.args.visits.now.ids.limit c.args.at.level c.args.at.least c.args.path.now.items c.args.visits.now.ids.met)

pub returns-in-Leaf-clause-ok : goal.returns-in-Leaf-clause-ok
returns-in-Leaf-clause-ok g t c = on_ok_weaker c.audit_leaf.result (λ told is_known.
    let s = g.R.M.Metric.space (g.R.Ruler.metric c.args.ruler.now) in
    let at = c.args.at in
    let visits = c.args.visits.now in
    leaf_page s (g.P.Pages.shelf c.args.pages.now).read visits.ids.limit at.level at.least c.args.path.now.items at.page c.in-Leaf.objects (seen_of visits) c.in_ok-node.ensures.new
    (c.in_ok-node.ensures.ok.told is_known ∙ ap (λ (n : Node). Ok n) (sym c.as_ref.ensures ∙ c.in-Leaf.is)) ∙ (rw (← c.in_ok-node.ensures.noted, ← c.as_slice.ensures.value) (told c.arrive.new.seen.met))) c.audit_leaf.ensures.ok

pub returns-in-Leaf-clause-err : goal.returns-in-Leaf-clause-err
returns-in-Leaf-clause-err g t c =
    let s = g.R.M.Metric.space (g.R.Ruler.metric c.args.ruler.now) in
    let at = c.args.at in
    let visits = c.args.visits.now in
    walk_if_err c.audit_leaf.result (g.P.Pages.shelf c.args.pages.now) (g.P.Pages.shelf c.arrive.new.pages) _ _ c.arrive.new.seen.met (λ is_known.
    sym (leaf_page s (g.P.Pages.shelf c.args.pages.now).read visits.ids.limit at.level at.least c.args.path.now.items at.page c.in-Leaf.objects (seen_of visits) c.in_ok-node.ensures.new
    (c.in_ok-node.ensures.ok.told is_known ∙ ap (λ (n : Node). Ok n) (sym c.as_ref.ensures ∙ c.in-Leaf.is)) ∙ (rw (← c.in_ok-node.ensures.noted, ← c.as_slice.ensures.value) refl))) c.audit_leaf.ensures.err

pub returns-then-at-eq0-clause-err : goal.returns-then-at-eq0-clause-err
returns-then-at-eq0-clause-err g t c = λ is_known.
    let at = c.args.at in
    inner_zero (g.R.M.Metric.space (g.R.Ruler.metric c.args.ruler.now)) (g.P.Pages.shelf c.args.pages.now).read c.args.visits.now.ids.limit at.least c.args.path.now.items at.page c.in-Inner.level at.level c.in-Inner.entries
    (seen_of c.args.visits.now) c.in_ok-node.ensures.new (c.in_ok-node.ensures.ok.told is_known ∙ ap (λ (n : Node). Ok n) (sym c.as_ref.ensures ∙ c.in-Inner.is)) c.if-at-eq0.true

pub returns-then-not-is_inner-clause-err : goal.returns-then-not-is_inner-clause-err
returns-then-not-is_inner-clause-err g t c = λ is_known.
    let at = c.args.at in
    let s = g.R.M.Metric.space (g.R.Ruler.metric c.args.ruler.now) in
    let n = length c.in-Inner.entries in
    let why : ((c.in-Inner.level == at.level) && is_filled s at.least n) ≡ false =
    rw (c.requires.dimension, ← c.len.ensures) (sym c.is_inner.ensures ∙ c.if-not-is_inner.true) in
    inner_fill s (g.P.Pages.shelf c.args.pages.now).read c.args.visits.now.ids.limit at.level at.least c.args.path.now.items at.page c.in-Inner.level c.in-Inner.entries
    (seen_of c.args.visits.now) c.in_ok-node.ensures.new (c.in_ok-node.ensures.ok.told is_known ∙ ap (λ (n : Node). Ok n) (sym c.as_ref.ensures ∙ c.in-Inner.is)) why

pub loop-place-init : goal.loop-place-init
loop-place-init g t c =
    let at = c.args.at in
    let s = g.R.M.Metric.space (g.R.Ruler.metric c.args.ruler.now) in
    let n = length c.in-Inner.entries in
    let full : ((c.in-Inner.level == at.level) && is_filled s at.least n) ≡ true =
    rw (c.requires.dimension, ← c.len.ensures) (sym c.is_inner.ensures ∙ c.if-not-is_inner.false) in
    record {
      metric = refl;
      same = c.in_ok-node.ensures.same;
      keeps = c.in_ok-node.ensures.keeps;
      no_fault = c.in_ok-node.ensures.no_fault;
      pages_limit = c.in_ok-node.ensures.limit;
      ids_limit = refl;
      path = refl;
      left = λ is_known.
          rw c.in_ok-node.ensures.noted
          (sym (inner_page s (g.P.Pages.shelf c.args.pages.now).read c.args.visits.now.ids.limit at.level at.least c.args.path.now.items at.page c.in-Inner.level c.in-Inner.entries
          (seen_of c.args.visits.now) c.in_ok-node.ensures.new (c.in_ok-node.ensures.ok.told is_known ∙ ap (λ (n : Node). Ok n) (sym c.as_ref.ensures ∙ c.in-Inner.is)) c.if-at-eq0.false full));
      fewer = c.in_ok-node.ensures.fewer;
      asked = omega (arith, length-append c.args.visits.now.pages.met (at.page ∷ []), ap length c.in_ok-node.ensures.noted, c.in_ok-node.ensures.asked);
      reads = omega (arith, length-append c.args.visits.now.pages.met (at.page ∷ []), ap length c.in_ok-node.ensures.noted, c.in_ok-node.ensures.reads);
    }

pub returns-in_err-child-clause-err : goal.returns-in_err-child-clause-err
returns-in_err-child-clause-err g t c =
    let p = err_from_is_err_and c.from_residual-in_err-child.result c.from_residual-in_err-child.ensures.1 in
    let i = c.loop-place.invariant in
    let at = c.args.at in
    let s = g.R.M.Metric.space (g.R.Ruler.metric c.args.ruler.now) in
    let read = (g.P.Pages.shelf c.args.pages.now).read in
    let entry = inner_of c.at.result in
    let check = entry_told s read c.args.visits.now.ids.limit at.level c.args.path.now.items at.page in
    let seen = seen_of c.loop-place.visits in
    let entries = c.in-Inner.entries in
    let here : drop c.loop-place.place entries ≡ entry ∷ drop (suc c.loop-place.place) entries =
    drop-cons entries c.loop-place.place entry (omega (arith, c.len-place-end.ensures)) ∙ ap (λ (e : InnerEntry). e ∷ drop (suc c.loop-place.place) entries) (sym c.at.ensures) in
    let rest : Seen → Result Seen AuditFault = λ after. each_entry check (c.loop-place.place + 1) (drop (suc c.loop-place.place) entries) after in
    rw (p.1, p.2) (walk_same (g.P.Pages.shelf c.args.pages.now) (g.P.Pages.shelf c.loop-place.pages) (and_then (check c.loop-place.place entry seen) rest) _ c.in_err-child.field-0.0
    (λ is_known. ap (λ (xs : List InnerEntry). each_entry check c.loop-place.place xs seen) (sym here) ∙ i.left is_known)
    (of_entry (g.P.Pages.shelf c.args.pages.now) (g.P.Pages.shelf c.loop-place.pages) (and_then (check c.loop-place.place entry seen) rest) c.in_err-child.field-0.0
    (and_then_fault (check c.loop-place.place entry seen) rest c.in_err-child.field-0.0
    (rw (← i.metric, ← i.path) (c.in_err-child.ensures.err _)))))

pub returns-in_err-walk-clause-err : goal.returns-in_err-walk-clause-err
returns-in_err-walk-clause-err g t c =
    let p = err_from_is_err_and c.from_residual-in_err-walk.result c.from_residual-in_err-walk.ensures.1 in
    let i = c.loop-place.invariant in
    let at = c.args.at in
    let s = g.R.M.Metric.space (g.R.Ruler.metric c.args.ruler.now) in
    let read = (g.P.Pages.shelf c.args.pages.now).read in
    let entry = inner_of c.at.result in
    let check = entry_told s read c.args.visits.now.ids.limit at.level c.args.path.now.items at.page in
    let seen = seen_of c.loop-place.visits in
    let entries = c.in-Inner.entries in
    let here : drop c.loop-place.place entries ≡ entry ∷ drop (suc c.loop-place.place) entries =
    drop-cons entries c.loop-place.place entry (omega (arith, c.len-place-end.ensures)) ∙ ap (λ (e : InnerEntry). e ∷ drop (suc c.loop-place.place) entries) (sym c.at.ensures) in
    let rest : Seen → Result Seen AuditFault = λ after. each_entry check (c.loop-place.place + 1) (drop (suc c.loop-place.place) entries) after in
    let child = audited_at s read c.args.visits.now.ids.limit (at.level - 1) (least_for s.dimension) (c.args.path.now.items ++ step at.page c.loop-place.place entry ∷ []) entry.child seen in
    let passes : check c.loop-place.place entry seen ≡ child = rw (← i.metric, ← i.path) (c.in_ok-child.ensures.ok _) in
    rw (p.1, p.2) (walk_same (g.P.Pages.shelf c.args.pages.now) (g.P.Pages.shelf c.walk.new.pages) (and_then child rest) _ c.in_err-walk.field-0.0
    (λ is_known. ap (λ (r : Result Seen AuditFault). and_then r rest) (sym passes) ∙ ap (λ (xs : List InnerEntry). each_entry check c.loop-place.place xs seen) (sym here) ∙ i.left is_known)
    (of_child (g.P.Pages.shelf c.args.pages.now) (g.P.Pages.shelf c.loop-place.pages) (g.P.Pages.shelf c.walk.new.pages) child (λ r. and_then r rest) c.in_err-walk.field-0.0 i.same.is_known i.same.faults (λ w. refl)
    (subst (λ (n : ℕ). IsWalkFault (g.P.Pages.shelf c.loop-place.pages) (g.P.Pages.shelf c.walk.new.pages)
    (audited_at s read c.args.visits.now.ids.limit (at.level - 1) n (c.args.path.now.items ++ step at.page c.loop-place.place entry ∷ []) entry.child seen) c.in_err-walk.field-0.0)
    (c.in_ok-child.ensures.least ∙ ap least_for (sym c.requires.dimension))
    (rw (← c.in_ok-child.ensures.level, ← c.in_ok-child.ensures.page, ← i.path, ← c.in_ok-child.ensures.path, ← i.same.read, ← i.ids_limit, ← i.metric, ← c.step_down.ensures.same) c.in_err-walk.ensures.err))))
