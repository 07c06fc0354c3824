use Rattle.std.proofs.Common.{◌≡◌, List, Some, None, Err, reverse, ap, sym, ◌∙◌}
use Rattle.std.proofs.lemmas.Result.{err_from_is_err_and}
use Rattle.metric_laws.specs.Space.{Space}
use Rattle.scan_model.specs.declared.hit.Pair.{Pair}
use Rattle.page_store.specs.Shelf.{Shelf}
use Rattle.log_model.specs.declared.marks.JoinRecord.{JoinRecord}
use Rattle.log_model.specs.InOrder.{in_order, pair_before}
use Rattle.log_model.specs.SoundJoin.{join_at}
use Rattle.log_model.specs.JoinSteps.{search_within}
use Rattle.log_verify.specs.JoinJudged.{join_walked, pair_difference, join_fault}
use Rattle.log_verify.proofs.Counting.{ask_none}
use Rattle.log_verify.proofs.JoinSoundness.{join_sound_from_none}
use Rattle.log_verify.proofs.JoinVerdicts.{difference_cause, begun_is, fault_differs, sound_walks, sound_faults, passing}
use Rattle.log_verify.proofs.join_verifying.verify_join.Goals as goal

pub returns-in_err-hits-clause-complete : goal.returns-in_err-hits-clause-complete
returns-in_err-hits-clause-complete g c =
    let p = err_from_is_err_and c.from_residual-in_err-hits.result c.from_residual-in_err-hits.ensures.1 in
    let s : Space = g.R.M.Metric.space (g.R.Ruler.metric c.args.ruler.now) in
    let l : Shelf = g.P.Pages.shelf c.args.left.now in
    let r : Shelf = g.Q.Pages.shelf c.args.right.now in
    let searches : search_within s c.in_ok-begun.begun.rho ≡ join_at s c.args.log.now.r = ap (search_within s) (c.in_ok-begun.ensures.rho ∙ c.min.ensures) in
    let begun = begun_is s l.read r.read c.args.ll.now c.args.lr.now c.args.log.now c.in_ok-begun.begun.rho c.in_ok-begun.begun.named.hits.items c.in_ok-begun.begun.stack.items
    searches c.in_ok-begun.ensures.hits c.in_ok-begun.ensures.stack in
    let records = ap (λ (rs : List JoinRecord). join_walked (search_within s c.in_ok-begun.begun.rho) l.read r.read c.in_ok-begun.begun.named.hits.items (reverse c.in_ok-begun.begun.stack.items) rs 0) c.as_slice-records.ensures in
    rw (p.1, p.2)
    (λ x y wise. passing l (g.P.Pages.shelf c.walk_records.new.left) r (g.Q.Pages.shelf c.walk_records.new.right) c.in_err-hits.field-0.0
    (join_walked (search_within s c.in_ok-begun.begun.rho) l.read r.read c.in_ok-begun.begun.named.hits.items (reverse c.in_ok-begun.begun.stack.items) c.as_slice-records.result.now 0 ≡ Err c.in_err-hits.field-0.0)
    c.in_err-hits.ensures.cause x y
    (λ fault. sound_walks s l.read r.read c.args.ll.now c.args.lr.now c.args.log.now c.in_err-hits.field-0.0 wise (sym begun ∙ sym records ∙ fault)))

pub returns-in-None-clause-sound : goal.returns-in-None-clause-sound
returns-in-None-clause-sound g c =
    let s : Space = g.R.M.Metric.space (g.R.Ruler.metric c.args.ruler.now) in
    let l : Shelf = g.P.Pages.shelf c.args.left.now in
    let r : Shelf = g.Q.Pages.shelf c.args.right.now in
    let searches : search_within s c.in_ok-begun.begun.rho ≡ join_at s c.args.log.now.r = ap (search_within s) (c.in_ok-begun.ensures.rho ∙ c.min.ensures) in
    let begun = begun_is s l.read r.read c.args.ll.now c.args.lr.now c.args.log.now c.in_ok-begun.begun.rho c.in_ok-begun.begun.named.hits.items c.in_ok-begun.begun.stack.items
    searches c.in_ok-begun.ensures.hits c.in_ok-begun.ensures.stack in
    let records = ap (λ (rs : List JoinRecord). join_walked (search_within s c.in_ok-begun.begun.rho) l.read r.read c.in_ok-begun.begun.named.hits.items (reverse c.in_ok-begun.begun.stack.items) rs 0) c.as_slice-records.ensures in
    let differs : pair_difference 0 c.as_slice.result.now c.as_slice-2.result.now ≡ None = sym c.compare_pairs.ensures ∙ c.in-None.is in
    let differs2 : pair_difference 0 c.args.log.now.answers (in_order pair_before c.in_ok-hits.hits.items) ≡ None =
    ap (λ (xs : List Pair). pair_difference 0 xs (in_order pair_before c.in_ok-hits.hits.items)) (sym c.as_slice.ensures)
    ∙ ap (pair_difference 0 c.as_slice.result.now) (sym (c.as_slice-2.ensures.value ∙ c.put_pairs_in_order.ensures)) ∙ differs in
    λ x y. join_sound_from_none s l.read r.read c.args.ll.now c.args.lr.now c.args.log.now
    (fault_differs s l.read r.read c.args.ll.now c.args.lr.now c.args.log.now c.in_ok-hits.hits.items None (sym c.names.ensures ∙ c.if-not-names.false) (sym c.names-2.ensures ∙ c.if-not-names-2.false) (sym begun ∙ sym records ∙ c.in_ok-hits.ensures.ok x y) differs2)

pub returns-clause-cause : goal.returns-clause-cause
returns-clause-cause g c =
    let s : Space = g.R.M.Metric.space (g.R.Ruler.metric c.args.ruler.now) in
    let l : Shelf = g.P.Pages.shelf c.args.left.now in
    let r : Shelf = g.Q.Pages.shelf c.args.right.now in
    let searches : search_within s c.in_ok-begun.begun.rho ≡ join_at s c.args.log.now.r = ap (search_within s) (c.in_ok-begun.ensures.rho ∙ c.min.ensures) in
    let begun = begun_is s l.read r.read c.args.ll.now c.args.lr.now c.args.log.now c.in_ok-begun.begun.rho c.in_ok-begun.begun.named.hits.items c.in_ok-begun.begun.stack.items
    searches c.in_ok-begun.ensures.hits c.in_ok-begun.ensures.stack in
    let records = ap (λ (rs : List JoinRecord). join_walked (search_within s c.in_ok-begun.begun.rho) l.read r.read c.in_ok-begun.begun.named.hits.items (reverse c.in_ok-begun.begun.stack.items) rs 0) c.as_slice-records.ensures in
    let differs : pair_difference 0 c.as_slice.result.now c.as_slice-2.result.now ≡ Some c.in-Some.verdict = sym c.compare_pairs.ensures ∙ c.in-Some.is in
    let differs2 : pair_difference 0 c.args.log.now.answers (in_order pair_before c.in_ok-hits.hits.items) ≡ Some c.in-Some.verdict =
    ap (λ (xs : List Pair). pair_difference 0 xs (in_order pair_before c.in_ok-hits.hits.items)) (sym c.as_slice.ensures)
    ∙ ap (pair_difference 0 c.as_slice.result.now) (sym (c.as_slice-2.ensures.value ∙ c.put_pairs_in_order.ensures)) ∙ differs in
    difference_cause l (g.P.Pages.shelf c.walk_records.new.left) r (g.Q.Pages.shelf c.walk_records.new.right) c.in-Some.verdict
    (join_fault s l.read r.read c.args.ll.now c.args.lr.now c.args.log.now ≡ Some c.in-Some.verdict) 0 c.as_slice.result.now c.as_slice-2.result.now differs
    (λ x y. fault_differs s l.read r.read c.args.ll.now c.args.lr.now c.args.log.now c.in_ok-hits.hits.items (Some c.in-Some.verdict) (sym c.names.ensures ∙ c.if-not-names.false) (sym c.names-2.ensures ∙ c.if-not-names-2.false) (sym begun ∙ sym records ∙ c.in_ok-hits.ensures.ok x y) differs2)

pub returns-clause-complete : goal.returns-clause-complete
returns-clause-complete g c =
    let s : Space = g.R.M.Metric.space (g.R.Ruler.metric c.args.ruler.now) in
    let l : Shelf = g.P.Pages.shelf c.args.left.now in
    let r : Shelf = g.Q.Pages.shelf c.args.right.now in
    λ x y wise. passing l (g.P.Pages.shelf c.walk_records.new.left) r (g.Q.Pages.shelf c.walk_records.new.right) c.in-Some.verdict
    (join_fault s l.read r.read c.args.ll.now c.args.lr.now c.args.log.now ≡ Some c.in-Some.verdict) (returns-clause-cause g c) x y
    (sound_faults s l.read r.read c.args.ll.now c.args.lr.now c.args.log.now c.in-Some.verdict wise)

pub returns-in_err-begun-clause-few_asked : goal.returns-in_err-begun-clause-few_asked
returns-in_err-begun-clause-few_asked g c = ask_none _ _ _
