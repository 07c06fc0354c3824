use Rattle.std.proofs.Common.{◌≡◌, ◌∷◌, [], List, Some, None, Err, ap, sym, ◌∙◌}
use Rattle.std.proofs.lemmas.Result.{err_from_is_err_and}
use Rattle.metric_laws.specs.Space.{Space}
use Rattle.scan_model.specs.declared.hit.Hit.{Hit}
use Rattle.page_store.specs.Shelf.{Shelf}
use Rattle.log_model.specs.declared.marks.Record.{Record}
use Rattle.log_model.specs.Walk.{Search, search_at, root_need}
use Rattle.log_model.specs.Sound.{search_for, selected}
use Rattle.log_verify.specs.Judged.{walked, first_difference, log_fault}
use Rattle.log_verify.proofs.Soundness.{sound_from_none}
use Rattle.log_verify.proofs.Verdicts.{difference_cause, fault_differs, sound_walks, sound_faults, passing}
use Rattle.log_verify.proofs.verifying.verify.Goals as goal

pub returns-in_err-hits-clause-complete : goal.returns-in_err-hits-clause-complete
returns-in_err-hits-clause-complete g c =
    let p = err_from_is_err_and c.from_residual.result c.from_residual.ensures.1 in
    let s : Space = g.R.M.Metric.space (g.R.Ruler.metric c.args.ruler.now) in
    let old : Shelf = g.P.Pages.shelf c.args.pages.now in
    let f : Search = search_at s c.point_of-point.result.now c.radius_of.result in
    let searches : f ≡ search_for s c.args.log.now.query c.args.log.now.answers = cc (c.point_of-point.ensures, c.radius_of.ensures, c.as_slice.ensures) in
    rw (p.1, p.2)
    (λ is_known wise. passing old (g.P.Pages.shelf c.walk_records.new.pages) c.in_err-hits.field-0.0 (walked f old.read [] (root_need c.args.live.now.root ∷ []) c.as_slice-records.result.now 0 ≡ Err c.in_err-hits.field-0.0)
    c.in_err-hits.ensures.cause is_known
    (λ fault. sound_walks s old.read c.args.live.now c.args.log.now f c.in_err-hits.field-0.0 searches wise
    (ap (λ (rs : List Record). walked f old.read [] (root_need c.args.live.now.root ∷ []) rs 0) (sym c.as_slice-records.ensures) ∙ fault)))

pub returns-in-None-clause-sound : goal.returns-in-None-clause-sound
returns-in-None-clause-sound g c =
    let s : Space = g.R.M.Metric.space (g.R.Ruler.metric c.args.ruler.now) in
    let old : Shelf = g.P.Pages.shelf c.args.pages.now in
    let f : Search = search_at s c.point_of-point.result.now c.radius_of.result in
    let searches : f ≡ search_for s c.args.log.now.query c.args.log.now.answers = cc (c.point_of-point.ensures, c.radius_of.ensures, c.as_slice.ensures) in
    let same : first_difference 0 c.as_slice-2.result.now c.as_slice-3.result.now ≡ None = sym c.compare.ensures ∙ c.in-None.is in
    let same2 : first_difference 0 c.args.log.now.answers (selected c.args.log.now.query c.in_ok-hits.hits.items) ≡ None =
    ap (λ (xs : List Hit). first_difference 0 xs (selected c.args.log.now.query c.in_ok-hits.hits.items)) (sym c.as_slice-2.ensures)
    ∙ ap (first_difference 0 c.as_slice-2.result.now) (sym (c.as_slice-3.ensures.value ∙ c.select.ensures)) ∙ same in
    λ is_known. sound_from_none s old.read c.args.live.now c.args.log.now
    (fault_differs s old.read c.args.live.now c.args.log.now f c.in_ok-hits.hits.items None searches c.if-log-live.false c.if-log-live-2.false
    (ap s.is_point (sym c.point_of-point.ensures) ∙ sym c.is_point.ensures ∙ c.if-not-is_point.false)
    (ap (λ (rs : List Record). walked f old.read [] (root_need c.args.live.now.root ∷ []) rs 0) (sym c.as_slice-records.ensures) ∙ c.in_ok-hits.ensures.ok is_known) same2)

pub returns-clause-cause : goal.returns-clause-cause
returns-clause-cause g c =
    let s : Space = g.R.M.Metric.space (g.R.Ruler.metric c.args.ruler.now) in
    let old : Shelf = g.P.Pages.shelf c.args.pages.now in
    let f : Search = search_at s c.point_of-point.result.now c.radius_of.result in
    let searches : f ≡ search_for s c.args.log.now.query c.args.log.now.answers = cc (c.point_of-point.ensures, c.radius_of.ensures, c.as_slice.ensures) in
    let differs : first_difference 0 c.as_slice-2.result.now c.as_slice-3.result.now ≡ Some c.in-Some.verdict = sym c.compare.ensures ∙ c.in-Some.is in
    let differs2 : first_difference 0 c.args.log.now.answers (selected c.args.log.now.query c.in_ok-hits.hits.items) ≡ Some c.in-Some.verdict =
    ap (λ (xs : List Hit). first_difference 0 xs (selected c.args.log.now.query c.in_ok-hits.hits.items)) (sym c.as_slice-2.ensures)
    ∙ ap (first_difference 0 c.as_slice-2.result.now) (sym (c.as_slice-3.ensures.value ∙ c.select.ensures)) ∙ differs in
    difference_cause old (g.P.Pages.shelf c.walk_records.new.pages) c.in-Some.verdict (log_fault s old.read c.args.live.now c.args.log.now ≡ Some c.in-Some.verdict) 0 c.as_slice-2.result.now c.as_slice-3.result.now differs
    (λ is_known. fault_differs s old.read c.args.live.now c.args.log.now f c.in_ok-hits.hits.items (Some c.in-Some.verdict) searches c.if-log-live.false c.if-log-live-2.false
    (ap s.is_point (sym c.point_of-point.ensures) ∙ sym c.is_point.ensures ∙ c.if-not-is_point.false)
    (ap (λ (rs : List Record). walked f old.read [] (root_need c.args.live.now.root ∷ []) rs 0) (sym c.as_slice-records.ensures) ∙ c.in_ok-hits.ensures.ok is_known) differs2)

pub returns-clause-complete : goal.returns-clause-complete
returns-clause-complete g c =
    let s : Space = g.R.M.Metric.space (g.R.Ruler.metric c.args.ruler.now) in
    let old : Shelf = g.P.Pages.shelf c.args.pages.now in
    λ is_known wise. passing old (g.P.Pages.shelf c.walk_records.new.pages) c.in-Some.verdict (log_fault s old.read c.args.live.now c.args.log.now ≡ Some c.in-Some.verdict)
    (returns-clause-cause g c) is_known (sound_faults s old.read c.args.live.now c.args.log.now c.in-Some.verdict wise)
