use Rattle.std.proofs.Common.{◌≡◌, None, Some, List, sym, ap, subst, ◌∙◌, inr}
use Rattle.std.proofs.lemmas.Result.{err_from_is_err_and}
use Rattle.seal_log.specs.declared.parts.CarriedPage.{CarriedPage}
use Rattle.seal_log.specs.Judged.{carried_file, path_fault, slots_fault}
use Rattle.seal_log.proofs.CarriedFiles.{pages-below}
use Rattle.seal_log.proofs.Faultless.{path-first, slots-next, log_failed, made_faultless, log-none}
use Rattle.seal_log.proofs.carried.judge_parts.Goals as goal

pub first_astray-requires : goal.first_astray-requires
first_astray-requires c = rw c.as_slice-carried.ensures (pages-below c.args.parts.pages None c.args.parts.carried c.requires.in_place)

pub returns-in-Some-clause-fault : goal.returns-in-Some-clause-fault
returns-in-Some-clause-fault c =
    inr (path-first c.args.root.now c.args.parts c.args.log.now c.in-Some.fault (sym (c.in-Some.ensures ∙ ap (path_fault c.args.root.now c.args.parts.pages) c.as_slice-carried.ensures)))

pub returns-in_err-head-clause-fault : goal.returns-in_err-head-clause-fault
returns-in_err-head-clause-fault c =
    let p = err_from_is_err_and c.from_residual.result c.from_residual.ensures.1 in
    rw (p.1, p.2)
    (inr (slots-next c.args.root.now c.args.parts c.args.log.now c.in_err-head.field-0.0 (sym (c.in_default.ensures ∙ ap (path_fault c.args.root.now c.args.parts.pages) c.as_slice-carried.ensures))
    (subst (λ (ps : List CarriedPage). slots_fault c.args.parts.pages (carried_file c.args.parts.pages ps) ≡ Some c.in_err-head.field-0.0) c.as_slice-carried.ensures c.in_err-head.ensures.fault)))

pub returns-in_err-log-clause-fault : goal.returns-in_err-log-clause-fault
returns-in_err-log-clause-fault c =
    let p = err_from_is_err_and c.from_residual-in_err-log.result c.from_residual-in_err-log.ensures.1 in
    rw (p.1, p.2)
    (log_failed c.args.root.now c.args.parts c.args.log.now c.in_err-log.field-0.0 (sym (c.in_default.ensures ∙ ap (path_fault c.args.root.now c.args.parts.pages) c.as_slice-carried.ensures))
    (subst (λ (ps : List CarriedPage). slots_fault c.args.parts.pages (carried_file c.args.parts.pages ps) ≡ None) c.as_slice-carried.ensures c.in_ok-head.ensures.faultless) c.in_err-log.ensures.fault)

pub returns-clause-faultless : goal.returns-clause-faultless
returns-clause-faultless c =
    made_faultless c.args.root.now c.args.parts c.args.log.now (sym (c.in_default.ensures ∙ ap (path_fault c.args.root.now c.args.parts.pages) c.as_slice-carried.ensures))
    (subst (λ (ps : List CarriedPage). slots_fault c.args.parts.pages (carried_file c.args.parts.pages ps) ≡ None) c.as_slice-carried.ensures c.in_ok-head.ensures.faultless) (log-none c.args.log.now c.in_ok-log.ensures.faultless)
