use Rattle.std.proofs.Common.{◌≡◌, None, Some, List, ℕ, refl, subst, arith}
use Rattle.std.proofs.lemmas.Result.{err_from_is_err_and}
use Rattle.node_page.specs.Heads.{head_fault, head_of}
use Rattle.seal_log.specs.Judged.{after_head, carried_file}
use Rattle.seal_log.proofs.CarriedFiles.{pages-ascend, pages-sized, three-pages, length-carried_file}
use Rattle.seal_log.proofs.OpenedFiles.{opened, unopened, live-all, opens_faultless, head-first}
use Rattle.seal_log.proofs.carried.open_pages.Goals as goal

pub page_bytes-requires-clause-ascend : goal.page_bytes-requires-clause-ascend
page_bytes-requires-clause-ascend c = pages-ascend c.args.pages None c.args.carried.now c.requires.in_place

pub page_bytes-requires-clause-size : goal.page_bytes-requires-clause-size
page_bytes-requires-clause-size c = pages-sized c.args.carried.now c.requires.each

pub returns-in_err-head-clause-fault : goal.returns-in_err-head-clause-fault
returns-in_err-head-clause-fault c =
    let p = err_from_is_err_and c.from_residual.result c.from_residual.ensures.1 in
    let file = carried_file c.args.pages c.args.carried.now in
    let is = c.page_bytes.ensures c.args.pages (omega (arith, three-pages c.args.pages c.args.carried.now c.requires.in_place c.requires.some)) in
    rw (p.1, p.2)
    (head-first file c.args.pages c.in_err-head.field-0.0 (subst (λ (b : List ℕ). after_head (head_fault b) (head_of b) ≡ Some c.in_err-head.field-0.0) is c.in_err-head.ensures.fault))

pub page_bytes-requires-2-clause-ascend : goal.page_bytes-requires-2-clause-ascend
page_bytes-requires-2-clause-ascend c = pages-ascend c.args.pages None c.args.carried.now c.requires.in_place

pub page_bytes-requires-2-clause-size : goal.page_bytes-requires-2-clause-size
page_bytes-requires-2-clause-size c = pages-sized c.args.carried.now c.requires.each

pub page_bytes-requires-3-clause-ascend : goal.page_bytes-requires-3-clause-ascend
page_bytes-requires-3-clause-ascend c = pages-ascend c.args.pages None c.args.carried.now c.requires.in_place

pub page_bytes-requires-3-clause-size : goal.page_bytes-requires-3-clause-size
page_bytes-requires-3-clause-size c = pages-sized c.args.carried.now c.requires.each

pub returns-in-Some-clause-opens : goal.returns-in-Some-clause-opens
returns-in-Some-clause-opens c =
    let three = three-pages c.args.pages c.args.carried.now c.requires.in_place c.requires.some in
    opened (carried_file c.args.pages c.args.carried.now) c.args.pages c.in_ok-head.head c.in-Some.live c.page_bytes.result c.page_bytes-2.result c.page_bytes-3.result
    (length-carried_file c.args.pages c.args.carried.now) three (c.page_bytes.ensures c.args.pages (omega arith)) (c.page_bytes-2.ensures c.args.pages (omega arith)) (c.page_bytes-3.ensures c.args.pages (omega arith))
    c.in_ok-head.ensures.spells c.in-Some.ensures.some

pub returns-in-Some-clause-faultless : goal.returns-in-Some-clause-faultless
returns-in-Some-clause-faultless c =
    opens_faultless (carried_file c.args.pages c.args.carried.now) c.args.pages c.in_ok-head.head c.in-Some.live (returns-in-Some-clause-opens c) c.in_ok-head.ensures.version (live-all c.in-Some.ensures.some)

pub returns-in-None-clause-fault : goal.returns-in-None-clause-fault
returns-in-None-clause-fault c =
    let three = three-pages c.args.pages c.args.carried.now c.requires.in_place c.requires.some in
    unopened (carried_file c.args.pages c.args.carried.now) c.args.pages c.in_ok-head.head c.page_bytes.result c.page_bytes-2.result c.page_bytes-3.result
    (length-carried_file c.args.pages c.args.carried.now) three (c.page_bytes.ensures c.args.pages (omega arith)) (c.page_bytes-2.ensures c.args.pages (omega arith)) (c.page_bytes-3.ensures c.args.pages (omega arith))
    c.in_ok-head.ensures.spells c.in_ok-head.ensures.version (λ live slots. c.in-None.ensures.none refl live slots)
