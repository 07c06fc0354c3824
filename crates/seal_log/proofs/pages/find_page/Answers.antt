use Rattle.std.proofs.Common.{sym, ap, ◌∙◌}
use Rattle.seal_log.specs.declared.parts.CarriedPage.{CarriedPage}
use Rattle.seal_log.proofs.CarriedFiles.{found_at, not_found}
use Rattle.seal_log.proofs.pages.find_page.Goals as goal

pub returns-in-Ok-clause-test : goal.returns-in-Ok-clause-test
returns-in-Ok-clause-test c = sym (found_at c.args.carried.now c.args.page c.in-Ok.at c.index-carried-at.result c.requires c.in-Ok.ensures.there.0 (c.in-Ok.ensures.there.1 c.index-carried-at.result)).0

pub returns-in-Ok-clause-bytes : goal.returns-in-Ok-clause-bytes
returns-in-Ok-clause-bytes c =
    (found_at c.args.carried.now c.args.page c.in-Ok.at c.index-carried-at.result c.requires c.in-Ok.ensures.there.0 (c.in-Ok.ensures.there.1 c.index-carried-at.result)).1
    ∙ ap (λ (p : CarriedPage). p.bytes) (sym c.index-carried-at.is)

pub returns-in-Err-clause-test : goal.returns-in-Err-clause-test
returns-in-Err-clause-test c = sym (not_found c.args.carried.now c.args.page c.in-Err.ensures.nowhere).0

pub returns-in-Err-clause-bytes : goal.returns-in-Err-clause-bytes
returns-in-Err-clause-bytes c = (not_found c.args.carried.now c.args.page c.in-Err.ensures.nowhere).1
