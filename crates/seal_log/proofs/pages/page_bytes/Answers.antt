use Rattle.std.proofs.Common.{sym, ◌∙◌}
use Rattle.seal_log.proofs.CarriedFiles.{page-carried, page-zero}
use Rattle.seal_log.proofs.pages.page_bytes.Goals as goal

pub returns-in-Some : goal.returns-in-Some
returns-in-Some c = λ pages within. c.copy_from_slice.ensures.after ∙ c.as_slice.ensures
    ∙ sym (page-carried pages c.args.carried.now c.args.page c.in-Some.found.now.bytes within (c.in-Some.ensures.size c.requires.size) c.in-Some.ensures.bytes)

pub returns-in_default : goal.returns-in_default
returns-in_default c = λ pages within. sym (page-zero pages c.args.carried.now c.args.page within c.in_default.ensures.bytes)
