use Rattle.std.proofs.Common.{sym, arith}
use Rattle.page_store.proofs.PageBytes.{page_is}
use Rattle.page_store.proofs.reading.copy_page.Goals as goal

pub returns : goal.returns
returns c = sym (page_is c.args.file.now c.args.page c.loop-at.bytes c.loop-at.invariant.0 (λ k below. sym (c.loop-at.invariant.1 k (omega (arith, c.loop-at.invariant.0)))))
