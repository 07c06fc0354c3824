use Rattle.std.proofs.Common.{◌*◌, refl}
use Rattle.page_store.proofs.Copied.{page_in_chunk}
use Rattle.page_store.proofs.reading.whole_page.Goals as goal

pub returns : goal.returns
returns c = page_in_chunk (λ y. y.now) c.first_chunk.result c.args.file.now c.args.page (4096 * c.args.page) refl c.first_chunk.ensures.cases
