use Rattle.std.proofs.Common.{◌≡◌, ◌∙◌, ℕ, ◌+◌, ◌*◌, sym, ap, arith, slice_index}
use Rattle.std.proofs.lemmas.Result.{on_ok_weaker}
use Rattle.page_store.proofs.PageBytes.{page_is}
use Rattle.page_store.proofs.reading.read_page.Goals as goal

pub returns-clause-read : goal.returns-clause-read
returns-clause-read g c = on_ok_weaker c.read_at.result (λ read is_known.
    let file = (g.D.Disk.state c.args.disk.now).bytes in
    let same : c.from.result ≡ c.args.page = c.from.ensures in
    sym (page_is file c.args.page c.read_at.new.buf (omega arith)
    (λ k below. ap (λ (n : ℕ). slice_index file (4096 * n + k)) (sym same) ∙ sym (read is_known k (omega arith))))) c.read_at.ensures.read
