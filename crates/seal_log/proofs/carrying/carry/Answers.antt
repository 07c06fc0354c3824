use Rattle.std.proofs.Common.{length, arith}
use Rattle.seal_log.proofs.Needed.{pages-within, increasing-few}
use Rattle.seal_log.proofs.carrying.carry.Goals as goal

pub overflow_cast-len : goal.overflow_cast-len
overflow_cast-len g c =
    let ok = c.in_ok-pages.pages.ok in
    omega (arith, c.len.ensures, c.requires.few, increasing-few c.in_ok-pages.pages.items (length c.args.tree.now) c.in_ok-pages.ensures.needed.ascend (pages-within c.args.log.now (length c.args.tree.now) c.in_ok-pages.pages.items c.in_ok-pages.ensures.needed c.requires.some c.requires.within))

pub put_pages-requires-clause-within : goal.put_pages-requires-clause-within
put_pages-requires-clause-within g c = rw c.deref.ensures.value
    (λ k d lt. omega (arith, c.requires.few, pages-within c.args.log.now (length c.args.tree.now) c.in_ok-pages.pages.items c.in_ok-pages.ensures.needed c.requires.some c.requires.within k d lt))
