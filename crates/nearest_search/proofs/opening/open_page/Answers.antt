use Rattle.std.proofs.Common.{◌∙◌, inl, inr}
use Rattle.nearest_search.specs.Keeping.{blocks_of, seen_at}
use Rattle.nearest_search.proofs.Spans.{still_fit, seen_same}
use Rattle.nearest_search.proofs.opening.open_page.Goals as goal

pub put-requires-clause-fits : goal.put-requires-clause-fits
put-requires-clause-fits g c = still_fit c.args.machine.now.kept c.see_node.new.machine.kept c.see_node.ensures.spans c.in_ok-span.ensures.seen.grows c.requires.fits

pub returns-clause-opened : goal.returns-clause-opened
returns-clause-opened g c =
    let sees = c.in_ok-span.ensures.seen in
    record {
      node = c.in_ok-node.node;
      is = c.in_ok-node.ensures.ok;
      pushed = (rw c.as_ref.ensures at c.in_ok-span.ensures.pushed);
      noted = (rw c.as_ref.ensures at c.in_ok-span.ensures.noted);
      seen = seen_at (blocks_of c.see_node.new.machine.kept) c.in_ok-span.span;
      seen_is = (rw c.as_ref.ensures at sees.seen_is);
      measured = (rw c.as_ref.ensures at c.see_node.ensures.used);
      here = c.in_ok-put.ensures.here;
      others = λ page above. elim (c.in_ok-put.ensures.others page above) [
        | inl same ↦ inl same
        | inr same ↦ inr (same ∙ seen_same c.args.machine.now.kept c.see_node.new.machine.kept c.see_node.ensures.spans sees.grows c.requires.fits page above)
      ];
    }
