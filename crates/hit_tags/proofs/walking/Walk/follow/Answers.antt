use Rattle.std.proofs.Common.{◌≡◌, ◌∙◌, ◌∷◌, length, reverse, sym, ap, arith}
use Rattle.std.proofs.lemmas.Grind.{common_steps}
use Rattle.page_store.specs.Reading.{nodes_of, node_or_none}
use Rattle.log_model.specs.Counts.{entry_count}
use Rattle.log_model.proofs.Published.{marks_node}
use Rattle.hit_tags.proofs.Following.{upto_once, goes_on}
use Rattle.hit_tags.proofs.walking.Walk.follow.Goals as goal

pub returns-then-marks-entry_count-clause-asked : goal.returns-then-marks-entry_count-clause-asked
returns-then-marks-entry_count-clause-asked g c = upto_once _ _ c.node.ensures.asked

pub returns-in_err-take_node-clause-asked : goal.returns-in_err-take_node-clause-asked
returns-in_err-take_node-clause-asked g c = upto_once _ _ c.node.ensures.asked

pub returns-clause-asked : goal.returns-clause-asked
returns-clause-asked g c = upto_once _ _ c.node.ensures.asked

pub returns-clause-ok : goal.returns-clause-ok
returns-clause-ok g c = λ is_known.
    let nodes = nodes_of (g.P.Pages.shelf c.args.pages.now).read in
    let stack : reverse c.args.self.now.stack.items ≡ c.in-Some.page ∷ reverse c.pop.new.self.items = grind (arith, common_steps, c.in-Some.ensures.items) in
    let marks : length c.args.told.now.marks ≡ entry_count c.as_ref-node.result.now = ap length (sym c.as_slice-marks.ensures) ∙ c.if-marks-entry_count.false ∙ c.entry_count.ensures in
    let marked = marks_node nodes c.in-Some.page c.args.told.now c.as_ref-node.result.now c.if-told-page.false (rw c.as_ref-node.ensures (ap node_or_none (c.in_ok-shared.ensures.ok.told is_known))) marks in
    goes_on nodes c.args.self.now c.take_node.new.self c.args.told.now c.in-Some.page (reverse c.pop.new.self.items) stack c.as_ref-node.result.now marked
    (rw (sym c.as_slice-marks.ensures) c.in_ok-take_node.ensures.objects) (rw (sym c.as_slice-marks.ensures) c.in_ok-take_node.ensures.pages)
