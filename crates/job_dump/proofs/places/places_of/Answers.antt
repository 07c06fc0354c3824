use Rattle.std.proofs.Common.{◌≡◌, ◌∙◌, arith}
use Rattle.std.proofs.lemmas.List.{take_at}
use Rattle.job_dump.proofs.Walking.{missing_cause}
use Rattle.job_dump.proofs.places.places_of.Goals as goal

pub returns-in-Some-clause-cause : goal.returns-in-Some-clause-cause
returns-in-Some-clause-cause g c =
    let old = g.P.Pages.shelf c.args.pages.now in
    let new = g.P.Pages.shelf c.note_tree.new.pages in
    let same : c.as_slice.result.now ≡ c.note_tree.new.numbers = c.as_slice.ensures.value ∙ take_at c.note_tree.new.numbers _ c.in_ok-numbers.numbers.len (omega arith) in
    let some = rw same at c.in-Some.ensures.some in
    missing_cause c.sound_trees_are_toured.ensures c.args.live.now old new c.note_tree.new.numbers (omega (arith, c.in_ok-numbers.ensures.len)) c.in-Some.id c.in_ok-note_tree.ensures.noted some.0 some.1
