use Rattle.std.proofs.Common.{◌∙◌, ◌∷◌, ◌++◌, [], refl, sym, subst, arith}
use Rattle.tree_shape.specs.declared.entry.Node.{Node}
use Rattle.page_store.specs.Reading.{nodes_of}
use Rattle.page_store.specs.Shelf.{IsNodeOf}
use Rattle.page_store.proofs.Published.{told_then}
use Rattle.page_tour.specs.Courses.{OpensNext}
use Rattle.page_tour.proofs.Published.{tour_begins, tour_goes_on, tour_stops}
use Rattle.job_dump.specs.Rows.{objects_on}
use Rattle.job_dump.proofs.Noting.{none_noted}
use Rattle.job_dump.proofs.Walking.{many_cause, notes_more, page_cause}
use Rattle.job_dump.proofs.places.note_tree.Goals as goal

pub loop-page-init : goal.loop-page-init
loop-page-init g c =
    let old = g.P.Pages.shelf c.args.pages.now in
    record {
      keeps = g.met.P.Pages.keeps_none c.args.pages.now;
      long = refl;
      way = ([], tour_begins old c.args.live.now c.in_ok-tour.tour c.in_ok-tour.ensures, λ is_known. none_noted (nodes_of old.read) c.args.numbers.now c.requires.none);
    }

pub returns-in-Err-note_node-clause-cause : goal.returns-in-Err-note_node-clause-cause
returns-in-Err-note_node-clause-cause g c =
    let old = g.P.Pages.shelf c.args.pages.now in
    let now = g.P.Pages.shelf c.loop-page.pages in
    let new = g.P.Pages.shelf c.next.new.pages in
    let live = c.args.live.now in
    let page = c.in-Ok-Some.page in
    let node = c.as_ref.result.now in
    let way = c.loop-page.invariant.way in
    let opens : OpensNext now new c.loop-page.tour c.next.new.self page c.in-Ok-Some.node = rw c.in-Ok-Some.field-0-is at c.in-Ok-Some.ensures.opened in
    let is : IsNodeOf now page node = subst (λ (n : Node). IsNodeOf now page n) (sym c.as_ref.ensures) opens.is in
    let goes = tour_goes_on old live now new c.loop-page.tour way.0 way.1 c.next.new.self page c.in-Ok-Some.node opens c.next.ensures.same c.next.ensures.reads in
    many_cause c.sound_trees_are_toured.ensures live old new c.loop-page.numbers (c.loop-page.invariant.long ∙ c.requires.long) way.0 c.next.new.self.coming page node c.in-Err-note_node.id
    (told_then old now page node way.1.same is) goes.walk
    (λ is_known. c.in-Err-note_node.ensures.wrong (nodes_of old.read) (objects_on (nodes_of old.read) way.0) (told_then old now page node way.1.same is is_known) (way.2 is_known))

pub loop-page-preserved : goal.loop-page-preserved
loop-page-preserved g c =
    let old = g.P.Pages.shelf c.args.pages.now in
    let now = g.P.Pages.shelf c.loop-page.pages in
    let new = g.P.Pages.shelf c.next.new.pages in
    let page = c.in-Ok-Some.page in
    let node = c.as_ref.result.now in
    let way = c.loop-page.invariant.way in
    let opens : OpensNext now new c.loop-page.tour c.next.new.self page c.in-Ok-Some.node = rw c.in-Ok-Some.field-0-is at c.in-Ok-Some.ensures.opened in
    let is : IsNodeOf now page node = subst (λ (n : Node). IsNodeOf now page n) (sym c.as_ref.ensures) opens.is in
    record {
      keeps = g.met.P.Pages.keeps_both c.args.pages.now c.loop-page.pages c.next.new.pages c.loop-page.invariant.keeps c.next.ensures.keeps;
      long = (let l = c.loop-page.invariant.long in omega arith);
      way = (
        way.0 ++ page ∷ [],
        tour_goes_on old c.args.live.now now new c.loop-page.tour way.0 way.1 c.next.new.self page c.in-Ok-Some.node opens c.next.ensures.same c.next.ensures.reads,
        λ is_known.
            let there = told_then old now page node way.1.same is is_known in
            notes_more (nodes_of old.read) c.note_node.new.numbers way.0 page node there
            (c.in-Ok.ensures.noted (nodes_of old.read) (objects_on (nodes_of old.read) way.0) there (way.2 is_known)),
      );
    }

pub returns-in-Err-clause-cause : goal.returns-in-Err-clause-cause
returns-in-Err-clause-cause g c =
    let old = g.P.Pages.shelf c.args.pages.now in
    let new = g.P.Pages.shelf c.next.new.pages in
    let way = c.loop-page.invariant.way in
    page_cause c.args.live.now old new c.in-Err.fault
    (tour_stops old c.args.live.now (g.P.Pages.shelf c.loop-page.pages) new c.loop-page.tour way.0 way.1 c.in-Err.fault c.in-Err.ensures.stop)
