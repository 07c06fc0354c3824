use Rattle.std.proofs.Common.{◌∙◌, ◌∷◌, List, drop, suc, reverse, subst, arith, true, false, Bool}
use Rattle.std.proofs.lemmas.Result.{err_from_is_err_and}
use Rattle.std.specs.Prelude.{IsTrue}
use Rattle.page_store.specs.Reading.{Read, nodes_of}
use Rattle.page_store.specs.Shelf.{Shelf}
use Rattle.log_model.specs.declared.marks.Record.{Record}
use Rattle.hit_tags.specs.Steps.{HasFollowed}
use Rattle.hit_tags.proofs.Following.{one_left, far_taken, far_ends, way_on, way_ends, way_comes, cause_kept}
use Rattle.hit_tags.proofs.walking.Walk.follow_all.Goals as goal
use Rattle.page_store.proofs.Published.{holds_both}

pub returns-in_err-follow-clause-asked : goal.returns-in_err-follow-clause-asked
returns-in_err-follow-clause-asked g c =
    far_ends _ _ _ _ (far_taken c.args.records.now c.loop-told.told-index c.loop-told-test.true _ _ _ _ c.loop-told.invariant.asked c.follow.ensures.asked)

pub returns-in_err-follow-clause-reads : goal.returns-in_err-follow-clause-reads
returns-in_err-follow-clause-reads g c =
    let cost = one_left c.args.records.now c.loop-told.told-index c.loop-told-test.true in
    omega (arith, c.loop-told.invariant.reads, c.follow.ensures.reads, cost)

pub returns-in_err-follow-clause-cause : goal.returns-in_err-follow-clause-cause
returns-in_err-follow-clause-cause g c =
    let p = err_from_is_err_and c.from_residual.result c.from_residual.ensures.1 in
    let old : Shelf = g.P.Pages.shelf c.args.pages.now in
    let mid : Shelf = g.P.Pages.shelf c.loop-told.pages in
    let rest : List Record = drop (suc c.loop-told.told-index) c.args.records.now in
    rw (p.1, p.2)
    (cause_kept old mid (g.P.Pages.shelf c.follow.new.pages) c.loop-told.invariant.same (reverse c.args.self.now.stack.items) (reverse c.loop-told.self.stack.items) c.args.records.now (c.told-item.result ∷ rest)
    (λ is_known. way_comes (nodes_of old.read) c.args.self.now c.args.records.now c.loop-told.self c.loop-told.told-index c.told-item.result c.loop-told-test.true c.told-item.is (c.loop-told.invariant.way is_known))
    c.in_err-follow.field-0.0 (c.in_err-follow.ensures.cause rest))

pub returns-then-not-branch-clause-ok : goal.returns-then-not-branch-clause-ok
returns-then-not-branch-clause-ok g c = λ is_known.
    let old : Shelf = g.P.Pages.shelf c.args.pages.now in
    let same = c.loop-told.invariant.same in
    let ended : HasFollowed (nodes_of old.read) c.loop-told.self c.told-item.result c.follow.new.self false =
    subst (λ (b : Bool). HasFollowed (nodes_of old.read) c.loop-told.self c.told-item.result c.follow.new.self b) c.if-not-branch.true
    (subst (λ (read : Read). HasFollowed (nodes_of read) c.loop-told.self c.told-item.result c.follow.new.self c.in_ok-follow.field-0) same.read (c.in_ok-follow.ensures.ok (same.is_known ∙ is_known))) in
    way_ends (nodes_of old.read) c.args.self.now c.args.records.now c.loop-told.self c.loop-told.told-index c.told-item.result c.loop-told-test.true c.told-item.is (c.loop-told.invariant.way is_known) c.follow.new.self ended

pub returns-then-not-branch-clause-asked : goal.returns-then-not-branch-clause-asked
returns-then-not-branch-clause-asked g c =
    far_ends _ _ _ _ (far_taken c.args.records.now c.loop-told.told-index c.loop-told-test.true _ _ _ _ c.loop-told.invariant.asked c.follow.ensures.asked)

pub returns-then-not-branch-clause-reads : goal.returns-then-not-branch-clause-reads
returns-then-not-branch-clause-reads g c =
    let cost = one_left c.args.records.now c.loop-told.told-index c.loop-told-test.true in
    omega (arith, c.loop-told.invariant.reads, c.follow.ensures.reads, cost)

pub loop-told-preserved : goal.loop-told-preserved
loop-told-preserved g c =
    let old : Shelf = g.P.Pages.shelf c.args.pages.now in
    let same = c.loop-told.invariant.same in
    let followed : IsTrue old.is_known → HasFollowed (nodes_of old.read) c.loop-told.self c.told-item.result c.follow.new.self true = λ is_known.
    subst (λ (b : Bool). HasFollowed (nodes_of old.read) c.loop-told.self c.told-item.result c.follow.new.self b) c.if-not-branch.false
    (subst (λ (read : Read). HasFollowed (nodes_of read) c.loop-told.self c.told-item.result c.follow.new.self c.in_ok-follow.field-0) same.read (c.in_ok-follow.ensures.ok (same.is_known ∙ is_known))) in
    record {
      same = holds_both _ _ _ same c.follow.ensures.same;
      keeps = g.met.P.Pages.keeps_both c.args.pages.now c.loop-told.pages c.follow.new.pages c.loop-told.invariant.keeps c.follow.ensures.keeps;
      asked = far_taken c.args.records.now c.loop-told.told-index c.loop-told-test.true _ _ _ _ c.loop-told.invariant.asked c.follow.ensures.asked;
      reads = (let cost = one_left c.args.records.now c.loop-told.told-index c.loop-told-test.true in omega (arith, c.loop-told.invariant.reads, c.follow.ensures.reads, cost));
      no_fault = c.in_ok-follow.ensures.no_fault ∙ c.loop-told.invariant.no_fault;
      way = λ is_known.
          way_on (nodes_of old.read) c.args.self.now c.args.records.now c.loop-told.self c.loop-told.told-index c.told-item.result c.loop-told-test.true c.told-item.is (c.loop-told.invariant.way is_known) c.follow.new.self
          (followed is_known (drop (suc c.loop-told.told-index) c.args.records.now));
    }
