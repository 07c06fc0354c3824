use Rattle.std.proofs.Common.{◌≡◌, ℕ, ◌≤◌, sym, ap, subst, ◌∙◌, arith, List, Option}
use Rattle.std.specs.Prelude.{IsTrue}
use Rattle.disk_model.specs.Disk.{EachImage}
use Rattle.shadow_root.specs.Commit.{HasNext, IsBeforeOrAfter, IsReady, IsStagedFor}
use Rattle.page_cache.specs.Keeping.{Pairs}
use Rattle.page_store.specs.Staging.{pages_of}
use Rattle.free_pages.specs.Commits.{after_commit}
use Rattle.index_core.specs.Files.{OpenFile, IsValidFile}
use Rattle.index_core.specs.Writing.{forgotten_of}
use Rattle.index_core.proofs.Settled.{can_follow, ready, forgotten_file, next_valid, committed}
use Rattle.index_core.proofs.view.View.write.Goals as goal

pub commit-requires-clause-staged : goal.commit-requires-clause-staged
commit-requires-clause-staged g c =
    let valid = subst (λ (f : OpenFile g.row.M.Denot). IsValidFile (g.M.Metric.space c.self.inside.metric).dimension f) c.self.view_is c.self.invariant in
    subst (λ (f : OpenFile g.row.M.Denot). IsStagedFor f.head.dim f.live c.args.placed.now.next c.args.placed.now.staged) (sym c.self.view_is)
    (can_follow _ c.args.self.now c.args.free.now c.args.free.now.spare c.args.used c.args.placed.now valid c.requires.kept c.requires.within c.requires.placed).1

pub commit-requires-clause-ready : goal.commit-requires-clause-ready
commit-requires-clause-ready g c = λ is_known.
    let valid = subst (λ (f : OpenFile g.row.M.Denot). IsValidFile (g.M.Metric.space c.self.inside.metric).dimension f) c.self.view_is c.self.invariant in
    subst (λ (f : OpenFile g.row.M.Denot). IsReady f.head.dim f.live c.args.placed.now.next c.args.placed.now.staged (g.D.Disk.state c.args.disk.now)) (sym c.self.view_is)
    (ready _ c.args.self.now c.args.free.now c.args.free.now.spare c.args.used c.args.placed.now valid c.requires.kept c.requires.within c.requires.placed (g.D.Disk.state c.args.disk.now) c.requires.stands c.requires.only
    c.requires.beside is_known)

pub invariant_of-self : goal.invariant_of-self
invariant_of-self g c =
    let valid = subst (λ (f : OpenFile g.row.M.Denot). IsValidFile (g.M.Metric.space c.self.inside.metric).dimension f) c.self.view_is c.self.invariant in
    let is : record { head = c.self.inside.head; live = c.self.inside.live; metric = c.self.inside.metric; kept = c.forget.new.kept } ≡ record c.args.self.now { kept = forgotten_of (pages_of c.args.placed.now.staged) c.args.self.now.kept } =
    ap (λ (k : Option Pairs). record { head = c.self.inside.head; live = c.self.inside.live; metric = c.self.inside.metric; kept = k }) c.forget.ensures
    ∙ ap (λ (f : OpenFile g.row.M.Denot). record f { kept = forgotten_of (pages_of c.args.placed.now.staged) f.kept }) c.self.view_is in
    subst (IsValidFile (g.M.Metric.space c.self.inside.metric).dimension) (sym is) (forgotten_file _ c.args.self.now (pages_of c.args.placed.now.staged) valid)

pub invariant_of-self-2 : goal.invariant_of-self-2
invariant_of-self-2 g c =
    let valid = subst (λ (f : OpenFile g.row.M.Denot). IsValidFile (g.M.Metric.space c.self.inside.metric).dimension f) c.self.view_is c.self.invariant in
    let is : record { head = c.self.inside.head; live = c.args.placed.now.next; metric = c.self.inside.metric; kept = c.forget.new.kept } ≡ record c.args.self.now { live = c.args.placed.now.next; kept = forgotten_of (pages_of c.args.placed.now.staged) c.args.self.now.kept } =
    ap (λ (k : Option Pairs). record { head = c.self.inside.head; live = c.args.placed.now.next; metric = c.self.inside.metric; kept = k }) c.forget.ensures
    ∙ ap (λ (f : OpenFile g.row.M.Denot). record f { live = c.args.placed.now.next; kept = forgotten_of (pages_of c.args.placed.now.staged) f.kept }) c.self.view_is in
    subst (IsValidFile (g.M.Metric.space c.self.inside.metric).dimension) (sym is) (next_valid _ c.args.self.now c.args.free.now c.args.free.now.spare c.args.used c.args.placed.now valid c.requires.kept c.requires.within c.requires.placed)

pub returns-clause-committed : goal.returns-clause-committed
returns-clause-committed g c =
    let valid = subst (λ (f : OpenFile g.row.M.Denot). IsValidFile (g.M.Metric.space c.self.inside.metric).dimension f) c.self.view_is c.self.invariant in
    let three : 3 ≤ c.args.self.now.live.pages = (let low = valid.live.1.low_pages in omega arith) in
    let is : record { head = c.self.inside.head; live = c.args.placed.now.next; metric = c.self.inside.metric; kept = c.forget.new.kept } ≡ record c.args.self.now { live = c.args.placed.now.next; kept = forgotten_of (pages_of c.args.placed.now.staged) c.args.self.now.kept } =
    ap (λ (k : Option Pairs). record { head = c.self.inside.head; live = c.args.placed.now.next; metric = c.self.inside.metric; kept = k }) c.forget.ensures
    ∙ ap (λ (f : OpenFile g.row.M.Denot). record f { live = c.args.placed.now.next; kept = forgotten_of (pages_of c.args.placed.now.staged) f.kept }) c.self.view_is in
    let moments = subst (λ (f : OpenFile g.row.M.Denot). IsTrue (g.D.Disk.state c.args.disk.now).is_known →
    EachImage (g.D.Disk.state c.args.disk.now) (g.D.Disk.state c.commit.new.disk) (IsBeforeOrAfter f.head.dim f.live c.args.placed.now.next c.args.placed.now.staged (g.D.Disk.state c.args.disk.now)))
    c.self.view_is c.commit.ensures.any_moment in
    let done = subst (λ (f : OpenFile g.row.M.Denot). IsTrue (g.D.Disk.state c.args.disk.now).is_known →
    HasNext f.head.dim c.args.placed.now.next c.args.placed.now.staged (g.D.Disk.state c.commit.new.disk).bytes) c.self.view_is c.in_ok-commit.ensures.done in
    let settled = c.settle.ensures.settled
    ∙ ap (λ (l : List ℕ). after_commit c.args.used l c.args.placed.now.next.generation c.args.free.now) c.as_slice.ensures in
    committed _ c.args.self.now c.args.free.now c.args.free.now.spare c.args.used c.args.placed.now valid c.requires.kept c.requires.within c.requires.placed (g.D.Disk.state c.args.disk.now) (g.D.Disk.state c.commit.new.disk) c.requires.stands
    c.requires.only c.requires.beside c.requires.follows moments c.in_ok-commit.ensures.only done c.commit.ensures.is_known (g.met.D.Disk.read_is_image c.commit.new.disk) c.forgetting_keeps_agreement.ensures three _
    c.settle.new.self settled is
