use Rattle.std.proofs.Common.{◌≡◌, ◌∙◌}
use Rattle.pin_cursor.specs.Cursor.{OpenCursor}
use Rattle.pin_cursor.specs.Steps.{stage}
use Rattle.pin_cursor.proofs.Ways.{step_reached, step_walks, step_accounted, step_gives}
use Rattle.pin_cursor.proofs.cursor.Cursor.step.Goals as goal

pub returns-in-Ok-clause-gives : goal.returns-in-Ok-clause-gives
returns-in-Ok-clause-gives g c =
    let first : ◌≡◌ {A = OpenCursor} (stage c.self.inside.live c.as_slice.result.now c.begin-walk.result.given c.begin-walk.result.opened c.begin-walk.result.subtrees.waits c.begin-walk.result.candidates.waits)
    c.args.self.now = (λ i. stage c.self.inside.live (c.as_slice.ensures i) (c.begin-walk.ensures.given i) (c.begin-walk.ensures.opened i) (c.begin-walk.ensures.subtrees.1 i)
    (c.begin-walk.ensures.candidates.1 i)) ∙ c.self.view_is in
    let last : ◌≡◌ {A = OpenCursor} c.settle.new.self (stage c.args.self.now.live c.args.self.now.point c.advance.new.walk.given c.advance.new.walk.opened c.advance.new.walk.subtrees.waits
    c.advance.new.walk.candidates.waits) = c.settle.ensures.after ∙ (λ i. stage (c.self.view_is i).live (c.self.view_is i).point c.advance.new.walk.given c.advance.new.walk.opened
    c.advance.new.walk.subtrees.waits c.advance.new.walk.candidates.waits) in
    step_gives (g.R.M.Metric.space (g.R.Ruler.metric c.args.ruler.now)) (g.met.R.Ruler.axioms c.args.ruler.now) (g.P.Pages.shelf c.args.pages.now) (g.P.Pages.shelf c.advance.new.pages) c.self.inside.live
    c.as_slice.result.now c.begin-walk.result.given c.begin-walk.result.opened c.begin-walk.result.subtrees.waits c.begin-walk.result.candidates.waits c.advance.new.walk.given c.advance.new.walk.opened
    c.advance.new.walk.subtrees.waits c.advance.new.walk.candidates.waits c.advance.new.walk.hits.items c.advance.new.walk.tags.items c.in-Ok.ensures.way c.args.self.now c.settle.new.self first last
    c.requires.point c.args.n c.in-Ok.ensures.ends c.settle.result.hits c.settle.result.tags c.settle.ensures.hits c.settle.ensures.tags

pub returns-in-Ok-clause-reached : goal.returns-in-Ok-clause-reached
returns-in-Ok-clause-reached g c =
    let first : ◌≡◌ {A = OpenCursor} (stage c.self.inside.live c.as_slice.result.now c.begin-walk.result.given c.begin-walk.result.opened c.begin-walk.result.subtrees.waits c.begin-walk.result.candidates.waits)
    c.args.self.now = (λ i. stage c.self.inside.live (c.as_slice.ensures i) (c.begin-walk.ensures.given i) (c.begin-walk.ensures.opened i) (c.begin-walk.ensures.subtrees.1 i)
    (c.begin-walk.ensures.candidates.1 i)) ∙ c.self.view_is in
    let last : ◌≡◌ {A = OpenCursor} c.settle.new.self (stage c.args.self.now.live c.args.self.now.point c.advance.new.walk.given c.advance.new.walk.opened c.advance.new.walk.subtrees.waits
    c.advance.new.walk.candidates.waits) = c.settle.ensures.after ∙ (λ i. stage (c.self.view_is i).live (c.self.view_is i).point c.advance.new.walk.given c.advance.new.walk.opened
    c.advance.new.walk.subtrees.waits c.advance.new.walk.candidates.waits) in
    step_reached (g.R.M.Metric.space (g.R.Ruler.metric c.args.ruler.now)) (g.met.R.Ruler.axioms c.args.ruler.now) (g.P.Pages.shelf c.args.pages.now) (g.P.Pages.shelf c.advance.new.pages) c.self.inside.live
    c.as_slice.result.now c.begin-walk.result.given c.begin-walk.result.opened c.begin-walk.result.subtrees.waits c.begin-walk.result.candidates.waits c.advance.new.walk.given c.advance.new.walk.opened
    c.advance.new.walk.subtrees.waits c.advance.new.walk.candidates.waits c.advance.new.walk.hits.items c.advance.new.walk.tags.items c.in-Ok.ensures.way c.args.self.now c.settle.new.self first last

pub returns-in-Ok-clause-accounted : goal.returns-in-Ok-clause-accounted
returns-in-Ok-clause-accounted g c =
    let first : ◌≡◌ {A = OpenCursor} (stage c.self.inside.live c.as_slice.result.now c.begin-walk.result.given c.begin-walk.result.opened c.begin-walk.result.subtrees.waits c.begin-walk.result.candidates.waits)
    c.args.self.now = (λ i. stage c.self.inside.live (c.as_slice.ensures i) (c.begin-walk.ensures.given i) (c.begin-walk.ensures.opened i) (c.begin-walk.ensures.subtrees.1 i)
    (c.begin-walk.ensures.candidates.1 i)) ∙ c.self.view_is in
    let last : ◌≡◌ {A = OpenCursor} c.settle.new.self (stage c.args.self.now.live c.args.self.now.point c.advance.new.walk.given c.advance.new.walk.opened c.advance.new.walk.subtrees.waits
    c.advance.new.walk.candidates.waits) = c.settle.ensures.after ∙ (λ i. stage (c.self.view_is i).live (c.self.view_is i).point c.advance.new.walk.given c.advance.new.walk.opened
    c.advance.new.walk.subtrees.waits c.advance.new.walk.candidates.waits) in
    step_accounted (g.R.M.Metric.space (g.R.Ruler.metric c.args.ruler.now)) (g.met.R.Ruler.axioms c.args.ruler.now) (g.P.Pages.shelf c.args.pages.now) (g.P.Pages.shelf c.advance.new.pages) c.self.inside.live
    c.as_slice.result.now c.begin-walk.result.given c.begin-walk.result.opened c.begin-walk.result.subtrees.waits c.begin-walk.result.candidates.waits c.advance.new.walk.given c.advance.new.walk.opened
    c.advance.new.walk.subtrees.waits c.advance.new.walk.candidates.waits c.advance.new.walk.hits.items c.advance.new.walk.tags.items c.in-Ok.ensures.way c.args.self.now c.settle.new.self first last
    c.settle.result.hits c.settle.result.tags c.settle.ensures.hits c.settle.ensures.tags

pub returns-in-Ok-clause-walks : goal.returns-in-Ok-clause-walks
returns-in-Ok-clause-walks g c =
    let first : ◌≡◌ {A = OpenCursor} (stage c.self.inside.live c.as_slice.result.now c.begin-walk.result.given c.begin-walk.result.opened c.begin-walk.result.subtrees.waits c.begin-walk.result.candidates.waits)
    c.args.self.now = (λ i. stage c.self.inside.live (c.as_slice.ensures i) (c.begin-walk.ensures.given i) (c.begin-walk.ensures.opened i) (c.begin-walk.ensures.subtrees.1 i)
    (c.begin-walk.ensures.candidates.1 i)) ∙ c.self.view_is in
    let last : ◌≡◌ {A = OpenCursor} c.settle.new.self (stage c.args.self.now.live c.args.self.now.point c.advance.new.walk.given c.advance.new.walk.opened c.advance.new.walk.subtrees.waits
    c.advance.new.walk.candidates.waits) = c.settle.ensures.after ∙ (λ i. stage (c.self.view_is i).live (c.self.view_is i).point c.advance.new.walk.given c.advance.new.walk.opened
    c.advance.new.walk.subtrees.waits c.advance.new.walk.candidates.waits) in
    step_walks (g.R.M.Metric.space (g.R.Ruler.metric c.args.ruler.now)) (g.met.R.Ruler.axioms c.args.ruler.now) (g.P.Pages.shelf c.args.pages.now) (g.P.Pages.shelf c.advance.new.pages) c.self.inside.live
    c.as_slice.result.now c.begin-walk.result.given c.begin-walk.result.opened c.begin-walk.result.subtrees.waits c.begin-walk.result.candidates.waits c.advance.new.walk.given c.advance.new.walk.opened
    c.advance.new.walk.subtrees.waits c.advance.new.walk.candidates.waits c.advance.new.walk.hits.items c.advance.new.walk.tags.items c.in-Ok.ensures.way c.args.self.now c.settle.new.self first last
