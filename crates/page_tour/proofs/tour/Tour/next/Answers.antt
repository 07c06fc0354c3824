use Rattle.std.proofs.Common.{◌≡◌, ◌∙◌, ◌<◌, ◌∷◌, refl, sym, ap, arith, reverse}
use Rattle.std.proofs.lemmas.Grind.{common_steps}
use Rattle.std.proofs.lemmas.Result.{err_from_is_err_and}
use Rattle.page_tour.specs.Courses.{Course, StopsNext}
use Rattle.page_tour.proofs.Touring.{stops_at}
use Rattle.page_tour.proofs.tour.Tour.next.Goals as goal

pub returns-then-self-clause-stop : goal.returns-then-self-clause-stop
returns-then-self-clause-stop g c =
    let stack : reverse c.self.inside.stack.items ≡ c.in-Some.page ∷ reverse c.pop.new.self.items = grind (arith, common_steps, c.in-Some.ensures.items) in
    record {
      page = c.in-Some.page;
      left = reverse c.pop.new.self.items;
      next = ap (λ (x : Course). x.coming) (sym c.self.view_is) ∙ stack;
      why = (refl, ap (λ (x : Course). x.opened) (sym c.self.view_is) ∙ c.if-self.true ∙ ap (λ (x : Course). x.most) c.self.view_is, refl);
    }

pub returns-in_err-node-clause-stop : goal.returns-in_err-node-clause-stop
returns-in_err-node-clause-stop g c =
    let stack : reverse c.self.inside.stack.items ≡ c.in-Some.page ∷ reverse c.pop.new.self.items = grind (arith, common_steps, c.in-Some.ensures.items) in
    let opened = ap (λ (x : Course). x.opened) c.self.view_is in
    let most = ap (λ (x : Course). x.most) c.self.view_is in
    let within = c.self.invariant in
    let other = c.if-self.false in
    let low : c.args.self.now.opened < c.args.self.now.most = omega arith in
    let stop : StopsNext (g.P.Pages.shelf c.args.pages.now) (g.P.Pages.shelf c.node.new.self) c.args.self.now c.in_err-node.field-0.0 = record {
      page = c.in-Some.page;
      left = reverse c.pop.new.self.items;
      next = ap (λ (x : Course). x.coming) (sym c.self.view_is) ∙ stack;
      why = stops_at (g.P.Pages.shelf c.args.pages.now) (g.P.Pages.shelf c.node.new.self) c.args.self.now c.in-Some.page c.in_err-node.field-0.0 low c.in_err-node.ensures.cause;
    } in
    let p = err_from_is_err_and c.from_residual.result c.from_residual.ensures.1 in
    rw (p.1, p.2) stop

pub returns-in_err-push_children-clause-stop : goal.returns-in_err-push_children-clause-stop
returns-in_err-push_children-clause-stop g c =
    let stack : reverse c.self.inside.stack.items ≡ c.in-Some.page ∷ reverse c.pop.new.self.items = grind (arith, common_steps, c.in-Some.ensures.items) in
    let opened = ap (λ (x : Course). x.opened) c.self.view_is in
    let most = ap (λ (x : Course). x.most) c.self.view_is in
    let within = c.self.invariant in
    let other = c.if-self.false in
    let p = err_from_is_err_and c.from_residual-in_err-push_children.result c.from_residual-in_err-push_children.ensures.1 in
    rw (p.1, p.2) (record {
      page = c.in-Some.page;
      left = reverse c.pop.new.self.items;
      next = ap (λ (x : Course). x.coming) (sym c.self.view_is) ∙ stack;
      why = (omega arith, tt);
    })
