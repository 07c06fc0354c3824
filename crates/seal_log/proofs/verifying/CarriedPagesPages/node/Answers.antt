use Rattle.std.proofs.Common.{ℕ, refl, sym, ap, ◌∙◌}
use Rattle.page_store.proofs.Published.{answers_node, answers_fault, answers_outside, not_outside}
use Rattle.node_page.specs.declared.node.Version.TheVariants.{Second}
use Rattle.node_page.specs.Opening.{page_of}
use Rattle.tree_shape.specs.declared.live.Live.{Live}
use Rattle.page_store.specs.Reading.{is_within}
use Rattle.page_store.specs.Shelves.{image_shelf}
use Rattle.seal_log.specs.Judged.{file_of}
use Rattle.seal_log.proofs.verifying.CarriedPagesPages.node.Goals as goal

pub returns-then-not-is_within-clause-cause : goal.returns-then-not-is_within-clause-cause
returns-then-not-is_within-clause-cause c =
    let p = c.args.self.now.carried.now in let shelf = image_shelf p.head.dim p.live.pages (file_of p) c.args.self.now.asked in
    answers_outside Second shelf shelf c.args.page (file_of p) (ap (λ (n : ℕ). is_within n c.args.page) (ap (λ (l : Live). l.pages) (sym c.live.ensures)) ∙ sym c.is_within.ensures.test ∙ c.if-not-is_within.true) (λ is_known. refl)

pub returns-clause-ok : goal.returns-clause-ok
returns-clause-ok c =
    let p = c.args.self.now.carried.now in let shelf = image_shelf p.head.dim p.live.pages (file_of p) c.args.self.now.asked in
    answers_node Second c.node_on.result shelf c.args.page (page_of (file_of p) c.args.page) (file_of p) (ap (λ (n : ℕ). is_within n c.args.page) (ap (λ (l : Live). l.pages) (sym c.live.ensures)) ∙ sym c.is_within.ensures.test ∙ c.if-not-is_within.false) c.node_on.ensures.valid c.node_on.ensures.told (λ is_known. refl) (λ is_known. refl)

pub returns-clause-cause : goal.returns-clause-cause
returns-clause-cause c =
    let p = c.args.self.now.carried.now in let shelf = image_shelf p.head.dim p.live.pages (file_of p) c.args.self.now.asked in
    answers_fault Second c.node_on.result shelf shelf c.args.page (page_of (file_of p) c.args.page) (file_of p) (ap (λ (n : ℕ). is_within n c.args.page) (ap (λ (l : Live). l.pages) (sym c.live.ensures)) ∙ sym c.is_within.ensures.test ∙ c.if-not-is_within.false) c.node_on.ensures.fault (λ is_known. refl) (λ is_known. refl)

pub returns-clause-outside : goal.returns-clause-outside
returns-clause-outside c = not_outside c.args.self.now.carried.now.live.pages c.args.page (ap (λ (n : ℕ). is_within n c.args.page) (ap (λ (l : Live). l.pages) (sym c.live.ensures)) ∙ sym c.is_within.ensures.test ∙ c.if-not-is_within.false)
