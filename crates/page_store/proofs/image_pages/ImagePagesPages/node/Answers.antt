use Rattle.std.proofs.Common.{refl, sym, ◌∙◌}
use Rattle.page_store.proofs.Answers.{answers_node, answers_fault, answers_outside, not_outside}
use Rattle.node_page.specs.declared.node.Version.TheVariants.{Second}
use Rattle.node_page.specs.Opening.{page_of}
use Rattle.page_store.specs.Images.{bytes_in}
use Rattle.page_store.specs.Shelves.{image_shelf}
use Rattle.page_store.proofs.image_pages.ImagePagesPages.node.Goals as goal

pub returns-then-not-is_within-clause-cause : goal.returns-then-not-is_within-clause-cause
returns-then-not-is_within-clause-cause c =
    let p = c.args.self.now in
    answers_outside Second (image_shelf p.dim p.pages (bytes_in p.image) p.asked) (image_shelf p.dim p.pages (bytes_in p.image) p.asked) c.args.page (bytes_in p.image)
    (sym c.is_within.ensures.test ∙ c.if-not-is_within.true) (λ is_known. refl)

pub returns-in-Some-clause-ok : goal.returns-in-Some-clause-ok
returns-in-Some-clause-ok c =
    let p = c.args.self.now in
    answers_node Second c.node_on.result (image_shelf p.dim p.pages (bytes_in p.image) p.asked) c.args.page c.in-Some.bytes.now (bytes_in p.image)
    (sym c.is_within.ensures.test ∙ c.if-not-is_within.false) c.node_on.ensures.valid c.node_on.ensures.told (λ is_known. c.in-Some.ensures ∙ c.place-place.ensures) (λ is_known. refl)

pub returns-in-Some-clause-cause : goal.returns-in-Some-clause-cause
returns-in-Some-clause-cause c =
    let p = c.args.self.now in
    answers_fault Second c.node_on.result (image_shelf p.dim p.pages (bytes_in p.image) p.asked) (image_shelf p.dim p.pages (bytes_in p.image) p.asked) c.args.page c.in-Some.bytes.now (bytes_in p.image)
    (sym c.is_within.ensures.test ∙ c.if-not-is_within.false) c.node_on.ensures.fault (λ is_known. c.in-Some.ensures ∙ c.place-place.ensures) (λ is_known. refl)

pub returns-clause-ok : goal.returns-clause-ok
returns-clause-ok c =
    let p = c.args.self.now in
    answers_node Second c.node_on_cut.result (image_shelf p.dim p.pages (bytes_in p.image) p.asked) c.args.page (page_of c.place-place.result.0.now c.place-place.result.1) (bytes_in p.image)
    (sym c.is_within.ensures.test ∙ c.if-not-is_within.false) c.node_on_cut.ensures.valid c.node_on_cut.ensures.told (λ is_known. c.place-place.ensures) (λ is_known. refl)

pub returns-clause-cause : goal.returns-clause-cause
returns-clause-cause c =
    let p = c.args.self.now in
    answers_fault Second c.node_on_cut.result (image_shelf p.dim p.pages (bytes_in p.image) p.asked) (image_shelf p.dim p.pages (bytes_in p.image) p.asked) c.args.page (page_of c.place-place.result.0.now c.place-place.result.1) (bytes_in p.image)
    (sym c.is_within.ensures.test ∙ c.if-not-is_within.false) c.node_on_cut.ensures.fault (λ is_known. c.place-place.ensures) (λ is_known. refl)

pub returns-in-Some-clause-outside : goal.returns-in-Some-clause-outside
returns-in-Some-clause-outside c = not_outside c.args.self.now.pages c.args.page (sym c.is_within.ensures.test ∙ c.if-not-is_within.false)

pub returns-clause-outside : goal.returns-clause-outside
returns-clause-outside c = not_outside c.args.self.now.pages c.args.page (sym c.is_within.ensures.test ∙ c.if-not-is_within.false)
