use Rattle.std.proofs.Common.{◌∙◌, refl}
use Rattle.index_core.proofs.view.View.lend.Goals as goal

pub returns-clause-shelf : goal.returns-clause-shelf
returns-clause-shelf g c =
    c.of.ensures.shelf
    ∙ rw (c.new-pages.ensures.version, c.new-pages.ensures.dim, c.new-pages.ensures.pages, c.new-pages.ensures.asked, c.new-pages.ensures.same, ← c.self.view_is) refl
