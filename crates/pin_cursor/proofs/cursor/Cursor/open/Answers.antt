use Rattle.std.proofs.Common.{◌≡◌, List, [], ◌∷◌, ◌∙◌, ap, sym, subst}
use Rattle.pin_cursor.specs.declared.waiting.Subtree.{Subtree}
use Rattle.pin_cursor.specs.Lines.{line_of}
use Rattle.pin_cursor.specs.Order.{subtree_order}
use Rattle.pin_cursor.specs.Cursor.{root_of, IsCursorOn}
use Rattle.pin_cursor.proofs.Starts.{starts}
use Rattle.pin_cursor.proofs.cursor.Cursor.open.Goals as goal

pub returns-clause-begun : goal.returns-clause-begun
returns-clause-begun c =
    let xs : c.add.new.self.items ≡ root_of c.args.live ∷ [] =
    c.in_ok-add.ensures.added ∙ ap (λ (ys : List Subtree). line_of subtree_order (root_of c.args.live ∷ ys)) c.new-subtrees.ensures in
    λ i. record { live = c.args.live; point = c.args.q; given = 0; opened = 0; subtrees = xs i; candidates = c.new.ensures i }

pub returns-clause-starts : goal.returns-clause-starts
returns-clause-starts c s nodes axioms sound is_point = subst (IsCursorOn s nodes) (sym (returns-clause-begun c)) (starts s nodes axioms c.args.live c.args.q sound is_point)
