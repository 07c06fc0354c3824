use Rattle.std.proofs.Common.{◌∙◌, sym, ap, refl}
use Rattle.std.specs.Option.{option_copied_mut}
use Rattle.hit_tags.proofs.wanted.Wanted.note.Goals.{in-Some, in_default}
use Rattle.hit_tags.proofs.Taking.{noted, not_noted}
use Rattle.hit_tags.proofs.wanted.Wanted.note.Goals as goal

pub returns : goal.returns
returns c = elim c.match-get_mut.branch [
  | in-Some w ↦
      rw (w.self-inside-is, w.or.ensures, ← c.self.view_is) (noted (c.args.id, c.args.tag) c.self.inside.tags.entries _ w.in-Some.first.now (sym c.get_mut.ensures.value ∙ ap option_copied_mut w.in-Some.is)
      ((c.get_mut.follows.holds _).3 (rw (sym c.get_mut.ensures.value ∙ ap option_copied_mut w.in-Some.is) refl)).0)
  | in_default w ↦
      rw (w.self-inside-is, ← c.self.view_is) (rw c.get_mut.follows.holds-at-none (not_noted (c.args.id, c.args.tag) c.self.inside.tags.entries (sym c.get_mut.ensures.value ∙ ap option_copied_mut w.in_default.is)))
]
