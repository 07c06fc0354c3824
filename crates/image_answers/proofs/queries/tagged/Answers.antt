use Rattle.std.proofs.Common.{◌∙◌, ap, length}
use Rattle.metric_laws.proofs.Published.{length_map}
use Rattle.hit_tags.specs.Tags.{tag_among}
use Rattle.image_answers.proofs.queries.tagged.Goals as goal

pub returns : goal.returns
returns c = rw c.if-not-tags.false (
  c.in_ok-tags.tags.items,
  c.answered-2.ensures,
  record {
    each = ap length c.in_ok-tags.ensures.first ∙ length_map (λ h. tag_among h.id c.args.found.tagged) c.args.found.hits;
    met = c.in_ok-tags.ensures.met;
  },
)
