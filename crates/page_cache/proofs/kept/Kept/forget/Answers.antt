use Rattle.std.proofs.Common.{ℕ, List, ap, ◌∙◌}
use Rattle.lru.specs.LruCache.{lru_cache}
use Rattle.tree_shape.specs.declared.entry.Node.{Node}
use Rattle.page_cache.specs.Keeping.{Pairs, without}
use Rattle.page_cache.proofs.Pairs.{remove_entry-filter}
use Rattle.page_cache.proofs.kept.Kept.forget.Goals as goal

pub returns : goal.returns
returns c =
    c.pop.ensures.entries
    ∙ ap (λ (es : List (ℕ × Node)). lru_cache es c.self.inside.nodes.cap) (remove_entry-filter c.args.page c.self.inside.nodes.entries c.len-len.ensures.valid.0)
    ∙ ap (λ (kept : Pairs). without kept c.args.page) c.self.view_is
