use Rattle.std.proofs.Common.{◌≡◌, ℕ, List, Some, nat_eq, ap, ◌∙◌}
use Rattle.std.specs.Map.{lookup}
use Rattle.lru.specs.LruCache.{lru_cache}
use Rattle.tree_shape.specs.declared.entry.Node.{Node}
use Rattle.page_cache.specs.Keeping.{Pairs, used}
use Rattle.page_cache.proofs.Pairs.{promoted-put}
use Rattle.page_cache.proofs.kept.Kept.share_of.Goals as goal

pub returns-clause-kept : goal.returns-clause-kept
returns-clause-kept c =
    let found : lookup (nat_eq c.args.page) c.self.inside.nodes.entries ≡ Some c.in_ok-shared.shared = cc (c.in-Some.ensures, c.in_ok-shared.ensures) in
    c.promote.ensures.entries
    ∙ ap (λ (es : List (ℕ × Node)). lru_cache es c.self.inside.nodes.cap) (promoted-put c.self.inside.nodes c.args.page c.in_ok-shared.shared found)
    ∙ ap (λ (kept : Pairs). used kept c.args.page c.in_ok-shared.shared) c.self.view_is
