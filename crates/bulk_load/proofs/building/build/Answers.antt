use Rattle.std.proofs.Common.{◌-◌, ◌∙◌, ℕ, ap, subst, arith, length}
use Rattle.tree_shape.specs.declared.live.Live.{Live}
use Rattle.page_store.specs.Numbers.{number_at}
use Rattle.page_store.specs.Placing.{HasRoomCause, IsPlacement}
use Rattle.page_store.proofs.Published.{staged_out}
use Rattle.bulk_load.specs.Groupable.{load_of}
use Rattle.bulk_load.proofs.Committed.{rows_few, valid_load, root_given, low, nodes_low, nodes_writable, nodes_counted, staged_counted}
use Rattle.bulk_load.proofs.Itself.{by_itself}
use Rattle.bulk_load.proofs.Whole.{has_loaded_by}
use Rattle.bulk_load.proofs.building.build.Goals as goal

pub new_tree-requires-clause-few : goal.new_tree-requires-clause-few
new_tree-requires-clause-few g c κs within = rows_few c.args.head.now (length c.args.rows.now.points) c.requires.head c.requires.few

pub settle-requires-clause-count : goal.settle-requires-clause-count
settle-requires-clause-count g c =
    let few = rows_few c.args.head.now (length c.args.rows.now.points) c.requires.head c.requires.few in
    let none = c.requires.empty in
    let added = c.in_ok-tree.ensures.added in omega (arith, few, none, added)

pub settle-requires-clause-few : goal.settle-requires-clause-few
settle-requires-clause-few g c =
    nodes_low (load_of (g.M.Metric.space c.args.metric) c.args.rows.now.points c.args.tags.now c.fill.result) (g.M.Metric.axioms c.args.metric)
    (valid_load (g.M.Metric.space c.args.metric) c.args.rows.now.points c.args.tags.now c.fill.result c.args.head.now.dim c.requires.dimension c.fill.ensures.most c.fill.ensures.least c.requires.is_point c.requires.tags)
    c.requires.some (rows_few c.args.head.now (length c.args.rows.now.points) c.requires.head c.requires.few) (number_at c.args.numbers.now c.args.live.now.pages) c.in_ok-tree.tree.nodes.items c.in_ok-tree.ensures.nodes

pub settle-requires-clause-height : goal.settle-requires-clause-height
settle-requires-clause-height g c =
    let high = low (load_of (g.M.Metric.space c.args.metric) c.args.rows.now.points c.args.tags.now c.fill.result) (g.M.Metric.axioms c.args.metric)
    (valid_load (g.M.Metric.space c.args.metric) c.args.rows.now.points c.args.tags.now c.fill.result c.args.head.now.dim c.requires.dimension c.fill.ensures.most c.fill.ensures.least c.requires.is_point c.requires.tags)
    c.requires.some (rows_few c.args.head.now (length c.args.rows.now.points) c.requires.head c.requires.few) in
    let same = c.in_ok-tree.ensures.height in omega (arith, high, same)

pub settle-requires-clause-root : goal.settle-requires-clause-root
settle-requires-clause-root g c =
    root_given (load_of (g.M.Metric.space c.args.metric) c.args.rows.now.points c.args.tags.now c.fill.result) (number_at c.args.numbers.now c.args.live.now.pages) c.in_ok-tree.tree.nodes.items c.in_ok-tree.tree.root c.in_ok-tree.ensures.nodes c.in_ok-tree.ensures.root

pub returns-in-Ok-clause-placement : goal.returns-in-Ok-clause-placement
returns-in-Ok-clause-placement g c =
    subst (λ (added : ℕ). IsPlacement c.args.head.now c.args.live.now c.args.numbers.now added c.in-Ok.placed) c.in_ok-tree.ensures.added
    (c.in-Ok.ensures.placement c.args.head.now (let most = c.requires.few in let none = c.requires.empty in let added = c.in_ok-tree.ensures.added in omega (arith, most, none, added))
    (nodes_writable (load_of (g.M.Metric.space c.args.metric) c.args.rows.now.points c.args.tags.now c.fill.result) (g.M.Metric.axioms c.args.metric)
    (valid_load (g.M.Metric.space c.args.metric) c.args.rows.now.points c.args.tags.now c.fill.result c.args.head.now.dim c.requires.dimension c.fill.ensures.most c.fill.ensures.least c.requires.is_point c.requires.tags)
    c.requires.some (rows_few c.args.head.now (length c.args.rows.now.points) c.requires.head c.requires.few) (number_at c.args.numbers.now c.args.live.now.pages) c.in_ok-tree.tree.nodes.items c.args.head.now.dim c.in_ok-tree.ensures.nodes c.requires.dimension))

pub returns-in-Ok-clause-many : goal.returns-in-Ok-clause-many
returns-in-Ok-clause-many g c =
    staged_counted (load_of (g.M.Metric.space c.args.metric) c.args.rows.now.points c.args.tags.now c.fill.result) (g.M.Metric.axioms c.args.metric)
    (valid_load (g.M.Metric.space c.args.metric) c.args.rows.now.points c.args.tags.now c.fill.result c.args.head.now.dim c.requires.dimension c.fill.ensures.most c.fill.ensures.least c.requires.is_point c.requires.tags)
    (number_at c.args.numbers.now c.args.live.now.pages) c.in_ok-tree.tree.nodes.items c.in-Ok.placed.staged c.in_ok-tree.ensures.nodes c.in-Ok.ensures.staged

pub returns-in-Ok-clause-apart : goal.returns-in-Ok-clause-apart
returns-in-Ok-clause-apart g c = λ old sound outside.
    staged_out old c.args.live.now c.args.numbers.now c.in_ok-tree.tree.nodes.items c.in-Ok.placed.staged c.in-Ok.ensures.staged outside sound.within

pub returns-in-Ok-clause-by_itself : goal.returns-in-Ok-clause-by_itself
returns-in-Ok-clause-by_itself g c =
    by_itself (load_of (g.M.Metric.space c.args.metric) c.args.rows.now.points c.args.tags.now c.fill.result) (number_at c.args.numbers.now c.args.live.now.pages) c.in_ok-tree.tree.nodes.items c.in_ok-tree.tree.root c.in-Ok.placed
    c.in_ok-tree.ensures.nodes c.in_ok-tree.ensures.root c.in-Ok.ensures.staged (ap (λ (n : Live). n.root) c.in-Ok.ensures.next)

pub returns-in-Ok-clause-loaded : goal.returns-in-Ok-clause-loaded
returns-in-Ok-clause-loaded g c =
    has_loaded_by (load_of (g.M.Metric.space c.args.metric) c.args.rows.now.points c.args.tags.now c.fill.result) (g.M.Metric.axioms c.args.metric)
    (valid_load (g.M.Metric.space c.args.metric) c.args.rows.now.points c.args.tags.now c.fill.result c.args.head.now.dim c.requires.dimension c.fill.ensures.most c.fill.ensures.least c.requires.is_point c.requires.tags)
    c.args.live.now c.args.numbers.now c.in-Ok.placed c.in_ok-tree.tree.nodes.items c.in_ok-tree.tree.root c.in_ok-tree.tree.height c.in_ok-tree.tree.added c.requires.empty (let l = c.requires.live.low_pages in omega (arith, l)) c.requires.numbers
    c.in_ok-tree.ensures.nodes c.in_ok-tree.ensures.root c.in_ok-tree.ensures.height c.in_ok-tree.ensures.added c.in-Ok.ensures.staged c.in-Ok.ensures.next (c.in-Ok.ensures.left ∙ c.in_ok-tree.ensures.left)

pub returns-in-Err-NoRoom-clause-cause : goal.returns-in-Err-NoRoom-clause-cause
returns-in-Err-NoRoom-clause-cause g c =
    let counted = nodes_counted (load_of (g.M.Metric.space c.args.metric) c.args.rows.now.points c.args.tags.now c.fill.result) (g.M.Metric.axioms c.args.metric)
    (valid_load (g.M.Metric.space c.args.metric) c.args.rows.now.points c.args.tags.now c.fill.result c.args.head.now.dim c.requires.dimension c.fill.ensures.most c.fill.ensures.least c.requires.is_point c.requires.tags)
    (number_at c.args.numbers.now c.args.live.now.pages) c.in_ok-tree.tree.nodes.items c.in_ok-tree.ensures.nodes in
    let cause = subst (HasRoomCause c.args.live.now (length c.in_ok-tree.tree.nodes.items - length c.args.numbers.now)) c.in-Err-NoRoom.field-0-is c.in-Err-NoRoom.ensures.cause in
    (c.if-live-eq-LAST_GENERATION.false, cause.0, cause.1 ∙ ap (λ (k : ℕ). k - length c.args.numbers.now) counted, cause.2)
