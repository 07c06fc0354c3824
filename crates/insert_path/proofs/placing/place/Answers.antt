use Rattle.std.proofs.Common.{◌≡◌, ◌∙◌, ◌+◌, ◌-◌, ℕ, List, refl, sym, ap, subst, arith, length}
use Rattle.std.proofs.lemmas.Result.{err_from_is_err_and}
use Rattle.std.specs.List.{AllByRecursion}
use Rattle.tree_shape.specs.Fill.{most_for}
use Rattle.node_page.specs.Nodes.{IsValidNode}
use Rattle.tree_shape.specs.declared.live.Live.{Live}
use Rattle.tree_growth.specs.Insertion.{Rules, rules}
use Rattle.page_store.specs.Reading.{IsWithin, nodes_of}
use Rattle.insert_path.specs.Descent.{plan_of, Walks}
use Rattle.insert_path.proofs.Final.{count_small, rules_same, fill_room, walks_given, walks_height, walks_writable, room_cause, has_walked}
use Rattle.insert_path.specs.Placing.{place_fault}
use Rattle.insert_path.proofs.Undamaged.{sound_faultless, tree_undamaged}
use Rattle.insert_path.proofs.Top.{has_inserted}
use Rattle.insert_path.proofs.Replaced.{takes_place, walks_within}
use Rattle.insert_path.proofs.placing.place.Goals as goal
use Rattle.page_store.specs.Numbers.{number_at}
use Rattle.page_store.specs.Placing.{HasRoomCause, IsPlacement}
use Rattle.page_store.proofs.Published.{staged_out, given_out, number_up, number_within}

pub settle-requires-clause-count : goal.settle-requires-clause-count
settle-requires-clause-count g c =
    let few = count_small c.args.head.now c.args.live.now.count c.requires.head c.requires.live.count c.if-live-head.false in
    let one = c.in_ok-grown.ensures.added in
    omega (arith, few, one)

pub settle-requires-clause-height : goal.settle-requires-clause-height
settle-requires-clause-height g c = walks_height (plan_of (g.R.M.Metric.space (g.R.Ruler.metric c.args.ruler.now)) (record { promote = c.args.head.now.promote; split = c.args.head.now.split }) c.fill.result (number_at c.args.numbers.now c.args.live.now.pages) (record { id = c.args.live.now.count; tag = c.args.tag; point = c.args.p.now })) (g.P.Pages.shelf c.args.pages.now) c.args.live.now c.in_ok-grown.grown.left.items c.in_ok-grown.grown.nodes.items c.in_ok-grown.grown.root c.in_ok-grown.grown.height c.requires.live.height c.in_ok-grown.ensures.walks

pub settle-requires-clause-root : goal.settle-requires-clause-root
settle-requires-clause-root g c = walks_given (plan_of (g.R.M.Metric.space (g.R.Ruler.metric c.args.ruler.now)) (record { promote = c.args.head.now.promote; split = c.args.head.now.split }) c.fill.result (number_at c.args.numbers.now c.args.live.now.pages) (record { id = c.args.live.now.count; tag = c.args.tag; point = c.args.p.now })) (g.P.Pages.shelf c.args.pages.now) c.args.live.now c.in_ok-grown.grown.left.items c.in_ok-grown.grown.nodes.items c.in_ok-grown.grown.root c.in_ok-grown.grown.height c.in_ok-grown.ensures.walks

pub returns-in-Err-NoRoom-clause-cause : goal.returns-in-Err-NoRoom-clause-cause
returns-in-Err-NoRoom-clause-cause g c =
    room_cause (plan_of (g.R.M.Metric.space (g.R.Ruler.metric c.args.ruler.now)) (record { promote = c.args.head.now.promote; split = c.args.head.now.split }) c.fill.result (number_at c.args.numbers.now c.args.live.now.pages) (record { id = c.args.live.now.count; tag = c.args.tag; point = c.args.p.now })) (g.P.Pages.shelf c.args.pages.now) (g.P.Pages.shelf c.grow.new.pages) (rules (g.R.M.Metric.space (g.R.Ruler.metric c.args.ruler.now)) c.args.head.now.promote c.args.head.now.split) c.args.numbers.now c.args.live.now
    c.in_ok-grown.grown.left.items c.in_ok-grown.grown.nodes.items c.in_ok-grown.grown.root c.in_ok-grown.grown.height _ _ (rules_same (g.R.M.Metric.space (g.R.Ruler.metric c.args.ruler.now)) c.args.head.now.promote c.args.head.now.split c.fill.result.most c.fill.result.least c.args.head.now.dim c.fill.ensures.most c.fill.ensures.least c.requires.dimension) c.in_ok-grown.ensures.walks
    (subst (HasRoomCause c.args.live.now (length c.in_ok-grown.grown.nodes.items - length c.args.numbers.now)) c.in-Err-NoRoom.field-0-is c.in-Err-NoRoom.ensures.cause)

pub returns-in-Ok-clause-placement : goal.returns-in-Ok-clause-placement
returns-in-Ok-clause-placement g c =
    let filled = fill_room (g.R.M.Metric.space (g.R.Ruler.metric c.args.ruler.now)) c.fill.result.most c.fill.result.least c.args.head.now.dim (g.R.M.Metric.axioms (g.R.Ruler.metric c.args.ruler.now)) c.requires.dimension c.fill.ensures.most c.fill.ensures.least in
    let one = c.in_ok-grown.ensures.added in
    subst (λ (added : ℕ). IsPlacement c.args.head.now c.args.live.now c.args.numbers.now added c.in-Ok.placed) one
    (c.in-Ok.ensures.placement c.args.head.now (let most = c.requires.live.count in let other = c.if-live-head.false in omega (arith, most, other, one))
    (subst (λ (d : ℕ). AllByRecursion (IsValidNode d) c.in_ok-grown.grown.nodes.items) c.requires.dim
    (walks_writable (plan_of (g.R.M.Metric.space (g.R.Ruler.metric c.args.ruler.now)) (record { promote = c.args.head.now.promote; split = c.args.head.now.split }) c.fill.result (number_at c.args.numbers.now c.args.live.now.pages) (record { id = c.args.live.now.count; tag = c.args.tag; point = c.args.p.now })) (g.P.Pages.shelf c.args.pages.now) c.args.live.now c.in_ok-grown.grown.left.items c.in_ok-grown.grown.nodes.items c.in_ok-grown.grown.root c.in_ok-grown.grown.height (c.fill.ensures.most ∙ ap most_for (sym c.requires.dim)) filled.0 filled.1
    ((g.R.M.Metric.axioms (g.R.Ruler.metric c.args.ruler.now)).long c.args.p.now c.requires.is_point ∙ c.requires.dimension ∙ sym c.requires.dim) c.in_ok-grown.ensures.walks)))

pub returns-in-Ok-clause-apart : goal.returns-in-Ok-clause-apart
returns-in-Ok-clause-apart g c = λ is_known sound.
    staged_out (nodes_of (g.P.Pages.shelf c.args.pages.now).read) c.args.live.now c.args.numbers.now c.in_ok-grown.grown.nodes.items c.in-Ok.placed.staged c.in-Ok.ensures.staged (c.requires.outside is_known sound) sound.within

pub returns-in-Ok-clause-left_within : goal.returns-in-Ok-clause-left_within
returns-in-Ok-clause-left_within g c =
    subst (λ (n : ℕ). AllByRecursion (IsWithin n) c.in-Ok.placed.left) c.requires.pages
    (walks_within (plan_of (g.R.M.Metric.space (g.R.Ruler.metric c.args.ruler.now)) (record { promote = c.args.head.now.promote; split = c.args.head.now.split }) c.fill.result (number_at c.args.numbers.now c.args.live.now.pages) (record { id = c.args.live.now.count; tag = c.args.tag; point = c.args.p.now })) (g.P.Pages.shelf c.args.pages.now) c.args.live.now c.in-Ok.placed.left c.in_ok-grown.grown.nodes.items c.in_ok-grown.grown.root c.in_ok-grown.grown.height
    (subst (λ (l : List ℕ). Walks (plan_of (g.R.M.Metric.space (g.R.Ruler.metric c.args.ruler.now)) (record { promote = c.args.head.now.promote; split = c.args.head.now.split }) c.fill.result (number_at c.args.numbers.now c.args.live.now.pages) (record { id = c.args.live.now.count; tag = c.args.tag; point = c.args.p.now })) (g.P.Pages.shelf c.args.pages.now) c.args.live.now l c.in_ok-grown.grown.nodes.items c.in_ok-grown.grown.root c.in_ok-grown.grown.height) (sym c.in-Ok.ensures.left) c.in_ok-grown.ensures.walks))

pub returns-in-Ok-clause-takes_place : goal.returns-in-Ok-clause-takes_place
returns-in-Ok-clause-takes_place g c = λ is_known.
    takes_place (plan_of (g.R.M.Metric.space (g.R.Ruler.metric c.args.ruler.now)) (record { promote = c.args.head.now.promote; split = c.args.head.now.split }) c.fill.result (number_at c.args.numbers.now c.args.live.now.pages) (record { id = c.args.live.now.count; tag = c.args.tag; point = c.args.p.now })) (g.P.Pages.shelf c.args.pages.now) is_known c.args.live.now c.in_ok-grown.grown.nodes.items c.in_ok-grown.grown.root c.in_ok-grown.grown.height c.in-Ok.placed
    (subst (λ (l : List ℕ). Walks (plan_of (g.R.M.Metric.space (g.R.Ruler.metric c.args.ruler.now)) (record { promote = c.args.head.now.promote; split = c.args.head.now.split }) c.fill.result (number_at c.args.numbers.now c.args.live.now.pages) (record { id = c.args.live.now.count; tag = c.args.tag; point = c.args.p.now })) (g.P.Pages.shelf c.args.pages.now) c.args.live.now l c.in_ok-grown.grown.nodes.items c.in_ok-grown.grown.root c.in_ok-grown.grown.height) (sym c.in-Ok.ensures.left) c.in_ok-grown.ensures.walks)
    c.in-Ok.ensures.staged (ap (λ (n : Live). n.root) c.in-Ok.ensures.next)

pub returns-in-Ok-clause-walked : goal.returns-in-Ok-clause-walked
returns-in-Ok-clause-walked g c = λ is_known.
    has_walked (plan_of (g.R.M.Metric.space (g.R.Ruler.metric c.args.ruler.now)) (record { promote = c.args.head.now.promote; split = c.args.head.now.split }) c.fill.result (number_at c.args.numbers.now c.args.live.now.pages) (record { id = c.args.live.now.count; tag = c.args.tag; point = c.args.p.now })) (g.P.Pages.shelf c.args.pages.now) (rules (g.R.M.Metric.space (g.R.Ruler.metric c.args.ruler.now)) c.args.head.now.promote c.args.head.now.split) is_known c.args.live.now c.in_ok-grown.grown.nodes.items c.in_ok-grown.grown.root c.in_ok-grown.grown.height c.in-Ok.placed (rules_same (g.R.M.Metric.space (g.R.Ruler.metric c.args.ruler.now)) c.args.head.now.promote c.args.head.now.split c.fill.result.most c.fill.result.least c.args.head.now.dim c.fill.ensures.most c.fill.ensures.least c.requires.dimension) c.in-Ok.ensures.staged
    (subst (λ (l : List ℕ). Walks (plan_of (g.R.M.Metric.space (g.R.Ruler.metric c.args.ruler.now)) (record { promote = c.args.head.now.promote; split = c.args.head.now.split }) c.fill.result (number_at c.args.numbers.now c.args.live.now.pages) (record { id = c.args.live.now.count; tag = c.args.tag; point = c.args.p.now })) (g.P.Pages.shelf c.args.pages.now) c.args.live.now l c.in_ok-grown.grown.nodes.items c.in_ok-grown.grown.root c.in_ok-grown.grown.height) (sym c.in-Ok.ensures.left) c.in_ok-grown.ensures.walks)

pub returns-in-Ok-clause-inserted : goal.returns-in-Ok-clause-inserted
returns-in-Ok-clause-inserted g c = λ is_known sound new over.
    let wide : c.in-Ok.placed.next.pages ≡ c.args.live.now.pages + (length c.in_ok-grown.grown.nodes.items - length c.args.numbers.now) = ap (λ (n : Live). n.pages) c.in-Ok.ensures.next in
    let low = c.requires.live.low_pages in
    has_inserted (plan_of (g.R.M.Metric.space (g.R.Ruler.metric c.args.ruler.now)) (record { promote = c.args.head.now.promote; split = c.args.head.now.split }) c.fill.result (number_at c.args.numbers.now c.args.live.now.pages) (record { id = c.args.live.now.count; tag = c.args.tag; point = c.args.p.now })) (g.P.Pages.shelf c.args.pages.now) is_known c.args.live.now c.in_ok-grown.grown.nodes.items c.in_ok-grown.grown.root c.in_ok-grown.grown.height c.in-Ok.placed
    (subst (λ (l : List ℕ). Walks (plan_of (g.R.M.Metric.space (g.R.Ruler.metric c.args.ruler.now)) (record { promote = c.args.head.now.promote; split = c.args.head.now.split }) c.fill.result (number_at c.args.numbers.now c.args.live.now.pages) (record { id = c.args.live.now.count; tag = c.args.tag; point = c.args.p.now })) (g.P.Pages.shelf c.args.pages.now) c.args.live.now l c.in_ok-grown.grown.nodes.items c.in_ok-grown.grown.root c.in_ok-grown.grown.height) (sym c.in-Ok.ensures.left) c.in_ok-grown.ensures.walks)
    c.in-Ok.ensures.staged (ap (λ (n : Live). n.root) c.in-Ok.ensures.next) (ap (λ (n : Live). n.height) c.in-Ok.ensures.next) (ap (λ (n : Live). n.count) c.in-Ok.ensures.next ∙ ap (λ (k : ℕ). c.args.live.now.count + k) c.in_ok-grown.ensures.added)
    (g.R.M.Metric.axioms (g.R.Ruler.metric c.args.ruler.now)) c.requires.is_point (rules_same (g.R.M.Metric.space (g.R.Ruler.metric c.args.ruler.now)) c.args.head.now.promote c.args.head.now.split c.fill.result.most c.fill.result.least c.args.head.now.dim c.fill.ensures.most c.fill.ensures.least c.requires.dimension) refl sound
    (number_up c.args.numbers.now c.args.live.now.pages c.requires.numbers)
    (given_out (nodes_of (g.P.Pages.shelf c.args.pages.now).read) c.args.live.now c.args.numbers.now (c.requires.outside is_known sound) sound.within)
    (λ i less. (let w = number_within c.args.numbers.now c.args.live.now.pages c.requires.numbers (omega (arith, low)) i (length c.in_ok-grown.grown.nodes.items) less in let a = w.0 in let b = w.1 in (a, omega (arith, b, wide))))
    (omega (arith, wide)) new over

pub returns-in_err-grown-clause-sound : goal.returns-in_err-grown-clause-sound
returns-in_err-grown-clause-sound g c =
    let p = err_from_is_err_and c.from_residual.result c.from_residual.ensures.1 in
    rw (p.1, p.2) (λ is_known sound.
    tree_undamaged (g.P.Pages.shelf c.args.pages.now) (g.P.Pages.shelf c.grow.new.pages) _ c.in_err-grown.field-0.0 c.in_err-grown.ensures.cause is_known
    (ap (λ (R : Rules). place_fault (g.R.M.Metric.space (g.R.Ruler.metric c.args.ruler.now)) R (g.P.Pages.shelf c.args.pages.now).read c.args.live.now (record { id = c.args.live.now.count; tag = c.args.tag; point = c.args.p.now })) (rules_same (g.R.M.Metric.space (g.R.Ruler.metric c.args.ruler.now)) c.args.head.now.promote c.args.head.now.split c.fill.result.most c.fill.result.least c.args.head.now.dim c.fill.ensures.most c.fill.ensures.least c.requires.dimension)
    ∙ sound_faultless (g.R.M.Metric.space (g.R.Ruler.metric c.args.ruler.now)) (g.R.M.Metric.axioms (g.R.Ruler.metric c.args.ruler.now)) c.args.head.now.promote c.args.head.now.split (g.P.Pages.shelf c.args.pages.now).read c.args.live.now (record { id = c.args.live.now.count; tag = c.args.tag; point = c.args.p.now }) c.requires.is_point sound
    (count_small c.args.head.now c.args.live.now.count c.requires.head c.requires.live.count c.if-live-head.false)))
