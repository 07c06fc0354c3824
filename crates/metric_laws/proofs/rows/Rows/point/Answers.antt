use Rattle.std.proofs.Common.{◌≡◌, ◌+◌, ◌*◌, ℕ, [], List, get_or, length, take, drop, sym, ◌∙◌, ap, arith, ◌-◌}
use Rattle.std.proofs.lemmas.Grind.{common_steps}
use Rattle.metric_laws.specs.Rows.{Table}
use Rattle.metric_laws.proofs.RowsLemmas.{length-rows_of, row_room, get_or-rows_of}
use Rattle.metric_laws.proofs.rows.Rows.point.Goals as goal

pub overflow_mul-start : goal.overflow_mul-start
overflow_mul-start c =
    let count : length c.args.self.now.points ≡ c.self.inside.count = sym (ap (λ (t : Table). length t.points) c.self.view_is) ∙ length-rows_of _ _ _ in
    let room = row_room c.self.inside.dimension c.self.inside.count c.args.i _ c.self.invariant (omega arith) in
    omega arith

pub overflow_add-result : goal.overflow_add-result
overflow_add-result c =
    let count : length c.args.self.now.points ≡ c.self.inside.count = sym (ap (λ (t : Table). length t.points) c.self.view_is) ∙ length-rows_of _ _ _ in
    let room = row_room c.self.inside.dimension c.self.inside.count c.args.i _ c.self.invariant (omega arith) in
    omega arith

pub offset_bounds-deref-start : goal.offset_bounds-deref-start
offset_bounds-deref-start c =
    let count : length c.args.self.now.points ≡ c.self.inside.count = sym (ap (λ (t : Table). length t.points) c.self.view_is) ∙ length-rows_of _ _ _ in
    let room = row_room c.self.inside.dimension c.self.inside.count c.args.i _ c.self.invariant (omega arith) in
    omega arith

pub slice_bounds-result-end : goal.slice_bounds-result-end
slice_bounds-result-end c =
    let count : length c.args.self.now.points ≡ c.self.inside.count = sym (ap (λ (t : Table). length t.points) c.self.view_is) ∙ length-rows_of _ _ _ in
    let room = row_room c.self.inside.dimension c.self.inside.count c.args.i _ c.self.invariant (omega arith) in
    let long : length c.deref.result.now ≡ length c.self.inside.cells.items = ap length c.deref.ensures.value in
    grind (arith, common_steps)

pub returns : goal.returns
returns c =
    let count : length c.args.self.now.points ≡ c.self.inside.count = sym (ap (λ (t : Table). length t.points) c.self.view_is) ∙ length-rows_of _ _ _ in
    let same : c.args.i * c.self.inside.dimension + c.self.inside.dimension - c.args.i * c.self.inside.dimension ≡ c.self.inside.dimension = omega arith in
    ap (λ (k : ℕ). take k (drop (c.args.i * c.self.inside.dimension) c.deref.result.now)) same
    ∙ ap (λ (l : List ℕ). take c.self.inside.dimension (drop (c.args.i * c.self.inside.dimension) l)) c.deref.ensures.value
    ∙ sym (get_or-rows_of c.self.inside.dimension c.self.inside.count c.args.i c.self.inside.cells.items (omega arith))
    ∙ ap (λ (t : Table). get_or t.points c.args.i []) c.self.view_is
