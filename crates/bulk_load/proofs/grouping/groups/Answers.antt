use Rattle.std.proofs.Common.{◌≡◌, ℕ, ◌^◌, ◌<◌, ◌≤◌, arith, ◌∙◌, ap, refl, sym, subst, length, List, rules}
use Rattle.std.specs.Prelude.{All, IsTrue, map}
use Rattle.std.proofs.Math.Nat.{one-le-pow, pow-le-pow_left}
use Rattle.tree_growth.specs.Bulk.{groups_from, groups_at, point_of, Load}
use Rattle.par_work.proofs.Published.{if_ok}
use Rattle.bulk_load.specs.Groupable.{load_of}
use Rattle.bulk_load.specs.Measured.{Measured, all_apart, measured, points_of}
use Rattle.bulk_load.proofs.Measuring.{measured_same}
use Rattle.bulk_load.proofs.Members.{groups_are}
use Rattle.bulk_load.proofs.Spared.{centres_fit}
use Rattle.bulk_load.proofs.Sizes.{increasing_few, bounds_of, some_objects, some_groups, room_fits}
use Rattle.bulk_load.proofs.grouping.groups.Goals as goal

pub pow-room-requires : goal.pow-room-requires
pow-room-requires g c =
    let few = increasing_few (length c.args.rows.now.points) c.args.set.now c.requires.places c.requires.ascends in let r = c.requires.rows in
    room_fits c.args.fill.now c.args.root c.args.level (length c.args.set.now) (bounds_of c.args.fill.now c.requires.fill) c.requires.size c.requires.level.1 (omega arith)

pub pow-least-requires : goal.pow-least-requires
pow-least-requires g c =
    let few = increasing_few (length c.args.rows.now.points) c.args.set.now c.requires.places c.requires.ascends in let r = c.requires.rows in
    let room = room_fits c.args.fill.now c.args.root c.args.level (length c.args.set.now) (bounds_of c.args.fill.now c.requires.fill) c.requires.size c.requires.level.1 (omega arith) in
    let p : c.args.fill.now.least ^ c.args.level ≤ c.args.fill.now.most ^ c.args.level = pow-le-pow_left (bounds_of c.args.fill.now c.requires.fill).above c.args.level in
    omega arith

pub group_number-requires-clause-room : goal.group_number-requires-clause-room
group_number-requires-clause-room g c =
    let b = bounds_of c.args.fill.now c.requires.fill in let three = b.three in let above = b.above in
    let p = one-le-pow c.args.level c.args.fill.now.most (omega arith) in let e = c.pow-room.ensures in omega arith

pub group_number-requires-clause-few : goal.group_number-requires-clause-few
group_number-requires-clause-few g c =
    let few = increasing_few (length c.args.rows.now.points) c.args.set.now c.requires.places c.requires.ascends in let r = c.requires.rows in omega arith

pub seed_places-requires-clause-objects : goal.seed_places-requires-clause-objects
seed_places-requires-clause-objects g c =
    let few = increasing_few (length c.args.rows.now.points) c.args.set.now c.requires.places c.requires.ascends in let r = c.requires.rows in
    (some_objects c.args.fill.now c.args.root c.args.level (length c.args.set.now) (bounds_of c.args.fill.now c.requires.fill) c.requires.size, (omega arith))

pub seed_places-requires-clause-groups : goal.seed_places-requires-clause-groups
seed_places-requires-clause-groups g c =
    let range = some_groups c.args.fill.now c.args.root c.args.level (length c.args.set.now) c.pow-room.result (bounds_of c.args.fill.now c.requires.fill) c.requires.size c.pow-room.ensures in
    let few = range.1 in
    let some = range.0 in
    let is = c.group_number.ensures in
    (omega arith, omega arith)

pub new-distances-requires-clause-measurable : goal.new-distances-requires-clause-measurable
new-distances-requires-clause-measurable g c =
    let s = g.M.Metric.space c.args.metric in
    let rows : List (List ℕ) = c.args.rows.now.points in
    let points : List (List ℕ) = points_of rows c.args.set.now in
    let seeds : List ℕ = c.as_slice.result.now in
    let inside : All (λ k. k < length c.args.set.now) seeds = search rules in
    let centres : c.as_slice-3.result.now ≡ points_of points seeds = c.as_slice-3.ensures.value ∙ c.in_ok-centres.ensures in
    λ κs outlive. record {
      objects_fit = c.requires.points;
      centres_fit = subst (λ (cs : List (List ℕ)). All (λ p. IsTrue (s.is_point p)) cs) (sym centres)
          (centres_fit s rows c.args.set.now seeds c.requires.points c.requires.places inside);
      apart_is = c.as_slice-4.ensures.value ∙ c.in_ok-apart.ensures ∙ ap (all_apart s) (c.as_slice-2.ensures.value ∙ sym c.as_slice-3.ensures.value);
    }

pub parted-requires-clause-width : goal.parted-requires-clause-width
parted-requires-clause-width g c =
    let range = some_groups c.args.fill.now c.args.root c.args.level (length c.args.set.now) c.pow-room.result (bounds_of c.args.fill.now c.requires.fill) c.requires.size c.pow-room.ensures in
    let few = range.1 in
    let some = range.0 in
    let is = c.group_number.ensures in
    let width : c.new-distances.result.width ≡ c.group_number.result =
    ap (λ (m : Measured). m.width) (c.new-distances.ensures ∙ measured_same (g.M.Metric.space c.args.metric) (points_of c.args.rows.now.points c.args.set.now) c.as_slice.result.now c.as_slice-3.result.now
    (c.as_slice-3.ensures.value ∙ c.in_ok-centres.ensures)) ∙ c.as_slice.ensures.len ∙ c.in_ok-seeds.ensures.len in
    λ κs outlive. (omega arith, omega arith)

pub returns : goal.returns
returns g c =
    let s = g.M.Metric.space c.args.metric in
    let placed = c.as_slice-7.result.now in
    let seeds = c.as_slice.result.now in
    let is : c.new-distances.result ≡ measured s (points_of c.args.rows.now.points c.args.set.now) seeds =
    c.new-distances.ensures ∙ measured_same s (points_of c.args.rows.now.points c.args.set.now) seeds c.as_slice-3.result.now (c.as_slice-3.ensures.value ∙ c.in_ok-centres.ensures) in
    if_ok (λ gs. gs.items ≡ groups_from 0 c.as_slice-6.result.now c.args.set.now placed)
    (λ gs. (tags : List ℕ) → gs.items ≡ groups_at (load tags) c.args.root c.args.level c.args.set.now) c.groups_of.result c.groups_of.ensures
    (λ gs e tags. groups_are (load tags) c.args.root c.args.level c.args.set.now c.pow-room.result c.pow-least.result c.group_number.result seeds (map (point_of (load tags)) c.args.set.now)
    c.new-distances.result.width c.new-distances.result.table placed gs.items c.pow-room.ensures c.pow-least.ensures c.group_number.ensures
    (c.as_slice.ensures.value ∙ c.in_ok-seeds.ensures.is) (c.as_slice.ensures.len ∙ c.in_ok-seeds.ensures.len) refl (ap (λ (m : Measured). m.width) is) (ap (λ (m : Measured). m.table) is)
    (c.as_slice-7.ensures.value ∙ c.in_ok-placed.ensures.is ∙ (let s = c.as_slice.ensures.value in let t = c.as_slice-5.ensures.value in cc))
    (let s = c.as_slice.ensures.value in let t = c.as_slice-6.ensures.value in cc))
  where
    load : List ℕ → Load
    load tags = load_of (g.M.Metric.space c.args.metric) c.args.rows.now.points tags c.args.fill.now
