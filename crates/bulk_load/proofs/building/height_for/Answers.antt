use Rattle.std.proofs.Common.{◌≡◌, ◌-◌, ap, arith, refl}
use Rattle.std.proofs.Math.Nat.{mul-le-mul_left}
use Rattle.tree_growth.specs.Bulk.{height_from}
use Rattle.bulk_load.proofs.Heights.{higher}
use Rattle.tree_growth.proofs.Published.{power_one}
use Rattle.bulk_load.proofs.building.height_for.Goals as goal

pub loop-room-init : goal.loop-room-init
loop-room-init c = let one = power_one c.args.most in let m = c.requires.most.0 in record { room = omega (arith, one); low = omega (arith, m); rest = ap (height_from c.args.most c.args.count 0) (let e : c.args.count - 0 ≡ c.args.count = omega arith in e) }

pub loop-room-preserved : goal.loop-room-preserved
loop-room-preserved c =
    let more = higher c.args.most c.args.count c.loop-room.height c.loop-room.room _ c.loop-room.invariant.room refl c.loop-room-test.true c.loop-room.invariant.low c.loop-room.invariant.rest in
    let wide = mul-le-mul_left c.loop-room.room c.requires.most.0 in
    record { room = more.0; low = (let l = c.loop-room.invariant.low in omega (arith, wide, l)); rest = more.1 }
