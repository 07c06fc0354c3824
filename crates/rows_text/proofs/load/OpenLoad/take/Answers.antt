use Rattle.std.proofs.Common.{◌≡◌, ◌-◌, None, true, false, refl, rules, arith}
use Rattle.rows_text.specs.Records.{fields_in}
use Rattle.rows_text.proofs.LoadLemmas.{takes_good, takes_bad}
use Rattle.rows_text.proofs.load.OpenLoad.take.Goals as goal

pub returns-in_ok-map_err : goal.returns-in_ok-map_err
returns-in_ok-map_err c =
    let none : c.args.self.now.bad ≡ None = search rules in
    let found : c.in_ok-push.field-0 ≡ false = search rules in
    let place : c.in_ok-map_err.field-0 ≡ c.len-place.result = search rules in
    takes_bad c.args.self.now c.push.new.self _ (fields_in c.args.row.now) (c.args.self.now.left - 1) c.in_ok-map_err.field-0 none (omega arith) (search rules)
    c.push.ensures.same.dimension c.push.ensures.same.tagged c.push.ensures.same.left (rw found at c.in_ok-push.ensures.adds) refl refl refl refl refl refl

pub returns-else-not-branch : goal.returns-else-not-branch
returns-else-not-branch c =
    let none : c.args.self.now.bad ≡ None = search rules in
    let found : c.in_ok-push.field-0 ≡ true = search rules in
    takes_good c.args.self.now c.push.new.self (fields_in c.args.row.now) (c.args.self.now.left - 1) none (omega arith)
    c.push.ensures.same.dimension c.push.ensures.same.tagged c.push.ensures.same.left c.push.ensures.same.bad (rw found at c.in_ok-push.ensures.adds)
