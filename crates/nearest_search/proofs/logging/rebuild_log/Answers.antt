use Rattle.std.proofs.Common.{◌≡◌, ◌∙◌, ◌∷◌, List, ap, sym, subst, inl, inr, refl, arith, rules, reverse, length, length-append}
use Rattle.std.proofs.lemmas.Grind.{common_steps}
use Rattle.std.specs.Option.{option_map}
use Rattle.log_model.specs.declared.marks.Need.{Need}
use Rattle.nearest_search.specs.Seeing.{seen_on}
use Rattle.nearest_search.specs.Keeping.{kept_seen}
use Rattle.nearest_search.specs.RebuiltLog.{IsWalk}
use Rattle.nearest_search.proofs.Explored.{rebuilding_steps}
use Rattle.nearest_search.proofs.logging.rebuild_log.Goals as goal

pub loop-need-preserved : goal.loop-need-preserved
loop-need-preserved c =
    let stack : reverse c.loop-need.walk.stack.items ≡ c.in-Some.need ∷ reverse c.pop.new.self.items = grind (arith, common_steps, c.in-Some.ensures.items) in
    let long = ap length c.in_ok-take_seen.ensures.records ∙ length-append c.loop-need.walk.records.items _ in
    record {
      count = (let n = c.loop-need.invariant.count in omega arith);
      low = omega arith;
      walk = rebuilding_steps c.args.rho (kept_seen c.args.kept.now) c.args.live.now.root c.loop-need.walk c.take_seen.new.walk
          c.in-Some.need (reverse c.pop.new.self.items) (seen_on c.in-Some-get.sheet) stack c.requires.few (search rules)
          (record { tagged = c.loop-need.walk.tagged; records = c.loop-need.walk.records; stack = c.pop.new.self }) refl refl refl c.in_ok-take_seen.ensures c.loop-need.invariant.walk;
    }

pub returns-then-opened-live : goal.returns-then-opened-live
returns-then-opened-live c =
    let stack : reverse c.loop-need.walk.stack.items ≡ c.in-Some.need ∷ reverse c.pop.new.self.items = grind (arith, common_steps, c.in-Some.ensures.items) in
    record {
      left = c.in-Some.need ∷ reverse c.pop.new.self.items;
      walk = subst (λ (ns : List Need). IsWalk c.args.rho (kept_seen c.args.kept.now) c.args.live.now.root c.loop-need.walk.records.items c.loop-need.walk.tagged.items ns) stack c.loop-need.invariant.walk.walk;
      ends = inl (sym c.loop-need.invariant.count ∙ c.if-opened-live.true);
      few = (let n = c.loop-need.invariant.count in let low = c.loop-need.invariant.low in omega arith);
      few_marks = c.loop-need.invariant.walk.few_marks;
      few_hits = c.loop-need.invariant.walk.few_hits;
    }

pub returns-in_default-get : goal.returns-in_default-get
returns-in_default-get c =
    let stack : reverse c.loop-need.walk.stack.items ≡ c.in-Some.need ∷ reverse c.pop.new.self.items = grind (arith, common_steps, c.in-Some.ensures.items) in
    record {
      left = c.in-Some.need ∷ reverse c.pop.new.self.items;
      walk = subst (λ (ns : List Need). IsWalk c.args.rho (kept_seen c.args.kept.now) c.args.live.now.root c.loop-need.walk.records.items c.loop-need.walk.tagged.items ns) stack c.loop-need.invariant.walk.walk;
      ends = inr (sym c.get.ensures ∙ ap (option_map seen_on) c.in_default-get.is);
      few = (let n = c.loop-need.invariant.count in let low = c.loop-need.invariant.low in omega arith);
      few_marks = c.loop-need.invariant.walk.few_marks;
      few_hits = c.loop-need.invariant.walk.few_hits;
    }
