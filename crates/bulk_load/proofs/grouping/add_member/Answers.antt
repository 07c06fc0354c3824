use Rattle.std.proofs.Common.{◌∙◌, ◌<◌, ◌++◌, ◌∷◌, [], ℕ, List, ap, sym, arith, length}
use Rattle.std.specs.Prelude.{Vec}
use Rattle.std.specs.declared.alloc.Global.{Global}
use Rattle.std.proofs.lemmas.List.{map-set, get_or-map}
use Rattle.std.proofs.Math.ListN.{set}
use Rattle.bulk_load.specs.MemberLists.{lists_in}
use Rattle.bulk_load.proofs.grouping.add_member.Goals as goal

pub returns : goal.returns
returns c =
    let all : List (Vec ℕ Global) = c.args.lists.now.items in
    let low : c.args.group < length all = let o = c.args.lists.now.ok in let r = c.requires in omega arith in
    map-set (λ (v : Vec ℕ Global). v.items) all c.args.group c.push.new.self
    ∙ ap (λ (ms : List ℕ). set (lists_in all) c.args.group ms)
    (c.in_ok-push.ensures.items
    ∙ ap (λ (ms : List ℕ). ms ++ c.args.row ∷ [])
    (ap (λ (v : Vec ℕ Global). v.items) (c.index_mut.ensures.value) ∙ sym (get_or-map (λ (v : Vec ℕ Global). v.items) all c.args.group c.index_mut.result.now [] low)))
