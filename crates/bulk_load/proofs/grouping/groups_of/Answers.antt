use Rattle.std.proofs.Common.{◌≡◌, ◌∙◌, length, arith}
use Rattle.std.proofs.lemmas.List.{length-map}
use Rattle.std.proofs.lemmas.Result.{IfOk-weaker}
use Rattle.tree_growth.specs.Bulk.{groups_from}
use Rattle.bulk_load.specs.MemberLists.{lists_in, groups_with}
use Rattle.bulk_load.proofs.Members.{groups_are_with}
use Rattle.bulk_load.proofs.grouping.groups_of.Goals as goal

pub returns : goal.returns
returns c =
    let long : length (lists_in c.in_ok-lists.lists.items) ≡ length c.args.seeds.now =
    simp length-map (let o = c.in_ok-lists.lists.ok in let l = c.in_ok-lists.ensures.len in omega arith) in
    IfOk-weaker c.with_seeds.result (λ v. v.items ≡ groups_with c.args.set.now c.args.seeds.now (lists_in c.in_ok-lists.lists.items))
    (λ v. v.items ≡ groups_from 0 c.args.seeds.now c.args.set.now c.args.placed.now)
    (λ v is. is ∙ groups_are_with c.args.seeds.now c.args.set.now c.args.placed.now (lists_in c.in_ok-lists.lists.items) long c.in_ok-lists.ensures.each) c.with_seeds.ensures
