use Rattle.std.proofs.Common.{◌≡◌, ◌≢◌, List, [], ◌∷◌, ◌++◌, refl, sym, ◌∙◌, ap, subst, arith}
use Rattle.tree_shape.specs.declared.live.Live.{Live}
use Rattle.node_page.specs.declared.head.Head.{Head}
use Rattle.page_store.specs.declared.staging.StagedNode.{StagedNode}
use Rattle.shadow_root.specs.Commit.{IsReady, IsStagedFor}
use Rattle.shadow_root.specs.Making.{first_live}
use Rattle.test_pages.proofs.Ready.{ready_of_new, staged_one, one_staged}
use Rattle.test_pages.proofs.roots.add_one.Goals as goal

abbrev next : Live
next = record { side = 1; generation = 2; root = 4; height = 0; count = 1; pages = 5 }

abbrev head : Head
head = record { version = 2; kind = 2; dim = 2; promote = 2; split = 1; limit = 16777216 }

pub commit-requires-clause-staged : goal.commit-requires-clause-staged
commit-requires-clause-staged g c =
    let new : StagedNode = record { page = 4; node = c.in_ok-node.node } in
    let all : c.stage.new.self ≡ new ∷ [] = c.in_ok-stage.ensures.ok ∙ ap (λ (xs : List StagedNode). xs ++ new ∷ []) c.new-staged.ensures in
    subst (IsStagedFor 2 first_live next) (sym all) (staged_one 2 first_live next new (omega arith, omega arith) c.in_ok-node.ensures refl refl)

pub commit-requires-clause-ready : goal.commit-requires-clause-ready
commit-requires-clause-ready g c = λ is_known.
    let new : StagedNode = record { page = 4; node = c.in_ok-node.node } in
    let all : c.stage.new.self ≡ new ∷ [] = c.in_ok-stage.ensures.ok ∙ ap (λ (xs : List StagedNode). xs ++ new ∷ []) c.new-staged.ensures in
    subst (λ (staged : List StagedNode). IsReady 2 first_live next staged (g.D.Disk.state c.args.disk.now)) (sym all)
    (ready_of_new head next (new ∷ []) (g.D.Disk.state c.args.disk.now) (c.requires.made is_known) refl c.requires.only (omega arith)
    (λ k s stands. subst (λ (t : StagedNode). t.page ≢ 3) (sym (one_staged new s k stands)) (omega arith)))
