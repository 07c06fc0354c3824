use Rattle.page_store.proofs.Apart.{apart_push}
use Rattle.page_store.proofs.staging.Staged.stage.Goals as goal

pub invariant_of-self-2 : goal.invariant_of-self-2
invariant_of-self-2 c = rw c.in_ok-push.ensures.items (apart_push _ _ c.self.invariant (rw c.self.view_is c.requires))
