-- What an answer of a walk is to the index.
use Rattle.std.proofs.Common.{◌≡◌, Result, Ok, Err, sym, subst}
use Rattle.std.specs.Prelude.{IfOk, MatchResult}
use Rattle.page_store.specs.declared.pages.PageFault.{PageFault}
use Rattle.index_core.specs.declared.faults.IndexFault.{IndexFault}

-- what holds of the answer of a walk, and implies more, is so of the index's
pub ok_kept : {T : Type 0} (walked : Result T PageFault) (answer : Result T IndexFault) (P Q : T → Type 0) (map : PageFault → IndexFault) →
    MatchResult walked (λ value. answer ≡ Ok value) (λ fault. answer ≡ Err (map fault)) → IfOk walked P → ((x : T) → P x → Q x) → IfOk answer Q
ok_kept (Ok value) answer P Q map is p implies = subst (λ r. IfOk r Q) (sym is) (implies value p)
ok_kept (Err fault) answer P Q map is p implies = subst (λ r. IfOk r Q) (sym is) p
