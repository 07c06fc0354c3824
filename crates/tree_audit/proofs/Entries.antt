-- Faults of entries in turn.
use Rattle.std.proofs.Common.{◌≡◌, ℕ, ◌==◌, ◌&&◌, nat_lt, true, List, [], ◌∷◌, ◌++◌, Option, Result, Ok, Err, if◌then◌else◌, refl, subst}
use Rattle.std.proofs.Common.{arith}
use Rattle.std.proofs.lemmas.Bool.Decides.{nat_tests}
use Rattle.metric_laws.specs.Space.{Space}
use Rattle.tree_shape.specs.declared.entry.LeafEntry.{LeafEntry}
use Rattle.tree_shape.specs.Tree.{times, parent_distance}
use Rattle.tree_audit.specs.declared.faults.AuditFault.{AuditFault}
use Rattle.tree_audit.specs.declared.faults.AuditFault.TheVariants.{Page, Fill, Twice, Unfit, ParentDistance, Radius, Id, Count, Memory}
use Rattle.tree_audit.specs.declared.walking.Step.{Step}
use Rattle.tree_audit.specs.Audited.{Seen, and_then, first_outside, if_inside, check_object}
use Rattle.tree_audit.specs.Visits.{IsEntryFault}

pub told_same : (told told2 : Result Seen AuditFault) (v : AuditFault) → told ≡ told2 → IsEntryFault told v → IsEntryFault told2 v
told_same told told2 v same fault = subst (λ (t : Result Seen AuditFault). IsEntryFault t v) same fault

-- an object that fits and stores its distance
pub object_inside : (s : Space) (count : ℕ) (above : Option (List ℕ)) (path : List Step) (page i : ℕ) (o : LeafEntry) (seen : Seen) → s.is_point o.point ≡ true → o.parent ≡ parent_distance s above o.point
    → if_inside (first_outside s path o.point) o.id
    (if nat_lt o.id count && (times o.id seen.ids == 0) then Ok (record { pages = seen.pages; ids = seen.ids ++ o.id ∷ [] }) else Err (Id o.id))
    ≡ check_object s count above path page i o seen
object_inside s count above path page i o seen is_point stores =
    let same : (o.parent == parent_distance s above o.point) ≡ true = itself o.parent (parent_distance s above o.point) stores in rw (is_point, same) refl
  where
    itself : (m n : ℕ) → m ≡ n → (m == n) ≡ true
    itself m n is = grind (arith, nat_tests)

-- a fault of the first of several
pub and_then_fault : (told : Result Seen AuditFault) (rest : Seen → Result Seen AuditFault) (v : AuditFault) → IsEntryFault told v → IsEntryFault (and_then told rest) v
and_then_fault told rest Memory fault = tt
and_then_fault told rest (Page f) fault = absurd fault
and_then_fault told rest (Fill p) fault = rw fault refl
and_then_fault told rest (Twice p) fault = rw fault refl
and_then_fault told rest (Unfit p i) fault = rw fault refl
and_then_fault told rest (ParentDistance p i) fault = rw fault refl
and_then_fault told rest (Radius p i o) fault = rw fault refl
and_then_fault told rest (Id i) fault = rw fault refl
and_then_fault told rest (Count a b) fault = rw fault refl
