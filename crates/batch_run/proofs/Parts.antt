-- The audit of a file in parts.
use Rattle.std.proofs.Common.{◌≡◌, ℕ, suc, ◌+◌, ◌≤◌, List, [], ◌∷◌, length, map, get_or, refl, sym, ap, subst, ◌∙◌, arith, Option, Some, None, Result, Ok, Err, IfOk, slice_get, Vec, vec_len}
use Rattle.std.specs.Prelude.{IfSome, IsTrue, MatchOption}
use Rattle.std.specs.declared.alloc.Global.{Global}
use Rattle.metric_laws.specs.Space.{Space}
use Rattle.disk_model.specs.Disk.{DiskState}
use Rattle.tree_shape.specs.declared.entry.InnerEntry.{InnerEntry}
use Rattle.tree_shape.specs.declared.entry.Node.TheVariants.{Inner}
use Rattle.tree_shape.specs.declared.live.Live.{Live}
use Rattle.tree_shape.specs.Fill.{IsFilled, root_least}
use Rattle.page_store.specs.Reading.{reading}
use Rattle.tree_audit.specs.declared.auditing.Audited.{Audited}
use Rattle.tree_audit.specs.declared.faults.AuditFault.{AuditFault}
use Rattle.tree_audit.specs.declared.parts.Part.{Part}
use Rattle.tree_audit.specs.Parts.{AreApart, AreWalked, PartsMakeTheWhole, pages_met}
use Rattle.batch_run.specs.Audits.{AreNumbersOn, AreTried, IsPartOf}

-- what holds from a place on holds from the next one on
later : (s : Space) (live : Live) (disk : DiskState) (first : ℕ) (e : InnerEntry) (es : List InnerEntry) (p : Result Part AuditFault) (parts : List (Result Part AuditFault)) →
    ((i : ℕ) (part : Result Part AuditFault) → slice_get (p ∷ parts) i ≡ Some part → (d : InnerEntry) → IfOk part (IsPartOf s live disk (first + i) (get_or (e ∷ es) i d))) →
    (i : ℕ) (part : Result Part AuditFault) → slice_get parts i ≡ Some part → (d : InnerEntry) → IfOk part (IsPartOf s live disk (first + 1 + i) (get_or es i d))
later s live disk first e es p parts each i part at d =
    subst (λ (k : ℕ). IfOk part (IsPartOf s live disk k (get_or es i d))) (let more : first + suc i ≡ first + 1 + i = omega arith in more) (each (suc i) part at d)

-- what was tried one by one
pub all_tried : (s : Space) (live : Live) (disk : DiskState) (first : ℕ) (es : List InnerEntry) (parts : List (Result Part AuditFault)) → length parts ≡ length es →
    ((i : ℕ) (part : Result Part AuditFault) → slice_get parts i ≡ Some part → (e : InnerEntry) → IfOk part (IsPartOf s live disk (first + i) (get_or es i e))) → AreTried s live disk first es parts
all_tried s live disk first [] [] long each = tt
all_tried s live disk first [] (part ∷ parts) long each = absurd (omega arith)
all_tried s live disk first (e ∷ es) [] long each = absurd (omega arith)
all_tried s live disk first (e ∷ es) (Ok part ∷ parts) long each = (
  subst (λ (k : ℕ). IsPartOf s live disk k e part) (let z : first + 0 ≡ first = omega arith in z) (each 0 (Ok part) refl e),
  all_tried s live disk (first + 1) es parts (omega arith) (later s live disk first e es (Ok part) parts each),
)
all_tried s live disk first (e ∷ es) (Err why ∷ parts) long each = all_tried s live disk (first + 1) es parts (omega arith) (later s live disk first e es (Err why) parts each)

pub tried_if_ok : {E : Type 0} (s : Space) (live : Live) (disk : DiskState) (es : List InnerEntry) (r : Result (Vec (Result Part AuditFault) Global) E) → IfOk r (λ v. vec_len v ≡ length es) →
    IfOk r (λ v. (i : ℕ) (part : Result Part AuditFault) → slice_get v.items i ≡ Some part → (e : InnerEntry) → IfOk part (IsPartOf s live disk i (get_or es i e))) →
    IfOk r (λ v. AreTried s live disk 0 es v.items)
tried_if_ok s live disk es (Ok v) long each = all_tried s live disk 0 es v.items (let o = v.ok in omega arith)
    (λ i part at e. subst (λ (k : ℕ). IfOk part (IsPartOf s live disk k (get_or es i e))) (let z : i ≡ 0 + i = omega arith in z) (each i part at e))
tried_if_ok s live disk es (Err e) long each = tt

-- parts without a fault were walked
pub tried_walked : (s : Space) (live : Live) (disk : DiskState) (first : ℕ) (es : List InnerEntry) (parts : List Part) → IsTrue disk.is_known →
    AreTried s live disk first es (map (λ part. Ok part) parts) → AreWalked s (reading s.dimension live.pages disk.bytes) live first es parts
tried_walked s live disk first [] [] told tried = tt
tried_walked s live disk first [] (part ∷ parts) told tried = absurd tried
tried_walked s live disk first (e ∷ es) [] told tried = absurd tried
tried_walked s live disk first (e ∷ es) (part ∷ parts) told tried = (tried.0 told, tried_walked s live disk (first + 1) es parts told tried.1)

-- a root is read
abbrev pub IsRootWith : Space → Live → DiskState → List InnerEntry → Type 0
IsRootWith s live disk es = IsTrue disk.is_known → reading s.dimension live.pages disk.bytes live.root ≡ Ok (Inner live.height es)

-- the numbers of a tree whose parts are apart
numbers : (s : Space) (live : Live) (disk : DiskState) (es : List InnerEntry) (parts : List Part) (a : Audited) → PartsMakeTheWhole → 1 ≤ live.height →
    IsRootWith s live disk es → IsFilled s.dimension (root_least live.height) (length es) → AreTried s live disk 0 es (map (λ part. Ok part) parts) →
    AreApart live parts → a.objects ≡ live.count → a.nodes ≡ length (live.root ∷ pages_met parts) → AreNumbersOn s live disk a
numbers s live disk es parts a law above root full tried apart objects nodes = record {
  objects = objects;
  told = λ told.
      let whole = law s (reading s.dimension live.pages disk.bytes) live es parts above (root told) full (tried_walked s live disk 0 es parts told tried) apart in
      record { sound = whole.0; objects = objects; nodes = nodes ∙ ap length (sym whole.1) };
}

pub numbers_if_some : {E : Type 0} (s : Space) (live : Live) (disk : DiskState) (es : List InnerEntry) (parts : List Part) (r : Result (Option Audited) E) → PartsMakeTheWhole → 1 ≤ live.height →
    IsRootWith s live disk es → IsFilled s.dimension (root_least live.height) (length es) → AreTried s live disk 0 es (map (λ part. Ok part) parts) →
    IfOk r (λ o. MatchOption o (AreApart live parts → ⊥) (λ a. AreApart live parts)) → IfOk r (λ o. IfSome o (λ a. a.objects ≡ live.count)) → IfOk r (λ o. IfSome o (λ a. a.nodes ≡ length (live.root ∷ pages_met parts))) →
    IfOk r (λ o. IfSome o (AreNumbersOn s live disk))
numbers_if_some s live disk es parts (Ok (Some a)) law above root full tried apart objects nodes = numbers s live disk es parts a law above root full tried apart objects nodes
numbers_if_some s live disk es parts (Ok None) law above root full tried apart objects nodes = tt
numbers_if_some s live disk es parts (Err e) law above root full tried apart objects nodes = tt
