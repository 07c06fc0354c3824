-- The walk of a tree in parts: each entry of the root by itself, as if nothing was met before.
use Rattle.std.specs.Prelude.{◌≡◌, ℕ, ◌+◌, ◌<◌, ◌≤◌, List, [], ◌∷◌, ◌++◌, length, None, Result, Ok}
use Rattle.std.specs.List.{AllByRecursion}
use Rattle.metric_laws.specs.Space.{Space}
use Rattle.tree_shape.specs.declared.entry.InnerEntry.{InnerEntry}
use Rattle.tree_shape.specs.declared.entry.Node.TheVariants.{Inner}
use Rattle.tree_shape.specs.declared.live.Live.{Live}
use Rattle.tree_shape.specs.Fill.{IsFilled, root_least}
use Rattle.tree_shape.specs.Tree.{pages_at, times}
use Rattle.page_store.specs.Reading.{Read, nodes_of}
use Rattle.tree_audit.specs.declared.faults.AuditFault.{AuditFault}
use Rattle.tree_audit.specs.declared.parts.Part.{Part}
use Rattle.tree_audit.specs.Audited.{Seen, audit_fault}
use Rattle.tree_audit.specs.Visits.{entry_told}

-- what a part of the walk met
abbrev pub met_in : Part → Seen
met_in part = record { pages = part.pages.items; ids = part.ids.items }

-- what an audit tells of the entry of the root at place `i`, and of the subtree below it, where nothing was met before
abbrev pub part_told : Space → Read → Live → ℕ → InnerEntry → Result Seen AuditFault
part_told s read t i e = entry_told s read t.count t.height [] t.root i e (record { pages = []; ids = [] })

-- what the parts met, one after another
abbrev pub pages_met : List Part → List ℕ
pages_met [] = []
pages_met (part ∷ parts) = part.pages.items ++ pages_met parts

abbrev pub ids_met : List Part → List ℕ
ids_met [] = []
ids_met (part ∷ parts) = part.ids.items ++ ids_met parts

-- each of the entries from place `i` on was walked by itself, without a fault, and `parts` has what was met
abbrev pub AreWalked : Space → Read → Live → ℕ → List InnerEntry → List Part → Type 0
AreWalked s read t i [] [] = Unit {0}
AreWalked s read t i [] (part ∷ parts) = ⊥
AreWalked s read t i (e ∷ es) [] = ⊥
AreWalked s read t i (e ∷ es) (part ∷ parts) = (part_told s read t i e ≡ Ok (met_in part)) × AreWalked s read t (i + 1) es parts

-- No page was met twice, the root among them, and no object. Pages and ids are within the slot's bounds, and the objects are as many as
-- the slot tells.
pub record AreApart (t : Live) (parts : List Part) : Type 0 where
  pub pages : (page : ℕ) → times page (t.root ∷ pages_met parts) ≤ 1
  pub ids : (id : ℕ) → times id (ids_met parts) ≤ 1
  pub pages_within : AllByRecursion (λ page. page < t.pages) (t.root ∷ pages_met parts)
  pub ids_within : AllByRecursion (λ id. id < t.count) (ids_met parts)
  pub count : length (ids_met parts) ≡ t.count

-- a tree with the given root entries, whose parts are apart, has no fault, and its pages are those that the parts met
abbrev pub PartsMakeTheWhole : Type 0
PartsMakeTheWhole =
    (s : Space) (read : Read) (t : Live) (es : List InnerEntry) (parts : List Part) → 1 ≤ t.height → read t.root ≡ Ok (Inner t.height es) →
    IsFilled s.dimension (root_least t.height) (length es) → AreWalked s read t 0 es parts → AreApart t parts →
    (audit_fault s read t ≡ None) × (pages_at (nodes_of read) t.height t.root ≡ t.root ∷ pages_met parts)
