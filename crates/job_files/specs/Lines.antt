-- The lines of the jobs on files.
use Rattle.std.specs.Prelude.{ℕ, List, ◌++◌, length, map, flat_map, codes, decimal, Option, Some, None}
use Rattle.std.specs.List.{join_with_byte}
use Rattle.shadow_root.specs.declared.faults.OpenFault.{OpenFault}
use Rattle.shadow_root.specs.declared.faults.OpenFault.TheVariants as open_fault
use Rattle.rows_text.specs.Texts.{line_end, space, counted}
use Rattle.fault_lines.specs.Lines.{head_fault_name, numbered, page_fault_text}
use Rattle.page_store.specs.declared.pages.PageFault.{PageFault}
use Rattle.tree_audit.specs.declared.faults.AuditFault.{AuditFault}
use Rattle.tree_audit.specs.declared.faults.AuditFault.TheVariants as audit
use Rattle.tree_outline.specs.declared.outline.ShapeLine.{ShapeLine}
use Rattle.node_page.specs.Opening.{Unopened}
use Rattle.node_page.specs.Opening.Unopened.{Short, NoHead, Unfinished, TwoRoots, BadSlot}

-- why a file does not open, in a word
abbrev pub unopened_name : Unopened → List ℕ
unopened_name Short = codes "short"
unopened_name (NoHead fault) = head_fault_name fault
unopened_name Unfinished = codes "unfinished"
unopened_name TwoRoots = codes "tworoots"
unopened_name BadSlot = codes "slot"

abbrev pub audit_fault_text : AuditFault → List ℕ
audit_fault_text (audit.Page fault) = codes "page " ++ page_fault_text fault
audit_fault_text (audit.Fill p) = numbered (codes "fill ") p
audit_fault_text (audit.Twice p) = numbered (codes "twice ") p
audit_fault_text (audit.Unfit p i) = numbered (codes "unfit ") p ++ numbered space i
audit_fault_text (audit.ParentDistance p i) = numbered (codes "parentdistance ") p ++ numbered space i
audit_fault_text (audit.Radius p i id) = numbered (codes "radius ") p ++ numbered space i ++ numbered space id
audit_fault_text (audit.Id id) = numbered (codes "id ") id
audit_fault_text (audit.Count slot found) = numbered (codes "count ") slot ++ numbered space found
audit_fault_text audit.Memory = codes "memory"

-- the lines of a sound index, and of one that is not
abbrev pub sound_text : ℕ → ℕ → List ℕ
sound_text objects nodes = codes "sound\n" ++ counted (codes "objects ") objects ++ counted (codes "nodes ") nodes

abbrev pub rejected_text : AuditFault → List ℕ
rejected_text fault = codes "rejected " ++ audit_fault_text fault ++ line_end

-- the line of a file with a page that gave no node
abbrev pub damaged_text : PageFault → List ℕ
damaged_text fault = codes "fault damaged " ++ page_fault_text fault ++ line_end

-- a point's coordinates, joined by commas
abbrev pub point_text : List ℕ → List ℕ
point_text point = join_with_byte 44 (map decimal point)

-- a text of the value, and a dash where there is none
abbrev pub or_dash : {A : Type 0} → (A → List ℕ) → Option A → List ℕ
or_dash text None = codes "-"
or_dash text (Some x) = text x

-- `LEVEL ENTRIES CENTRE RADIUS`: the root has no centre and no radius
abbrev pub node_text : ShapeLine → List ℕ
node_text line =
    decimal line.level ++ numbered space line.entries ++ space ++ or_dash point_text line.centre ++ space ++ or_dash decimal line.radius ++ line_end

-- the lines of a tree of height `height`, with `objects` objects and the nodes `lines`
abbrev pub shape_text : ℕ → ℕ → List ShapeLine → List ℕ
shape_text height objects lines =
    counted (codes "height ") height ++ counted (codes "objects ") objects ++ counted (codes "nodes ") (length lines) ++ flat_map node_text lines

-- the line of a file that is no index
abbrev pub not_index_text : List ℕ → List ℕ
not_index_text name = codes "fault notindex " ++ name ++ line_end

-- the line of a file that is not opened
abbrev pub unopened_text : OpenFault → List ℕ
unopened_text open_fault.Disk = codes "fault disk\n"
unopened_text open_fault.Short = not_index_text (unopened_name Short)
unopened_text (open_fault.Head fault) = not_index_text (unopened_name (NoHead fault))
unopened_text open_fault.Unfinished = not_index_text (unopened_name Unfinished)
unopened_text open_fault.TwoRoots = not_index_text (unopened_name TwoRoots)
unopened_text open_fault.Slot = not_index_text (unopened_name BadSlot)
