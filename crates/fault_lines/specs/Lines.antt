-- Faults of pages and of heads, in words.
use Rattle.std.specs.Prelude.{ℕ, List, ◌++◌, codes, decimal}
use Rattle.rows_text.specs.Texts.{space}
use Rattle.node_page.specs.declared.head.HeadFault.{HeadFault}
use Rattle.node_page.specs.declared.head.HeadFault.TheVariants as head
use Rattle.node_page.specs.declared.node.NodeFault.{NodeFault}
use Rattle.node_page.specs.declared.node.NodeFault.TheVariants as node
use Rattle.page_store.specs.declared.pages.PageFault.{PageFault}
use Rattle.page_store.specs.declared.pages.PageFault.TheVariants as page

abbrev pub node_fault_name : NodeFault → List ℕ
node_fault_name node.Kind = codes "kind"
node_fault_name node.Count = codes "count"
node_fault_name node.Distance = codes "distance"
node_fault_name node.Tail = codes "tail"

abbrev pub head_fault_name : HeadFault → List ℕ
head_fault_name head.Magic = codes "magic"
head_fault_name head.Version = codes "version"
head_fault_name head.Space = codes "space"
head_fault_name head.Policy = codes "policy"
head_fault_name head.Limit = codes "limit"
head_fault_name head.Tail = codes "tail"

-- a word and a number
abbrev pub numbered : List ℕ → ℕ → List ℕ
numbered word n = word ++ decimal n

abbrev pub page_fault_text : PageFault → List ℕ
page_fault_text (page.Bad p fault) = numbered (codes "bad ") p ++ space ++ node_fault_name fault
page_fault_text (page.Outside p) = numbered (codes "outside ") p
page_fault_text (page.Repeats p) = numbered (codes "repeats ") p
page_fault_text (page.Level p) = numbered (codes "level ") p
page_fault_text page.Disk = codes "disk"
page_fault_text page.Memory = codes "memory"
