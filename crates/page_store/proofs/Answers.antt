-- How a page's bytes give the answer of a request for the page.
use Rattle.std.specs.Prelude.{◌≡◌, ℕ, true, false, IsTrue, List, Option, Some, None, Result, Ok, Err, IfOk, IfErr, refl}
use Rattle.std.proofs.Common.{◌∙◌, ap, arith, sym}
use Rattle.std.proofs.lemmas.Bool.Decides.{nat_tests}
use Rattle.tree_shape.specs.declared.entry.Node.{Node}
use Rattle.node_page.specs.Nodes.{IsValidNode, fault_in, node_in}
use Rattle.node_page.specs.declared.node.Version.{Version}
use Rattle.node_page.specs.Opening.{page_of}
use Rattle.page_store.specs.declared.pages.PageFault.{PageFault}
use Rattle.page_store.specs.declared.pages.PageFault.TheVariants.{Disk, Bad, Outside, Memory, Repeats, Level}
use Rattle.page_store.specs.Reading.{Read, IsWithin, is_within, judged, reading_in, IsBytesFault}
use Rattle.page_store.specs.Shelf.{Shelf, IsNodeOf, HasPageCause}

pub within_by_test : (pages page : ℕ) → is_within pages page ≡ true → IsWithin pages page
unfolding is_within
within_by_test pages page is = grind (arith, nat_tests)

pub reads_page : (v : Version) (dim pages : ℕ) (file : List ℕ) (page : ℕ) → is_within pages page ≡ true
    → reading_in v dim pages file page ≡ judged page (fault_in v dim (page_of file page)) (node_in v dim (page_of file page))
unfolding reading_in
reads_page v dim pages file page is = rw is refl

pub reads_outside : (v : Version) (dim pages : ℕ) (file : List ℕ) (page : ℕ) → is_within pages page ≡ false →
    reading_in v dim pages file page ≡ Err (Outside page)
unfolding reading_in
reads_outside v dim pages file page is = rw is refl

-- the shelf's pages are those of this file, where it tells them
abbrev pub IsOf : Version → Shelf → List ℕ → Type 0
IsOf v shelf file = IsTrue shelf.is_known → shelf.read ≡ reading_in v shelf.dim shelf.pages file

told_node : (v : Version) (dim pages : ℕ) (file : List ℕ) (page : ℕ) (node : Node) (bytes : List ℕ) → is_within pages page ≡ true → bytes ≡ page_of file page
    → fault_in v dim bytes ≡ None → node ≡ node_in v dim bytes → reading_in v dim pages file page ≡ Ok node
told_node v dim pages file page node bytes within same none is =
    reads_page v dim pages file page within ∙ ap (λ (b : List ℕ). judged page (fault_in v dim b) (node_in v dim b)) (sym same)
    ∙ ap (λ (o : Option _). judged page o (node_in v dim bytes)) none ∙ ap (λ (n : Node). Ok n) (sym is)

told_fault : (v : Version) (dim pages : ℕ) (file : List ℕ) (page : ℕ) (bytes : List ℕ) (fault : _) → is_within pages page ≡ true → bytes ≡ page_of file page
    → fault_in v dim bytes ≡ Some fault → reading_in v dim pages file page ≡ Err (Bad page fault)
told_fault v dim pages file page bytes fault within same some =
    reads_page v dim pages file page within ∙ ap (λ (b : List ℕ). judged page (fault_in v dim b) (node_in v dim b)) (sym same)
    ∙ ap (λ (o : Option _). judged page o (node_in v dim bytes)) some

pub answers_node : (v : Version) (r : Result Node PageFault) (shelf : Shelf) (page : ℕ) (bytes file : List ℕ) → is_within shelf.pages page ≡ true
    → IfOk r (IsValidNode shelf.dim) → IfOk r (λ node. (fault_in v shelf.dim bytes ≡ None) × (node ≡ node_in v shelf.dim bytes))
    → (IsTrue shelf.is_known → bytes ≡ page_of file page) → IsOf v shelf file → IfOk r (IsNodeOf shelf page)
answers_node v (Ok node) shelf page bytes file within valid told same of_file = record {
  within = within_by_test shelf.pages page within;
  valid = valid;
  told = λ is_known. ap (λ (read : Read). read page) (of_file is_known) ∙ told_node v shelf.dim shelf.pages file page node bytes within (same is_known) told.0 told.1;
}
answers_node v (Err fault) shelf page bytes file within valid told same of_file = tt

pub answers_fault : (v : Version) (r : Result Node PageFault) (old new : Shelf) (page : ℕ) (bytes file : List ℕ) → is_within old.pages page ≡ true
    → IfErr r (IsBytesFault v old.dim bytes page) → (IsTrue old.is_known → bytes ≡ page_of file page) → IsOf v old file → IfErr r (HasPageCause old new page)
answers_fault v (Ok node) old new page bytes file within fault same of_file = tt
answers_fault v (Err (Bad p f)) old new page bytes file within fault same of_file = (
  fault.0,
  within_by_test old.pages page within,
  λ is_known. ap (λ (read : Read). read page) (of_file is_known)
      ∙ told_fault v old.dim old.pages file page bytes f within (same is_known) fault.1,
)
answers_fault v (Err Memory) old new page bytes file within fault same of_file = tt
answers_fault v (Err Disk) old new page bytes file within fault same of_file = absurd fault
answers_fault v (Err (Outside p)) old new page bytes file within fault same of_file = absurd fault
answers_fault v (Err (Repeats p)) old new page bytes file within fault same of_file = absurd fault
answers_fault v (Err (Level p)) old new page bytes file within fault same of_file = absurd fault

-- a page that is none of them
pub answers_outside : (v : Version) (old new : Shelf) (page : ℕ) (file : List ℕ) → is_within old.pages page ≡ false →
    IsOf v old file → HasPageCause old new page (Outside page)
answers_outside v old new page file is of_file = (
  refl,
  is,
  λ is_known. ap (λ (read : Read). read page) (of_file is_known)
      ∙ reads_outside v old.dim old.pages file page is,
)

-- a page that is one of them is not refused as outside
pub not_outside : {P : Type 0} (pages page : ℕ) → is_within pages page ≡ true → is_within pages page ≡ false → P
not_outside pages page is not_is = absurd cc
