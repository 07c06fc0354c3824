-- An opened index stands on its disk as long as that is only read.
use Rattle.std.specs.Prelude.{ℕ, ◌≤◌, List, IsTrue, Option, MatchOption, Some, None, refl}
use Rattle.std.proofs.Common.{sym, ap, ◌∙◌, subst}
use Rattle.std.proofs.lemmas.List.Elements.{All-weaker}
use Rattle.disk_model.specs.Disk.{DiskState, IsUnchanged}
use Rattle.tree_shape.specs.declared.entry.Node.{Node}
use Rattle.node_page.specs.Nodes.{IsValidNode}
use Rattle.node_page.specs.Opening.{OpensTo}
use Rattle.page_store.specs.Reading.{Read, IsWithin, nodes_of, reading}
use Rattle.page_store.specs.Shelf.{Shelf, HoldsSame, IsNodeOf}
use Rattle.page_cache.specs.Keeping.{Pairs}
use Rattle.index_core.specs.Lending.{KeptAgrees}
use Rattle.index_core.specs.Files.{OpenFile, StandsOn, OnlyReads, pages_on, nodes_on}
use Rattle.index_core.specs.Index.{OpenIndex, StandsAlone, AreSpare}

node_still : (old new : Shelf) (page : ℕ) (node : Node) → HoldsSame old new → IsNodeOf old page node → IsNodeOf new page node
node_still old new page node same is = record {
  within = subst (λ (n : ℕ). IsWithin n page) (sym same.pages) is.within;
  valid = subst (λ (n : ℕ). IsValidNode n node) (sym same.dim) is.valid;
  told = λ is_known. ap (λ (r : Read). r page) same.read ∙ is.told (rw (sym same.is_known) is_known);
}

pub agrees_still : (kept : Option Pairs) (old new : Shelf) → HoldsSame old new → KeptAgrees kept old → KeptAgrees kept new
agrees_still None old new same agrees = tt
agrees_still (Some pairs) old new same agrees =
    All-weaker (λ pair. IsNodeOf old pair.0 pair.1) (λ pair. IsNodeOf new pair.0 pair.1) (λ pair is.
    node_still old new pair.0 pair.1 same is) pairs.entries agrees

pub holds_same : {M : Type 0} (file : OpenFile M) (old new : DiskState) → IsUnchanged old new → old.faults ≤ new.faults →
    HoldsSame (pages_on file old 0) (pages_on file new 0)
holds_same file old new same later = record {
  dim = refl;
  pages = refl;
  is_known = same.same_known;
  read = ap (λ (bytes : List ℕ). reading file.head.dim file.live.pages bytes) same.same_bytes;
  faults = later;
}

pub stands_still : {M : Type 0} (file : OpenFile M) (old new : DiskState) → IsUnchanged old new → old.faults ≤ new.faults →
    StandsOn file old → StandsOn file new
stands_still file old new same later stands = record {
  opens = λ is_known. subst (λ (bytes : List ℕ). OpensTo bytes file.head file.live) (sym same.same_bytes) (stands.opens (rw (sym same.same_known) is_known));
  agrees = agrees_still file.kept (pages_on file old 0) (pages_on file new 0) (holds_same file old new same later) stands.agrees;
}

pub stands_alone_still : {M : Type 0} (index : OpenIndex M) (file : OpenFile M) (old new : DiskState) →
    OnlyReads index.file file old new → StandsOn file new → StandsAlone index old → StandsAlone (record index { file = file }) new
stands_alone_still {M} index file old new reads stands alone = record {
  stands = stands;
  only = λ is_known image left. alone.only (before is_known) image ((reads.same.same_images image).0 left) ∙ sym reads.same.same_bytes;
  spare = λ is_known. subst (λ (f : OpenFile M). MatchOption index.free (Unit {0}) (AreSpare (nodes_on f new) f.live)) (sym reads.rest)
      (subst (λ (bytes : List ℕ). MatchOption index.free (Unit {0})
      (AreSpare (nodes_of (reading index.file.head.dim index.file.live.pages bytes)) index.file.live))
      (sym reads.same.same_bytes)
      (alone.spare (before is_known)));
}
  where
    before : IsTrue new.is_known → IsTrue old.is_known
    before is_known = rw (sym reads.same.same_known) is_known
