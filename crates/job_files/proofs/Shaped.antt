-- The walk of an opened file's tree, said of its disk.
use Rattle.std.proofs.Common.{◌≡◌, ℕ, [], ◌∷◌, IsTrue, Result, Ok, Err, IfOk, IfErr, sym, subst}
use Rattle.outside_io.specs.Causes.{Rose}
use Rattle.disk_model.specs.Disk.{DiskState, IsUnchanged}
use Rattle.metric_laws.specs.Space.{Space}
use Rattle.metric_mix.specs.MixSpaces.{mix_space}
use Rattle.tree_shape.specs.declared.live.Live.{Live}
use Rattle.tree_shape.specs.Tree.{IsSoundTree}
use Rattle.node_page.specs.declared.head.Head.{Head}
use Rattle.node_page.specs.Opening.{OpensTo}
use Rattle.page_store.specs.declared.pages.PageFault.{PageFault}
use Rattle.page_store.specs.declared.pages.PageFault.TheVariants as page
use Rattle.page_store.specs.Reading.{Read, reading, nodes_of}
use Rattle.page_store.specs.Shelf.{Shelf, IsPassing}
use Rattle.page_store.specs.Tours.{Names, NamesInside, HasTourCause}
use Rattle.tree_outline.specs.declared.outline.Shape.{Shape}
use Rattle.tree_outline.specs.Shapes.{root_named, tree_lines, DrawsTo, IsCounted}
use Rattle.job_files.specs.Shapes.{AreLinesOf, IsShapeOf, HasDamage, HasStop, IsDamaged, IsSound}

-- what the pages of an opened file on a disk mean
pub record IsOf (shelf : Shelf) (disk : DiskState) (head : Head) (live : Live) : Type 0 where
  pub is_known : shelf.is_known ≡ disk.is_known
  pub read : shelf.read ≡ reading head.dim live.pages disk.bytes
  pub faults : shelf.faults ≡ disk.faults

-- the lines of a tree are told by the walk, and on a sound tree they are its lines
abbrev pub Walks : Shelf → Live → Shape → Type 0
Walks old live shape = IsTrue old.is_known → DrawsTo (nodes_of old.read) (root_named live.root ∷ []) shape.lines []

abbrev pub Draws : Shelf → Live → Shape → Type 0
Draws old live shape = IsTrue old.is_known → (s : Space) → IsSoundTree s (nodes_of old.read) live → shape.lines ≡ tree_lines (nodes_of old.read) live

-- a sound file's tree is sound on its shelf
sound_on : (old : Shelf) (d : DiskState) (head : Head) (live : Live) → IsOf old d head live → IsSound head live d.bytes → IsSoundTree (mix_space head.kind head.dim) (nodes_of old.read) live
sound_on old d head live is sound = subst (λ (read : Read). IsSoundTree (mix_space head.kind head.dim) (nodes_of read) live) (sym is.read) sound.tree

pub lines_of : (r : Result Shape PageFault) (old : Shelf) (d : DiskState) (head : Head) (live : Live) → IsOf old d head live → IfOk r (Walks old live) → IfOk r (Draws old live)
    → IfOk r (λ shape. IsTrue d.is_known → AreLinesOf head live d.bytes shape.lines)
lines_of (Err fault) old d head live is walks draws = tt
lines_of (Ok shape) old d head live is walks draws = λ is_known.
    let told : IsTrue old.is_known = subst IsTrue (sym is.is_known) is_known in
    record {
      walk = subst (λ (read : Read). DrawsTo (nodes_of read) (root_named live.root ∷ []) shape.lines []) is.read (walks told);
      tree = λ sound. subst (λ (read : Read). shape.lines ≡ tree_lines (nodes_of read) live) is.read (draws told (mix_space head.kind head.dim) (sound_on old d head live is sound));
    }

-- a fault comes on a sound tree only if it is a passing one
abbrev pub PassesOn : Shelf → Live → PageFault → Type 0
PassesOn old live fault = IsTrue old.is_known → (s : Space) → IsSoundTree s (nodes_of old.read) live → IsPassing fault

stop_by : (fault : PageFault) (old new : Shelf) (d : DiskState) (n : ℕ) (head : Head) (live : Live) → IsOf old d head live → n ≡ new.faults → HasTourCause live old new fault → PassesOn old live fault
    → HasStop head live d n fault
stop_by page.Disk old new d n head live is last cause passes = subst (λ (k : ℕ). Rose k n) is.faults (subst (λ (k : ℕ). Rose old.faults k) (sym last) cause)
stop_by page.Memory old new d n head live is last cause passes = tt
stop_by (page.Level p) old new d n head live is last cause passes = cause
stop_by (page.Bad p f) old new d n head live is last cause passes = λ is_known.
    let told : IsTrue old.is_known = subst IsTrue (sym is.is_known) is_known in
    record {
      stops = subst (λ (read : Read). (read p ≡ Err (page.Bad p f)) × NamesInside (nodes_of read) live p) is.read (cause.1 told);
      unsound = λ sound. passes told (mix_space head.kind head.dim) (sound_on old d head live is sound);
    }
stop_by (page.Outside p) old new d n head live is last cause passes = λ is_known.
    let told : IsTrue old.is_known = subst IsTrue (sym is.is_known) is_known in
    record {
      stops = subst (λ (read : Read). (read p ≡ Err (page.Outside p)) × NamesInside (nodes_of read) live p) is.read (cause.1 told);
      unsound = λ sound. passes told (mix_space head.kind head.dim) (sound_on old d head live is sound);
    }
stop_by (page.Repeats p) old new d n head live is last cause passes = λ is_known.
    let told : IsTrue old.is_known = subst IsTrue (sym is.is_known) is_known in
    record {
      stops = subst (λ (read : Read). Names (nodes_of read) live.root live.pages p) is.read (cause.1 told);
      unsound = λ sound. passes told (mix_space head.kind head.dim) (sound_on old d head live is sound);
    }

pub stop_of : (r : Result Shape PageFault) (old new : Shelf) (d : DiskState) (n : ℕ) (head : Head) (live : Live) → IsOf old d head live → n ≡ new.faults → IfErr r (HasTourCause live old new)
    → IfErr r (PassesOn old live) → IfErr r (HasStop head live d n)
stop_of (Ok shape) old new d n head live is last cause passes = tt
stop_of (Err fault) old new d n head live is last cause passes = stop_by fault old new d n head live is last cause passes

-- ---- what is told after the opening is told of the bytes before it

pub shape_before : (d0 d1 : DiskState) (head : Head) (live : Live) (shape : Shape) → (IsTrue d0.is_known → OpensTo d0.bytes head live) → head.version ≡ 2 → IsUnchanged d0 d1 → IsCounted live shape
    → (IsTrue d1.is_known → AreLinesOf head live d1.bytes shape.lines) → IsTrue d0.is_known → IsShapeOf d0.bytes shape.height shape.objects shape.lines
shape_before d0 d1 head live shape opens version same counted lines is_known = record {
  head = head;
  live = live;
  opens = opens is_known;
  version = version;
  height_is = counted.height;
  objects_are = counted.objects;
  lines_are = rw same.same_bytes at (lines (subst IsTrue (sym same.same_known) is_known));
}

-- a fault that bytes tell
damage_told : (fault : PageFault) (d : DiskState) (n : ℕ) (head : Head) (live : Live) → (IsPassing fault → ⊥) → HasStop head live d n fault → IsTrue d.is_known → HasDamage head live d.bytes fault
damage_told page.Disk d n head live stays stop is_known = absurd (stays tt)
damage_told page.Memory d n head live stays stop is_known = absurd (stays tt)
damage_told (page.Level p) d n head live stays stop is_known = absurd stop
damage_told (page.Bad p f) d n head live stays stop is_known = stop is_known
damage_told (page.Outside p) d n head live stays stop is_known = stop is_known
damage_told (page.Repeats p) d n head live stays stop is_known = stop is_known

pub damage_before : (d0 d1 : DiskState) (n : ℕ) (head : Head) (live : Live) (fault : PageFault) → (IsTrue d0.is_known → OpensTo d0.bytes head live) → head.version ≡ 2 → IsUnchanged d0 d1
    → (IsPassing fault → ⊥) → HasStop head live d1 n fault → IsTrue d0.is_known → IsDamaged d0.bytes fault
damage_before d0 d1 n head live fault opens version same stays stop is_known = record {
  head = head;
  live = live;
  opens = opens is_known;
  version = version;
  damage = rw same.same_bytes at (damage_told fault d1 n head live stays stop (subst IsTrue (sym same.same_known) is_known));
}

pub stop_rose : (d : DiskState) (n : ℕ) (head : Head) (live : Live) (fault : PageFault) → fault ≡ page.Disk → HasStop head live d n fault → Rose d.faults n
stop_rose d n head live fault is stop = subst (HasStop head live d n) is stop
