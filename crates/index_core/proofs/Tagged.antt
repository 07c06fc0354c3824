-- The tags of what was found, as callers of the index see them.
use Rattle.std.specs.Prelude.{◌≡◌, ℕ, ◌+◌, ◌≤◌, [], ◌∷◌, length, Vec, vec_len, IsTrue, Result, Ok, Err, IfOk, IfErr, MatchResult}
use Rattle.std.specs.List.{AllZip}
use Rattle.std.specs.declared.alloc.Global.{Global}
use Rattle.std.proofs.Common.{sym, subst}
use Rattle.metric_laws.specs.Space.{Space}
use Rattle.outside_io.specs.Causes.{Rose}
use Rattle.disk_model.specs.Disk.{DiskState}
use Rattle.tree_shape.specs.declared.live.Live.{Live}
use Rattle.tree_shape.specs.Tree.{IsSoundTree}
use Rattle.page_store.specs.declared.pages.PageFault.{PageFault}
use Rattle.page_store.specs.declared.pages.PageFault.TheVariants.{Disk, Memory, Bad, Outside, Repeats, Level}
use Rattle.page_store.specs.Reading.{nodes_of}
use Rattle.page_store.specs.Shelf.{Shelf, IsPassing}
use Rattle.log_model.specs.declared.logs.Found.{Found}
use Rattle.hit_tags.specs.Tags.{met_tags, object_tags, IsOwnTag, IsShown, HasTagsCause}
use Rattle.index_core.specs.Answers.{HasTagged, HasTagCause}
use Rattle.index_core.specs.Causes.{read_fault, MayComeAnytime}
use Rattle.index_core.specs.Files.{OpenFile, pages_on}
use Rattle.index_core.specs.declared.faults.IndexFault.{IndexFault}

-- what the walk of the found log gives over pages
pub record Tells (found : Found) (t : Live) (old new : Shelf) (answer : Result (Vec ℕ Global) PageFault) : Type 0 where
  pub few : new.reads ≤ old.reads + length found.log.records
  pub each : IfOk answer (λ tags. vec_len tags ≡ length found.hits)
  pub met : IfOk answer (λ tags. IsTrue old.is_known → tags.items ≡ met_tags (nodes_of old.read) t found)
  pub own : IfOk answer (λ tags. IsTrue old.is_known → (s : Space) → IsSoundTree s (nodes_of old.read) t → AllZip (IsOwnTag (nodes_of old.read) t) found.hits tags.items)
  pub objects : IfOk answer (λ tags. IsTrue old.is_known → (s : Space) → IsShown s (nodes_of old.read) t found → tags.items ≡ object_tags (nodes_of old.read) t found)
  pub cause : IfErr answer (HasTagsCause old new (t.root ∷ []) found.log.records)
  pub sound : IfErr answer (λ fault. IsTrue old.is_known → (s : Space) → IsSoundTree s (nodes_of old.read) t → IsPassing fault)

cause_of : {M : Type 0} (file : OpenFile M) (found : Found) (before after : DiskState) (new : Shelf) (fault : PageFault) → new.faults ≡ after.faults →
    HasTagsCause (pages_on file before 0) new (file.live.root ∷ []) found.log.records fault → HasTagCause file found before after (read_fault fault)
cause_of file found before after new Disk faults (page, rose, comes) = (page, subst (Rose before.faults) faults rose, comes)
cause_of file found before after new Memory faults cause = tt
cause_of file found before after new (Bad p fault) faults cause = (tt, cause)
cause_of file found before after new (Outside p) faults cause = (tt, cause)
cause_of file found before after new (Repeats p) faults (page, never, comes) = absurd never
cause_of file found before after new (Level p) faults (page, never, comes) = absurd never

anytime : (fault : PageFault) → IsPassing fault → MayComeAnytime (read_fault fault)
anytime Disk passing = tt
anytime Memory passing = tt
anytime (Bad p fault) passing = absurd passing
anytime (Outside p) passing = absurd passing
anytime (Repeats p) passing = absurd passing
anytime (Level p) passing = absurd passing

tagged_here : {M : Type 0} (s : Space) (file : OpenFile M) (found : Found) (before after : DiskState) (new : Shelf) (answer : Result (Vec ℕ Global) PageFault) (result : Result (Vec ℕ Global) IndexFault) →
    new.faults ≡ after.faults → new.reads ≡ after.reads → MatchResult answer (λ tags. result ≡ Ok tags) (λ fault. result ≡ Err (read_fault fault)) →
    Tells found file.live (pages_on file before 0) new answer → HasTagged s file found before after result
tagged_here s file found before after new (Ok tags) result faults reads is is_known = subst (HasTagged s file found before after) (sym is) (record {
  each = is_known.each;
  met = is_known.met;
  own = λ sound. is_known.own sound.0 s sound.1;
  objects = λ told shown. is_known.objects told s shown;
  reads = subst (λ (n : ℕ). n ≤ before.reads + length found.log.records) reads is_known.few;
  cause = tt;
  undamaged = λ sound. tt;
})
tagged_here s file found before after new (Err fault) result faults reads is is_known = subst (HasTagged s file found before after) (sym is) (record {
  each = tt;
  met = tt;
  own = tt;
  objects = tt;
  reads = subst (λ (n : ℕ). n ≤ before.reads + length found.log.records) reads is_known.few;
  cause = cause_of file found before after new fault faults is_known.cause;
  undamaged = λ sound. anytime fault (is_known.sound sound.0 s sound.1);
})

pub tagged : {M : Type 0} (s : Space) (file : OpenFile M) (found : Found) (before after : DiskState) (t : Live) (old new : Shelf) (answer : Result (Vec ℕ Global) PageFault) (result : Result (Vec ℕ Global) IndexFault) →
    old ≡ pages_on file before 0 → t ≡ file.live → new.faults ≡ after.faults → new.reads ≡ after.reads → MatchResult answer (λ tags. result ≡ Ok tags) (λ fault. result ≡ Err (read_fault fault)) →
    Tells found t old new answer → HasTagged s file found before after result
tagged s file found before after t old new answer result pages live faults reads is is_known =
    tagged_here s file found before after new answer result faults reads is
    (subst (λ (l : Live). Tells found l (pages_on file before 0) new answer) live (subst (λ (h : Shelf). Tells found t h new answer) pages is_known))
