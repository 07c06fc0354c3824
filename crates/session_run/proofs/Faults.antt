-- What the index blames is damaged when the session ends.
use Rattle.std.proofs.Common.{◌≡◌, List, ℕ, refl, sym, subst, Result, Ok, Err}
use Rattle.std.specs.Prelude.{IsTrue, IfErr}
use Rattle.disk_model.specs.Disk.{DiskState}
use Rattle.node_page.specs.Opening.{OpensTo}
use Rattle.page_store.specs.declared.pages.PageFault.{PageFault}
use Rattle.index_core.specs.declared.faults.IndexFault.{IndexFault}
use Rattle.index_core.specs.declared.faults.IndexFault.TheVariants as fault
use Rattle.index_core.specs.Damage.{BlamesDamage, IsDamageOf}
use Rattle.index_core.specs.Files.{OpenFile}
use Rattle.session_run.specs.Session.{StandsBy}
use Rattle.session_run.specs.Steps.{answer_of_fault}

module _ {M : Type 0} (file : OpenFile M) (before after : DiskState) (opens : IsTrue before.is_known → OpensTo before.bytes file.head file.live) (told : after.is_known ≡ before.is_known) where
  -- a refusal that blames a page leaves the bytes as they were
  pub blames_stands : (why : IndexFault) → ((f : PageFault) → why ≡ fault.Damaged f → after.bytes ≡ before.bytes) → BlamesDamage file before why → IfErr (answer_of_fault why) (StandsBy file.head after)
  blames_stands (fault.Damaged f) same blames = λ is_known.
      let now : IsTrue before.is_known = subst IsTrue told is_known in record {
        live = file.live;
        opens = subst (λ (bytes : List ℕ). OpensTo bytes file.head file.live) (sym (same f refl)) (opens now);
        is = subst (λ (bytes : List ℕ). IsDamageOf file.head.dim bytes file.live f) (sym (same f refl)) (blames now);
      }
  blames_stands fault.Disk same blames = tt
  blames_stands fault.Memory same blames = tt
  blames_stands fault.Full same blames = tt
  blames_stands fault.NotEmpty same blames = tt
  blames_stands (fault.NoRoom pages needed) same blames = tt
  blames_stands fault.Worn same blames = tt
  blames_stands fault.Stopped same blames = tt
  blames_stands fault.Commit same blames = tt

  pub result_stands : (result : Result ℕ IndexFault) → ((f : PageFault) → result ≡ Err (fault.Damaged f) → after.bytes ≡ before.bytes) → IfErr result (BlamesDamage file before) →
      IfErr result (λ why. IfErr (answer_of_fault why) (StandsBy file.head after))
  result_stands (Ok n) same blames = tt
  result_stands (Err why) same blames = blames_stands why (λ f is. same f (λ i. Err (is i))) blames
