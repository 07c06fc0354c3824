-- Bytes without a fault spell a carried log whose paths lead to the root, and such bytes have none.
use Rattle.std.proofs.Common.{◌≡◌, ◌⊎◌, inl, inr, ℕ, ◌^◌, ◌<◌, ◌≤◌, List, length, Option, Some, None, Result, Ok, Err, refl, sym, ap, subst, ◌∙◌, arith}
use Rattle.tree_shape.specs.declared.live.Live.{Live}
use Rattle.node_page.specs.declared.head.Head.{Head}
use Rattle.node_page.specs.Heads.{head_of}
use Rattle.node_page.specs.Opening.{page_of, OpensTo, live_of}
use Rattle.log_model.specs.declared.logs.Log.{Log}
use Rattle.log_model.specs.Grammar.{IsValidLog}
use Rattle.prune_log.specs.declared.fault.LogFault.{LogFault}
use Rattle.prune_log.specs.Ranges.{IsBytes}
use Rattle.prune_log.specs.Spelling.{log_bytes}
use Rattle.prune_log.specs.Reading.{log_at, whole, fault_of, log_fault}
use Rattle.prune_log.specs.Laws.{SpellsLog}
use Rattle.prune_log.proofs.Published.{whole_takes, whole_again, no_fault, IsLog, log_reader}
use Rattle.std.specs.Prelude.{IfOk}
use Rattle.seal_log.specs.declared.faults.ProofFault.{ProofFault}
use Rattle.seal_log.specs.declared.faults.ProofFault.TheVariants as faults
use Rattle.seal_log.specs.declared.parts.Parts.{Parts}
use Rattle.seal_log.specs.Digests.{Digest}
use Rattle.seal_log.specs.Spelling.{AreValid, carried_bytes}
use Rattle.seal_log.specs.Reading.{carried_at}
use Rattle.seal_log.specs.Judged.{carried_file, path_fault, first_fault, slots_fault, after_log, parts_fault, after_reading, proof_fault, CarriedLog, parts_in, IsCarried, SpellsCarried}
use Rattle.seal_log.proofs.Grammar.{carried_take, carried_again}
use Rattle.seal_log.proofs.CarriedFiles.{length-carried_file, three-pages}
use Rattle.seal_log.proofs.OpenedFiles.{opens_faultless, faultless_opens}
use Rattle.seal_log.proofs.Showing.{first-none}

-- ---- the log

pub log-none : (log : List ℕ) → after_log (log_fault log) ≡ None → log_fault log ≡ None
log-none log e = told (log_fault log) e
  where
    told : (fault : Option LogFault) → after_log fault ≡ None → fault ≡ None
    told None e = refl
    told (Some f) e = absurd cc

pub spelled-faultless : (bytes : List ℕ) (log : Log) → SpellsLog bytes log → log_fault bytes ≡ None
spelled-faultless bytes log spells = ap (λ (b : List ℕ). fault_of (whole log_at b)) (sym spells.spelled) ∙ ap fault_of (whole_again IsLog log_bytes log_at log_reader log (record { valid = spells.valid; in_range = spells.in_range }))

pub log-of : (bytes : List ℕ) → IsBytes bytes → log_fault bytes ≡ None → (log : Log) × SpellsLog bytes log
log-of bytes is_point none =
    let read = no_fault (whole log_at bytes) none in
    let took = whole_takes IsLog log_bytes log_at log_reader bytes read.0 is_point read.1 in
    (read.0, record { valid = took.0.valid; in_range = took.0.in_range; spelled = took.1 })

-- ---- the parts

-- what is without a fault, as parts
pub record Faultless (root : Digest) (parts : Parts) (head : Head) (live : Live) : Type 0 where
  pub valid : AreValid parts
  pub paths : path_fault root parts.pages parts.carried ≡ None
  pub opens : OpensTo (carried_file parts.pages parts.carried) head live
  pub version : head.version ≡ 2
  pub all : live.pages ≡ parts.pages

-- as a carried log
abbrev pub made : Digest → Parts → Head → Live → Log → CarriedLog
made root parts head live log = record { root = root; carried = parts.carried; head = head; live = live; log = log }

pub made_carried : (root : Digest) (parts : Parts) (head : Head) (live : Live) (log : Log) → Faultless root parts head live → IsValidLog log → IsCarried (made root parts head live log)
made_carried root parts head live log none valid = record {
  parts = subst (λ (n : ℕ). AreValid (record { pages = n; carried = parts.carried })) (sym none.all) none.valid;
  paths = subst (λ (n : ℕ). path_fault root n parts.carried ≡ None) (sym none.all) none.paths;
  opens = subst (λ (n : ℕ). OpensTo (carried_file n parts.carried) head live) (sym none.all) none.opens;
  version = none.version;
  log = valid;
}

pub made_parts : (root : Digest) (parts : Parts) (head : Head) (live : Live) (log : Log) → live.pages ≡ parts.pages → parts_in (made root parts head live log) ≡ parts
made_parts root parts head live log all = ap (λ (n : ℕ). record { pages = n; carried = parts.carried }) all

pub made_faultless : (root : Digest) (parts : Parts) (log : List ℕ) → path_fault root parts.pages parts.carried ≡ None → slots_fault parts.pages (carried_file parts.pages parts.carried) ≡ None → log_fault log ≡ None → parts_fault root parts log ≡ None
unfolding parts_fault
made_faultless root parts log paths slots none = rw (paths, slots, none) refl

-- a fault of the parts where the earlier ones are none
pub path-first : (root : Digest) (parts : Parts) (log : List ℕ) (fault : ProofFault) → path_fault root parts.pages parts.carried ≡ Some fault → parts_fault root parts log ≡ Some fault
unfolding parts_fault
path-first root parts log fault is = rw is refl

pub slots-next : (root : Digest) (parts : Parts) (log : List ℕ) (fault : ProofFault) → path_fault root parts.pages parts.carried ≡ None → slots_fault parts.pages (carried_file parts.pages parts.carried) ≡ Some fault → parts_fault root parts log ≡ Some fault
unfolding parts_fault
slots-next root parts log fault paths is = rw (paths, is) refl

pub log-last : (root : Digest) (parts : Parts) (log : List ℕ) (fault : ProofFault) → path_fault root parts.pages parts.carried ≡ None → slots_fault parts.pages (carried_file parts.pages parts.carried) ≡ None → after_log (log_fault log) ≡ Some fault → parts_fault root parts log ≡ Some fault
unfolding parts_fault
log-last root parts log fault paths slots is = rw (paths, slots, is) refl

faultless-parts : (root : Digest) (parts : Parts) (log : List ℕ) → AreValid parts → parts_fault root parts log ≡ None
    → Faultless root parts (head_of (page_of (carried_file parts.pages parts.carried) 0)) (live_of (carried_file parts.pages parts.carried)) × (log_fault log ≡ None)
unfolding parts_fault
faultless-parts root parts log valid none =
    let file = carried_file parts.pages parts.carried in
    let first = first-none (path_fault root parts.pages parts.carried) (first_fault (slots_fault parts.pages file) (after_log (log_fault log))) none in
    let second = first-none (slots_fault parts.pages file) (after_log (log_fault log)) first.1 in
    let opens = faultless_opens file parts.pages (omega (arith, length-carried_file parts.pages parts.carried, three parts valid)) second.0 in
    (record { valid = valid; paths = first.0; opens = opens.0; version = opens.1; all = opens.2 }, log-none log second.1)
  where
    three : (parts : Parts) → AreValid parts → 3 ≤ parts.pages
    three parts valid = three-pages parts.pages parts.carried valid.in_place valid.some

-- ---- bytes

pub bytes_made : (root : Digest) (bytes : List ℕ) → IsBytes bytes → proof_fault root bytes ≡ None → (c : CarriedLog) × (c.root ≡ root) × IsCarried c × SpellsCarried bytes c
bytes_made root bytes is_point none = told (carried_at bytes) refl none
  where
    told : (read : Result (Parts × List ℕ) LogFault) → carried_at bytes ≡ read → after_reading root read ≡ None → (c : CarriedLog) × (c.root ≡ root) × IsCarried c × SpellsCarried bytes c
    told (Err fault) is none = absurd cc
    told (Ok (parts, log)) is none =
        let took = carried_take bytes parts log is_point is in
        let both = faultless-parts root parts log took.0 none in
        let found = log-of log took.2 both.1 in
        let file = carried_file parts.pages parts.carried in
        let head = head_of (page_of file 0) in
        let live = live_of file in (
          made root parts head live found.0,
          refl,
          made_carried root parts head live found.0 both.0 found.1.valid,
          record { log = log; few = took.1; parts_are = ap (λ (p : Parts). carried_bytes p log) (made_parts root parts head live found.0 both.0.all) ∙ took.3; log_is = found.1 },
        )

pub made_bytes : (root : Digest) (bytes : List ℕ) (c : CarriedLog) → c.root ≡ root → IsCarried c → SpellsCarried bytes c → proof_fault root bytes ≡ None
made_bytes root bytes c same is spells =
    ap (λ (b : List ℕ). proof_fault root b) (sym spells.parts_are) ∙ ap (after_reading root) (carried_again (parts_in c) spells.log is.parts spells.few)
    ∙ made_faultless root (parts_in c) spells.log (subst (λ (r : Digest). path_fault r c.live.pages c.carried ≡ None) same is.paths)
    (opens_faultless (carried_file c.live.pages c.carried) c.live.pages c.head c.live is.opens is.version refl) (spelled-faultless spells.log c.log spells.log_is)

-- what was read is spelled so
pub spelled_made : (r : Result CarriedLog ProofFault) (parts : Parts) (log bytes : List ℕ) → carried_bytes parts log ≡ bytes → length log < 2 ^ 64 → IfOk r (λ c. parts_in c ≡ parts) → IfOk r (λ c. SpellsLog log c.log) → IfOk r (SpellsCarried bytes)
spelled_made (Ok c) parts log bytes is few same spells = record { log = log; few = few; parts_are = ap (λ (p : Parts). carried_bytes p log) same ∙ is; log_is = spells }
spelled_made (Err fault) parts log bytes is few same spells = tt

pub log_failed : (root : Digest) (parts : Parts) (log : List ℕ) (fault : ProofFault) → path_fault root parts.pages parts.carried ≡ None → slots_fault parts.pages (carried_file parts.pages parts.carried) ≡ None
    → (fault ≡ faults.Memory) ⊎ (after_log (log_fault log) ≡ Some fault) → (fault ≡ faults.Memory) ⊎ (parts_fault root parts log ≡ Some fault)
log_failed root parts log fault paths slots (inl memory) = inl memory
log_failed root parts log fault paths slots (inr is) = inr (log-last root parts log fault paths slots is)
