-- What holds for an index that was opened and audited.
use Rattle.std.proofs.Common.{◌≡◌, ◌≢◌, ◌⊎◌, ⊎_elim, ℕ, ◌≤◌, List, None, sym, ap, subst, ◌∙◌, arith}
use Rattle.std.specs.Prelude.{IsTrue}
use Rattle.disk_model.specs.Disk.{DiskState, IsUnchanged}
use Rattle.metric_mix.specs.MixSpaces.{mix_space}
use Rattle.tree_shape.specs.declared.live.Live.{Live}
use Rattle.node_page.specs.declared.head.Head.{Head}
use Rattle.node_page.specs.Opening.{OpensTo}
use Rattle.node_page.proofs.Published.{live_is}
use Rattle.page_store.specs.Reading.{reading}
use Rattle.tree_audit.specs.Audited.{audit_fault}
use Rattle.seal_log.specs.Digests.{root_digest}
use Rattle.page_store.specs.Files.{IsLarge}
use Rattle.job_seal.specs.Seals.{IsSealed}

-- a file that opens to few pages is not large
pub not_large : (file : List ℕ) (head : Head) (live : Live) → OpensTo file head live → live.pages ≤ 262144 → IsLarge file → ⊥
not_large file head live opens few large =
    let same : live.pages ≡ large.1.pages = ap (λ (l : Live). l.pages) (sym (live_is file head live opens) ∙ live_is file large.0 large.1 large.2) in
    let many = large.3 in omega arith

-- a file that was opened, audited and sealed
pub sealed_before : (d0 d1 d2 : DiskState) (head : Head) (live : Live) (root : List ℕ) → (IsTrue d0.is_known → OpensTo d0.bytes head live) → head.version ≡ 2 → live.pages ≤ 262144 → IsUnchanged d0 d1 → IsUnchanged d1 d2
    → (IsTrue d1.is_known → audit_fault (mix_space head.kind head.dim) (reading head.dim live.pages d1.bytes) live ≡ None) → (IsTrue d2.is_known → root ≡ root_digest d2.bytes live.pages) → IsTrue d0.is_known → IsSealed d0.bytes root
sealed_before d0 d1 d2 head live root opens version few first second sound is is_known = record {
  head = head;
  live = live;
  opens = opens is_known;
  version = version;
  few = few;
  sound = subst (λ (b : List ℕ). audit_fault (mix_space head.kind head.dim) (reading head.dim live.pages b) live ≡ None) first.same_bytes (sound (subst IsTrue (sym first.same_known) is_known));
  root_is = is (subst IsTrue (sym (second.same_known ∙ first.same_known)) is_known) ∙ ap (λ (b : List ℕ). root_digest b live.pages) (second.same_bytes ∙ first.same_bytes);
}

pub neither_of_three : {P : Type 0} (r x y z n : ℕ) → (r ≡ x) ⊎ ((r ≡ y) ⊎ (r ≡ z)) → r ≡ n → n ≢ x → n ≢ y → n ≢ z → P
neither_of_three r x y z n either is a b c = absurd (⊎_elim (λ e. a (sym is ∙ e)) (λ rest. ⊎_elim (λ e. b (sym is ∙ e)) (λ e. c (sym is ∙ e)) rest) either)
