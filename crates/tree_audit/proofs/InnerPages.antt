-- What the audit does at an inner page.
use Rattle.std.proofs.Common.{◌≡◌, ◌≢◌, ℕ, zero, suc, ◌-◌, true, false, List, [], ◌∷◌, ◌++◌, refl, sym, ap, arith, Ok, Err, length}
use Rattle.std.specs.Prelude.{◌==◌, ◌&&◌}
use Rattle.std.proofs.lemmas.Bool.Decides.{nat_tests}
use Rattle.metric_laws.specs.Space.{Space}
use Rattle.tree_shape.specs.declared.entry.InnerEntry.{InnerEntry}
use Rattle.tree_shape.specs.declared.entry.Node.TheVariants.{Inner}
use Rattle.tree_shape.specs.Fill.{least_for}
use Rattle.tree_shape.specs.Tree.{times}
use Rattle.page_store.specs.Reading.{Read}
use Rattle.tree_audit.specs.declared.walking.Step.{Step}
use Rattle.tree_audit.specs.declared.faults.AuditFault.TheVariants.{Fill}
use Rattle.tree_audit.specs.Audited.{step, Seen, each_entry, last_point, check_entry, is_filled, arrived, audited_at}

pub new_page : (n : ℕ) → n ≡ 0 → (n == 0) ≡ true
new_page n a = grind (arith, nat_tests)

less : (m : ℕ) → suc m - 1 ≡ m
less m = omega arith

-- a page that is walked
pub inner_page : (s : Space) (read : Read) (count level least : ℕ) (path : List Step) (page own : ℕ) (es : List InnerEntry) (seen : Seen) → times page seen.pages ≡ 0 → read page ≡ Ok (Inner own es) →
    level ≢ 0 → ((own == level) && is_filled s least (length es)) ≡ true →
    audited_at s read count level least path page seen
    ≡ each_entry (λ i e after. check_entry s (last_point path) page i e (audited_at s read count (level - 1) (least_for s.dimension) (path ++ step page i e ∷ []) e.child after)) 0 es (arrived seen page)
inner_page s read count zero least path page own es seen new is more full = absurd (more refl)
inner_page s read count (suc m) least path page own es seen new is more full =
    rw (new_page (times page seen.pages) new, is, full)
    (sym (ap (λ (n : ℕ). each_entry (λ i e after. check_entry s (last_point path) page i e (audited_at s read count n (least_for s.dimension) (path ++ step page i e ∷ []) e.child after)) 0 es (arrived seen page)) (less m)))

-- a page of another level or count
pub inner_zero : (s : Space) (read : Read) (count least : ℕ) (path : List Step) (page own level : ℕ) (es : List InnerEntry) (seen : Seen) → times page seen.pages ≡ 0 → read page ≡ Ok (Inner own es) → level ≡ 0 →
    audited_at s read count level least path page seen ≡ Err (Fill page)
inner_zero s read count least path page own zero es seen new is low = rw (new_page (times page seen.pages) new, is) refl
inner_zero s read count least path page own (suc m) es seen new is low = absurd (omega arith)

pub inner_fill : (s : Space) (read : Read) (count level least : ℕ) (path : List Step) (page own : ℕ) (es : List InnerEntry) (seen : Seen) → times page seen.pages ≡ 0 → read page ≡ Ok (Inner own es) →
    ((own == level) && is_filled s least (length es)) ≡ false → audited_at s read count level least path page seen ≡ Err (Fill page)
inner_fill s read count zero least path page own es seen new is why = rw (new_page (times page seen.pages) new, is) refl
inner_fill s read count (suc m) least path page own es seen new is why = rw (new_page (times page seen.pages) new, is, why) refl
