-- Files that are not sound.
use Rattle.std.proofs.Common.{◌≡◌, ℕ, List, None, inl, inr, ap, subst, arith}
use Rattle.tree_shape.specs.declared.live.Live.{Live}
use Rattle.node_page.specs.declared.head.Head.{Head}
use Rattle.node_page.specs.Opening.{open_fault}
use Rattle.node_page.specs.Laws.{FaultIsNotOpen, OneLiveSlot}
use Rattle.page_store.specs.declared.pages.PageFault.{PageFault}
use Rattle.job_files.specs.Jobs.{IsNoIndex}
use Rattle.job_files.specs.Shapes.{IsDamaged, IsSound}

-- what does not open as an index of version 2 is not sound
pub no_index_unsound : FaultIsNotOpen → OneLiveSlot → (file name : List ℕ) → IsNoIndex file name → (head : Head) (live : Live) → ¬ IsSound head live file
no_index_unsound faults one file name (inl (why, is, named)) head live sound = let none : open_fault file ≡ None = (faults file).1 (head, live, sound.opens) in cc
no_index_unsound faults one file name (inr (h, l, opens, version, named)) head live sound =
    let same = one file head h live l sound.opens opens in
    omega (arith, ap (λ (x : Head). x.version) same.0, sound.version, version)

-- a file with a page that gives no node is not sound
pub damaged_unsound : OneLiveSlot → (file : List ℕ) (fault : PageFault) → IsDamaged file fault → (head : Head) (live : Live) → ¬ IsSound head live file
damaged_unsound one file fault damaged head live sound =
    let same = one file head damaged.head live damaged.live sound.opens damaged.opens in
    damaged.damage.unsound (subst (λ (x : Live). IsSound damaged.head x file) same.1 (subst (λ (x : Head). IsSound x live file) same.0 sound))
