-- A commit, phase by phase: what a crash at each moment since it began may leave.
use Rattle.std.proofs.Common.{◌≡◌, ◌≢◌, ◌⊎◌, inl, inr, ℕ, ◌+◌, ◌-◌, ◌*◌, ◌<◌, ◌≤◌, List, [], ◌∷◌, length, take, drop, length-drop, slice_index, set, IsTrue, Result, Ok, Err, OnOk, sym, ◌∙◌, ap, subst, arith}
use Rattle.std.proofs.lemmas.Bool.{cases_lt}
use Rattle.std.proofs.lemmas.List.{length-take-le, get_or-take, get_or-drop}
use Rattle.disk_model.specs.Disk.{DiskState, MayLeave, Written, Torn, EachImage, IsOneCall}
use Rattle.disk_model.specs.Moments.{weakened, joined, goes_on, written_torn}
use Rattle.tree_shape.specs.declared.live.Live.{Live}
use Rattle.node_page.specs.Nodes.{SpellsNode}
use Rattle.node_page.specs.Opening.{page_of, OpensTo}
use Rattle.page_store.proofs.Published.{place-page_of}
use Rattle.page_store.specs.declared.staging.StagedNode.{StagedNode}
use Rattle.shadow_root.specs.Live.{IsSuccessor}
use Rattle.shadow_root.specs.Commit.{IsStagedAs, IsInPlace, HasNext, IsBeforeOrAfter, IsRewritten, IsFromRewritten, IsFromClosed, IsStagedFor, IsReady, HasFields, IsKept, IsStaged, IsPrepared}
use Rattle.shadow_root.proofs.Torn.{rewritten_page, torn_page, written_page}
use Rattle.shadow_root.proofs.Phases.{gate_at, kept_from_rewritten, kept_closed, kept_shut, fields_by, opens_by, still_before, opened, opening, open_byte}

-- a fact that holds whatever the result
pub whatever : {T E P : Type 0} (answer : Result T E) → P → OnOk answer P
whatever (Ok x) p = p
whatever (Err e) p = tt

-- a page without its gate
pub length-body_of : (page : List ℕ) → length page ≡ 4096 → length (take 4095 (drop 1 page)) ≡ 4095
length-body_of page size = length-take-le 4095 (drop 1 page) (omega (arith, size, length-drop 1 page))

pub place-body_of : (page : List ℕ) (k : ℕ) → k < 4095 → slice_index (take 4095 (drop 1 page)) k ≡ slice_index page (k + 1)
place-body_of page k below =
    get_or-take 4095 (drop 1 page) k 0 below ∙ get_or-drop 1 page k 0 ∙ ap (λ (i : ℕ). slice_index page i) (let e : 1 + k ≡ k + 1 = omega arith in e)

-- images that differ place by place
abbrev pub Mixes : DiskState → Type 0
Mixes disk = (one two : List ℕ) (i : ℕ) → MayLeave disk one → MayLeave disk two → i < length one → i < length two → MayLeave disk (set one i (slice_index two i))

-- every image now
pub now : {start disk : DiskState} {P : List ℕ → Type 0} → EachImage start disk P → (image : List ℕ) → MayLeave disk image → P image
now {start} {disk} run image left = run.each disk.clock image run.later (omega arith) left

module _ (dim : ℕ) (live next : Live) (staged : List StagedNode) (start : DiskState) (follows : IsSuccessor live next) (ready_nodes : IsStagedFor dim live next staged) where
  abbrev Kept : List ℕ → Type 0
  Kept = IsKept dim live staged start

  abbrev Either : List ℕ → Type 0
  Either = IsBeforeOrAfter dim live next staged start

  -- the gate of the other slot
  abbrev place : ℕ
  place = gate_at (1 - live.side)

  still : (image : List ℕ) → Kept image → Either image
  still = still_before dim live next staged start follows ready_nodes

  -- ---- the first phase

  -- the nodes
  pub run_nodes : (disk : DiskState) → IsReady dim live next staged start → EachImage start disk (IsFromRewritten staged start) → EachImage start disk Kept
  run_nodes disk ready run = weakened start disk (IsFromRewritten staged start) Kept run
      (λ image from. kept_from_rewritten dim live staged start from.0 image from.1 (ready.images from.0 from.1) from.2 (λ k s stands. (ready_nodes.within k s stands).0) ready.beside)

  -- the old gate
  pub run_closed : (gate : ℕ) (mid disk : DiskState) → gate ≡ 4096 * (1 + next.side) → EachImage start mid Kept → IsTrue mid.is_known → MayLeave mid mid.bytes → Mixes mid → EachImage mid disk (IsFromClosed gate mid) → EachImage start disk Kept
  run_closed gate mid disk is run is_known reads mix closing =
      let same : gate ≡ place = omega (arith, is, follows.sides) in
      joined start mid disk Kept run
      (weakened mid disk (IsFromClosed gate mid) Kept closing (λ image from. kept_closed dim live staged start mid is_known (now run) reads mix image (subst (λ (g : ℕ). IsFromClosed g mid image) same from)))

  -- the sync
  pub run_sync : (mid disk : DiskState) → EachImage start mid Kept → IsOneCall mid disk → ((image : List ℕ) → MayLeave disk image → MayLeave mid image) → EachImage start disk Kept
  run_sync mid disk run call fewer = goes_on start mid disk Kept run call (now run) (λ image left. now run image (fewer image left))

  beside : (p : ℕ) → p ≢ 1 + (1 - live.side) → (4096 * p + 4096 ≤ place) ⊎ (place + 1 ≤ 4096 * p)
  beside p differ = elim (cases_lt p (1 + (1 - live.side))) [ inl lt ↦ inl (omega arith) | inr le ↦ (let lt : 1 + (1 - live.side) < p = omega arith in inr (omega arith)) ]

  -- what a read gives then
  pub is_staged : (gate : ℕ) (base file : List ℕ) → gate ≡ 4096 * (1 + next.side) → IsReady dim live next staged start → MayLeave start start.bytes → Kept base → IsRewritten staged start.bytes base → IsInPlace dim staged base
      → ((k : ℕ) (s : StagedNode) → IsStagedAs staged k s → 4096 * s.page + 4096 ≤ length base) → Torn gate 1 base file → slice_index file gate ≢ 165 → Kept file → IsStaged dim live next staged start file
  is_staged gate base file is ready reads kept_base rewritten in_place long torn_at shut_at kept = record {
    kept = kept;
    in_place = λ k s stands.
        let far = (ready_nodes.within k s stands).0 in
        subst (λ (page : List ℕ). SpellsNode dim page s.node) (sym (torn_page place 1 base file s.page torn (beside s.page (omega (arith, far))) (long k s stands))) (in_place k s stands);
    room = omega (arith, room, torn.no_shorter);
    head = ready.head;
    opens = opens_by start.bytes file ready.head live opens (omega (arith, rewritten.no_shorter, torn.no_shorter)) (first 0 (omega (arith, follows.sides)) (omega arith))
        (first (1 + live.side) (omega (arith, follows.sides)) (omega (arith, opens.side))) (λ is_open_then. absurd (shut (open_byte file (1 - live.side) is_open_then)));
    count = ready.count;
    shut = shut;
  }
    where
      opens : OpensTo start.bytes ready.head live
      opens = ready.opens

      same : gate ≡ place
      same = omega (arith, is, follows.sides)

      shut : slice_index file place ≢ 165
      shut open_gate = shut_at (ap (λ (g : ℕ). slice_index file g) same ∙ open_gate)

      torn : Torn place 1 base file
      torn = subst (λ (g : ℕ). Torn g 1 base file) same torn_at

      first : (p : ℕ) → p ≢ 1 + (1 - live.side) → p < 3 → page_of file p ≡ page_of start.bytes p
      first p differ lt =
          torn_page place 1 base file p torn (beside p differ) (omega (arith, kept_base.tree.opens.opens.long))
          ∙ rewritten_page staged start.bytes base p rewritten (λ k s stands page_is. let far = (ready_nodes.within k s stands).0 in absurd (omega (arith, far, page_is))) (omega (arith, opens.long))

      room : next.pages * 4096 ≤ length base
      room = elim (cases_lt live.pages next.pages) [
        | inl more ↦
            let last = ready_nodes.every (next.pages - 1) (omega arith) (omega arith) in
            let reached = long last.0 last.1 last.2 in
            omega (arith, reached, last.3)
        | inr le ↦ omega (arith, kept_base.tree.opens.opens.valid.room)
      ]

  -- ---- the second phase

  pub run_body : (at count : ℕ) (mid disk : DiskState) → at ≡ 4096 * (1 + next.side) + 1 → count ≡ 4095 → EachImage start mid Kept → IsStaged dim live next staged start mid.bytes → EachImage mid disk (Torn at count mid.bytes) → EachImage start disk Kept
  run_body at count mid disk at_is count_is run is_staged writing =
      let same : at ≡ place + 1 = omega (arith, at_is, follows.sides) in
      joined start mid disk Kept run
      (weakened mid disk (Torn at count mid.bytes) Kept writing (λ image torn. kept_shut dim live staged start mid.bytes image is_staged.kept is_staged.shut (rw (← same, ← count_is) torn)))

  pub is_written : (at : ℕ) (old new body slot : List ℕ) → at ≡ 4096 * (1 + next.side) + 1 → IsStaged dim live next staged start old → Written at body old new → length body ≡ 4095 → HasFields slot next
      → ((k : ℕ) → k < 4095 → slice_index body k ≡ slice_index slot (k + 1)) → IsPrepared dim live next staged start new
  is_written at old new body slot at_is was written_at size has is = record {
    before = record {
      kept = kept_shut dim live staged start old new was.kept was.shut (subst (λ (n : ℕ). Torn (place + 1) n old new) size (written_torn (place + 1) body old new written));
      in_place = λ k s stands.
          let far = (ready_nodes.within k s stands).0 in
          subst (λ (page : List ℕ). SpellsNode dim page s.node) (sym (apart s.page (omega (arith, far)))) (was.in_place k s stands);
      room = omega (arith, was.room, written.size);
      head = was.head;
      opens = opens_by old new was.head live was.opens (omega (arith, written.size)) (apart 0 (omega (arith, follows.sides))) (apart (1 + live.side) (omega (arith, follows.sides)))
          (λ is_open_then. absurd (shut (open_byte new (1 - live.side) is_open_then)));
      count = was.count;
      shut = shut;
    };
    fields = fields_by slot (page_of new (1 + (1 - live.side))) next has place_is;
  }
    where
      same : at ≡ place + 1
      same = omega (arith, at_is, follows.sides)

      written : Written (place + 1) body old new
      written = subst (λ (n : ℕ). Written n body old new) same written_at

      shut : slice_index new place ≢ 165
      shut open_gate = was.shut (sym (written.below place (omega arith)) ∙ open_gate)

      apart : (p : ℕ) → p ≢ 1 + (1 - live.side) → page_of new p ≡ page_of old p
      apart p differ = written_page (place + 1) body old new p written
          (elim (cases_lt p (1 + (1 - live.side))) [ inl lt ↦ inl (omega arith) | inr le ↦ (let lt : 1 + (1 - live.side) < p = omega arith in inr (omega (arith, size))) ])

      place_is : (k : ℕ) → 1 ≤ k → k < 4096 → slice_index (page_of new (1 + (1 - live.side))) k ≡ slice_index slot k
      place_is k from to =
          let j = k - 1 in
          let here : place + 1 + j ≡ 4096 * (1 + (1 - live.side)) + k = omega arith in
          let back : j + 1 ≡ k = omega arith in
          place-page_of new (1 + (1 - live.side)) k to ∙ ap (λ (i : ℕ). slice_index new i) (sym here) ∙ written.inside j (omega (arith, size)) ∙ is j (omega arith) ∙ ap (λ (i : ℕ). slice_index slot i) back

  -- ---- the third phase

  pub run_gate : (at : ℕ) (mid disk : DiskState) → at ≡ 4096 * (1 + next.side) → EachImage start mid Kept → IsPrepared dim live next staged start mid.bytes → EachImage mid disk (Torn at 1 mid.bytes) → EachImage start disk Either
  run_gate at mid disk at_is run written writing =
      let same : at ≡ place = omega (arith, at_is, follows.sides) in
      joined start mid disk Either (weakened start mid Kept Either run still)
      (weakened mid disk (Torn at 1 mid.bytes) Either writing (λ image torn. opening dim live next staged start follows ready_nodes mid.bytes image written (rw (← same) torn)))

  pub has_next : (at : ℕ) (old new : List ℕ) → at ≡ 4096 * (1 + next.side) → IsPrepared dim live next staged start old → Written at (165 ∷ []) old new → HasNext dim next staged new
  has_next at old new at_is was written =
      let same : at ≡ place = omega (arith, at_is, follows.sides) in
      let is_open_then : slice_index new at ≡ 165 = ap (λ (i : ℕ). slice_index new i) (let e : at ≡ at + 0 = omega arith in e) ∙ written.inside 0 (omega arith) in
      (opened dim live next staged start follows ready_nodes old new was (rw (← same) (written_torn at (165 ∷ []) old new written)) (rw (← same) is_open_then)).0

  pub only_before : (disk : DiskState) → EachImage start disk Kept → EachImage start disk Either
  only_before disk run = weakened start disk Kept Either run still
