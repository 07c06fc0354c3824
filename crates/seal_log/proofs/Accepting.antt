-- The carried log of a sound log over a sound file is accepted under the file's root digest.
use Rattle.std.proofs.Common.{◌≡◌, ℕ, zero, suc, ◌+◌, ◌^◌, ◌<◌, ◌≤◌, ◌==◌, ◌&&◌, ◌||◌, nat_le, nat_lt, Bool, true, false, cond, List, [], ◌∷◌, ◌++◌, length, map, get_or, Some, None, Result, Ok, Err, refl, sym, ap, subst, ◌∙◌, arith, inl, inr}
use Rattle.std.specs.Prelude.{All, Contains}
use Rattle.std.specs.List.{AllByRecursion}
use Rattle.std.specs.List.Sorted.{IsStrictlyIncreasing}
use Rattle.std.proofs.lemmas.Bool.{cases_lt, ltb-true, lt-ltb, le-ltb, eq-eqb}
use Rattle.std.proofs.lemmas.List.{get_or_default, length-map}
use Rattle.metric_laws.specs.Space.{Space}
use Rattle.scan_model.specs.declared.hit.Hit.{Hit}
use Rattle.tree_shape.specs.declared.live.Live.{Live}
use Rattle.tree_shape.specs.declared.entry.Node.{Node}
use Rattle.node_page.specs.declared.head.Head.{Head}
use Rattle.node_page.specs.Opening.{page_of, OpensTo}
use Rattle.node_page.proofs.Published.{head_is, live_is}
use Rattle.page_store.specs.declared.pages.PageFault.{PageFault}
use Rattle.page_store.specs.declared.pages.PageFault.TheVariants.{Outside}
use Rattle.page_store.proofs.Published.{length-page_of}
use Rattle.page_store.specs.Files.{IsSoundFile, nodes_in}
use Rattle.page_store.specs.Reading.{is_within, reading_in, reading, nodes_of, node_or_none}
use Rattle.log_model.specs.declared.marks.Record.{Record}
use Rattle.log_model.specs.declared.marks.Need.{Need}
use Rattle.log_model.specs.declared.logs.Log.{Log}
use Rattle.log_model.specs.Grammar.{IsValidLog}
use Rattle.log_model.specs.Walk.{Search, Rule, AreAllowed, WalksBy, needs_of, root_need}
use Rattle.log_model.specs.Sound.{IsSoundLog, search_for}
use Rattle.log_verify.specs.Judged.{log_fault}
use Rattle.log_verify.proofs.Published.{none_from_sound}
use Rattle.prune_log.specs.declared.fault.LogFault.{LogFault}
use Rattle.prune_log.specs.Ranges.{LogInRange}
use Rattle.prune_log.specs.Spelling.{log_bytes}
use Rattle.prune_log.specs.Reading.{log_at, whole}
use Rattle.prune_log.specs.Laws.{SpellsLog}
use Rattle.prune_log.proofs.Published.{ok_is, whole_again, IsLog, log_reader}
use Rattle.seal_log.specs.declared.parts.CarriedPage.{CarriedPage}
use Rattle.seal_log.specs.declared.parts.Parts.{Parts}
use Rattle.seal_log.specs.Digests.{levels_over, leaf_digests, root_digest}
use Rattle.seal_log.specs.Spelling.{may_follow, IsCarriedPage, AreInPlace, AreValid, carried_bytes}
use Rattle.seal_log.specs.Reading.{carried_at}
use Rattle.seal_log.specs.Carrying.{needed_pages, page_with_path, parts_of, AreNeeded, Carries}
use Rattle.seal_log.specs.Judged.{carried_file, path_fault, after_reading, parts_fault, CarriedLog, file_of, parts_in, IsCarried, is_carried, missing_from, judged_fault}
use Rattle.seal_log.specs.Laws.{IsAccepted}
use Rattle.seal_log.proofs.Trees.{length-leaf_digests}
use Rattle.seal_log.proofs.Hashed.{AllOwn, leaves-digests}
use Rattle.seal_log.proofs.Leading.{page_leads, levels-digests}
use Rattle.seal_log.proofs.PathSizes.{path-short, path-digests}
use Rattle.seal_log.proofs.Needed.{pages-within, increasing-few, at-least}
use Rattle.seal_log.proofs.Grammar.{carried_again}
use Rattle.seal_log.proofs.CarriedFiles.{and-both, length-carried_file}
use Rattle.seal_log.proofs.OpenedFiles.{opens_live, opened, opens_faultless}
use Rattle.seal_log.proofs.Agreeing.{same_verdict}
use Rattle.seal_log.proofs.Showing.{AllCarried, same_page_of, same_records, judged-none}
use Rattle.seal_log.proofs.Faultless.{made_faultless, spelled-faultless}

-- ---- the pages that a sound log names

node-within : (dim n : ℕ) (file : List ℕ) (page : ℕ) (node : Node) → nodes_of (reading dim n file) page ≡ Some node → page < n
unfolding reading_in is_within
node-within dim n file page node is = by_test _ (nat_le 3 page && nat_lt page n) (λ e. ltb-true page n (and-both (nat_le 3 page) (nat_lt page n) e).1) is
  where
    by_test : (r : Result Node PageFault) (b : Bool) → (b ≡ true → page < n) → node_or_none (cond b r (Err (Outside page))) ≡ Some node → page < n
    by_test r true told e = told refl
    by_test r false told e = absurd cc

walk-within : (rule : Rule) (f : Search) (dim n : ℕ) (file : List ℕ) (needs : List Need) (records : List Record) (hits : List Hit) → WalksBy rule f (nodes_of (reading dim n file)) needs records hits → AllByRecursion (λ (r : Record). r.page < n) records
walk-within rule f dim n file [] [] hits walk = tt
walk-within rule f dim n file [] (r ∷ rs) hits walk = absurd walk
walk-within rule f dim n file (need ∷ needs) [] hits walk = absurd walk
walk-within rule f dim n file (need ∷ needs) (r ∷ rs) hits walk =
    let low = node-within dim n file need.page walk.0 walk.1 in
    (omega (arith, low, walk.2), walk-within rule f dim n file (needs_of f walk.0 r.marks ++ needs) rs walk.4.0 walk.4.1)

each-at : (n : ℕ) (records : List Record) → AllByRecursion (λ (r : Record). r.page < n) records → All (λ (r : Record). r.page < n) records
each-at n [] each k d lt = absurd (omega arith)
each-at n (r ∷ rs) each zero d lt = each.0
each-at n (r ∷ rs) each (suc k) d lt = each-at n rs each.1 k d (omega arith)

-- ---- the needed pages in their place

abbrev Below : ℕ → List ℕ → Type 0
Below n xs = (k d : ℕ) → k < length xs → get_or xs k d < n

-- a number in the list stands at its own index, where the numbers below it do
place-of : (xs : List ℕ) (x : ℕ) → IsStrictlyIncreasing xs → Contains xs x → ((y : ℕ) → y < x → get_or xs y 0 ≡ y) → (get_or xs x 0 ≡ x) × (x < length xs)
place-of xs x up held before =
    let k = held.0 in
    let value : get_or xs k 0 ≡ x = get_or_default xs k 0 x held.1 ∙ held.2 in
    let low = at-least xs k up held.1 in
    by_place k (omega (arith, low, value)) value held.1
  where
    by_place : (k : ℕ) → k ≤ x → get_or xs k 0 ≡ x → k < length xs → (get_or xs x 0 ≡ x) × (x < length xs)
    by_place k le value within = elim (cases_lt k x) [
      | inl lt ↦ absurd (let same = before k lt in omega (arith, same, value))
      | inr ge ↦ let is : k ≡ x = omega arith in (subst (λ (j : ℕ). get_or xs j 0 ≡ x) is value, subst (λ (j : ℕ). j < length xs) is within)
    ]

abbrev mk : List ℕ → ℕ → ℕ → CarriedPage
mk file n page = page_with_path file (leaf_digests file n) page

behind-last : (n last page : ℕ) → 2 ≤ last → last < page → page < n → may_follow n (Some last) page ≡ true
behind-last n last page some lt within =
    let small : nat_lt page n ≡ true = lt-ltb page n within in
    let many : nat_lt last 2 ≡ false = le-ltb last 2 some in
    let next : nat_lt last page ≡ true = lt-ltb last page lt in
    rw (small, many) next

increasing-tail : (a : ℕ) (xs : List ℕ) → IsStrictlyIncreasing (a ∷ xs) → IsStrictlyIncreasing xs
increasing-tail a xs up k within =
    let next : suc k + 1 ≡ suc (k + 1) = omega arith in
    subst (λ (j : ℕ). get_or xs k 0 < get_or (a ∷ xs) j 0) next (up (suc k) (omega arith))

in_place-from : (file : List ℕ) (n last : ℕ) (xs : List ℕ) → 2 ≤ last → IsStrictlyIncreasing (last ∷ xs) → Below n xs → AreInPlace n (Some last) (map (mk file n) xs)
in_place-from file n last [] some up below = tt
in_place-from file n last (x ∷ xs) some up below =
    let lt = up 0 (omega arith) in
    (behind-last n last x some lt (below 0 0 (omega arith)), in_place-from file n x xs (omega arith) (increasing-tail last (x ∷ xs) up) (λ k d within. below (suc k) d (omega arith)))

abbrev Front : List ℕ → Type 0
Front xs = (get_or xs 0 0 ≡ 0) × (get_or xs 1 0 ≡ 1) × (get_or xs 2 0 ≡ 2) × (3 ≤ length xs)

in_place : (file : List ℕ) (n : ℕ) (xs : List ℕ) → IsStrictlyIncreasing xs → Front xs → Below n xs → AreInPlace n None (map (mk file n) xs)
in_place file n [] up front below = absurd (let three = front.3 in omega arith)
in_place file n (a ∷ []) up front below = absurd (let three = front.3 in omega arith)
in_place file n (a ∷ b ∷ []) up front below = absurd (let three = front.3 in omega arith)
in_place file n (a ∷ b ∷ c ∷ xs) up front below =
    let first : nat_lt a n ≡ true = lt-ltb a n (below 0 0 (omega arith)) in
    let second : nat_lt b n ≡ true = lt-ltb b n (below 1 0 (omega arith)) in
    let third : nat_lt c n ≡ true = lt-ltb c n (below 2 0 (omega arith)) in
    let a-small : nat_lt a 2 ≡ true = lt-ltb a 2 (omega (arith, front.0)) in
    let b-small : nat_lt b 2 ≡ true = lt-ltb b 2 (omega (arith, front.1)) in
    let a-is : (a == 0) ≡ true = eq-eqb a 0 front.0 in
    let b-is : (b == a + 1) ≡ true = eq-eqb b (a + 1) (omega (arith, front.0, front.1)) in
    let c-is : (c == b + 1) ≡ true = eq-eqb c (b + 1) (omega (arith, front.1, front.2)) in
    (rw first a-is, (rw (second, a-small) b-is, (rw (third, b-small) c-is, in_place-from file n c xs (omega (arith, front.2)) (increasing-tail b (c ∷ xs) (increasing-tail a (b ∷ c ∷ xs) up)) (λ k d within. below (suc (suc (suc k))) d (omega arith)))))

-- ---- what is carried

carried-own : (file : List ℕ) (n : ℕ) (xs : List ℕ) → AllOwn file (map (mk file n) xs)
carried-own file n [] = tt
carried-own file n (x ∷ xs) = (refl, carried-own file n xs)

carried-is : (file : List ℕ) (n page : ℕ) (xs : List ℕ) → Contains xs page → is_carried (map (mk file n) xs) page ≡ true
carried-is file n page [] (k, within, is) = absurd (omega arith)
carried-is file n page (x ∷ xs) (zero, within, is) = let here : (x == page) ≡ true = eq-eqb x page is in rw here refl
carried-is file n page (x ∷ xs) (suc k, within, is) = told (x == page) (is_carried (map (mk file n) xs) page) (carried-is file n page xs (k, omega arith, is))
  where
    told : (a b : Bool) → b ≡ true → a || b ≡ true
    told true b h = refl
    told false b h = h

carried-each : (file : List ℕ) (n : ℕ) (xs : List ℕ) → n ≤ 2 ^ 24 → Below n xs → AllByRecursion IsCarriedPage (map (mk file n) xs)
carried-each file n [] small below = tt
carried-each file n (x ∷ xs) small below = (
  record {
    number = let low = below 0 0 (omega arith) in omega arith;
    size = length-page_of file x;
    few = let short = path-short 24 (leaf_digests file n) x (omega (arith, length-leaf_digests file n)) in omega arith;
    path = path-digests (levels_over (leaf_digests file n)) x (levels-digests (length (leaf_digests file n)) (leaf_digests file n) (leaves-digests file n));
  },
  carried-each file n xs small (λ k d within. below (suc k) d (omega arith)),
)

carried-paths : (file : List ℕ) (n : ℕ) (xs : List ℕ) → Below n xs → path_fault (root_digest file n) n (map (mk file n) xs) ≡ None
unfolding path_fault
carried-paths file n [] below = refl
carried-paths file n (x ∷ xs) below = rw (page_leads file n x (below 0 0 (omega arith))) (carried-paths file n xs (λ k d within. below (suc k) d (omega arith)))

record-carried : (file : List ℕ) (n : ℕ) (xs : List ℕ) (records : List Record) → ((k : ℕ) (d : Record) → k < length records → Contains xs (get_or records k d).page) → AllCarried (map (mk file n) xs) records
record-carried file n xs [] held = tt
record-carried file n xs (r ∷ rs) held = (carried-is file n r.page xs (held 0 r (omega arith)), record-carried file n xs rs (λ k d within. held (suc k) d (omega arith)))

missing-none : (ps : List CarriedPage) (records : List Record) (i : ℕ) → AllCarried ps records → missing_from ps records i ≡ None
unfolding missing_from
missing-none ps [] i all = refl
missing-none ps (r ∷ rs) i all = rw all.0 (missing-none ps rs (i + 1) all.1)

-- ---- the whole

-- a sound file, and the needed pages of a sound log
record IsCarrying (s : Space) (head : Head) (live : Live) (file : List ℕ) (log : Log) (pages : List ℕ) : Type 0 where
  sound : IsSoundFile s head live file
  valid : IsValidLog log
  in_range : LogInRange log
  sound_log : IsSoundLog s (nodes_in head.dim live file) live log
  needed : AreNeeded log pages

abbrev Pages : List ℕ → ℕ → List ℕ → List CarriedPage
Pages file n pages = map (mk file n) pages

pages-low : (s : Space) (head : Head) (live : Live) (file : List ℕ) (log : Log) (pages : List ℕ) → IsCarrying s head live file log pages → Below live.pages pages
pages-low s head live file log pages given =
    pages-within log live.pages pages given.needed (let low = given.sound.opens.valid.low_pages in omega arith)
    (each-at live.pages log.records (walk-within AreAllowed (search_for s log.query log.answers) head.dim live.pages file (root_need live.root ∷ []) log.records given.sound_log.hits given.sound_log.walk))

pages-front : (log : Log) (pages : List ℕ) → AreNeeded log pages → Front pages
pages-front log pages needed =
    let zeroth = place-of pages 0 needed.ascend ((needed.which 0).1 (0, omega arith, refl)) (λ y lt. absurd (omega arith)) in
    let first = place-of pages 1 needed.ascend ((needed.which 1).1 (1, omega arith, refl)) (λ y lt. let is : y ≡ 0 = omega arith in subst (λ (j : ℕ). get_or pages j 0 ≡ j) (sym is) zeroth.0) in
    let second = place-of pages 2 needed.ascend ((needed.which 2).1 (2, omega arith, refl)) (λ y lt. before y lt zeroth.0 first.0) in
    (zeroth.0, first.0, second.0, omega (arith, second.1))
  where
    before : (y : ℕ) → y < 2 → get_or pages 0 0 ≡ 0 → get_or pages 1 0 ≡ 1 → get_or pages y 0 ≡ y
    before zero lt a b = a
    before (suc zero) lt a b = b
    before (suc (suc y)) lt a b = absurd (omega arith)

carrying-valid : (s : Space) (head : Head) (live : Live) (file : List ℕ) (log : Log) (pages : List ℕ) → IsCarrying s head live file log pages → AreValid (record { pages = live.pages; carried = Pages file live.pages pages })
carrying-valid s head live file log pages given =
    let low = pages-low s head live file log pages given in
    let few = increasing-few pages live.pages given.needed.ascend low in
    let high = given.sound.opens.valid.high_pages in
    let front = pages-front log pages given.needed in
    let same : length (Pages file live.pages pages) ≡ length pages = length-map pages (mk file live.pages) in
    record {
      pages = omega arith;
      some = omega (arith, front.3, same);
      few = omega (arith, few, same);
      each = carried-each file live.pages pages (omega arith) low;
      in_place = in_place file live.pages pages given.needed.ascend front low;
    }

-- the carried file opens as the file does
carrying-opens : (s : Space) (head : Head) (live : Live) (file : List ℕ) (log : Log) (pages : List ℕ) → IsCarrying s head live file log pages → OpensTo (carried_file live.pages (Pages file live.pages pages)) head live
carrying-opens s head live file log pages given =
    let n = live.pages in
    let ps = Pages file n pages in
    let enough = given.sound.opens.valid.low_pages in
    let own = carried-own file n pages in
    let same = λ (page : ℕ) (held : Contains (needed_pages log) page) (lt : page < n). sym (same_page_of file n ps page own (carried-is file n page pages ((given.needed.which page).1 held)) lt) in
    let zeroth : page_of file 0 ≡ page_of (carried_file n ps) 0 = same 0 (0, omega arith, refl) (omega arith) in
    let first : page_of file 1 ≡ page_of (carried_file n ps) 1 = same 1 (1, omega arith, refl) (omega arith) in
    let second : page_of file 2 ≡ page_of (carried_file n ps) 2 = same 2 (2, omega arith, refl) (omega arith) in
    opened (carried_file n ps) n head live (page_of file 0) (page_of file 1) (page_of file 2) (length-carried_file n ps) (omega arith) zeroth first second given.sound.opens.spells_head (opens_live file n head live given.sound.opens refl)

carrying-verdict : (s : Space) (head : Head) (live : Live) (file : List ℕ) (log : Log) (pages : List ℕ) → IsCarrying s head live file log pages
    → AllCarried (Pages file live.pages pages) log.records × (log_fault s (reading head.dim live.pages (carried_file live.pages (Pages file live.pages pages))) live log ≡ None)
carrying-verdict s head live file log pages given =
    let all = record-carried file live.pages pages log.records (λ k d lt. (given.needed.which (get_or log.records k d).page).1 (named log.records k d lt)) in (
      all,
      same_verdict s (reading head.dim live.pages (carried_file live.pages (Pages file live.pages pages))) (reading head.dim live.pages file) live log (same_records head.dim live.pages file (Pages file live.pages pages) log.records (carried-own file live.pages pages) all)
          ∙ none_from_sound s (reading head.dim live.pages file) live log given.sound_log,
    )
  where
    at : (records : List Record) (k : ℕ) (d : Record) → k < length records → (k < length (map (λ (r : Record). r.page) records)) × ((e : ℕ) → get_or (map (λ (r : Record). r.page) records) k e ≡ (get_or records k d).page)
    at [] k d lt = absurd (omega arith)
    at (r ∷ rs) zero d lt = (omega arith, λ e. refl)
    at (r ∷ rs) (suc k) d lt = let next = at rs k d (omega arith) in (omega (arith, next.0), next.1)

    named : (records : List Record) (k : ℕ) (d : Record) → k < length records → Contains (0 ∷ 1 ∷ 2 ∷ map (λ (r : Record). r.page) records) (get_or records k d).page
    named records k d lt = let there = at records k d lt in (suc (suc (suc k)), omega (arith, there.0), there.1 (get_or records k d).page)

carrying-faultless : (s : Space) (head : Head) (live : Live) (file : List ℕ) (log : Log) (pages : List ℕ) → IsCarrying s head live file log pages
    → parts_fault (root_digest file live.pages) (record { pages = live.pages; carried = Pages file live.pages pages }) (log_bytes log) ≡ None
carrying-faultless s head live file log pages given =
    made_faultless (root_digest file live.pages) (record { pages = live.pages; carried = Pages file live.pages pages }) (log_bytes log)
    (carried-paths file live.pages pages (pages-low s head live file log pages given))
    (opens_faultless (carried_file live.pages (Pages file live.pages pages)) live.pages head live (carrying-opens s head live file log pages given) given.sound.version refl)
    (spelled-faultless (log_bytes log) log (record { valid = given.valid; in_range = given.in_range; spelled = refl }))

abbrev read_ok : Parts × List ℕ → Result (Parts × List ℕ) LogFault
read_ok x = Ok x

-- a carried log with the same parts and the same log is accepted
carrying-judged : (s : Space) (head : Head) (live : Live) (file : List ℕ) (log : Log) (pages : List ℕ) (c : CarriedLog) → IsCarrying s head live file log pages → IsCarried c → c.live.pages ≡ live.pages → c.carried ≡ Pages file live.pages pages → c.log ≡ log → judged_fault s c ≡ None
carrying-judged s head live file log pages c given is count same log-is =
    let fc = carried_file live.pages (Pages file live.pages pages) in
    let opens = carrying-opens s head live file log pages given in
    let file-is : file_of c ≡ fc = ap (λ (n : ℕ). carried_file n c.carried) count ∙ ap (carried_file live.pages) same in
    let here = subst (λ (b : List ℕ). OpensTo b c.head c.live) file-is is.opens in
    let head-same : c.head ≡ head = sym (head_is (page_of fc 0) c.head here.spells_head) ∙ head_is (page_of fc 0) head opens.spells_head in
    let live-same : c.live ≡ live = sym (live_is fc c.head c.live here) ∙ live_is fc head live opens in
    let verdict = carrying-verdict s head live file log pages given in
    let missing : missing_from c.carried c.log.records 0 ≡ None = ap (λ (l : Log). missing_from c.carried l.records 0) log-is ∙ ap (λ (ps : List CarriedPage). missing_from ps log.records 0) same ∙ missing-none (Pages file live.pages pages) log.records 0 verdict.0 in
    judged-none s c missing
    (ap (λ (b : List ℕ). log_fault s (reading c.head.dim c.live.pages b) c.live c.log) file-is
    ∙ ap (λ (h : Head). log_fault s (reading h.dim c.live.pages fc) c.live c.log) head-same
    ∙ ap (λ (v : Live). log_fault s (reading head.dim v.pages fc) v c.log) live-same
    ∙ ap (λ (l : Log). log_fault s (reading head.dim live.pages fc) live l) log-is
    ∙ verdict.1)

-- bytes of one spelling have one log
same-log : (bytes : List ℕ) (log other : Log) → SpellsLog bytes log → SpellsLog bytes other → log ≡ other
same-log bytes log other one two =
    ok_is log other
    (sym (whole_again IsLog log_bytes log_at log_reader log (record { valid = one.valid; in_range = one.in_range })) ∙ ap (whole log_at) (one.spelled ∙ sym two.spelled)
    ∙ whole_again IsLog log_bytes log_at log_reader other (record { valid = two.valid; in_range = two.in_range }))

pub accepted : (s : Space) (head : Head) (live : Live) (file : List ℕ) (log : Log) (bytes : List ℕ) → IsSoundFile s head live file → IsValidLog log → LogInRange log → IsSoundLog s (nodes_in head.dim live file) live log
    → Carries file (leaf_digests file live.pages) log bytes → IsAccepted s (root_digest file live.pages) bytes log
accepted s head live file log bytes sound valid range sound_log carries =
    let n = live.pages in
    let given : IsCarrying s head live file log carries.pages = record { sound = sound; valid = valid; in_range = range; sound_log = sound_log; needed = carries.needed } in
    let parts : Parts = record { pages = n; carried = Pages file n carries.pages } in
    let parts-same : parts_of file (leaf_digests file n) carries.pages ≡ parts = ap (λ (k : ℕ). record { pages = k; carried = Pages file n carries.pages }) (length-leaf_digests file n) in
    let spelled : bytes ≡ carried_bytes parts (log_bytes log) = carries.spelled ∙ ap (λ (p : Parts). carried_bytes p (log_bytes log)) parts-same in
    let read : carried_at bytes ≡ Ok (parts, log_bytes log) = ap carried_at spelled ∙ carried_again parts (log_bytes log) (carrying-valid s head live file log carries.pages given) carries.few in
    record {
      faultless = ap (after_reading (root_digest file n)) read ∙ carrying-faultless s head live file log carries.pages given;
      judged = λ c root is spells.
          let other : carried_at bytes ≡ Ok (parts_in c, spells.log) = ap carried_at (sym spells.parts_are) ∙ carried_again (parts_in c) spells.log is.parts spells.few in
          let same = both-is (parts_in c) parts spells.log (log_bytes log) (sym other ∙ read) in
          let log-is : c.log ≡ log = same-log (log_bytes log) c.log log (subst (λ (b : List ℕ). SpellsLog b c.log) same.1 spells.log_is) (record { valid = valid; in_range = range; spelled = refl }) in
          (carrying-judged s head live file log carries.pages c given is (ap (λ (p : Parts). p.pages) same.0) (ap (λ (p : Parts). p.carried) same.0) log-is, log-is);
    }
  where
    both-is : (p q : Parts) (a b : List ℕ) → read_ok (p, a) ≡ read_ok (q, b) → (p ≡ q) × (a ≡ b)
    both-is p q a b e = let same = ok_is (p, a) (q, b) e in (ap (λ (x : Parts × List ℕ). x.0) same, ap (λ (x : Parts × List ℕ). x.1) same)
