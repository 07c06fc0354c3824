-- The outcome of a query.
use Rattle.std.proofs.Common.{◌≡◌, ◌≢◌, ℕ, List, [], ◌∷◌, map, min, length, refl, sym, ap, subst, ◌∙◌, arith, Option, Some, Result, Ok, Err}
use Rattle.std.specs.Prelude.{Bool, true, false, IfOk, IsTrue, slice_index_or}
use Rattle.metric_laws.specs.Space.{Space, bound}
use Rattle.metric_laws.proofs.Published.{length_map}
use Rattle.outside_io.specs.Causes.{Rose}
use Rattle.scan_model.specs.declared.hit.Hit.{Hit}
use Rattle.scan_model.specs.declared.query.Query.{Query}
use Rattle.scan_model.specs.declared.query.Query.TheVariants as query
use Rattle.rows_text.specs.declared.command.Command.{Command}
use Rattle.rows_text.specs.declared.command.Command.TheVariants as command
use Rattle.scan_model.specs.Scan.{range_hits}
use Rattle.range_search.specs.Searched.{HasWalkCause, IsFound}
use Rattle.nearest_search.specs.Searched.{HasNearestCause, IsFront, IsNearest}
use Rattle.rows_text.specs.declared.reply.Reply.TheVariants as reply
use Rattle.rows_text.specs.Meaning.{hits_reply, tags_of}
use Rattle.tree_shape.specs.declared.live.Live.{Live}
use Rattle.tree_shape.specs.Tree.{Nodes, IsSoundTree, points_by_id, tag_of}
use Rattle.page_store.specs.declared.pages.PageFault.{PageFault}
use Rattle.page_store.specs.declared.pages.PageFault.TheVariants as page
use Rattle.page_store.specs.Files.{nodes_in, points_in, tags_in}
use Rattle.page_store.specs.Reading.{nodes_of, reading}
use Rattle.page_store.specs.Shelf.{Shelf, IsDamage, IsPassing}
use Rattle.log_model.specs.declared.logs.Found.{Found}
use Rattle.log_model.specs.Grammar.{query_point}
use Rattle.log_model.specs.Laws.{scan_answers}
use Rattle.log_model.specs.Met.{met, tagged_by}
use Rattle.log_model.specs.Sound.{IsLeastLog, IsLogOf}
use Rattle.log_model.specs.Walk.{search_at}
use Rattle.log_model.proofs.Published.{least_sound}
use Rattle.hit_tags.specs.Tags.{met_tags}
use Rattle.hit_tags.proofs.Published.{shown_tags}
use Rattle.answer_texts.specs.Asked.{Held, HasLog, answered_query, held_in, state_of}
use Rattle.image_answers.specs.declared.outcome.Outcome.{Outcome}
use Rattle.image_answers.specs.declared.outcome.Outcome.TheVariants as outcome
use Rattle.image_answers.specs.Outcomes.{as_wanted, outcome_of_fault, untagged, FollowsWalk, HasSearchCause, IsGivenOf, IsOutcomeOf, IsTagged, IsTold, pages_asked, reply_in}

-- ---- what was found

-- an outcome that has no tags is given whole, whether tags are wanted or not
pub given_plain : (s : Space) (live : Live) (image : List ℕ) (c : Command) (wanted : Bool) (o : Outcome) → o ≡ untagged o → IsOutcomeOf s live image c o → IsGivenOf wanted s live image c o
given_plain s live image c true o plain is = (o, is, refl)
given_plain s live image c false o plain is = (o, is, plain)

-- where tags are wanted, the outcome is given
pub given_whole : (s : Space) (live : Live) (image : List ℕ) (c : Command) (wanted : Bool) (o : Outcome) → wanted ≡ true → IsGivenOf wanted s live image c o → IsOutcomeOf s live image c o
given_whole s live image c wanted o is given = subst (IsOutcomeOf s live image c) (sym (given.2 ∙ ap (λ (w : Bool). as_wanted w given.0) is)) given.1

pub whole_if_ok : (s : Space) (live : Live) (image : List ℕ) (c : Command) (wanted : Bool) {E : Type 0} (r : Result Outcome E) → IfOk r (IsGivenOf wanted s live image c) →
    wanted ≡ true → IfOk r (IsOutcomeOf s live image c)
whole_if_ok s live image c wanted (Ok o) given is = given_whole s live image c wanted o is given
whole_if_ok s live image c wanted (Err e) given is = tt

module _ (s : Space) (live : Live) (image : List ℕ) (c : Command) (asked : Query) (answers : answered_query s c ≡ Some asked) where
  abbrev nodes : Nodes
  nodes = nodes_in s.dimension live image

  abbrev held : Held
  held = held_in s.dimension live image

  abbrev Sound : Type 0
  Sound = IsSoundTree s nodes live

  -- the answer
  module _ (found : Found) (follows : FollowsWalk s nodes live asked found.log) (named : IsLogOf live asked found) (least : Sound → IsLeastLog s nodes live asked found.log)
      (scanned : Sound → found.hits ≡ scan_answers s asked (points_in s.dimension live image)) (met_by : found.tagged ≡ tagged_by s (query_point asked) nodes live.root found.log.records)
      (meaning : (limit : ℕ) → reply_in s held limit c ≡ hits_reply (state_of held).objects (scan_answers s asked (points_in s.dimension live image))) where
    answer_is : (tags : List ℕ) → length tags ≡ length found.hits → tags ≡ met_tags nodes live found → IsOutcomeOf s live image c (outcome.Done (reply.Hits found.hits tags) (Some found.log))
    answer_is tags each are_met = record {
      meant = λ sound. record {
        meaning = λ limit. (λ i. reply.Hits (scanned sound i) (own sound i)) ∙ sym (meaning limit);
        logged = subst (λ (q : Option Query). HasLog s held q (Some found.log)) (sym answers) (least sound);
      };
      told = subst (λ (q : Option Query). IsTold s live image c q (outcome.Done (reply.Hits found.hits tags) (Some found.log))) (sym answers)
          (record { tagged = found.tagged; met = met_by; named = named; walk = follows; tags_are = are_met });
      valid = (each, named.valid);
    }
      where
        own : Sound → tags ≡ tags_of (state_of held).objects (scan_answers s asked (points_in s.dimension live image))
        own sound =
            are_met ∙ shown_tags s nodes live found (record { tree = sound; log = least_sound s nodes live asked found.log (least sound); hits_are = named.hits_are })
            ∙ ap (λ (hs : List Hit). map (λ h. slice_index_or (tags_in s.dimension live image) h.id 0) hs) (scanned sound)

    -- the tags that the walk meets: they exist, even where they are not wanted
    abbrev unseen : List ℕ
    unseen = met_tags nodes live found

    unseen_each : length unseen ≡ length found.hits
    unseen_each = length_map (λ (h : Hit). tag_of h.id (met nodes (live.root ∷ []) found.log.records)) found.hits

    pub found_is : (wanted : Bool) (o : Outcome) → IsTagged wanted found o → IsGivenOf wanted s live image c o
    found_is false o untagged = (outcome.Done (reply.Hits found.hits unseen) (Some found.log), answer_is unseen unseen_each refl, untagged)
    found_is true o tagged = (o, subst (IsOutcomeOf s live image c) (sym tagged.1) (answer_is tagged.0 tagged.2.each (tagged.2.met s (query_point asked) nodes live met_by)), refl)

    pub found_if_ok : (wanted : Bool) {E : Type 0} (r : Result Outcome E) → IfOk r (IsTagged wanted found) → IfOk r (IsGivenOf wanted s live image c)
    found_if_ok wanted (Ok o) tagged = found_is wanted o tagged
    found_if_ok wanted (Err e) tagged = tt

  -- ---- a search that came to a damaged page

  damage_of : (a : Query) (n : ℕ) (f : PageFault) → f ≢ page.Memory → HasSearchCause s live (reading s.dimension live.pages image) a n f → IsDamage f
  damage_of a n page.Memory other cause = absurd (other refl)
  damage_of (query.Range q r) n page.Disk other cause = let rose : Rose 0 0 = cause in absurd (omega arith)
  damage_of (query.Nearest q k) n page.Disk other cause = let rose : Rose 0 0 = cause in absurd (omega arith)
  damage_of a n (page.Bad p f) other cause = tt
  damage_of a n (page.Outside p) other cause = tt
  damage_of a n (page.Repeats p) other cause = tt
  damage_of (query.Range q r) n (page.Level p) other cause = absurd cause
  damage_of (query.Nearest q k) n (page.Level p) other cause = absurd cause

  not_passing : (f : PageFault) → IsDamage f → IsPassing f → ⊥
  not_passing (page.Bad p f) damage passing = passing
  not_passing (page.Outside p) damage passing = passing
  not_passing (page.Repeats p) damage passing = passing
  not_passing (page.Level p) damage passing = damage
  not_passing page.Disk damage passing = damage
  not_passing page.Memory damage passing = damage

  damaged_is : (wanted : Bool) (n : ℕ) (f : PageFault) → f ≢ page.Memory → HasSearchCause s live (reading s.dimension live.pages image) asked n f → (Sound → IsPassing f) →
      IsGivenOf wanted s live image c (outcome.Damaged f)
  damaged_is wanted n f other cause passing =
      let damage = damage_of asked n f other cause in
      let unsound : ¬ Sound = λ sound. not_passing f damage (passing sound) in
      given_plain s live image c wanted (outcome.Damaged f) refl (record {
        meant = λ sound. absurd (unsound sound);
        told = subst (λ (q : Option Query). IsTold s live image c q (outcome.Damaged f)) (sym answers) (record { damage = damage; count = n; cause = cause; unsound = unsound });
        valid = damage;
      })

  pub fault_is : (wanted : Bool) (n : ℕ) (f : PageFault) → HasSearchCause s live (reading s.dimension live.pages image) asked n f → (Sound → IsPassing f) →
      IfOk (outcome_of_fault f) (IsGivenOf wanted s live image c)
  fault_is wanted n page.Memory cause passing = tt
  fault_is wanted n page.Disk cause passing = damaged_is wanted n page.Disk (λ same. absurd (cc)) cause passing
  fault_is wanted n (page.Bad p f) cause passing = damaged_is wanted n (page.Bad p f) (λ same. absurd (cc)) cause passing
  fault_is wanted n (page.Outside p) cause passing = damaged_is wanted n (page.Outside p) (λ same. absurd (cc)) cause passing
  fault_is wanted n (page.Repeats p) cause passing = damaged_is wanted n (page.Repeats p) (λ same. absurd (cc)) cause passing
  fault_is wanted n (page.Level p) cause passing = damaged_is wanted n (page.Level p) (λ same. absurd (cc)) cause passing

-- ---- searches

module _ (s : Space) (live : Live) (image : List ℕ) (q : List ℕ) (is_point : IsTrue (s.is_point q)) (old mid : Shelf) (n : ℕ) (begins : old ≡ pages_asked s live image 0) (is : mid ≡ pages_asked s live image n) where
  -- what the search met, it met on the image
  image_met : (found : Found) → (IsTrue old.is_known → found.tagged ≡ tagged_by s q (nodes_of old.read) live.root found.log.records) →
      found.tagged ≡ tagged_by s q (nodes_in s.dimension live image) live.root found.log.records
  image_met found met_by = subst (λ (x : Shelf). IsTrue x.is_known → found.tagged ≡ tagged_by s q (nodes_of x.read) live.root found.log.records) begins met_by refl

  pub range_found : (wanted : Bool) (r used0 used1 : ℕ) (found : Found) → IsFound s live (query.Range q r) old mid used0 used1 found →
      (IsTrue old.is_known → IsSoundTree s (nodes_of old.read) live → found.hits ≡ range_hits s (points_by_id (nodes_of old.read) live) q r) →
      (IsTrue old.is_known → found.tagged ≡ tagged_by s q (nodes_of old.read) live.root found.log.records) →
      {E : Type 0} (result : Result Outcome E) → IfOk result (IsTagged wanted found) → IfOk result (IsGivenOf wanted s live image (command.Range r q))
  range_found wanted r used0 used1 found is_found scanned met_by result tagged =
      let least : IsLeastLog s (nodes_in s.dimension live image) live (query.Range q r) found.log =
      subst (λ (x : Shelf). IsTrue x.is_known → IsLeastLog s (nodes_of x.read) live (query.Range q r) found.log) begins is_found.least refl in
      found_if_ok s live image (command.Range r q) (query.Range q r) (rw is_point refl) found least is_found.log (λ sound. least)
      (subst (λ (x : Shelf). IsTrue x.is_known → IsSoundTree s (nodes_of x.read) live → found.hits ≡ range_hits s (points_by_id (nodes_of x.read) live) q r) begins scanned refl)
      (image_met found met_by) (λ limit. rw is_point refl) wanted result tagged

  pub nearest_found : (wanted : Bool) (k : ℕ) (found : Found) → IsLogOf live (query.Nearest q k) found → (IsTrue old.is_known → IsFront s (nodes_of old.read) live q k found.log) →
      (IsTrue old.is_known → IsSoundTree s (nodes_of old.read) live → IsNearest s (nodes_of old.read) live q k old mid found) →
      (IsTrue old.is_known → found.tagged ≡ tagged_by s q (nodes_of old.read) live.root found.log.records) →
      {E : Type 0} (result : Result Outcome E) → IfOk result (IsTagged wanted found) → IfOk result (IsGivenOf wanted s live image (command.Nearest k q))
  nearest_found wanted k found named front nearest met_by result tagged =
      let by_image : IsSoundTree s (nodes_in s.dimension live image) live → IsNearest s (nodes_in s.dimension live image) live q k (pages_asked s live image 0) mid found =
      subst (λ (x : Shelf). IsTrue x.is_known → IsSoundTree s (nodes_of x.read) live → IsNearest s (nodes_of x.read) live q k x mid found) begins nearest refl in
      found_if_ok s live image (command.Nearest k q) (query.Nearest q k) (rw is_point refl) found
      (subst (λ (x : Shelf). IsTrue x.is_known → IsFront s (nodes_of x.read) live q k found.log) begins front refl)
      named (λ sound. (by_image sound).least) (λ sound. (by_image sound).scanned) (image_met found met_by) (λ limit. rw is_point refl) wanted result tagged

  pub range_fault : (wanted : Bool) (r : ℕ) (f : PageFault) → HasWalkCause (search_at s q (min r bound)) live old mid f → (IsTrue old.is_known → IsSoundTree s (nodes_of old.read) live → IsPassing f) →
      IfOk (outcome_of_fault f) (IsGivenOf wanted s live image (command.Range r q))
  range_fault wanted r f cause passing =
      fault_is s live image (command.Range r q) (query.Range q r) (rw is_point refl) wanted n f
      (subst (λ (x : Shelf). HasWalkCause (search_at s q (min r bound)) live x (pages_asked s live image n) f) begins
      (subst (λ (x : Shelf). HasWalkCause (search_at s q (min r bound)) live old x f) is cause))
      (subst (λ (x : Shelf). IsTrue x.is_known → IsSoundTree s (nodes_of x.read) live → IsPassing f) begins passing refl)

  pub nearest_fault : (wanted : Bool) (k : ℕ) (f : PageFault) → HasNearestCause live old mid f → (IsTrue old.is_known → IsSoundTree s (nodes_of old.read) live → IsPassing f) →
      IfOk (outcome_of_fault f) (IsGivenOf wanted s live image (command.Nearest k q))
  nearest_fault wanted k f cause passing =
      fault_is s live image (command.Nearest k q) (query.Nearest q k) (rw is_point refl) wanted n f
      (subst (λ (x : Shelf). HasNearestCause live x (pages_asked s live image n) f) begins (subst (λ (x : Shelf). HasNearestCause live old x f) is cause))
      (subst (λ (x : Shelf). IsTrue x.is_known → IsSoundTree s (nodes_of x.read) live → IsPassing f) begins passing refl)
