-- What is told of a history stays so as the tape grows.
use Rattle.std.proofs.Common.{◌≡◌, ℕ, ◌+◌, ◌-◌, ◌<◌, ◌≤◌, ◌&&◌, ◌||◌, Bool, true, false, not, Option, List, [], ◌∷◌, ◌++◌, length, fold, refl, ◌∙◌, ap, ap₂, subst, arith}
use Rattle.std.specs.Prelude.{◌^◌, IfSome, IsTrue}
use Rattle.std.specs.Option.{option_map_or}
use Rattle.std.specs.List.{list_any, list_all}
use Rattle.array_call_specs.specs.bank_the_Operation.{Operation}
use Rattle.array_call_specs.proofs.bank_Laws.{contents-earlier}
use Rattle.array_call_specs.specs.sb_specs_the_Members.{Members}
use Rattle.array_call_specs.specs.sb_specs_Reading.{Reading, reading, is_clean, is_reshaping}
use Rattle.array_call_specs.specs.history_the_Entry.{Entry}
use Rattle.array_call_specs.specs.history_the_Event.{Event}
use Rattle.array_call_specs.specs.history_the_Event_TheVariants.{Lost, Step}
use Rattle.array_call_specs.specs.history_the_StepKind_TheVariants.{TakenOver}
use Rattle.array_call_specs.specs.history_Epochs.{HasRoomForEvents}
use Rattle.array_call_specs.specs.history_Flat.{length_of, values_of}
use Rattle.array_call_specs.specs.history_Growing.{grown, EndBy}
use Rattle.array_call_specs.specs.history_Losses.{takes, gives_back, loses, regains, gone_surely, is_gone_after, is_resync_end, is_unsynced}
use Rattle.array_call_specs.specs.history_OneShape.{is_unsettled, keeps_shape_event, KeepShape}
use Rattle.array_call_specs.specs.history_Opened.{IsSound}
use Rattle.array_call_specs.specs.history_Plain.{loses_role}
use Rattle.array_call_specs.specs.history_Sound.{OpensFit}
use Rattle.array_call_specs.specs.history_Stands.{stands}
use Rattle.array_call_specs.specs.history_World.{World, contents_at, reading_at, opening_list}
use Rattle.array_call_specs.specs.crash_safety_laws_Safety.{HasLiveSlot, HasRoomLeft}
use Rattle.array_call_specs.proofs.SafeLaws.{room-at, room-less, longer-by}
use Rattle.array_call_specs.proofs.history_LegalLaws.{both}
use Rattle.history_invariant.specs.Safe.{IsCounted, IsReshapeFit, OpensOnCourse}
use Rattle.history_invariant.specs.Told.{told_now}

-- ---- the bank

module _ (world : World) (ops : List Operation) where
  pub contents-grown : (mark : ℕ) → mark ≤ length world.tape → contents_at (grown world ops) mark ≡ contents_at world mark
  contents-grown mark within = λ i slot at. contents-earlier world.start world.tape ops mark slot at within i

  pub reading-grown : (mark : ℕ) → mark ≤ length world.tape → reading_at (grown world ops) mark ≡ reading_at world mark
  unfolding reading_at
  reading-grown mark within = ap (reading world.scope) (contents-grown mark within)

  pub opening-grown : world.first ≤ length world.tape → opening_list (grown world ops) ≡ opening_list world
  unfolding opening_list
  opening-grown within = ap (stands world.scope) (contents-grown world.first within)

  pub fit-grown : world.first ≤ length world.tape → OpensFit (grown world ops) ≡ OpensFit world
  unfolding reading_at
  fit-grown within = λ i. IfSome (reading world.scope (contents-grown world.first within i)) (IsSound world.scope (contents-grown world.first within i))

  pub course-grown : world.first ≤ length world.tape → OpensOnCourse (grown world ops) ≡ OpensOnCourse world
  unfolding reading_at
  course-grown within = λ i. IfSome (reading world.scope (contents-grown world.first within i))
      (λ r. IsTrue (is_reshaping r.newest) → IsReshapeFit world.scope (contents-grown world.first within i) r)

  -- what the opening found of a reshape it found before more was done
  pub course-before : world.first ≤ length world.tape → OpensOnCourse (grown world ops) → OpensOnCourse world
  course-before within on = subst (λ (p : Type 0). p) (course-grown within) on

-- ---- roles that are gone

module _ (world : World) (ops : List Operation) where
  loses-grown : (role : ℕ) (e : Entry) → e.end ≤ length world.tape → loses (grown world ops) role e ≡ loses world role e
  loses-grown role e within = ap (λ (r : Option Reading). takes r role e.event) (reading-grown world ops e.end within)

  regains-grown : (role : ℕ) (e : Entry) → e.end ≤ length world.tape → regains (grown world ops) role e ≡ regains world role e
  regains-grown role e within = ap (λ (r : Option Reading). gives_back r role e.event) (reading-grown world ops e.end within)

  surely-grown : (role : ℕ) (gone : Bool) (entries : List Entry) → EndBy (length world.tape) entries
      → fold (gone_surely (grown world ops) role) gone entries ≡ fold (gone_surely world role) gone entries
  surely-grown role gone [] ends = refl
  surely-grown role gone (e ∷ entries) ends =
      ap₂ (λ (b l : Bool). fold (gone_surely (grown world ops) role) (gone && not b || l) entries) (regains-grown role e ends.0) (loses-grown role e ends.0)
      ∙ surely-grown role (gone_surely world role gone e) entries ends.1

  -- what is gone behind entries is so whatever is done after them
  pub gone-grown : (entries : List Entry) (role : ℕ) → EndBy (length world.tape) entries → is_gone_after (grown world ops) entries role ≡ is_gone_after world entries role
  unfolding is_gone_after
  gone-grown entries role ends = surely-grown role false entries ends

  pub takes-grown : (entries : List Entry) (role : ℕ) → EndBy (length world.tape) entries → list_any (loses (grown world ops) role) entries ≡ list_any (loses world role) entries
  takes-grown [] role ends = refl
  takes-grown (e ∷ entries) role ends = ap₂ (λ (a b : Bool). a || b) (loses-grown role e ends.0) (takes-grown entries role ends.1)

-- ---- entries that turn no shape

takes-plain : (found : Option Reading) (role : ℕ) (event : Event) → keeps_shape_event event ≡ true → takes found role event ≡ loses_role role event
takes-plain found role (Lost lost cause) keeps = refl
takes-plain found role (Step TakenOver left) keeps = absurd (cc)
takes-plain found role event keeps = refl

module _ (world : World) (role : ℕ) where
  -- what they take is what they tell lost
  pub takes-lost : (xs : List Entry) → KeepShape xs → list_any (loses world role) xs ≡ list_any (λ e. loses_role role e.event) xs
  takes-lost [] keep = refl
  takes-lost (x ∷ xs) keep =
      let parts = both (keeps_shape_event x.event) (list_all (λ e. keeps_shape_event e.event) xs) keep in
      ap₂ (λ (a b : Bool). a || b) (takes-plain (reading_at world x.end) role x.event parts.0) (takes-lost xs parts.1)

-- ---- what is told

module _ (world : World) (ops : List Operation) (within : world.first ≤ length world.tape) where
  pub unsynced-grown : (entries : List Entry) → is_unsynced (grown world ops) entries ≡ is_unsynced world entries
  unsynced-grown entries = ap (λ (found : Option Reading). option_map_or (λ r. not (is_clean r.newest)) found false && not (list_any (λ e. is_resync_end e.event) entries)) (reading-grown world ops world.first within)

  -- by a history it is the same whatever is done after it
  pub now-grown : (carried : ℕ → ℕ → Bool) (reshaping : Bool) (entries : List Entry) → EndBy (length world.tape) entries → told_now (grown world ops) carried reshaping entries ≡ told_now world carried reshaping entries
  now-grown carried reshaping entries ends = λ i. record {
    size = length_of (length (opening-grown world ops within i)) entries;
    values = values_of (opening-grown world ops within i) entries;
    gone = λ role. gone-grown world ops entries role ends i;
    unclean = unsynced-grown entries i || is_unsettled entries;
    reshaping = reshaping;
    carried = carried;
  }

-- ---- room for events

module _ (world : World) (ops : List Operation) (within : world.first ≤ length world.tape) where
  room-seen : HasRoomForEvents (grown world ops) → IfSome (reading_at world world.first) (λ r. r.newest.events + (length (world.tape ++ ops) - world.first) < 2 ^ 62)
  room-seen room = subst (λ (o : Option Reading). IfSome o (λ r. r.newest.events + (length (world.tape ++ ops) - world.first) < 2 ^ 62)) (reading-grown world ops world.first within) room

  -- the event count has room before it has it afterwards
  pub room-before : HasRoomForEvents (grown world ops) → HasRoomForEvents world
  room-before room =
      room-less (reading_at world world.first) (length (world.tape ++ ops) - world.first) (length world.tape - world.first) (let more = longer-by world.tape ops in omega (arith, more)) (room-seen room)

  pub room-now : (members : Members) → (HasLiveSlot members → IsCounted world members) → HasRoomForEvents (grown world ops) → HasRoomLeft members world.tape (world.tape ++ ops)
  room-now members counts room live =
      let counted = counts live in
      let bound = room-at (reading_at world world.first) counted.found (length (world.tape ++ ops) - world.first) counted.is (room-seen room) in
      let more = longer-by world.tape ops in
      omega (arith, bound, counted.events, within, more)
