-- What a call leaves of the record, from what it leaves of the history.
use Rattle.std.proofs.Common.{◌≡◌, ℕ, ◌≤◌, List, length, sym, ◌∙◌, ap, subst}
use Rattle.std.specs.Prelude.{IfSome, IsSome, is_some, false, ⊤}
use Rattle.array_reshaping_invariant.specs.raid_types_Sectors.{Sector}
use Rattle.array_reshaping_invariant.specs.raid_types_Shapes.{tolerance_of}
use Rattle.array_reshaping_invariant.specs.bank_the_Operation.{Operation}
use Rattle.array_reshaping_invariant.specs.bank_Given.{Given}
use Rattle.array_reshaping_invariant.specs.sb_specs_the_Members.{Members}
use Rattle.array_reshaping_invariant.specs.sb_specs_Reading.{Scope, is_clean, shape_of, list_length}
use Rattle.array_reshaping_invariant.specs.stripe_row_Rows.{present}
use Rattle.array_reshaping_invariant.specs.history_the_Entry.{Entry}
use Rattle.array_reshaping_invariant.specs.history_Epochs.{HasRoomForEvents}
use Rattle.array_reshaping_invariant.specs.history_Flat.{now}
use Rattle.array_reshaping_invariant.specs.history_Legal.{told_left}
use Rattle.array_reshaping_invariant.specs.history_Losses.{is_unsynced}
use Rattle.array_reshaping_invariant.specs.history_Sound.{OpensFit}
use Rattle.array_reshaping_invariant.specs.history_World.{opening_list}
use Rattle.array_reshaping_invariant.proofs.history_SoundLaws.{fit-before}
use Rattle.array_reshaping_invariant.specs.crash_views_Regions.{DoWithout}
use Rattle.array_reshaping_invariant.specs.crash_safety_laws_Safety.{HasLiveSlot}
use Rattle.array_reshaping_invariant.specs.crash_safety_laws_Steady.{IsSafeOver}
use Rattle.array_reshaping_invariant.specs.array_members_the_Work.{Work}
use Rattle.array_reshaping_invariant.specs.array_members_Moving.{Grows, IsMoved}
use Rattle.array_reshaping_invariant.specs.array_members_Numbers.{bears}
use Rattle.array_reshaping_invariant.specs.array_members_Status.{stripes_of}
use Rattle.std.specs.List.{list_any}
use Rattle.std.proofs.lemmas.List.Folds.{list_any-append}
use Rattle.array_reshaping_invariant.specs.raid_types_the_Who.{Who}
use Rattle.array_reshaping_invariant.specs.sb_specs_Reading.{role_count}
use Rattle.array_reshaping_invariant.specs.stripe_row_Rows.{reading_of, is_missing}
use Rattle.array_reshaping_invariant.specs.history_the_Event.{Event}
use Rattle.array_reshaping_invariant.specs.history_Growing.{EndBy}
use Rattle.array_reshaping_invariant.specs.history_Losses.{loses}
use Rattle.array_reshaping_invariant.specs.history_OneShape.{is_lost}
use Rattle.array_reshaping_invariant.specs.history_Plain.{entries_of}
use Rattle.array_reshaping_invariant.specs.history_World.{World}
use Rattle.array_reshaping_invariant.proofs.history_invariant_Tests.{neither, none-before}
use Rattle.array_reshaping_invariant.proofs.history_invariant_Entered.{lost-taken}
use Rattle.array_reshaping_invariant.proofs.history_invariant_Growing.{takes-grown}
use Rattle.array_reshaping_invariant.proofs.history_invariant_laws_Behind.{AreLostOrMissing}
use Rattle.std.proofs.Common.{inl, inr, ◌<◌, ◌++◌, Bool, true, false, arith, refl}
use Rattle.array_reshaping_invariant.specs.history_invariant_Safe.{TakesNone, KeepsLevel, is_taken_over, IsSafeHistory}
use Rattle.array_fixed_invariant.specs.Still.{AreNoneMissing}
use Rattle.array_reshaping_invariant.specs.history_invariant_Safe.{world_in, IsFilledRight}
use Rattle.array_reshaping_invariant.specs.history_invariant_Told.{told_now}
use Rattle.array_reshaping_invariant.proofs.history_invariant_Calls.{now-live}
use Rattle.array_reshaping_invariant.proofs.history_invariant_Growing.{opening-grown, unsynced-grown}
use Rattle.array_reshaping_invariant.specs.history_invariant_laws_Reliable.{IsNonePast}
use Rattle.array_reshaping_invariant.proofs.history_invariant_laws_Quiet.{IsLeftBehind, fit-later}
use Rattle.array_fixed_invariant.specs.Still.{AreAtRest, HasListStood, IsStill}

-- ---- what a stop may leave now

-- While a live slot is left, no superblocks tell a reshape.
pub safe-over : {tells : Type 0} {given : Given} {tape : List Operation} {scope : Scope} {first : ℕ} {entries : List Entry} {members : Members} {work : Work} {left : ℕ}
    → IsStill tells given tape scope first entries members work left → HasLiveSlot members → tells
    → IsFilledRight (world_in given tape scope first) entries → HasRoomForEvents (world_in given tape scope first)
    → IsSafeHistory ⊤ (world_in given tape scope first) given members (bears work) false entries
safe-over {given = given} {tape = tape} {scope = scope} {first = first} {entries = entries} {members = members} {work = work} was live t fills room =
    subst (λ (b : Bool). IsSafeHistory ⊤ (world_in given tape scope first) given members (bears work) b entries) (was.over live) (was.safe t fills room)

-- And it is right by the whole history.
pub safe-now : {tells : Type 0} {given : Given} {tape : List Operation} {scope : Scope} {first : ℕ} {entries : List Entry} {members : Members} {work : Work} {left : ℕ}
    → IsStill tells given tape scope first entries members work left → HasLiveSlot members → tells
    → IsFilledRight (world_in given tape scope first) entries → HasRoomForEvents (world_in given tape scope first)
    → IsSafeOver (world_in given tape scope first) given (told_now (world_in given tape scope first) (bears work) false entries) members tape
safe-now {given = given} {tape = tape} {scope = scope} {first = first} was live t fills room = now-live (world_in given tape scope first) live (safe-over was live t fills room).now

-- ---- the opening, later

pub list-later : {tells : Type 0} {tape tape' : List Operation} (given : Given) (scope : Scope) (first : ℕ) → Grows tells tape tape' → (tells → first ≤ length tape)
    → tells → opening_list (world_in given tape' scope first) ≡ opening_list (world_in given tape scope first)
list-later {tape = tape} given scope first grows begun t =
    let g = grows.more t in
    ap (λ (l : List Operation). opening_list (world_in given l scope first)) g.1 ∙ opening-grown (world_in given tape scope first) g.0 (begun t)

pub unsynced-later : {tells : Type 0} {tape tape' : List Operation} (given : Given) (scope : Scope) (first : ℕ) (entries : List Entry) → Grows tells tape tape' → (tells → first ≤ length tape)
    → tells → is_unsynced (world_in given tape' scope first) entries ≡ is_unsynced (world_in given tape scope first) entries
unsynced-later {tape = tape} given scope first entries grows begun t =
    let g = grows.more t in
    ap (λ (l : List Operation). is_unsynced (world_in given l scope first) entries) g.1 ∙ unsynced-grown (world_in given tape scope first) g.0 (begun t) entries

pub fit-earlier : {tells : Type 0} {tape tape' : List Operation} (given : Given) (scope : Scope) (first : ℕ) → Grows tells tape tape' → (tells → first ≤ length tape)
    → tells → OpensFit (world_in given tape' scope first) → OpensFit (world_in given tape scope first)
fit-earlier {tape = tape} given scope first grows begun t fit =
    let g = grows.more t in
    fit-before (world_in given tape scope first) g.0 (begun t) (subst (λ (l : List Operation). OpensFit (world_in given l scope first)) g.1 fit)

-- ---- the members

pub rest-moved : (given : Given) (old new : Members) → IsMoved given old new → AreAtRest given old → AreAtRest given new
rest-moved given old new moved was = record {
  placed = moved.placed;
  still = moved.reshape.reshaping ∙ was.still;
  unlost = moved.unlost;
  free = moved.free was.free;
  spares = moved.spares was.spares;
}

-- where no role is told lost by a call, nor was before, none is missing behind it
pub none-taken : (tells : Type 0) (given : Given) (tape tape' : List Operation) (scope : Scope) (first : ℕ) (entries : List Entry) (old new : Members) (who : Who) (end : ℕ) (events : List Event) (IsTaken : ℕ → Type 0)
    → Grows tells tape tape' → (tells → EndBy (length tape) entries) → role_count new.newest ≤ 16 → AreLostOrMissing old new IsTaken
    → ((role : ℕ) → role < 16 → IsTaken role → is_lost (entries_of who end events) role ≡ true) → (tells → TakesNone (world_in given tape scope first) entries → KeepsLevel entries → AreNoneMissing old)
    → tells → TakesNone (world_in given tape' scope first) (entries ++ entries_of who end events) → KeepsLevel (entries ++ entries_of who end events) → AreNoneMissing new
none-taken tells given tape tape' scope first entries old new who end events IsTaken grows ends few missing lost full t none level role lt = by (is_missing (reading_of new) role) refl
  where
    later : World
    later = world_in given tape' scope first

    earlier : TakesNone (world_in given tape scope first) entries
    earlier r =
        let g = grows.more t in
        sym (takes-grown (world_in given tape scope first) g.0 entries r (ends t))
        ∙ subst (λ (l : List Operation). list_any (loses (world_in given l scope first) r) entries ≡ false) g.1 (none-before (loses later r) entries (entries_of who end events) (none r))

    none-here : list_any (loses later role) (entries_of who end events) ≡ false
    none-here = (neither (list_any (loses later role) entries) (list_any (loses later role) (entries_of who end events)) (sym (list_any-append (loses later role) entries (entries_of who end events)) ∙ none role)).1

    by : (b : Bool) → is_missing (reading_of new) role ≡ b → is_missing (reading_of new) role ≡ false
    by false is = is
    by true is = elim (missing role lt is) [
      | inl before ↦ absurd (let clash : true ≡ false = sym before.1 ∙ full t earlier (none-before (λ e. is_taken_over e.event) entries (entries_of who end events) level) role before.0 in cc)
      | inr taken ↦ absurd (let clash : true ≡ false = sym (lost-taken later role (entries_of who end events) (lost role (omega (arith, lt, few)) taken)) ∙ none-here in cc)
    ]

-- ---- the record

pub leaves-stands : (tells : Type 0) (given : Given) (tape tape' : List Operation) (scope : Scope) (first : ℕ) (entries all : List Entry) (old new : Members) (work work' : Work) (left left' : ℕ)
    → IsStill tells given tape scope first entries old work left → Grows tells tape tape' → AreAtRest given new → (shape_of new.newest).level ≡ (shape_of old.newest).level → list_length new.newest ≡ list_length old.newest
    → IfSome (told_left all) (λ n. n ≡ left') → IfSome work'.resync (λ mended. mended ≤ stripes_of new)
    → (tells → is_unsynced (world_in given tape scope first) all ≡ is_some work'.resync) → (DoWithout new → IsSome work'.resync → is_clean new.newest ≡ false)
    → (tells → DoWithout new → IsFilledRight (world_in given tape scope first) entries
    → HasListStood (OpensFit (world_in given tape scope first)) work' new (present given tape') (now (opening_list (world_in given tape scope first)) all))
    → (tells → TakesNone (world_in given tape' scope first) all → KeepsLevel all → AreNoneMissing new)
    → (tells → IsLeftBehind given tape scope first entries all new (bears work') false tape')
    → IsStill tells given tape' scope first all new work' left'
leaves-stands tells given tape tape' scope first entries all old new work work' left left' was grows members level sized told progress pending dirty listed full leaves = record {
  slots = was.slots;
  members_are = members;
  sizes_are = was.sizes_are;
  left_told = told;
  reshaping = false;
  over = λ live. refl;
  progress = progress;
  pending = λ t. unsynced-later given scope first all grows (λ u. (was.recorded u).begun) t ∙ pending t;
  dirty = dirty;
  levelled = λ t right. ap tolerance_of (leaves t).levelled ∙ was.levelled t ((leaves t).right right) ∙ sym (ap tolerance_of level);
  gone = λ t. (leaves t).gone;
  full = full;
  unclean = λ t. (leaves t).unclean;
  recorded = λ t. (leaves t).recorded;
  past = λ t. (leaves t).past (list_length new.newest) (omega arith) (subst (λ (n : ℕ). IsNonePast (world_in given tape scope first) entries n) (sym sized) (was.past t));
  listed = λ t does fills.
      subst (λ (sound : Type 0). HasListStood sound work' new (present given tape') (now (opening_list (world_in given tape' scope first)) all)) (sym (fit-later (leaves t)))
      (subst (λ (l : List Sector). HasListStood (OpensFit (world_in given tape scope first)) work' new (present given tape') (now l all)) (sym (leaves t).opened)
      (listed t does ((leaves t).fills fills)));
  safe = λ t. (leaves t).safe;
}
