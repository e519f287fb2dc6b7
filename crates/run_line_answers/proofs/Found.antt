-- What stands in the superblocks of an array that was made or found.
use Rattle.std.proofs.Common.{◌≡◌, inl, ℕ, zero, suc, ◌+◌, ◌-◌, ◌/◌, ◌*◌, ◌<◌, min, max, not, nat_lt, Bool, true, false, is_some, Option, Some, None, List, [], ◌∷◌, ◌++◌, length, take, drop, replicate, slice_index_or, map, refl, sym, ◌∙◌, ap, ap₂, subst, arith}
use Rattle.std.specs.Prelude.{if◌then◌else◌, MatchOption, MatchBool, IfSome, IsFalse, IsTrue}
use Rattle.std.specs.Option.{option_map_or}
use Rattle.run_requests.specs.raid_types_Shapes.{data_disks}
use Rattle.run_requests.specs.raid_types_Search.{tabulate}
use Rattle.run_requests.specs.raid_types_the_Shape.{Shape}
use Rattle.run_requests.specs.raid_types_the_Role.{Role}
use Rattle.run_requests.specs.raid_types_the_Role_TheVariants.{Whole, Recovering as HeldInPart, Missing}
use Rattle.run_requests.specs.raid_types_the_Status.{Status}
use Rattle.run_requests.proofs.raid_types_Tabulated.{length-tabulate}
use Rattle.run_requests.specs.sb_codec_the_Sb.{Sb}
use Rattle.run_requests.specs.bank_the_Operation.{Operation}
use Rattle.run_requests.specs.bank_Given.{Given, sizes}
use Rattle.run_requests.specs.bank_Tape.{contents}
use Rattle.run_requests.specs.sb_specs_the_Members.{Members}
use Rattle.run_requests.specs.sb_specs_Reading.{Reading, shape_of, final_shape, target_of, role_count, list_length, is_reshaping, is_clean, is_whole, role_state, rows_held, holder, reading}
use Rattle.run_requests.specs.sb_specs_Election.{reading_in}
use Rattle.run_requests.specs.stripe_row_Rows.{reading_of, is_missing}
use Rattle.run_requests.specs.history_the_Event.{Event}
use Rattle.run_requests.specs.history_World.{World, reading_at, opening_list}
use Rattle.run_requests.specs.history_Stands.{stands, standing_sector}
use Rattle.run_requests.specs.history_Fits.{whole_slot}
use Rattle.run_requests.specs.history_Reopened.{OpensAccepted}
use Rattle.run_requests.specs.array_call_specs_Adopting.{opener, found_loss, absent_loss, absent_losses, found_losses, stripes_held, found_stripes, found_work}
use Rattle.run_requests.specs.array_members_the_Work.{Work}
use Rattle.run_requests.specs.array_members_Parts.{Parts}
use Rattle.run_requests.proofs.array_members_Still.{count-still}
use Rattle.run_requests.specs.array_create_assemble_the_CreateSpec.{CreateSpec}
use Rattle.run_requests.specs.array_create_assemble_Opening.{scope_of, array_of, AreGiven, IsOpened}
use Rattle.run_requests.specs.array_create_assemble_Running.{opened_of, IsBegun, IsCreated, IsAssembled}
use Rattle.run_requests.specs.array_members_Status.{stripes_of, rebuilt_of, vacant_count, spare_count, resync_left, role_left, recovery_left, left_of}
use Rattle.run_requests.specs.array_specs_Parts.{RunningParts, visible_in, visible_size}
use Rattle.run_requests.specs.array_specs_Calls.{IsStatusFor}
use Rattle.run_requests.specs.array_specs_Still.{IsStillStatus}
use Rattle.run_requests.specs.array_Calls.{IsShownAs}
use Rattle.run_requests.specs.reshape_request_Left.{phases_of, grow_left}
use Rattle.run_requests.specs.stripe_region_resync_Left.{resync_left as region_left}
use Rattle.run_requests.specs.reshape_request_the_Window.{Window}
use Rattle.run_requests.specs.reshape_progress_the_Course.{Course}
use Rattle.run_requests.specs.array_open_window_Finding.{window_for}
use Rattle.run_requests.specs.crash_views_Regions.{header_in, open_by}
use Rattle.run_requests.specs.reshape_plan_Plans.{phases_steps}
use Rattle.run_requests.specs.raid_types_the_Phase.{Phase}
use Rattle.run_requests.specs.history_Left.{opened_role, opened_roles}
use Rattle.run_requests.specs.history_Plain.{entries_of}
use Rattle.run_requests.specs.array_open_Found.{IsStillFound, IsMovingFound, IsRunningFound}
use Rattle.run_requests.specs.sb_specs_Reads.{has_spare}
use Rattle.run_requests.specs.run_specs_Histories.{History}
use Rattle.run_requests.specs.run_specs_Making.{Setting, world_at, history_world, MissingAtFirst, AreHeldSince, found_members, found_window, found_left, IsStored, IsStoredNew, IsStoredAs}
use Rattle.run_requests.specs.run_specs_States.{running_history}

-- the world of an array that begins where the tape ends
abbrev pub found_world : {B : Type 0} → Given → List Operation → Option ℕ → Parts B → World
found_world given tape backup found =
    record { start = given.start; tape = tape; scope = scope_of given backup found.given found.members.newest.set_uuid; first = length tape }

-- all of a list without a limit can be read and written
seen-all : {B : Type 0} (array : RunningParts B) → array.limit ≡ None → visible_in array ≡ list_length array.parts.members.newest
seen-all array none = ap (λ (limit : Option ℕ). visible_size array.parts.members limit) none

-- without a reshape the list is as long as the shape says
pub still-length : (sb : Sb) → IsFalse (is_reshaping sb) → list_length sb ≡ data_disks (shape_of sb) * sb.size
still-length sb still =
    ap (λ (s : Shape). min (data_disks (shape_of sb)) (data_disks s) * sb.size) same ∙ ap (λ (n : ℕ). n * sb.size) (least (data_disks (shape_of sb)))
  where
    same : final_shape sb ≡ shape_of sb
    same = cc

    least : (n : ℕ) → min n n ≡ n
    least n = omega arith

-- an array that begins where the tape ends, by what was opened
module _ {B tells : Type 0} (given : Given) (tape : List Operation) (backup : Option ℕ) (asked : Option (List ℕ)) (array : Parts B)
    (begun : IsBegun tells tape backup array) (opened : IsOpened tells given (contents given.start tape (length tape)) backup asked (opened_of array)) (t : tells) where
  abbrev world : World
  world = found_world given tape backup array

  abbrev r : Reading
  r = reading_in given.slots array.members

  says : reading_at world (length tape) ≡ Some r
  unfolding reading_at
  says = opened.says t

  pub opened_size : length (opening_list world) ≡ list_length array.members.newest
  unfolding opening_list stands
  opened_size =
      ap (λ (o : Option Reading). length (option_map_or (λ x. tabulate (list_length x.newest) (standing_sector world.scope (contents given.start tape (length tape)) x)) o [])) (opened.says t)
      ∙ length-tabulate (list_length array.members.newest) (standing_sector world.scope (contents given.start tape (length tape)) r)

  pub opened_stored : IsStored world r
  opened_stored = record { says = says; accepted = opened.accepted t }

  -- each role that is missing now was missing then
  pub opened_missing : (role : ℕ) → role < (shape_of array.members.newest).disks → is_missing (reading_of array.members) role ≡ true → MissingAtFirst world role
  opened_missing role lt is = record {
    begun = omega arith;
    missing = subst (λ (o : Option Reading). MatchOption o ⊥ (λ r. (role < role_count r.newest) × IsFalse (is_whole (role_state r role)))) (sym says)
        (counted (shape_of array.members.newest).disks (final_shape array.members.newest).disks lt, turned (is_whole (role_state r role)) is);
  }
    where
      counted : (a b : ℕ) → role < a → role < max a b
      counted a b lt = omega (arith, lt)

      turned : (b : Bool) → not b ≡ true → IsFalse b
      turned true is = absurd (cc)
      turned false is = refl

  -- the world in which it began is that of its history
  opened_world : array.uuid ≡ array.members.newest.set_uuid → world ≡ world_at given tape backup (running_history array)
  opened_world uuid =
      ap (λ (u : List ℕ). record { start = given.start; tape = tape; scope = record { uuid = u; given = array.given; backup = backup; sizes = sizes given }; first = length tape }) (sym uuid)
      ∙ ap (λ (n : ℕ). record { start = given.start; tape = tape; scope = record { uuid = array.uuid; given = array.given; backup = backup; sizes = sizes given }; first = n }) (sym (begun.first t))

  -- what it found was refused for nothing
  pub opened_accepted : array.uuid ≡ array.members.newest.set_uuid → OpensAccepted (world_at given tape backup (running_history array))
  opened_accepted uuid = subst (λ (w : World). OpensAccepted w) (opened_world uuid) (opened.accepted t)

  -- each slot that holds a role now held it then, and each spare was one
  pub opened_held : array.uuid ≡ array.members.newest.set_uuid → AreHeldSince (world_at given tape backup (running_history array)) array.entries array.members
  opened_held uuid = subst (λ (w : World). AreHeldSince w array.entries array.members) (opened_world uuid) (record {
    roles = λ role slot is. inl (record { begun = omega arith; found = r; says = says; held = is });
    spares = λ slot is. inl (record { begun = omega arith; found = r; says = says; spare = is });
  })

-- what the members and the superblocks say is missing is the same
losses-same_reading : (slots : ℕ) (members : Members) (n : ℕ) → absent_losses (reading_of members) n ≡ absent_losses (reading_in slots members) n
unfolding absent_losses
losses-same_reading slots members zero = refl
losses-same_reading slots members (suc n) = ap (λ (l : List Event). l ++ absent_loss (reading_in slots members) n) (losses-same_reading slots members n)

-- ---- the steps that are left

-- no superblock stands behind the bank's slots
own-behind : (count slot : ℕ) → ◌≡◌ {A = Option Sb} None (slice_index_or (replicate count None) slot None)
own-behind zero slot = refl
own-behind (suc count) zero = refl
own-behind (suc count) (suc slot) = own-behind count slot

own-taken : (slots : ℕ) (own : List (Option Sb)) (count : ℕ) → drop (length (take slots own)) own ≡ replicate count None → (slot : ℕ) → slice_index_or (take slots own) slot None ≡ slice_index_or own slot None
own-taken zero own count others slot = own-behind count slot ∙ ap (λ (l : List (Option Sb)). slice_index_or l slot None) (sym others)
own-taken (suc slots) [] count others slot = refl
own-taken (suc slots) (x ∷ own) count others zero = refl
own-taken (suc slots) (x ∷ own) count others (suc slot) = own-taken slots own count others slot

module _ (slots : ℕ) (members : Members) (count : ℕ) (others : drop (length (take slots members.own)) members.own ≡ replicate count None) where
  -- the members that the superblocks give
  abbrev given_members : Members
  given_members = record { newest = members.newest; own = take slots members.own; roles = members.roles; spares = members.spares; lost = 0 }

  rows-same : (state : Role) → rows_held (reading_of given_members) state ≡ rows_held (reading_of members) state
  rows-same (Whole slot) = refl
  rows-same (HeldInPart slot) = ap (λ (o : Option Sb). if is_reshaping members.newest then 0 else option_map_or (λ sb. sb.recovery_offset) o 0) (own-taken slots members.own count others slot)
  rows-same Missing = refl

  stripes-same : (chunk : ℕ) (state : Role) → stripes_held (reading_of given_members) chunk state ≡ stripes_held (reading_of members) chunk state
  stripes-same chunk (Whole slot) = refl
  stripes-same chunk (HeldInPart slot) = ap (λ (rows : ℕ). rows / chunk) (rows-same (HeldInPart slot))
  stripes-same chunk Missing = refl

  found-stripes-same : (chunk disks : ℕ) → found_stripes (reading_of given_members) chunk disks ≡ found_stripes (reading_of members) chunk disks
  found-stripes-same chunk disks = λ i role. if nat_lt role disks then stripes-same chunk (role_state (reading_of members) role) i else 0

  recovery-same : (one other : Work) → ((role : ℕ) → rebuilt_of other role ≡ rebuilt_of one role) → (n : ℕ) → recovery_left other given_members n ≡ recovery_left one members n
  unfolding recovery_left
  recovery-same one other rebuilt zero = refl
  recovery-same one other rebuilt (suc n) =
      ap₂ (λ (a b : ℕ). a + b) (recovery-same one other rebuilt n) (ap (λ (k : ℕ). role_left (stripes_of members) k (role_state (reading_of members) n)) (rebuilt n))

  resync-same : (resync : Option ℕ) → resync_left resync given_members ≡ resync_left resync members
  resync-same None = refl
  resync-same (Some mended) = refl

  -- as many are left in them
  left-idle : left_of (found_work given_members) given_members ≡ left_of (found_work members) members
  left-idle =
      let given = min (vacant_count members) (spare_count members) * (stripes_of members + 2) in
      ap₂ (λ (a b : ℕ). a + b + given) (resync-same (found_work members).resync)
      (recovery-same (found_work members) (found_work given_members)
      (λ role. ap (λ (f : ℕ → ℕ). slice_index_or (tabulate 16 f) role 0) (found-stripes-same (shape_of members.newest).chunk (shape_of members.newest).disks)) (shape_of members.newest).disks)

  pub left-same : (world : World) → is_reshaping members.newest ≡ false → found_left world (reading_in slots members) ≡ left_of (found_work members) members
  left-same world still = by (is_reshaping members.newest) still
    where
      moving : ℕ
      moving = grow_left members.newest (found_window world (reading_in slots members)) 0 [] + region_left members.newest (found_window world (reading_in slots members)) (if is_clean members.newest then None else Some 0)

      by : (b : Bool) → b ≡ false → (if b then moving else left_of (found_work given_members) given_members) ≡ left_of (found_work members) members
      by true is = absurd (cc)
      by false is = left-idle

-- what stands in the superblocks of an array that was made
pub stored_made : {B tells : Type 0} (given : Given) (tape : List Operation) (backup : Option ℕ) (spec : CreateSpec) (made : Parts B) → IsCreated tells given tape backup spec made → tells → IsStoredNew (found_world given tape backup made) spec
stored_made given tape backup spec made is t = record {
  found = reading_in given.slots made.members;
  stored = opened_stored given tape backup (Some spec.uuid) made is.begun is.opened t;
  still = is.opened.still;
  whole = λ role lt. turned (is_whole (role_state (reading_in given.slots made.members) role)) (is.whole role (subst (λ (n : ℕ). role < n) (sym (count-still made.members.newest is.opened.still)) lt));
  shape = is.new.shape;
  size = is.new.size;
  events = is.new.events;
  clean = is.new.clean;
  roles = is.new.members.roles;
  spares = is.new.members.spares;
}
  where
    turned : (b : Bool) → not b ≡ false → IsTrue b
    turned true is = refl
    turned false is = absurd (cc)

-- ---- what was found

-- What an opening found, with or without a reshape: where it began, why it was found, and what its first entries and its status tell.
pub record IsFoundHere {B : Type 0} (tells : Type 0) (given : Given) (tape : List Operation) (backup : Option ℕ) (asked : Option (List ℕ)) (before after : ℕ → ℕ) (found : RunningParts B) : Type 0 where
  pub r : Reading
  pub n : ℕ
  pub entries : found.parts.entries ≡ entries_of opener found.parts.first (absent_losses r n)
  pub missing : (role : ℕ) → role < n → is_missing r role ≡ true → tells → MissingAtFirst (found_world given tape backup found.parts) role
  pub first : tells → found.parts.first ≡ length tape
  pub backup_is : found.parts.backup ≡ backup
  pub uuid : found.parts.uuid ≡ found.parts.members.newest.set_uuid
  pub given_are : AreGiven given found.parts.given before after
  pub named : IfSome asked (λ uuid. found.parts.uuid ≡ uuid)
  pub elected : tells → found.parts.members.newest.set_uuid ≡ array_of given backup found.parts.given asked (contents given.start tape (length tape))
  pub accepted : tells → OpensAccepted (world_at given tape backup (running_history found.parts))
  pub held : tells → AreHeldSince (world_at given tape backup (running_history found.parts)) found.parts.entries found.parts.members
  pub stored : (status : Status) → IsShownAs found status → tells → IsStoredAs (found_world given tape backup found.parts) status (absent_losses r n)
  pub shown : (status : Status) → IsShownAs found status → list_length found.parts.members.newest ≡ status.length
  pub targeted : (status : Status) → IsShownAs found status → is_some status.target ≡ false → is_reshaping found.parts.members.newest ≡ false
  pub planless : phases_of found.ahead ≡ []

-- a status tells the length of the list
shown-length : {B : Type 0} (found : RunningParts B) (status : Status) → IsShownAs found status → list_length found.parts.members.newest ≡ status.length
shown-length found status told = by (is_reshaping found.parts.members.newest) told
  where
    by : (b : Bool) → MatchBool b (IsStatusFor found status) (IsStillStatus found status) → list_length found.parts.members.newest ≡ status.length
    by true told = sym told.length
    by false told = sym told.length

-- and whether a reshape is active
shown-target : {B : Type 0} (found : RunningParts B) (status : Status) → IsShownAs found status → is_some status.target ≡ false → is_reshaping found.parts.members.newest ≡ false
shown-target found status told none = by (is_reshaping found.parts.members.newest) told
  where
    by : (b : Bool) → MatchBool b (IsStatusFor found status) (IsStillStatus found status) → b ≡ false
    by true told = absurd (let there = ap is_some told.target in let clash : true ≡ false = sym there ∙ none in cc)
    by false told = refl

-- one without a reshape
module _ {B tells : Type 0} {before after : ℕ → ℕ} (given : Given) (tape : List Operation) (backup : Option ℕ) (asked : Option (List ℕ)) (found : RunningParts B)
    (is : IsStillFound tells given tape backup asked before after found) where
  found_one : IsAssembled tells given tape backup asked before after found.parts
  found_one = is.assembled

  still_is : is_reshaping found.parts.members.newest ≡ false
  still_is = let still = found_one.opened.still in cc

  still_told : (status : Status) → IsShownAs found status → IsStillStatus found status
  still_told status told = subst (λ (b : Bool). MatchBool b (IsStatusFor found status) (IsStillStatus found status)) still_is told

  no_target : target_of found.parts.members.newest ≡ None
  no_target = let still = still_is in cc

  left : (world : World) (status : Status) → IsStillStatus found status → status.left ≡ found_left world (reading_in given.slots found.parts.members)
  left world status told = told.left ∙ planless (phases_of found.ahead) is.planless
      ∙ ap (λ (work : Work). left_of work found.parts.members) found_one.begun.work
      ∙ sym (left-same given.slots found.parts.members (32 - length (take given.slots found.parts.members.own)) found_one.opened.elected.others world still_is)
    where
      planless : (phases : List Phase) → phases ≡ [] → left_of found.parts.work found.parts.members + phases_steps (shape_of found.parts.members.newest) found.parts.members.newest.size phases ≡ left_of found.parts.work found.parts.members
      planless phases none = ap (λ (l : List Phase). left_of found.parts.work found.parts.members + phases_steps (shape_of found.parts.members.newest) found.parts.members.newest.size l) none ∙ plus_none (left_of found.parts.work found.parts.members)
        where
          plus_none : (n : ℕ) → n + 0 ≡ n
          plus_none n = omega arith

  still_stored : (status : Status) → IsStillStatus found status → tells → IsStoredAs (found_world given tape backup found.parts) status (found_losses (reading_of found.parts.members))
  still_stored status told t =
      let size = opened_size given tape backup asked found.parts found_one.begun found_one.opened t in
      record {
        found = reading_in given.slots found.parts.members;
        stored = opened_stored given tape backup asked found.parts found_one.begun found_one.opened t;
        told = record {
          shape = told.shape;
          target = told.target ∙ sym no_target;
          position = λ active. absurd (let still = still_is in cc);
          size = told.size;
          events = told.events;
          roles = ap (λ (l : List Role). map whole_slot l) told.roles;
          spares = told.spares;
        };
        lost = subst (λ (b : Bool). MatchBool b (found_losses (reading_of found.parts.members) ≡ absent_losses (record (reading_in given.slots found.parts.members) { roles = opened_roles (reading_in given.slots found.parts.members) }) (role_count found.parts.members.newest))
            (found_losses (reading_of found.parts.members) ≡ found_losses (reading_in given.slots found.parts.members))) (sym still_is) (losses-same_reading given.slots found.parts.members (shape_of found.parts.members.newest).disks);
        position = λ none. told.position;
        sized = told.length ∙ sym size;
        visible = told.visible ∙ seen-all found is.unlimited ∙ sym size;
        clean = told.clean;
        left = left (found_world given tape backup found.parts) status told;
      }

  pub still_here : IsFoundHere tells given tape backup asked before after found
  still_here = record {
    r = reading_of found.parts.members;
    n = (shape_of found.parts.members.newest).disks;
    entries = found_one.begun.entries;
    missing = λ role lt missing t. opened_missing given tape backup asked found.parts found_one.begun found_one.opened t role lt missing;
    first = found_one.begun.first;
    backup_is = found_one.begun.backup_is;
    uuid = found_one.begun.uuid;
    given_are = found_one.given;
    named = found_one.named;
    elected = λ t. found_one.opened.array t;
    accepted = λ t. opened_accepted given tape backup asked found.parts found_one.begun found_one.opened t found_one.begun.uuid;
    held = λ t. opened_held given tape backup asked found.parts found_one.begun found_one.opened t found_one.begun.uuid;
    stored = λ status told t. still_stored status (still_told status told) t;
    shown = shown-length found;
    targeted = shown-target found;
    planless = is.planless;
  }

-- one in a reshape
module _ {B tells : Type 0} {before after : ℕ → ℕ} (given : Given) (tape : List Operation) (backup : Option ℕ) (asked : Option (List ℕ)) (found : RunningParts B)
    (is : IsMovingFound tells given tape backup asked before after found) where
  abbrev moving_world : World
  moving_world = found_world given tape backup found.parts

  abbrev was : Reading
  was = reading_in given.slots is.former

  newest_is : found.parts.members.newest ≡ is.former.newest
  newest_is = ap (λ (m : Members). m.newest) is.adopted.members_are

  active_is : is_reshaping found.parts.members.newest ≡ true
  active_is = ap is_reshaping newest_is ∙ is.active

  world_was : moving_world ≡ record { start = given.start; tape = tape; scope = scope_of given backup found.parts.given is.former.newest.set_uuid; first = length tape }
  world_was = ap (λ (sb : Sb). record { start = given.start; tape = tape; scope = scope_of given backup found.parts.given sb.set_uuid; first = length tape }) newest_is

  says_was : tells → reading_at moving_world (length tape) ≡ Some was
  unfolding reading_at
  says_was t = ap (λ (sb : Sb). reading (scope_of given backup found.parts.given sb.set_uuid) (contents given.start tape (length tape))) newest_is ∙ is.opened.says t

  moving_stands : tells → IsStored moving_world was
  moving_stands t = record { says = says_was t; accepted = subst (λ (w : World). OpensAccepted w) (sym world_was) (is.opened.accepted t) }

  moving_size : tells → length (opening_list moving_world) ≡ list_length found.parts.members.newest
  unfolding opening_list stands
  moving_size t =
      ap (λ (o : Option Reading). length (option_map_or (λ x. tabulate (list_length x.newest) (standing_sector moving_world.scope (contents given.start tape (length tape)) x)) o [])) (sees t)
      ∙ length-tabulate (list_length is.former.newest) (standing_sector moving_world.scope (contents given.start tape (length tape)) was) ∙ ap list_length (sym newest_is)
    where
      sees : tells → reading moving_world.scope (contents given.start tape (length tape)) ≡ Some was
      sees t = ap (λ (sb : Sb). reading (scope_of given backup found.parts.given sb.set_uuid) (contents given.start tape (length tape))) newest_is ∙ is.opened.says t

  -- its window is the one that the backup tells, and nothing behind the list is zeroed
  window_is : tells → found.course.window ≡ found_window moving_world was
  window_is t = is.adopted.window t ∙ (λ i. window_for (open_by (scope_there i) is.former.newest (header_in (scope_there i) (contents given.start tape (length tape)))))
    where
      scope_there : record { uuid = is.former.newest.set_uuid; given = found.parts.given; backup = Some is.slot; sizes = sizes given } ≡ moving_world.scope
      scope_there = λ i. record { uuid = (sym newest_is i).set_uuid; given = found.parts.given; backup = sym is.backup_is i; sizes = sizes given }

  zeroed_is : found.course.zeroed ≡ 0
  zeroed_is = ap (λ (course : Course). course.zeroed) is.adopted.course

  resync_is : found.parts.work.resync ≡ (if is_clean is.former.newest then None else Some 0)
  resync_is = ap (λ (work : Work). work.resync) is.adopted.work ∙ ap (λ (sb : Sb). if is_clean sb then None else Some 0) newest_is

  moving_told : (status : Status) → IsShownAs found status → IsStatusFor found status
  moving_told status told = subst (λ (b : Bool). MatchBool b (IsStatusFor found status) (IsStillStatus found status)) active_is told

  roles_was : found.parts.members.roles ≡ opened_roles was
  roles_was = is.roles ∙ ap (λ (b : Bool). map (opened_role b) is.former.roles) (sym is.active)

  whole-opened : (b : Bool) (roles : List Role) → map whole_slot (map (opened_role b) roles) ≡ map whole_slot roles
  whole-opened b [] = refl
  whole-opened b (Whole slot ∷ roles) = ap (λ (l : List (Option ℕ)). Some slot ∷ l) (whole-opened b roles)
  whole-opened true (HeldInPart slot ∷ roles) = ap (λ (l : List (Option ℕ)). None ∷ l) (whole-opened true roles)
  whole-opened false (HeldInPart slot ∷ roles) = ap (λ (l : List (Option ℕ)). None ∷ l) (whole-opened false roles)
  whole-opened b (Missing ∷ roles) = ap (λ (l : List (Option ℕ)). None ∷ l) (whole-opened b roles)

  -- what its members say is missing is what was, with what was recovering
  lost-same : (n : ℕ) → absent_losses (reading_of found.parts.members) n ≡ absent_losses (record was { roles = opened_roles was }) n
  unfolding absent_losses
  lost-same zero = refl
  lost-same (suc n) = ap₂ (λ (l m : List Event). l ++ m) (lost-same n) (ap (λ (l : List Role). found_loss n (slice_index_or l n Missing)) roles_was)

  -- nothing but roles that weren't whole was lost
  not-whole : (role : ℕ) → is_missing (reading_of found.parts.members) role ≡ true → is_whole (role_state was role) ≡ false
  not-whole role is_missing_now = of (role_state was role) (sym (at-opened role (opened_roles was) refl)) is_missing_now
    where
      at-opened : (role : ℕ) (l : List Role) → l ≡ opened_roles was → slice_index_or (opened_roles was) role Missing ≡ opened_role (is_reshaping was.newest) (role_state was role)
      at-opened role l same = mapped (is_reshaping was.newest) is.former.roles role
        where
          mapped : (b : Bool) (roles : List Role) (role : ℕ) → slice_index_or (map (opened_role b) roles) role Missing ≡ opened_role b (slice_index_or roles role Missing)
          mapped b [] role = refl
          mapped b (x ∷ roles) zero = refl
          mapped b (x ∷ roles) (suc role) = mapped b roles role

      of : (state : Role) → opened_role (is_reshaping was.newest) state ≡ slice_index_or (opened_roles was) role Missing → is_missing (reading_of found.parts.members) role ≡ true → is_whole state ≡ false
      of (Whole slot) same missing = absurd (
          let here : role_state (reading_of found.parts.members) role ≡ Whole slot = ap (λ (l : List Role). slice_index_or l role Missing) roles_was ∙ sym same in
          let not_missing : is_missing (reading_of found.parts.members) role ≡ false = ap (λ (s : Role). not (is_whole s)) here in
          cc)
      of (HeldInPart slot) same missing = refl
      of Missing same missing = refl

  moving_missing : (role : ℕ) → role < role_count found.parts.members.newest → is_missing (reading_of found.parts.members) role ≡ true → tells → MissingAtFirst moving_world role
  moving_missing role lt missing t = record {
    begun = omega arith;
    missing = subst (λ (o : Option Reading). MatchOption o ⊥ (λ r. (role < role_count r.newest) × IsFalse (is_whole (role_state r role)))) (sym (says_was t))
        (subst (λ (sb : Sb). role < role_count sb) newest_is lt, not-whole role missing);
  }

  -- each role that a slot holds it held then
  moving_holder : (role slot : ℕ) → holder (role_state (reading_of found.parts.members) role) ≡ Some slot → holder (role_state was role) ≡ Some slot
  moving_holder role slot held = of (role_state was role) (ap (λ (l : List Role). slice_index_or l role Missing) roles_was ∙ mapped (is_reshaping was.newest) is.former.roles role)
    where
      mapped : (b : Bool) (roles : List Role) (role : ℕ) → slice_index_or (map (opened_role b) roles) role Missing ≡ opened_role b (slice_index_or roles role Missing)
      mapped b [] role = refl
      mapped b (x ∷ roles) zero = refl
      mapped b (x ∷ roles) (suc role) = mapped b roles role

      of : (state : Role) → role_state (reading_of found.parts.members) role ≡ opened_role (is_reshaping was.newest) state → holder state ≡ Some slot
      of (Whole there) same = sym (ap holder same) ∙ held
      of (HeldInPart there) same = by (is_reshaping was.newest) same
        where
          by : (b : Bool) → role_state (reading_of found.parts.members) role ≡ opened_role b (HeldInPart there) → holder (HeldInPart there) ≡ Some slot
          by true none = absurd (let gone : ◌≡◌ {A = Option ℕ} None (Some slot) = sym (ap holder none) ∙ held in cc)
          by false same = sym (ap holder same) ∙ held
      of Missing same = absurd (let gone : ◌≡◌ {A = Option ℕ} None (Some slot) = sym (ap holder same) ∙ held in cc)

  moving_stored : (status : Status) → IsStatusFor found status → tells → IsStoredAs moving_world status (absent_losses (reading_of found.parts.members) (role_count found.parts.members.newest))
  moving_stored status told t =
      let size = moving_size t in
      record {
        found = was;
        stored = moving_stands t;
        told = record {
          shape = told.shape ∙ ap shape_of newest_is;
          target = told.target ∙ targeted found.parts.members.newest active_is ∙ ap target_of newest_is;
          position = λ active. told.position ∙ ap (λ (sb : Sb). sb.reshape_position) newest_is;
          size = told.size ∙ ap (λ (sb : Sb). sb.size) newest_is;
          events = told.events ∙ ap (λ (sb : Sb). sb.events) newest_is;
          roles = ap (λ (l : List Role). map whole_slot l) (told.roles ∙ roles_was) ∙ whole-opened (is_reshaping was.newest) is.former.roles;
          spares = told.spares ∙ ap (λ (m : Members). m.spares) is.adopted.members_are;
        };
        lost = subst (λ (b : Bool). MatchBool b (absent_losses (reading_of found.parts.members) (role_count found.parts.members.newest) ≡ absent_losses (record was { roles = opened_roles was }) (role_count is.former.newest))
            (absent_losses (reading_of found.parts.members) (role_count found.parts.members.newest) ≡ found_losses was)) (sym is.active)
            (lost-same (role_count found.parts.members.newest) ∙ ap (λ (sb : Sb). absent_losses (record was { roles = opened_roles was }) (role_count sb)) newest_is);
        position = λ none. absurd (let active = is.active in cc);
        sized = told.length ∙ sym size;
        visible = told.visible ∙ seen-all found is.adopted.unlimited ∙ sym size;
        clean = told.clean ∙ ap is_clean newest_is;
        left = moving_left status told t;
      }
    where
      targeted : (sb : Sb) → is_reshaping sb ≡ true → Some (final_shape sb) ≡ target_of sb
      targeted sb active = cc

      moving_left : (status : Status) → IsStatusFor found status → tells → status.left ≡ found_left moving_world was
      moving_left status told t = told.left ∙ (λ i. steps_of (newest_is i) (window_is t i) (zeroed_is i) (is.adopted.planless i) (resync_is i))
          ∙ sym (ap (λ (b : Bool). if b then steps_of is.former.newest (found_window moving_world was) 0 [] (if is_clean is.former.newest then None else Some 0) else left_of (found_work (found_members was)) (found_members was)) is.active)
        where
          steps_of : Sb → Window → ℕ → List Phase → Option ℕ → ℕ
          steps_of newest window zeroed phases resync = grow_left newest window zeroed phases + region_left newest window resync

  pub moving_here : IsFoundHere tells given tape backup asked before after found
  moving_here = record {
    r = reading_of found.parts.members;
    n = role_count found.parts.members.newest;
    entries = is.adopted.entries;
    missing = moving_missing;
    first = is.adopted.first;
    backup_is = is.adopted.backup_is ∙ sym is.backup_is;
    uuid = is.adopted.uuid ∙ ap (λ (sb : Sb). sb.set_uuid) (sym newest_is);
    given_are = is.given;
    named = is.named;
    elected = λ t. ap (λ (sb : Sb). sb.set_uuid) newest_is ∙ is.opened.array t;
    accepted = λ t. subst (λ (w : World). OpensAccepted w) (world_here t) (moving_stands t).accepted;
    held = λ t. subst (λ (w : World). AreHeldSince w found.parts.entries found.parts.members) (world_here t) (record {
      roles = λ role slot held. inl (record { begun = omega arith; found = was; says = says_was t; held = moving_holder role slot held });
      spares = λ slot spare. inl (record { begun = omega arith; found = was; says = says_was t; spare = subst (λ (m : Members). has_spare m.spares slot ≡ true) is.adopted.members_are spare });
    });
    stored = λ status told t. moving_stored status (moving_told status told) t;
    shown = shown-length found;
    targeted = shown-target found;
    planless = is.adopted.planless;
  }
    where
      world_here : tells → moving_world ≡ world_at given tape backup (running_history found.parts)
      world_here t =
          ap (λ (u : List ℕ). record { start = given.start; tape = tape; scope = record { uuid = u; given = found.parts.given; backup = backup; sizes = sizes given }; first = length tape }) (ap (λ (sb : Sb). sb.set_uuid) newest_is ∙ sym is.adopted.uuid)
          ∙ ap (λ (n : ℕ). record { start = given.start; tape = tape; scope = record { uuid = found.parts.uuid; given = found.parts.given; backup = backup; sizes = sizes given }; first = n }) (sym (is.adopted.first t))

-- the world in which it began is that of its history
pub found_history : {B : Type 0} (setting : Setting) (found : Parts B) (history : History) → found.members.newest.set_uuid ≡ history.uuid → found.given ≡ history.given → length setting.tape ≡ history.first
    → found_world setting.given setting.tape setting.backup found ≡ history_world setting history
found_history setting found history uuid given first =
    ap (λ (u : List ℕ). record { start = setting.given.start; tape = setting.tape; scope = record { uuid = u; given = found.given; backup = setting.backup; sizes = sizes setting.given }; first = length setting.tape }) uuid
    ∙ ap (λ (n : ℕ). record { start = setting.given.start; tape = setting.tape; scope = record { uuid = history.uuid; given = n; backup = setting.backup; sizes = sizes setting.given }; first = length setting.tape }) given
    ∙ ap (λ (n : ℕ). record { start = setting.given.start; tape = setting.tape; scope = record { uuid = history.uuid; given = history.given; backup = setting.backup; sizes = sizes setting.given }; first = n }) first

-- so it is of either
pub found_here : {B tells : Type 0} {before after : ℕ → ℕ} (given : Given) (tape : List Operation) (backup : Option ℕ) (asked : Option (List ℕ)) (found : RunningParts B)
    → IsRunningFound tells given tape backup asked before after found → IsFoundHere tells given tape backup asked before after found
found_here {tells = tells} {before = before} {after = after} given tape backup asked found is = by (is_reshaping found.parts.members.newest) is
  where
    by : (b : Bool) → MatchBool b (IsMovingFound tells given tape backup asked before after found) (IsStillFound tells given tape backup asked before after found) → IsFoundHere tells given tape backup asked before after found
    by true is = moving_here given tape backup asked found is
    by false is = still_here given tape backup asked found is
