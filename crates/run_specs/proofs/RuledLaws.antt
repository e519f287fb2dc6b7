-- What the records of a run rule out.
use Rattle.std.proofs.Common.{◌≡◌, ◌≢◌, inl, inr, ℕ, ◌+◌, ◌<◌, ◌≤◌, ◌==◌, not, Bool, true, false, is_some, get_or, Option, Some, None, List, [], ◌∷◌, length, drop, refl, sym, ◌∙◌, ap, subst, arith}
use Rattle.std.proofs.lemmas.Bool.{cases_lt}
use Rattle.std.proofs.lemmas.Bool.Decides.{nat_tests}
use Rattle.std.proofs.lemmas.List.{get_or_past}
use Rattle.std.specs.Prelude.{◌^◌, ◌-◌, if◌then◌else◌, pos, ◌-ℤ◌, unwrap_or, MatchBool, MatchOption, IfSome}
use Rattle.std.specs.List.{list_any, All}
use Rattle.std.proofs.Math.Seq.{drop-append_seam}
use Rattle.std.proofs.lemmas.List.Elements.{All-weaker}
use Rattle.array_requests.specs.raid_types_Search.{tabulate}
use Rattle.array_requests.specs.raid_types_the_BusyKind_TheVariants.{Reshape}
use Rattle.array_requests.specs.raid_types_the_Refusal.{Refusal}
use Rattle.array_requests.specs.raid_types_the_Refusal_TheVariants.{Busy, SlotFault}
use Rattle.script.specs.raid_types_the_Shape.{Shape}
use Rattle.script.specs.raid_types_the_Role.{Role}
use Rattle.script.specs.raid_types_the_Role_TheVariants.{Whole, Recovering, Missing}
use Rattle.array_requests.specs.raid_types_the_Phase.{Phase}
use Rattle.array_requests.specs.raid_types_the_Wish.{Wish}
use Rattle.array_requests.proofs.raid_types_Tabulated.{length-tabulate, get_or-tabulate}
use Rattle.array_requests.specs.bank_Given.{Given, IsFaulted}
use Rattle.script.specs.reshape_plan_Plans.{phases, phases_steps, last_shape}
use Rattle.script.proofs.reshape_plan_Sound.{phases_lead}
use Rattle.script.specs.sb_codec_the_Sb.{Sb}
use Rattle.array_requests.specs.sb_specs_the_Members.{Members}
use Rattle.array_requests.specs.sb_specs_Reading.{is_reshaping, is_backup, count_of, shape_of, target_of, final_shape, role_count, role_state, holder, is_whole}
use Rattle.array_requests.specs.sb_specs_Reads.{SaysSame, has_spare}
use Rattle.array_requests.specs.stripe_row_Rows.{reading_of, is_missing}
use Rattle.script.specs.history_the_Entry.{Entry}
use Rattle.script.specs.history_the_Event.{Event}
use Rattle.script.specs.history_the_Event_TheVariants.{Lost, Failed, Visible, Planned, Refused}
use Rattle.script.specs.history_the_LostCause_TheVariants.{Fault as ByFault}
use Rattle.script.specs.history_Transfers.{last_end_from}
use Rattle.array_requests.specs.array_members_Placed.{is_unassigned}
use Rattle.array_requests.specs.array_members_Status.{left_of}
use Rattle.array_requests.proofs.array_members_Still.{count-still}
use Rattle.array_requests.specs.reshape_request_Asked.{IsUngrowable, IsFirst, grow_refusal}
use Rattle.array_requests.specs.reshape_request_Left.{phases_of}
use Rattle.array_requests.proofs.reshape_request_FirstLaws.{judged}
use Rattle.array_requests.specs.Going.{is_added, MayBeNewSpare}
use Rattle.array_requests.specs.array_grow_Planned.{asked_in}
use Rattle.array_requests.specs.array_call_specs_Calls.{IsTaken, IsLossBy, WasSpare, AreLossesOf}
use Rattle.array_requests.specs.array_members_Rebuilding.{Held}
use Rattle.array_requests.specs.array_grow_Stored.{AreStoredAt}
use Rattle.array_requests.proofs.array_Ended.{degraded-missing}
use Rattle.array_requests.specs.array_Calls.{running_left}
use Rattle.array_requests.specs.array_specs_Calls.{IsStatusFor}
use Rattle.array_requests.specs.array_specs_Still.{IsStillStatus}
use Rattle.array_requests.specs.array_specs_Parts.{left_in, still_left}
use Rattle.array_requests.specs.array_specs_Plans.{aim_of}
use Rattle.script.specs.declared.lines.CreateLine.{CreateLine}
use Rattle.script.specs.declared.lines.Line.TheVariants.{Fail, Add, ArraySize, Grow, Detail, Mdstat}
use Rattle.run_specs.specs.Caused.{Record}
use Rattle.run_specs.specs.Records.{AreAllAnswered, IsNewRecord, IsLeftByBlock}
use Rattle.run_specs.specs.Ruled.{NewRolesFail, UnusedSlotsAreFree, PlansAreStepped, PlansArrive, BlocksLeadOn, ToldStepsAreLeft, SparesStay, FreeSlotsStay, IsStatusStored, StatusesAreStored, RecordsAreStored, GoneRolesEndSteps, HealthyRolesStay}

-- ---- an array that was just made

module _ {backup : Option ℕ} {line : CreateLine} (array : Record) (is : IsNewRecord backup line array) where
  state-is : (role : ℕ) → role_state (reading_of array.parts.members) role ≡ get_or (tabulate line.shape.disks (λ role. Whole role)) role Missing
  state-is role = ap (λ (roles : List Role). get_or roles role Missing) is.roles

  counted : role_count array.parts.members.newest ≡ line.shape.disks
  counted = count-still array.parts.members.newest is.still ∙ ap (λ (s : Shape). s.disks) is.shape

  -- each role is on the slot of its number
  there : (role : ℕ) → role < line.shape.disks → role_state (reading_of array.parts.members) role ≡ Whole role
  there role lt = state-is role ∙ get_or-tabulate line.shape.disks (λ role. Whole role) role Missing lt

  has-role : (role : ℕ) → role < line.shape.disks → (role < role_count array.parts.members.newest) × (is_unassigned (reading_of array.parts.members) role ≡ false)
  has-role role lt = (omega (arith, lt, counted), ap (λ (state : Role). not (is_some (holder state))) (there role lt))

  -- and no slot behind them is used
  held-below : (role slot : ℕ) → line.shape.disks ≤ slot → holder (role_state (reading_of array.parts.members) role) ≡ Some slot → ⊥
  held-below role slot unused held = elim (cases_lt role line.shape.disks) [
    | inl lt ↦ other role (sym (ap holder (there role lt)) ∙ held) lt
    | inr past ↦ none slot (sym (ap holder (state-is role ∙ get_or_past (tabulate line.shape.disks (λ role. Whole role)) role Missing (omega (arith, past, length-tabulate line.shape.disks (λ role. Whole role))))) ∙ held)
  ]
    where
      none : (s : ℕ) → ◌≡◌ {A = Option ℕ} None (Some s) → ⊥
      none s e = absurd (cc)

      same : {a b : ℕ} → Some a ≡ Some b → a ≡ b
      same e = cc

      other : (a : ℕ) → Some a ≡ Some slot → a < line.shape.disks → ⊥
      other a e lt = let at = same e in omega (arith, at, lt, unused)

  not-taken : (slot : ℕ) → line.shape.disks ≤ slot → backup ≢ Some slot → IsTaken array.parts.backup array.parts.members slot → ⊥
  not-taken slot unused other (inl taken) = not-backup backup other (sym (ap (λ (b : Option ℕ). is_backup b slot) is.backup_is) ∙ taken)
    where
      same : (a b : ℕ) → (a == b) ≡ true → a ≡ b
      same a b e = grind (arith, nat_tests, e)

      not-backup : (b : Option ℕ) → b ≢ Some slot → is_backup b slot ≡ true → ⊥
      not-backup None other e = absurd (cc)
      not-backup (Some n) other e = other (ap (λ (m : ℕ). Some m) (same n slot e))
  not-taken slot unused other (inr (role, inl held)) = held-below role slot unused held
  not-taken slot unused other (inr (role, inr spare)) = clash (sym (ap (λ (l : List ℕ). has_spare l slot) is.spares) ∙ spare)
    where
      clash : false ≡ true → ⊥
      clash e = absurd (cc)

pub new-roles : NewRolesFail
new-roles backup line array given role refusal is lt none = none (has-role array is role lt)

pub unused-slots : UnusedSlotsAreFree
unused-slots backup line array given slot taken is unused other was = not-taken array is slot unused other was.2

-- ---- a plan

-- what is planned was in no reshape
not-reshaping : (given : Given) (old : Record) (wish : Wish) → grow_refusal (asked_in given old) wish ≡ None → is_reshaping old.parts.members.newest ≡ false
not-reshaping given old wish none = by (is_reshaping old.parts.members.newest) refl
  where
    never : (refusal : Refusal) → IsUngrowable (asked_in given old) wish refusal → ⊥
    never = subst (λ (o : Option Refusal). MatchOption o ((r : Refusal) → IsUngrowable (asked_in given old) wish r → ⊥) (IsFirst (asked_in given old) wish)) none (judged (asked_in given old) wish)

    by : (b : Bool) → is_reshaping old.parts.members.newest ≡ b → is_reshaping old.parts.members.newest ≡ false
    by false is = is
    by true is = absurd (never (Busy Reshape) is)

pub plans-stepped : PlansAreStepped
plans-stepped given before now old planned wish left most refusal judged_so leaves some none =
    let was = leaves.0 in
    let still : is_reshaping planned.parts.members.newest ≡ false = ap (λ (m : Members). is_reshaping m.newest) was.members ∙ not-reshaping given old wish judged_so.1 in
    let rest : left_of planned.parts.work planned.parts.members + phases_steps (shape_of planned.parts.members.newest) planned.parts.members.newest.size (phases_of planned.ahead) ≡ 0 =
    sym (ap (λ (b : Bool). if b then left_in planned.parts.work planned.parts.members planned.course planned.ahead else still_left planned.parts.work planned.parts.members planned.ahead) still) ∙ none in
    let same : phases_steps (shape_of planned.parts.members.newest) planned.parts.members.newest.size (phases_of planned.ahead) ≡ left =
    ap (λ (ps : List Phase). phases_steps (shape_of planned.parts.members.newest) planned.parts.members.newest.size ps) leaves.1
    ∙ ap (λ (m : Members). phases_steps (shape_of m.newest) m.newest.size (phases (shape_of old.parts.members.newest) wish)) was.members ∙ sym judged_so.2 in
    omega (arith, rest, same, some)

-- some requests for steps leave the array on its way
aims : (before now : ℕ → ℕ) (old new : Record) (others : List Record) → AreAllAnswered before now old others new → aim_of new ≡ aim_of old
aims before now old new [] was = was.kept.aim
aims before now old new (next ∷ others) (one, more, rest) = aims before now next new others rest ∙ one.kept.aim

-- and where none is left, there is neither a reshape nor a phase ahead
rests : (before now : ℕ → ℕ) (old new : Record) (others : List Record) → AreAllAnswered before now old others new → running_left new ≡ 0 → (is_reshaping new.parts.members.newest ≡ false) × (phases_of new.ahead ≡ [])
rests before now old new [] was none = was.rest none
rests before now old new (next ∷ others) (one, more, rest) none = rests before now next new others rest none

pub plans-arrived : PlansArrive
plans-arrived given before now old planned new wish left event judged_so leaves (others, waited) none =
    let was = leaves.0 in
    let ends = rests before now planned new others waited none in
    let still : is_reshaping planned.parts.members.newest ≡ false = ap (λ (m : Members). is_reshaping m.newest) was.members ∙ not-reshaping given old wish judged_so.1 in
    let there : aim_of new ≡ shape_of new.parts.members.newest = λ i. last_shape (if ends.0 i then final_shape new.parts.members.newest else shape_of new.parts.members.newest) (ends.1 i) in
    let aimed : aim_of planned ≡ last_shape (shape_of planned.parts.members.newest) (phases (shape_of old.parts.members.newest) wish) =
    λ i. last_shape (if still i then final_shape planned.parts.members.newest else shape_of planned.parts.members.newest) (leaves.1 i) in
    sym there ∙ aims before now planned new others waited ∙ aimed
    ∙ ap (λ (m : Members). last_shape (shape_of m.newest) (phases (shape_of old.parts.members.newest) wish)) was.members ∙ phases_lead (shape_of old.parts.members.newest) wish

pub led-on : BlocksLeadOn
led-on before now old next new event left untold (others, waited) none =
    let ends = rests before now next new others waited none in
    let there : aim_of new ≡ shape_of new.parts.members.newest = λ i. last_shape (if ends.0 i then final_shape new.parts.members.newest else shape_of new.parts.members.newest) (ends.1 i) in
    sym there ∙ aims before now next new others waited ∙ left.way.aim untold

-- ---- what is told

pub told-steps : ToldStepsAreLeft
told-steps array given left most refusal told is some none =
    let same : left ≡ running_left array = subst (λ (o : Option ℕ). IfSome o (λ n. n ≡ running_left array)) is told in
    omega (arith, same, some, none)

-- ---- spares

spare-same : (slot : ℕ) (old new : Members) → new ≡ old → has_spare old.spares slot ≡ true → has_spare new.spares slot ≡ true
spare-same slot old new same spare = subst (λ (m : Members). has_spare m.spares slot ≡ true) (sym same) spare

pub kept-spares : SparesStay
kept-spares before now old new (Fail role) (Refused refusal) slot uses is spare = spare-same slot old.parts.members new.parts.members is.1 spare
kept-spares before now old new (Add added) (Refused (SlotFault failed)) slot uses is spare = absurd uses
kept-spares before now old new (Add added) (Refused refusal) slot uses is spare = spare-same slot old.parts.members new.parts.members is.1 spare
kept-spares before now old new (ArraySize limit) (Visible wished count) slot uses is spare = spare-same slot old.parts.members new.parts.members is.0.members spare
kept-spares before now old new (ArraySize limit) event slot uses is spare = spare-same slot old.parts.members new.parts.members is.0.members spare
kept-spares before now old new (Grow wish) (Planned left wished) slot uses is spare = spare-same slot old.parts.members new.parts.members is.0.members spare
kept-spares before now old new (Grow wish) event slot uses is spare = spare-same slot old.parts.members new.parts.members is.0.members spare
kept-spares before now old new Detail event slot uses is spare = spare-same slot old.parts.members new.parts.members is.0.members spare
kept-spares before now old new Mdstat event slot uses is spare = spare-same slot old.parts.members new.parts.members is.0.members spare
kept-spares before now old new (Fail role) event slot uses is spare = absurd uses
kept-spares before now old new (Add added) event slot uses is spare = absurd uses
kept-spares before now old new line event slot uses is spare = absurd uses

-- ---- slots

-- what is taken behind a block was taken before it
module _ (before now : ℕ → ℕ) (old new : Record) (slot : ℕ) (left : IsLeftByBlock before now old new) (untold : list_any (λ e. is_added slot e.event) left.entered.more ≡ false) where
  of-spare : MayBeNewSpare old.parts.members left.entered.more slot → IsTaken old.parts.backup old.parts.members slot
  of-spare (inl told) = absurd (let clash : true ≡ false = sym told ∙ untold in cc)
  of-spare (inr (dropped, role, held)) = inr (role, inl held)

  taken-before : IsTaken new.parts.backup new.parts.members slot → IsTaken old.parts.backup old.parts.members slot
  taken-before (inl backup) = inl (sym (ap (λ (b : Option ℕ). is_backup b slot) left.same.backup) ∙ backup)
  taken-before (inr (role, inl held)) = elim (left.held.roles role slot held) [
    | inl may ↦ inr (role, may)
    | inr spare ↦ of-spare spare
  ]
  taken-before (inr (role, inr spare)) = elim (left.held.spares slot spare) [
    | inl same ↦ inr (role, inr same)
    | inr told ↦ of-spare told
  ]

pub free-slots : FreeSlotsStay
free-slots before now old new given slot taken left free untold was = free (taken-before before now old new slot left untold was.2)

-- ---- what is stored

-- superblocks that say the same say the same shapes
shape-same : (a b : Sb) → SaysSame a b → shape_of a ≡ shape_of b
shape-same a b same = λ i. record {
  level = same.level i;
  layout = same.layout i;
  chunk = same.chunksize i;
  disks = if same.reshaping i then count_of (pos (same.raid_disks i) -ℤ same.delta_disks i) else same.raid_disks i;
}

target-same : (a b : Sb) → SaysSame a b → target_of a ≡ target_of b
target-same a b same = λ i. if same.reshaping i then Some (record { level = same.new_level i; layout = same.new_layout i; chunk = same.new_chunk i; disks = same.raid_disks i }) else None

pub shown-stored : StatusesAreStored
shown-stored world mark array status stored = by (is_reshaping newest) refl
  where
    newest : Sb
    newest = array.parts.members.newest

    -- no reshape has a target
    none-of : (sb : Sb) → is_reshaping sb ≡ false → target_of sb ≡ None
    none-of sb still = λ i. if still i then Some (record { level = sb.new_level; layout = sb.new_layout; chunk = sb.new_chunk; disks = sb.raid_disks }) else None

    some-of : (sb : Sb) → is_reshaping sb ≡ true → Some (final_shape sb) ≡ target_of sb
    some-of sb active = ap (λ (o : Option Shape). Some (unwrap_or o (shape_of sb))) is ∙ sym is
      where
        is : target_of sb ≡ Some (record { level = sb.new_level; layout = sb.new_layout; chunk = sb.new_chunk; disks = sb.raid_disks })
        is = λ i. if active i then Some (record { level = sb.new_level; layout = sb.new_layout; chunk = sb.new_chunk; disks = sb.raid_disks }) else None

    by : (b : Bool) → is_reshaping newest ≡ b → MatchBool b (IsStatusFor array status) (IsStillStatus array status) → IsStatusStored world mark status
    by true active shown = record {
      found = stored.found;
      is = stored.is;
      shape = shown.shape ∙ shape-same newest stored.found.newest stored.array;
      target = shown.target ∙ some-of newest active ∙ target-same newest stored.found.newest stored.array;
      size = shown.size ∙ stored.array.size;
      clean = shown.clean ∙ ap (λ (n : ℕ). n == 2 ^ 64 - 1) stored.array.resync_offset;
      position = λ still. shown.position ∙ stored.array.reshape_position;
    }
    by false active shown = record {
      found = stored.found;
      is = stored.is;
      shape = shown.shape ∙ shape-same newest stored.found.newest stored.array;
      target = shown.target ∙ sym (none-of newest active) ∙ target-same newest stored.found.newest stored.array;
      size = shown.size ∙ stored.array.size;
      clean = shown.clean ∙ ap (λ (n : ℕ). n == 2 ^ 64 - 1) stored.array.resync_offset;
      position = λ moving. absurd (let clash : true ≡ false = sym moving ∙ sym stored.array.reshaping ∙ active in cc);
    }

-- ---- roles that aren't gone

held-whole : (state : Role) → not (is_whole state) ≡ false → (slot : ℕ) × (holder state ≡ Some slot)
held-whole (Whole slot) e = (slot, refl)
held-whole (Recovering slot) e = absurd (cc)
held-whole Missing e = absurd (cc)

pub records-stored : RecordsAreStored
records-stored world array role stored relied lt kept = by (is_missing (reading_of array.parts.members) role) refl
  where
    by : (b : Bool) → is_missing (reading_of array.parts.members) role ≡ b → AreStoredAt world (last_end_from world.first array.parts.entries) array.parts.members
    by true missing = absurd (let clash : true ≡ false = sym (stored.gone relied role lt missing) ∙ kept in cc)
    by false here = let held = held-whole (role_state (reading_of array.parts.members) role) here in stored.stored relied role held.0 (inl held.1)

pub gone-ends : GoneRolesEndSteps
gone-ends world array done left role stored relied told = let missing = degraded-missing array role told.1 in stored.gone relied role missing.0 missing.1

-- ---- roles whose slots haven't failed

module _ (before now : ℕ → ℕ) (old new : Record) (role slot : ℕ) (held : Held old.parts.members role slot) (sound : IsFaulted slot before now → ⊥) where
  same-slot : (a b : ℕ) → Held old.parts.members role a → Held old.parts.members role b → a ≡ b
  same-slot a b one two = let both : ◌≡◌ {A = Option ℕ} (Some a) (Some b) = sym one ∙ two in cc

  stays : AreLossesOf old.parts.members before now old.parts.entries new.parts.entries → All (λ e. e.event ≢ Lost role ByFault) (drop (length old.parts.entries) new.parts.entries)
  stays was =
      subst (λ (l : List Entry). All (λ e. e.event ≢ Lost role ByFault) l) (sym (ap (drop (length old.parts.entries)) was.grown ∙ drop-append_seam old.parts.entries was.more))
      (All-weaker (λ e. IsLossBy (Held old.parts.members) (WasSpare old.parts.members) before now e.event) (λ e. e.event ≢ Lost role ByFault)
      (λ e loss told. of (subst (λ (event : Event). IsLossBy (Held old.parts.members) (WasSpare old.parts.members) before now event) told loss)) was.more was.failed)
    where
      of : IsLossBy (Held old.parts.members) (WasSpare old.parts.members) before now (Lost role ByFault) → ⊥
      of (had, here, failed) = sound (subst (λ (s : ℕ). IsFaulted s before now) (same-slot had slot here held) failed)

pub healthy-stay : HealthyRolesStay
healthy-stay before now old new asked (Failed failed) role slot left held sound = stays before now old new role slot held sound left.0.losses
healthy-stay before now old new asked event role slot left held sound = stays before now old new role slot held sound left.0.losses
