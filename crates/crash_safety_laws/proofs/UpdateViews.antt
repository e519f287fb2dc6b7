-- What is read in an update, whatever it changes.
use Rattle.std.proofs.Common.{◌≡◌, ℕ, ◌<◌, Bool, true, false, cond, List, get_or, Option, Some, None, option_map, refl, sym, ◌∙◌, ap, ap₂, arith}
use Rattle.std.specs.Option.{option_map_or}
use Rattle.crash_views.specs.raid_types_the_Role.{Role}
use Rattle.crash_views.specs.raid_types_the_Role_TheVariants.{Whole, Recovering, Missing}
use Rattle.crash_views.specs.raid_types_Search.{tabulate}
use Rattle.crash_views.specs.raid_types_Shapes.{has_slot}
use Rattle.crash_views.proofs.raid_types_Tabulated.{length-tabulate, get_or-tabulate}
use Rattle.sb_update_laws.specs.sb_codec_the_Sb.{Sb}
use Rattle.crash_views.specs.bank_Tape.{Contents}
use Rattle.crash_views.specs.sb_specs_the_Give.{Give}
use Rattle.crash_views.specs.sb_specs_the_Give_TheVariants.{Same, Spare}
use Rattle.crash_views.specs.sb_specs_the_Give_TheVariants as give
use Rattle.crash_views.specs.sb_specs_the_Change.{Change}
use Rattle.crash_views.specs.sb_specs_the_Members.{Members}
use Rattle.crash_views.specs.sb_specs_Reading.{Scope, Reading, reading_by, is_reshaping, is_backward, is_recovering, role_count, role_state, rows_held, holder, holder_from, holds_role, own_of}
use Rattle.crash_views.specs.sb_specs_Update.{planned, with_give, give_of, own_in}
use Rattle.crash_views.specs.sb_specs_Outcome.{planned_roles}
use Rattle.crash_views.specs.sb_specs_Reads.{held_in, roles_refusal}
use Rattle.crash_views.specs.sb_specs_Rounds.{IsReadAsPlanned}
use Rattle.crash_views.specs.sb_specs_Held.{known_of, said_by}
use Rattle.crash_views.specs.sb_read_laws_Said.{AreSaidAsPlanned}
use Rattle.crash_views.proofs.sb_specs_ReadAlike.{refused-same}
use Rattle.crash_views.proofs.sb_read_laws_SaidLists.{state-here}
use Rattle.crash_views.proofs.sb_read_laws_SaidSlots.{below-length, holder-own, read-own, listed}
use Rattle.crash_views.specs.stripe_row_Rows.{reading_of}
use Rattle.crash_views.specs.Regions.{IsReadOf}
use Rattle.crash_safety_laws.specs.Updates.{planned_view, PlannedIsRead}

-- ---- what a slot is given

pub offset-given : (newest : Sb) (g : Give) (sb : Sb) → (planned newest g sb).data_offset ≡ (with_give g sb).data_offset
offset-given newest Same sb = refl
offset-given newest (give.Role role (Some offset)) sb = refl
offset-given newest (give.Role role None) sb = refl
offset-given newest Spare sb = refl

pub recovery-given : (newest : Sb) (g : Give) (sb : Sb) → (planned newest g sb).recovery_offset ≡ (with_give g sb).recovery_offset
recovery-given newest Same sb = refl
recovery-given newest (give.Role role (Some offset)) sb = refl
recovery-given newest (give.Role role None) sb = refl
recovery-given newest Spare sb = refl

-- a slot on which a role recovers has the recovery bit
pub said-recovering : (sectors : ℕ → ℕ) (own : List (Option Sb)) (newest : Sb) (role slot : ℕ) (sb : Sb) → role_state (reading_by sectors own newest) role ≡ Recovering slot
    → get_or own slot None ≡ Some sb → is_recovering sb ≡ true
said-recovering sectors own newest role slot sb is there = of (holds_role newest role sb) (is_recovering sb) held
  where
    roles : List Role
    roles = tabulate (role_count newest) (λ role. holder_from newest role 0 own)

    below : role < role_count newest
    below = let n = below-length roles role slot (ap holder is) in let long = length-tabulate (role_count newest) (λ role. holder_from newest role 0 own) in omega (arith, n, long)

    from : holder_from newest role 0 own ≡ Recovering slot
    from = sym (get_or-tabulate (role_count newest) (λ role. holder_from newest role 0 own) role Missing below) ∙ is

    held : held_in newest role slot (Some sb) ≡ Some (Recovering slot)
    held = ap (held_in newest role slot) (sym there) ∙ state-here newest role own slot (ap holder from) ∙ ap (λ (s : Role). Some s) from

    of : (holds bit : Bool) → cond holds (Some (cond bit (Recovering slot) (Whole slot))) None ≡ Some (Recovering slot) → bit ≡ true
    of true true e = refl
    of true false e = absurd (cc)
    of false bit e = absurd (cc)

module _ (scope : Scope) (known : ℕ) (members : Members) (change : Change) (before live last : ℕ) (c : Contents) (r : IsReadAsPlanned scope members change before live last c)
    (left_own : (s : ℕ) → has_slot r.left s ≡ true → (s < 32) × (sb : Sb) × (own_in members.own s ≡ Some sb))
    (said : AreSaidAsPlanned scope known r.named r.left members change r.newest r.own) where
  abbrev View : Members
  View = planned_view members change r.named

  abbrev Found : Reading
  Found = r.reads.found

  abbrev Said : Reading
  Said = said_by scope r.left r.own r.newest

  roles-found : Found.roles ≡ planned_roles members change r.named
  roles-found = r.reads.same.roles ∙ said.roles

  state-said : (role : ℕ) → role_state Said role ≡ role_state (reading_of View) role
  state-said role = ap (λ (l : List Role). get_or l role Missing) said.roles

  -- what is known of a slot that holds a role then
  record IsKnownSlot (role slot : ℕ) : Type 0 where
    pub sb : Sb
    pub mine : Sb
    pub told : Sb
    pub was : own_in members.own slot ≡ Some sb
    pub found : own_of Found slot ≡ Some mine
    pub is : own_of Said slot ≡ Some told
    pub start : told.data_offset ≡ (with_give (give_of change.gives slot) sb).data_offset
    pub recovery : told.recovery_offset ≡ (with_give (give_of change.gives slot) sb).recovery_offset
    pub own : own_of (reading_of View) slot ≡ Some (with_give (give_of change.gives slot) sb)

  known-slot : (role slot : ℕ) → holder (role_state (reading_of View) role) ≡ Some slot → IsKnownSlot role slot
  known-slot role slot held =
      let there = holder-own scope.sizes.sectors (known_of scope r.left r.own) r.newest role slot (ap holder (state-said role) ∙ held) in
      let here = listed scope r.left r.own slot there.0 there.1 in
      let was = left_own slot here.0 in
      let kept = r.kept slot was.1 here.0 was.2 in
      let told-is : there.0 ≡ record (planned r.newest (give_of change.gives slot) was.1) { sb_csum = kept.0 } = some-only there.0 (record (planned r.newest (give_of change.gives slot) was.1) { sb_csum = kept.0 }) (sym here.1 ∙ kept.1) in
      let mine = read-own scope c r.reads.found role slot r.reads.is (ap (λ (l : List Role). holder (get_or l role Missing)) roles-found ∙ held) in
      record {
        sb = was.1;
        mine = mine.0;
        told = there.0;
        was = was.2;
        found = mine.1;
        is = there.1;
        start = ap (λ (s : Sb). s.data_offset) told-is ∙ offset-given r.newest (give_of change.gives slot) was.1;
        recovery = ap (λ (s : Sb). s.recovery_offset) told-is ∙ recovery-given r.newest (give_of change.gives slot) was.1;
        own = get_or-tabulate 32 (λ slot. option_map (with_give (give_of change.gives slot)) (own_in members.own slot)) slot None was.0
            ∙ ap (option_map (with_give (give_of change.gives slot))) was.2;
      }
    where
      some-only : (a b : Sb) → ◌≡◌ {A = Option Sb} (Some a) (Some b) → a ≡ b
      some-only a b e = cc

  rows-found : (role : ℕ) → rows_held Found (role_state (reading_of View) role) ≡ rows_held (reading_of View) (role_state (reading_of View) role)
  rows-found role = of (role_state (reading_of View) role) refl
    where
      of : (state : Role) → role_state (reading_of View) role ≡ state → rows_held Found state ≡ rows_held (reading_of View) state
      of (Whole slot) is = sym r.reads.same.array.size ∙ ap (λ (s : Sb). s.size) r.later.same
      of Missing is = refl
      of (Recovering slot) is =
          let k = known-slot role slot (ap holder is) in
          ap₂ (λ (active : Bool) (n : ℕ). cond active 0 n) (sym r.reads.same.array.reshaping ∙ ap is_reshaping r.later.same)
          (ap (λ (o : Option Sb). option_map_or (λ sb. sb.recovery_offset) o 0) k.found
          ∙ (r.reads.same.devices role slot (ap holder (state-said role ∙ is))).recovery k.mine k.told k.found k.is
          (said-recovering scope.sizes.sectors (known_of scope r.left r.own) r.newest role slot k.told (state-said role ∙ is) k.is)
          ∙ k.recovery ∙ sym (ap (λ (o : Option Sb). option_map_or (λ sb. sb.recovery_offset) o 0) k.own))

  pub planned-read : IsReadOf scope View Found
  planned-read = record {
    array = record {
      level = sym (ap (λ (s : Sb). s.level) r.later.same) ∙ r.reads.same.array.level;
      layout = sym (ap (λ (s : Sb). s.layout) r.later.same) ∙ r.reads.same.array.layout;
      size = sym (ap (λ (s : Sb). s.size) r.later.same) ∙ r.reads.same.array.size;
      chunksize = sym (ap (λ (s : Sb). s.chunksize) r.later.same) ∙ r.reads.same.array.chunksize;
      raid_disks = sym (ap (λ (s : Sb). s.raid_disks) r.later.same) ∙ r.reads.same.array.raid_disks;
      new_level = sym (ap (λ (s : Sb). s.new_level) r.later.same) ∙ r.reads.same.array.new_level;
      reshape_position = sym (ap (λ (s : Sb). s.reshape_position) r.later.same) ∙ r.reads.same.array.reshape_position;
      delta_disks = sym (ap (λ (s : Sb). s.delta_disks) r.later.same) ∙ r.reads.same.array.delta_disks;
      new_layout = sym (ap (λ (s : Sb). s.new_layout) r.later.same) ∙ r.reads.same.array.new_layout;
      new_chunk = sym (ap (λ (s : Sb). s.new_chunk) r.later.same) ∙ r.reads.same.array.new_chunk;
      resync_offset = sym (ap (λ (s : Sb). s.resync_offset) r.later.same) ∙ r.reads.same.array.resync_offset;
      reshaping = sym (ap is_reshaping r.later.same) ∙ r.reads.same.array.reshaping;
      backward = sym (ap is_backward r.later.same) ∙ r.reads.same.array.backward;
    };
    roles = roles-found;
    rows = rows-found;
    offsets = λ role slot held.
        let k = known-slot role slot held in
        ap (λ (o : Option Sb). option_map_or (λ sb. sb.data_offset) o 0) k.found
        ∙ (r.reads.same.devices role slot (ap holder (state-said role) ∙ held)).start k.mine k.told k.found k.is
        ∙ k.start ∙ sym (ap (λ (o : Option Sb). option_map_or (λ sb. sb.data_offset) o 0) k.own);
    refused = r.reads.same.refusal ∙ refused-same r.newest r.reads.found.newest r.reads.same.array Said.roles ∙ ap (roles_refusal r.reads.found.newest) (sym r.reads.same.roles);
  }

pub planned-is-read : PlannedIsRead
planned-is-read scope known members change before live last c r left_own said = planned-read scope known members change before live last c r left_own said
