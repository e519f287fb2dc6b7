-- An image that reads as superblocks say that say what members do is read of these members.
use Rattle.std.proofs.Common.{◌≡◌, ℕ, Bool, true, cond, List, get_or, Option, Some, refl, sym, ◌∙◌, ap, ap₂}
use Rattle.std.specs.Option.{option_map_or}
use Rattle.sb_safe_updates.specs.raid_types_the_Role.{Role}
use Rattle.sb_safe_updates.specs.raid_types_the_Role_TheVariants.{Whole, Recovering, Missing}
use Rattle.sb_safe_updates.specs.sb_codec_the_Sb.{Sb}
use Rattle.sb_safe_updates.specs.bank_Tape.{Contents}
use Rattle.sb_safe_updates.specs.sb_specs_the_Members.{Members}
use Rattle.sb_safe_updates.specs.sb_specs_Reading.{Scope, Reading, is_recovering, role_state, rows_held, holder, own_of, data_offset_of}
use Rattle.sb_safe_updates.specs.sb_specs_Reads.{SaysSame, IsReadAs, roles_refusal}
use Rattle.sb_safe_updates.proofs.sb_specs_ReadAlike.{refused-same}
use Rattle.sb_safe_updates.proofs.sb_read_laws_SaidSlots.{read-own}
use Rattle.sb_safe_updates.specs.stripe_row_Rows.{reading_of}
use Rattle.sb_safe_updates.specs.crash_views_Regions.{IsReadOf}

-- a reading of superblocks says what these members do
pub record IsSaidOf (m : Members) (q : Reading) : Type 0 where
  pub array : SaysSame m.newest q.newest
  pub roles : q.roles ≡ m.roles
  pub rows : (role : ℕ) → rows_held q (role_state (reading_of m) role) ≡ rows_held (reading_of m) (role_state (reading_of m) role)
  pub own : (role slot : ℕ) → holder (role_state (reading_of m) role) ≡ Some slot → (sb : Sb) × (own_of q slot ≡ Some sb) × (sb.data_offset ≡ data_offset_of (reading_of m) slot)
  pub recovering : (role slot : ℕ) (sb : Sb) → role_state q role ≡ Recovering slot → own_of q slot ≡ Some sb → is_recovering sb ≡ true

-- what says the same as what says the same
says-then : (a b c : Sb) → SaysSame a b → SaysSame b c → SaysSame a c
says-then a b c one two = record {
  level = one.level ∙ two.level;
  layout = one.layout ∙ two.layout;
  size = one.size ∙ two.size;
  chunksize = one.chunksize ∙ two.chunksize;
  raid_disks = one.raid_disks ∙ two.raid_disks;
  new_level = one.new_level ∙ two.new_level;
  reshape_position = one.reshape_position ∙ two.reshape_position;
  delta_disks = one.delta_disks ∙ two.delta_disks;
  new_layout = one.new_layout ∙ two.new_layout;
  new_chunk = one.new_chunk ∙ two.new_chunk;
  resync_offset = one.resync_offset ∙ two.resync_offset;
  reshaping = one.reshaping ∙ two.reshaping;
  backward = one.backward ∙ two.backward;
}

module _ (scope : Scope) (lost : ℕ) (m : Members) (q : Reading) (c : Contents) (said : IsSaidOf m q) (read : IsReadAs scope lost q c) where
  state-found : (role : ℕ) → role_state read.found role ≡ role_state (reading_of m) role
  state-found role = ap (λ (l : List Role). get_or l role Missing) (read.same.roles ∙ said.roles)

  state-said : (role : ℕ) → role_state q role ≡ role_state (reading_of m) role
  state-said role = ap (λ (l : List Role). get_or l role Missing) said.roles

  -- each role has as many rows there
  rows-found : (role : ℕ) → rows_held read.found (role_state (reading_of m) role) ≡ rows_held q (role_state (reading_of m) role)
  rows-found role = of (role_state (reading_of m) role) refl
    where
      of : (state : Role) → role_state (reading_of m) role ≡ state → rows_held read.found state ≡ rows_held q state
      of (Whole slot) is = sym read.same.array.size
      of Missing is = refl
      of (Recovering slot) is =
          let there : role_state q role ≡ Recovering slot = state-said role ∙ is in
          let mine = read-own scope c read.found role slot read.is (ap holder (state-found role ∙ is)) in
          let told = said.own role slot (ap holder is) in
          ap₂ (λ (active : Bool) (n : ℕ). cond active 0 n) (sym read.same.array.reshaping)
          (ap (λ (o : Option Sb). option_map_or (λ sb. sb.recovery_offset) o 0) mine.1
          ∙ (read.same.devices role slot (ap holder there)).recovery mine.0 told.0 mine.1 told.1 (said.recovering role slot told.0 there told.1)
          ∙ sym (ap (λ (o : Option Sb). option_map_or (λ sb. sb.recovery_offset) o 0) told.1))

  pub read-of : IsReadOf scope m read.found
  read-of = record {
    array = says-then m.newest q.newest read.found.newest said.array read.same.array;
    roles = read.same.roles ∙ said.roles;
    rows = λ role. rows-found role ∙ said.rows role;
    offsets = λ role slot held.
        let mine = read-own scope c read.found role slot read.is (ap holder (state-found role) ∙ held) in
        let told = said.own role slot held in
        ap (λ (o : Option Sb). option_map_or (λ sb. sb.data_offset) o 0) mine.1
        ∙ (read.same.devices role slot (ap holder (state-said role) ∙ held)).start mine.0 told.0 mine.1 told.1 ∙ told.2;
    refused = read.same.refusal ∙ refused-same q.newest read.found.newest read.same.array q.roles ∙ ap (roles_refusal read.found.newest) (sym read.same.roles);
  }
