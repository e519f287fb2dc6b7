-- Views that have less than others, one after the other.
use Rattle.std.proofs.Common.{◌≡◌, ℕ, Some, refl, sym, ◌∙◌, ap}
use Rattle.sb_update.specs.raid_types_the_Role.{Role}
use Rattle.sb_update.specs.raid_types_the_Role_TheVariants.{Whole, Recovering, Missing}
use Rattle.sb_update.specs.sb_codec_the_Sb.{Sb}
use Rattle.sb_update.specs.sb_specs_the_Members.{Members}
use Rattle.sb_update.specs.sb_specs_Reading.{holder, role_state, rows_held}
use Rattle.sb_update.specs.sb_specs_Reads.{SaysSame}
use Rattle.crash_reshape_laws.specs.stripe_row_Rows.{reading_of}
use Rattle.crash_reshape_laws.specs.crash_safety_laws_Updates.{IsLessView}

pub says-then : (a b c : Sb) → SaysSame a b → SaysSame b c → SaysSame a c
says-then a b c one two = record {
  level = one.level ∙ two.level;
  layout = one.layout ∙ two.layout;
  size = one.size ∙ two.size;
  chunksize = one.chunksize ∙ two.chunksize;
  raid_disks = one.raid_disks ∙ two.raid_disks;
  new_level = one.new_level ∙ two.new_level;
  reshape_position = one.reshape_position ∙ two.reshape_position;
  delta_disks = one.delta_disks ∙ two.delta_disks;
  new_layout = one.new_layout ∙ two.new_layout;
  new_chunk = one.new_chunk ∙ two.new_chunk;
  resync_offset = one.resync_offset ∙ two.resync_offset;
  reshaping = one.reshaping ∙ two.reshaping;
  backward = one.backward ∙ two.backward;
}

pub less-then : (a b c : Members) → IsLessView a b → IsLessView b c → IsLessView a c
less-then a b c one two = record {
  array = says-then a.newest b.newest c.newest one.array two.array;
  roles = two.roles ∙ one.roles;
  states = λ role slot held. let same = two.states role slot held in same ∙ one.states role slot (ap holder (sym same) ∙ held);
  rows = λ role. rows-are role (role_state (reading_of c) role) refl;
  offsets = λ role slot held. two.offsets role slot held ∙ one.offsets role slot (ap holder (sym (two.states role slot held)) ∙ held);
  missing = λ role is. two.missing role (one.missing role is);
}
  where
    rows-of : (role slot : ℕ) (state : Role) → role_state (reading_of c) role ≡ state → holder state ≡ Some slot
        → rows_held (reading_of c) (role_state (reading_of c) role) ≡ rows_held (reading_of a) (role_state (reading_of c) role)
    rows-of role slot state is held =
        let same = two.states role slot (ap holder is ∙ held) in
        two.rows role ∙ ap (rows_held (reading_of b)) same ∙ one.rows role ∙ ap (rows_held (reading_of a)) (sym same)

    rows-are : (role : ℕ) (state : Role) → role_state (reading_of c) role ≡ state
        → rows_held (reading_of c) (role_state (reading_of c) role) ≡ rows_held (reading_of a) (role_state (reading_of c) role)
    rows-are role (Whole slot) is = rows-of role slot (Whole slot) is refl
    rows-are role (Recovering slot) is = rows-of role slot (Recovering slot) is refl
    rows-are role Missing is = ap (rows_held (reading_of c)) is ∙ sym (ap (rows_held (reading_of a)) is)
