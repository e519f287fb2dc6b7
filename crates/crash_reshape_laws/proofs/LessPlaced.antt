-- Views with fewer roles are placed; and what reads as planned in an update is read so.
use Rattle.std.proofs.Common.{◌≡◌, inr, ℕ, ◌+◌, ◌<◌, ◌==◌, ◌||◌, nat_lt, max, Bool, true, false, not, cond, Option, Some, None, refl, sym, ◌∙◌, ap, subst, arith}
use Rattle.std.specs.Prelude.{IsTrue}
use Rattle.std.proofs.lemmas.Bool.Decides.{nat_tests}
use Rattle.crash_safety_laws.specs.raid_types_the_Shape.{Shape}
use Rattle.crash_safety_laws.specs.raid_types_the_Refusal_TheVariants.{PositionNotOnUnit}
use Rattle.crash_safety_laws.specs.raid_types_the_Role.{Role}
use Rattle.crash_safety_laws.specs.raid_types_the_Role_TheVariants.{Whole, Recovering, Missing}
use Rattle.crash_safety_laws.specs.raid_types_Sectors.{zero_sector}
use Rattle.crash_safety_laws.specs.raid_types_Shapes.{is_valid_shape, is_multiple}
use Rattle.crash_safety_laws.specs.reshape_geometry_Geometry.{unit, is_size}
use Rattle.crash_safety_laws.specs.raid_layout_Layout.{row_roles}
use Rattle.crash_safety_laws.specs.sb_codec_the_Sb.{Sb}
use Rattle.crash_safety_laws.specs.sb_specs_Reads.{SaysSame}
use Rattle.crash_safety_laws.specs.sb_specs_Update.{own_in}
use Rattle.std.specs.Option.{option_map_or}
use Rattle.crash_safety_laws.specs.sb_specs_Reading.{shape_of, final_shape, list_length, role_state, rows_held, holder, data_offset_of}
use Rattle.crash_safety_laws.specs.stripe_row_Rows.{reading_of}
use Rattle.crash_safety_laws.specs.stripe_row_Writes.{is_parity}
use Rattle.crash_safety_laws.proofs.stripe_row_Losses.{holder-of}
use Rattle.crash_safety_laws.specs.stripe_list_Full.{full_sector, RowStands}
use Rattle.crash_safety_laws.specs.crash_views_Regions.{AreShapesFit}
use Rattle.crash_safety_laws.specs.Updates.{planned_view}
use Rattle.crash_reshape_laws.specs.Plans.{LessIsPlaced, PlannedIsSeen, FlushedIsZeroed}
use Rattle.crash_safety_laws.proofs.crash_views_Alike.{shape-alike, final-alike, length-alike, backup-alike}
use Rattle.crash_safety_laws.proofs.crash_views_Stands.{alone}
use Rattle.crash_safety_laws.proofs.UpdateViews.{planned-is-read}
use Rattle.crash_safety_laws.proofs.PlansLose.{plans-lose}

-- ---- the shapes

module _ (M N : Sb) (a : SaysSame M N) (fit : AreShapesFit M) where
  old-is : shape_of M ≡ shape_of N
  old-is = shape-alike M N a

  new-is : final_shape M ≡ final_shape N
  new-is = final-alike M N a

  long-is : list_length M ≡ list_length N
  long-is = length-alike M N a

  pub fits-alike : AreShapesFit N
  fits-alike = record {
    valid = record {
      old = subst (λ (s : Shape). IsTrue (is_valid_shape s)) old-is fit.valid.old;
      final = subst (λ (s : Shape). IsTrue (is_valid_shape s)) new-is fit.valid.final;
    };
    size = sym (λ i. is_size (a.size i) (old-is i).chunk) ∙ fit.size;
    final_size = sym (λ i. is_size (a.size i) (new-is i).chunk) ∙ fit.final_size;
    level = ap (λ (s : Shape). s.level) (sym new-is) ∙ fit.level ∙ ap (λ (s : Shape). s.level) old-is;
    unit = sym (λ i. cond (not (a.reshaping i) || is_multiple (a.reshape_position i) (unit (old-is i) (new-is i)) || (a.reshape_position i == long-is i)) None (Some (PositionNotOnUnit (a.reshape_position i) (unit (old-is i) (new-is i))))) ∙ fit.unit;
    position = λ active. (let le = fit.position (a.reshaping ∙ active) in let p = a.reshape_position in let l = long-is in omega (arith, le, p, l));
    delta = λ active forth. (
        let le = fit.delta (a.reshaping ∙ active) (a.backward ∙ forth) in
        let o = ap (λ (s : Shape). s.disks) old-is in
        let n = ap (λ (s : Shape). s.disks) new-is in
        omega (arith, le, o, n));
    delta_back = λ active back. (
        let le = fit.delta_back (a.reshaping ∙ active) (a.backward ∙ back) in
        let o = ap (λ (s : Shape). s.disks) old-is in
        let n = ap (λ (s : Shape). s.disks) new-is in
        omega (arith, le, o, n));
  }

pub less-placed : LessIsPlaced
less-placed scope given m view less placed = record {
  fit = fits-alike m.newest view.newest less.array placed.fit;
  roles = less.roles ∙ placed.roles ∙ (λ i. max (shape-alike m.newest view.newest less.array i).disks (final-alike m.newest view.newest less.array i).disks);
  holders = λ role slot held. (
      let h = placed.holders role slot (was role slot held) in
      let off = less.offsets role slot held in
      let size = less.array.size in
      let w = h.within in
      record { small = h.small; known = h.known; short = h.short; within = omega (arith, off, size, w) });
  behind = λ role slot held. (let b = placed.behind role slot (was role slot held) in let off = less.offsets role slot held in omega (arith, b, off));
  members_own = λ role slot held. placed.members_own role slot (was role slot held);
  apart = λ a b slot one two. placed.apart a b slot (was a slot one) (was b slot two);
  backup = sym (backup-alike m.newest view.newest less.array scope) ∙ placed.backup;
}
  where
    was : (role slot : ℕ) → holder (role_state (reading_of view) role) ≡ Some slot → holder (role_state (reading_of m) role) ≡ Some slot
    was role slot held = sym (ap holder (less.states role slot held)) ∙ held

pub planned-seen : PlannedIsSeen
planned-seen scope given known told after former members change before live last c r left_own said one placed gone =
    let less = plans-lose members change members.lost r.named r.more one in
    inr (
      planned_view members change r.named,
      r.reads.found,
      r.reads.is,
      planned-is-read scope known members change before live last c r left_own said,
      record { less = less; placed = less-placed scope given (planned_view members change members.lost) (planned_view members change r.named) less placed; gone = gone },
    )

-- ---- zeroed rows

pub flushed-zeroed : FlushedIsZeroed
flushed-zeroed scope given m c d placed active flushed stands role row slot lt past held v is =
    let own = holder-of (reading_of m) role row slot held in
    let row-stands = stands row past (below (role_state (reading_of m) role) held) in
    alone (d slot (data_offset_of (reading_of m) slot + row)) v (c slot (data_offset_of (reading_of m) slot + row))
    (flushed role slot (data_offset_of (reading_of m) slot + row) own (λ e. absurd (let far = placed.behind role slot own in omega (arith, e, far)))) is
    ∙ of (is_parity (row_roles (final_shape m.newest) row) role) refl row-stands
  where
    less-than : (b : ℕ) (o : Option ℕ) → cond (nat_lt row b) o None ≡ Some slot → row < b
    less-than b o e = from (nat_lt row b) refl e
      where
        from : (t : Bool) → nat_lt row b ≡ t → cond t o None ≡ Some slot → row < b
        from true is e = grind (arith, nat_tests, is)
        from false is e = absurd (cc)

    -- a row that a slot holds while a reshape is active is one of its rows
    below : (state : Role) → cond (nat_lt row (rows_held (reading_of m) state)) (holder state) None ≡ Some slot → row < m.newest.size
    below (Whole s) e = less-than m.newest.size (Some s) e
    below (Recovering s) e = absurd (
        let lt = less-than (rows_held (reading_of m) (Recovering s)) (Some s) e in
        let none : rows_held (reading_of m) (Recovering s) ≡ 0 = ap (λ (b : Bool). cond b 0 (option_map_or (λ sb. sb.recovery_offset) (own_in m.own s) 0)) active in
        omega (arith, lt, none))
    below Missing e = absurd (let lt = less-than 0 None e in omega (arith, lt))

    of : (b : Bool) → is_parity (row_roles (final_shape m.newest) row) role ≡ b → RowStands (reading_of m) c (final_shape m.newest) (λ x. zero_sector) row
        → c slot (data_offset_of (reading_of m) slot + row) ≡ full_sector (final_shape m.newest) (λ x. zero_sector) row role
    of true part row-stands = row-stands.parity role slot lt part held
    of false part row-stands = row-stands.sectors role slot lt part held
