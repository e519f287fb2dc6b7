-- The change that ends a reshape is what the laws of an end ask for.
use Rattle.std.proofs.Common.{◌≡◌, ◌⊎◌, inl, inr, ℕ, ◌+◌, ◌-◌, ◌^◌, ◌<◌, ◌≤◌, ◌==◌, ◌||◌, true, false, Bool, not, cond, min, max, length, drop, Option, Some, None, unwrap_or, get_or, refl, sym, ◌∙◌, ap, subst, arith}
use Rattle.std.specs.Prelude.{pos, ◌-ℤ◌}
use Rattle.std.specs.Int.{bit_at}
use Rattle.std.proofs.lemmas.Bool.{cases_lt}
use Rattle.std.proofs.lemmas.List.{get_or_past, get_or-drop}
use Rattle.std.proofs.lemmas.Nat.Bits.{bit_at_and}
use Rattle.sb_update.specs.raid_types_the_Shape.{Shape}
use Rattle.sb_update.specs.raid_types_the_Role.{Role}
use Rattle.sb_update.specs.raid_types_the_Role_TheVariants.{Missing, Whole, Recovering}
use Rattle.sb_update.specs.raid_types_the_Refusal_TheVariants.{PositionNotOnUnit, BackupAbsent}
use Rattle.sb_update.specs.raid_types_Shapes.{is_multiple, is_valid_shape}
use Rattle.sb_update.proofs.raid_types_Tabulated.{length-tabulate, get_or-tabulate}
use Rattle.sb_update.specs.sb_codec_the_Sb.{Sb}
use Rattle.sb_update.specs.reshape_geometry_Geometry.{is_size, unit}
use Rattle.sb_update.proofs.raid_layout_Limits.{limited}
use Rattle.sb_update.specs.sb_specs_the_Give.{Give}
use Rattle.sb_update.specs.sb_specs_the_Give_TheVariants.{Same, Spare}
use Rattle.sb_update.specs.sb_specs_the_Give_TheVariants as give
use Rattle.sb_update.specs.sb_specs_the_Members.{Members}
use Rattle.sb_update.specs.sb_specs_Reading.{Scope, is_reshaping, is_backward, shape_of, final_shape, role_count, list_length, role_state, holder, count_of}
use Rattle.sb_update.specs.sb_specs_Reads.{SaysSame}
use Rattle.sb_update.specs.sb_specs_Verdict.{unit_of}
use Rattle.sb_update.specs.sb_specs_Update.{IsRoleGive, give_of, planned_role}
use Rattle.sb_update.specs.sb_specs_Updating.{planned_newest}
use Rattle.crash_reshape_laws.proofs.sb_read_laws_SaidLists.{role-holder}
use Rattle.crash_reshape_laws.specs.stripe_row_Rows.{reading_of}
use Rattle.crash_reshape_laws.specs.history_Stands.{backup_absent, has_room}
use Rattle.crash_reshape_laws.specs.crash_views_Regions.{AreShapesFit, ArePlaced, DoWithout}
use Rattle.crash_reshape_laws.proofs.crash_views_Alike.{shape-alike, backup-alike}
use Rattle.crash_reshape_laws.specs.crash_safety_laws_Kinds.{IsDropping}
use Rattle.crash_reshape_laws.specs.crash_safety_laws_Updates.{planned_view, HasOneHolder, IsAtEnd}
use Rattle.crash_reshape_laws.proofs.crash_safety_laws_PlannedRoles.{says-shared, count-planned}
use Rattle.crash_reshape_laws.proofs.crash_safety_laws_KeptSafe.{fits-alike}
use Rattle.crash_reshape_laws.proofs.crash_safety_laws_Without.{any-holds, any-held}
use Rattle.crash_reshape_laws.specs.Ends.{IsEnded}
use Rattle.crash_reshape_laws.specs.Plans.{HasNoneRecovering}
use Rattle.crash_reshape_laws.proofs.PlanRoles.{plans-keep, planned-ended}
use Rattle.crash_reshape_laws.proofs.GrownStanding.{grown-without}
use Rattle.crash_reshape_laws.proofs.PlanPlaced.{planned-placed}
use Rattle.sb_update.specs.bank_Given.{Given}
use Rattle.reshape_sb_updates.specs.Ending.{with_new_shape, HasEnded, holds_from, dropped_give, ending}

-- what says the same has ended too
pub ended-alike : (former M N : Sb) → SaysSame M N → HasEnded former M → HasEnded former N
ended-alike former M N a b = record {
  still = sym a.reshaping ∙ b.still;
  shape = sym (shape-alike M N a) ∙ b.shape;
  size = sym a.size ∙ b.size;
  clean = sym a.resync_offset ∙ b.clean;
}

-- ---- its fields

module _ (sb : Sb) (active : is_reshaping sb ≡ true) (fit : AreShapesFit sb) where
  abbrev Then : Sb
  Then = with_new_shape sb

  pub still : is_reshaping Then ≡ false
  still = ap (λ (n : ℕ). n == 1) (bit_at_and sb.feature_map (2 ^ 32 - 1 - (4 + 32)) 2 ∙ ap (min (bit_at sb.feature_map 2)) (let e : bit_at (2 ^ 32 - 1 - (4 + 32)) 2 ≡ 0 = refl in e) ∙ nothing (bit_at sb.feature_map 2))
    where
      nothing : (n : ℕ) → min n 0 ≡ 0
      nothing n = omega arith

  abbrev New : Shape
  New = record { level = sb.new_level; layout = sb.new_layout; chunk = sb.new_chunk; disks = sb.raid_disks }

  pub final-is : final_shape sb ≡ New
  final-is = ap (λ (b : Bool). unwrap_or (cond b (Some New) None) (shape_of sb)) active

  new-shape : shape_of Then ≡ New
  new-shape = ap (λ (b : Bool). record { level = sb.new_level; layout = sb.new_layout; chunk = sb.new_chunk; disks = cond b (count_of (pos sb.raid_disks -ℤ pos 0)) sb.raid_disks }) still

  pub shape-is : shape_of Then ≡ final_shape sb
  shape-is = new-shape ∙ sym final-is

  pub one-shape : final_shape Then ≡ shape_of Then
  one-shape = ap (λ (b : Bool). unwrap_or (cond b (Some (record { level = 0; layout = 0; chunk = 0; disks = sb.raid_disks })) None) (shape_of Then)) still

  pub has-ended : HasEnded sb Then
  has-ended = record { still = still; shape = shape-is; size = refl; clean = refl }

  pub count-is : role_count Then ≡ (final_shape sb).disks
  count-is = ap (λ (s : Shape). max (shape_of Then).disks s.disks) one-shape ∙ ap (λ (s : Shape). max s.disks s.disks) shape-is ∙ (let n = (final_shape sb).disks in both n)
    where
      both : (n : ℕ) → max n n ≡ n
      both n = omega arith

  final-then : final_shape Then ≡ final_shape sb
  final-then = one-shape ∙ shape-is

  pub fits : AreShapesFit Then
  fits = record {
    valid = record { old = ap is_valid_shape shape-is ∙ fit.valid.final; final = ap is_valid_shape final-then ∙ fit.valid.final };
    size = ap (λ (s : Shape). is_size sb.size s.chunk) shape-is ∙ fit.final_size;
    final_size = ap (λ (s : Shape). is_size sb.size s.chunk) final-then ∙ fit.final_size;
    level = ap (λ (s : Shape). s.level) one-shape;
    unit = ap (λ (b : Bool). cond (not b || is_multiple 0 (unit_of Then) || (0 == list_length Then)) None (Some (PositionNotOnUnit 0 (unit_of Then)))) still;
    position = λ a. absurd (let clash = sym still ∙ a in cc);
    delta = λ a forth. absurd (let clash = sym still ∙ a in cc);
    delta_back = λ a back. absurd (let clash = sym still ∙ a in cc);
  }

  pub no-backup : (scope : Scope) → backup_absent scope Then ≡ None
  no-backup scope = ap (λ (b : Bool). cond (not b || has_room scope (min (unit (shape_of Then) (final_shape Then)) (list_length Then))) None (Some BackupAbsent)) still

-- ---- the change

module _ (old : Members) (active : is_reshaping old.newest ≡ true) (fit : AreShapesFit old.newest) (roles : length old.roles ≡ role_count old.newest)
    (small : (role slot : ℕ) → holder (role_state (reading_of old) role) ≡ Some slot → slot < 32) (whole : HasNoneRecovering old) where
  abbrev disks : ℕ
  disks = old.newest.raid_disks

  pub disks-are : disks ≡ (final_shape old.newest).disks
  disks-are = ap (λ (s : Shape). s.disks) (sym (final-is old.newest active fit))

  pub disks-below : disks ≤ length old.roles
  disks-below = (let a = disks-are in let b = roles in omega (arith, a, b))

  pub few : role_count (ending old).shared ≤ 16
  few = (let a = count-is old.newest active fit in let b = (limited (final_shape old.newest) fit.valid.final).most in omega (arith, a, b))

  -- each stays what it is, or holds a role from that one on, whole
  pub dropped-or : (s : ℕ) → ((give_of (ending old).gives s ≡ Same) × (s < 32 → holds_from old.roles disks s ≡ false))
      ⊎ ((give_of (ending old).gives s ≡ Spare) × (role : ℕ) × (get_or old.roles role Missing ≡ Whole s))
  dropped-or s = elim (cases_lt s 32) [
    | inl lt ↦ of lt (holds_from old.roles disks s) refl
    | inr past ↦ inl (get_or_past (ending old).gives s Same (let long = length-tabulate 32 (dropped_give old.roles disks) in omega (arith, past, long)), λ lt. absurd (omega (arith, lt, past)))
  ]
    where
      held-whole : (role : ℕ) (state : Role) → get_or old.roles role Missing ≡ state → holder state ≡ Some s → get_or old.roles role Missing ≡ Whole s
      held-whole role (Whole t) is held = is ∙ ap Whole (let e : t ≡ s = cc in e)
      held-whole role (Recovering t) is held = absurd (whole role t is)
      held-whole role Missing is held = absurd (cc)

      of : s < 32 → (b : Bool) → holds_from old.roles disks s ≡ b → ((give_of (ending old).gives s ≡ Same) × (s < 32 → holds_from old.roles disks s ≡ false))
          ⊎ ((give_of (ending old).gives s ≡ Spare) × (role : ℕ) × (get_or old.roles role Missing ≡ Whole s))
      of lt true is =
          let found = any-holds s (drop disks old.roles) is in
          inr (
            get_or-tabulate 32 (dropped_give old.roles disks) s Same lt ∙ ap (λ (b : Bool). cond b Spare Same) is,
            disks + found.0,
            held-whole (disks + found.0) (get_or old.roles (disks + found.0) Missing) refl (ap holder (sym (get_or-drop disks old.roles found.0 Missing)) ∙ found.1),
          )
      of lt false is = inl (get_or-tabulate 32 (dropped_give old.roles disks) s Same lt ∙ ap (λ (b : Bool). cond b Spare Same) is, λ lt. is)

  pub dropped-roles : (s : ℕ) → IsRoleGive (give_of (ending old).gives s)
  dropped-roles s = elim (dropped-or s) [ inl (same, rest) ↦ subst IsRoleGive (sym same) tt | inr (spare, other, rest) ↦ subst IsRoleGive (sym spare) tt ]

  -- who holds a role from that one on
  holds-late : (s role : ℕ) → disks ≤ role → holder (get_or old.roles role Missing) ≡ Some s → holds_from old.roles disks s ≡ true
  holds-late s role from held = any-held s (drop disks old.roles) (role - disks)
      (ap holder (get_or-drop disks old.roles (role - disks) Missing ∙ ap (λ (r : ℕ). get_or old.roles r Missing) (let e : disks + (role - disks) ≡ role = omega (arith, from) in e)) ∙ held)

  pub dropped-spare : (s role : ℕ) → disks ≤ role → holder (get_or old.roles role Missing) ≡ Some s → give_of (ending old).gives s ≡ Spare
  dropped-spare s role from held = get_or-tabulate 32 (dropped_give old.roles disks) s Same (small role s held) ∙ ap (λ (b : Bool). cond b Spare Same) (holds-late s role from held)

  pub dropping : IsDropping old (ending old)
  dropping = record {
    none = refl;
    size = refl;
    each = λ s. elim (dropped-or s) [ inl (same, rest) ↦ inl same | inr dropped ↦ inr dropped ];
    below = λ s role kept same held. elim (cases_lt role disks) [
      | inl lt ↦ (let a = count-is old.newest active fit in let b = disks-are in omega (arith, a, b, lt))
      | inr from ↦ absurd (let clash = sym same ∙ dropped-spare s role from held in cc)
    ];
  }

  pub dropping-one : HasOneHolder old (ending old) old.lost
  dropping-one s t role kept kept' is is' = (let both : ◌≡◌ {A = Option ℕ} (Some s) (Some t) = sym (held s role is) ∙ held t role is' in cc)
    where
      held : (s role : ℕ) → planned_role old.roles (give_of (ending old).gives s) s ≡ Some role → holder (get_or old.roles role Missing) ≡ Some s
      held s role is = elim (dropped-or s) [
        | inl (same, rest) ↦ role-holder s old.roles role (sym (ap (λ (g : Give). planned_role old.roles g s) same) ∙ is)
        | inr (spare, other, rest) ↦ absurd (let none : ◌≡◌ {A = Option ℕ} None (Some role) = sym (ap (λ (g : Give). planned_role old.roles g s) spare) ∙ is in cc)
      ]

  no-role : (s role : ℕ) (recovery : Option ℕ) → give_of (ending old).gives s ≡ give.Role role recovery → ⊥
  no-role s role recovery gets = elim (dropped-or s) [
    | inl (same, rest) ↦ absurd (let clash = sym same ∙ gets in cc)
    | inr (spare, other, rest) ↦ absurd (let clash = sym spare ∙ gets in cc)
  ]

  pub planned-ended-is : HasEnded old.newest (planned_newest (ending old).shared old.newest)
  planned-ended-is = ended-alike old.newest (ending old).shared (planned_newest (ending old).shared old.newest) (says-shared old (ending old)) (has-ended old.newest active fit)

  pub planned-fits-is : AreShapesFit (planned_newest (ending old).shared old.newest)
  planned-fits-is = fits-alike (ending old).shared (planned_newest (ending old).shared old.newest) (says-shared old (ending old)) (fits old.newest active fit)

  pub is-ended : IsAtEnd old.newest → (named : ℕ) → (DoWithout (planned_view old (ending old) named) → DoWithout old) → IsEnded old (planned_view old (ending old) named)
  is-ended last named without = planned-ended old (ending old) named (record { size = refl; clean = refl }) active planned-ended-is.still planned-ended-is.shape last
      (λ s role recovery gets. absurd (no-role s role recovery gets)) whole without

  pub plan-placed-is : (scope : Scope) (given : Given) (named : ℕ) → ArePlaced scope given old → ArePlaced scope given (planned_view old (ending old) named)
  plan-placed-is scope given named placed = planned-placed scope given old (ending old) named placed refl (count-planned old (ending old)) planned-fits-is
      (sym (backup-alike (ending old).shared (planned_newest (ending old).shared old.newest) (says-shared old (ending old)) scope) ∙ no-backup old.newest active fit scope)
      (λ s role recovery gets. absurd (no-role s role recovery gets))

  -- Forward the old shape can do without what the new one can.
  pub without-is : (scope : Scope) (given : Given) (named : ℕ) → ArePlaced scope given old → (is_backward old.newest ≡ true → DoWithout (planned_view old (ending old) named) → DoWithout old)
      → DoWithout (planned_view old (ending old) named) → DoWithout old
  without-is scope given named placed back few = of (is_backward old.newest) refl
    where
      of : (b : Bool) → is_backward old.newest ≡ b → DoWithout old
      of true is = back is few
      of false is = grown-without scope given old (planned_view old (ending old) named) placed active is planned-ended-is.still planned-ended-is.shape
          (plans-keep old (ending old) named (final_shape old.newest).disks (λ s role recovery gets. absurd (no-role s role recovery gets)) refl (λ on. whole)).1 few
