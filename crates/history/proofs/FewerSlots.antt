-- An array that is the same in fewer slots stands for the same list there.
use Rattle.std.proofs.Common.{◌≡◌, ◌≢◌, inl, inr, ℕ, ◌+◌, ◌*◌, true, not, ◌&&◌, ◌||◌, ◌==◌, cond, nat_lt, List, [], ◌∷◌, get_or, Option, Some, None, unwrap_or, option_map, find, refl, sym, ◌∙◌, ap, arith}
use Rattle.std.specs.Option.{option_map_or, option_or}
use Rattle.std.proofs.lemmas.Bool.{cases_lt}
use Rattle.std.proofs.lemmas.List.{get_or_past}
use Rattle.raid_types.specs.declared.places.Shape.{Shape}
use Rattle.raid_types.specs.declared.places.Span.{Span}
use Rattle.raid_types.specs.declared.status.Role.{Role}
use Rattle.raid_types.specs.declared.status.Role.TheVariants.{Whole, Recovering, Missing}
use Rattle.raid_types.specs.declared.answers.Refusal.{Refusal}
use Rattle.raid_types.specs.declared.answers.Refusal.TheVariants.{NoSuperblock, Unsupported, BadField, TwoHolders, MembersMissing, DirtyDegraded, PositionNotOnUnit, BackupAbsent}
use Rattle.raid_types.specs.Sectors.{Sector}
use Rattle.raid_types.specs.Shapes.{has_slot, is_multiple}
use Rattle.raid_types.specs.Search.{tabulate}
use Rattle.raid_types.proofs.Tabulated.{length-tabulate, get_or-tabulate}
use Rattle.sb_read_laws.specs.sb_codec_the_Sb.{Sb}
use Rattle.sb_read_laws.specs.sb_codec_Features.{refused_bits}
use Rattle.sb_read_laws.specs.sb_codec_Superblock.{superblock_in}
use Rattle.bank.specs.Tape.{Contents}
use Rattle.sb_read_laws.specs.raid_layout_Layout.{place, row_roles}
use Rattle.raid_parity.specs.Parity.{fill}
use Rattle.sb_read_laws.specs.sb_specs_Reading.{Scope, Reading, reading, superblocks, seen_superblock, of_array, is_backup, role_state, rows_held, holder, own_of, data_offset_of, next_window, list_length, is_reshaping}
use Rattle.sb_read_laws.specs.sb_specs_Verdict.{first_of_all, members_missing, unsupported, bad_field, first_bad_entry, fresh_from, two_holders, shared_dev, dirty_degraded, off_unit, judged_fields, unit_of, members_refusal}
use Rattle.sb_read_laws.proofs.SaidSlots.{read-parts}
use Rattle.bank_backup.specs.Section.{has_section, section_sector}
use Rattle.history.specs.ActiveSection.{section_for, active_section}
use Rattle.history.specs.Stands.{stands, verdict, refusal_of, backup_absent, has_room, reach_of, standing_sector, placed_sector, held_sector, shape_for, covers}
use Rattle.history.specs.Reopened.{IsSameArray}
use Rattle.history.proofs.GivenLaws.{holder-given}
use Rattle.history.proofs.VerdictLaws.{IsAmong, first-among, mapped-apart, or-apart, unless-apart, or-either}

-- ---- the list

-- the same scope with other given slots
abbrev pub in_slots : Scope → ℕ → Scope
in_slots scope fewer = record { uuid = scope.uuid; given = fewer; backup = scope.backup; sizes = scope.sizes }

module _ (scope : Scope) (fewer : ℕ) (c : Contents) (r q : Reading) (is : reading scope c ≡ Some r) (is' : reading (in_slots scope fewer) c ≡ Some q)
    (within : (slot : ℕ) → has_slot fewer slot ≡ true → has_slot scope.given slot ≡ true)
    (sections : (slot : ℕ) → scope.backup ≡ Some slot → has_slot fewer slot ≡ has_slot scope.given slot) (newest : q.newest ≡ r.newest) (roles : q.roles ≡ r.roles) where
  own-listed : (s : Scope) (x : Reading) → reading s c ≡ Some x → (slot : ℕ) → own_of x slot ≡ get_or (superblocks s c) slot None
  own-listed s x e slot = ap (λ (y : Reading). own_of y slot) (read-parts s c x e).1

  -- a slot that is looked at in both has its superblock in both
  own-same : (slot : ℕ) → has_slot fewer slot ≡ true → own_of q slot ≡ own_of r slot
  own-same slot held = own-listed (in_slots scope fewer) q is' slot ∙ elim (cases_lt slot scope.sizes.slots) [
    | inl below ↦
        get_or-tabulate scope.sizes.slots (λ s. of_array scope.uuid (seen_superblock (in_slots scope fewer) c s)) slot None below
        ∙ ap (λ b. of_array scope.uuid (cond (b && not (is_backup scope.backup slot)) (superblock_in (scope.sizes.sectors slot) (c slot)) None)) (held ∙ sym (within slot held))
        ∙ sym (get_or-tabulate scope.sizes.slots (λ s. of_array scope.uuid (seen_superblock scope c s)) slot None below)
    | inr past ↦
        get_or_past (superblocks (in_slots scope fewer) c) slot None (omega (arith, past, length-tabulate scope.sizes.slots (λ s. of_array scope.uuid (seen_superblock (in_slots scope fewer) c s))))
        ∙ sym (get_or_past (superblocks scope c) slot None (omega (arith, past, length-tabulate scope.sizes.slots (λ s. of_array scope.uuid (seen_superblock scope c s)))))
  ] ∙ sym (own-listed scope r is slot)

  state-same : (role : ℕ) → role_state q role ≡ role_state r role
  state-same role = ap (λ (l : List Role). get_or l role Missing) roles

  held-same : (role row : ℕ) → held_sector c q role row ≡ held_sector c r role row
  held-same role row = by (role_state q role) refl (sym (state-same role))
    where
      own-held : (slot : ℕ) → holder (role_state q role) ≡ Some slot → own_of q slot ≡ own_of r slot
      own-held slot held = own-same slot (holder-given (in_slots scope fewer) c q role slot is' held)

      sector : Reading → Role → Option Sector
      sector x state = cond (nat_lt row (rows_held x state)) (option_map (λ slot. c slot (data_offset_of x slot + row)) (holder state)) None

      of : (state : Role) → role_state q role ≡ state → sector q state ≡ sector r state
      of (Whole slot) at =
          let own = own-held slot (ap holder at) in
          λ i. cond (nat_lt row (newest i).size) (Some (c slot (option_map_or (λ sb. sb.data_offset) (own i) 0 + row))) None
      of (Recovering slot) at =
          let own = own-held slot (ap holder at) in
          λ i. cond (nat_lt row (cond (is_reshaping (newest i)) 0 (option_map_or (λ sb. sb.recovery_offset) (own i) 0))) (Some (c slot (option_map_or (λ sb. sb.data_offset) (own i) 0 + row))) None
      of Missing at = refl

      by : (state : Role) → role_state q role ≡ state → role_state r role ≡ state → held_sector c q role row ≡ held_sector c r role row
      by state at at' = ap (sector q) at ∙ of state at ∙ sym (ap (sector r) at')

  placed-same : (shape : Shape) (x : ℕ) → placed_sector c q shape x ≡ placed_sector c r shape x
  placed-same shape x =
      let row : ℕ = (place shape x).row in
      λ i. unwrap_or (held-same (place shape x).role row i) (fill (row_roles shape row) (tabulate shape.disks (λ role. held-same role row i)) (place shape x).role)

  active-same : active_section (in_slots scope fewer) c q ≡ active_section scope c r
  active-same = ap (section_for (in_slots scope fewer) c scope.backup) (ap next_window newest) ∙ by scope.backup (next_window r.newest) refl
    where
      by : (backup : Option ℕ) (window : Option Span) → scope.backup ≡ backup → section_for (in_slots scope fewer) c backup window ≡ section_for scope c backup window
      by (Some slot) (Some span) at = ap (λ b. cond (b && has_section scope.uuid (scope.sizes.sectors slot) (c slot) span) (Some span) None) (sections slot at)
      by (Some slot) None at = refl
      by None window at = refl

  standing-same : (x : ℕ) → standing_sector (in_slots scope fewer) c q x ≡ standing_sector scope c r x
  standing-same x =
      let placed : placed_sector c q (shape_for q.newest x) x ≡ placed_sector c r (shape_for r.newest x) x =
      ap (λ (n : Sb). placed_sector c q (shape_for n x) x) newest ∙ placed-same (shape_for r.newest x) x in
      λ i. cond (covers (active-same i) x) (option_map_or (λ span. section_sector (c (unwrap_or scope.backup 0)) span x) (active-same i) []) (placed i)

  pub stands-same : stands (in_slots scope fewer) c ≡ stands scope c
  unfolding stands
  stands-same =
      ap (λ (o : Option Reading). option_map_or (λ x. tabulate (list_length x.newest) (standing_sector (in_slots scope fewer) c x)) o []) is'
      ∙ (λ i. tabulate (list_length (newest i)) (λ x. standing-same x i))
      ∙ sym (ap (λ (o : Option Reading). option_map_or (λ x. tabulate (list_length x.newest) (standing_sector scope c x)) o []) is)

-- ---- the verdict

both_none : (a b : Option Refusal) → option_or a b ≡ None → (a ≡ None) × (b ≡ None)
both_none None b e = (refl, e)
both_none (Some x) b e = absurd (cc)

-- what is accepted has few missing roles, and isn't dirty without one
pub accepted-roles : (scope : Scope) (c : Contents) → verdict scope c ≡ None
    → (q : Reading) × (reading scope c ≡ Some q) × (members_missing q.newest q.roles ≡ None) × (dirty_degraded q.newest q.roles ≡ None)
unfolding verdict
accepted-roles scope c none = by (reading scope c) refl none
  where
    parts : (q : Reading) → refusal_of scope q ≡ None → (members_missing q.newest q.roles ≡ None) × (dirty_degraded q.newest q.roles ≡ None)
    parts q e =
        let slots = fresh_from q.newest scope.sizes.sectors 0 q.own in
        let m = both_none (members_refusal scope.sizes.sectors q) (backup_absent scope q.newest) e in
        let a = both_none (unsupported slots) (first_of_all (bad_field q.newest slots ∷ two_holders slots ∷ members_missing q.newest q.roles ∷ dirty_degraded q.newest q.roles ∷ off_unit q.newest ∷ [])) m.0 in
        let b = both_none (bad_field q.newest slots) (first_of_all (two_holders slots ∷ members_missing q.newest q.roles ∷ dirty_degraded q.newest q.roles ∷ off_unit q.newest ∷ [])) a.1 in
        let d = both_none (two_holders slots) (first_of_all (members_missing q.newest q.roles ∷ dirty_degraded q.newest q.roles ∷ off_unit q.newest ∷ [])) b.1 in
        let f = both_none (members_missing q.newest q.roles) (first_of_all (dirty_degraded q.newest q.roles ∷ off_unit q.newest ∷ [])) d.1 in
        (f.0, (both_none (dirty_degraded q.newest q.roles) (first_of_all (off_unit q.newest ∷ [])) f.1).0)

    by : (found : Option Reading) → reading scope c ≡ found → option_map_or (refusal_of scope) found (Some NoSuperblock) ≡ None
        → (q : Reading) × (reading scope c ≡ Some q) × (members_missing q.newest q.roles ≡ None) × (dirty_degraded q.newest q.roles ≡ None)
    by None is e = absurd (cc)
    by (Some q) is e = let p = parts q e in (q, is, p.0, p.1)

-- such a reading isn't refused for its roles
module _ (judged : Refusal) (bits : (n : ℕ) → Unsupported n ≢ judged) (field : (n : ℕ) → BadField n ≢ judged) (two : (n : ℕ) → TwoHolders n ≢ judged) (off : (a b : ℕ) → PositionNotOnUnit a b ≢ judged)
    (backup : BackupAbsent ≢ judged) (nothing : NoSuperblock ≢ judged) (scope : Scope) (c : Contents)
    (roles : (r : Reading) → reading scope c ≡ Some r → (members_missing r.newest r.roles ≡ None) × (dirty_degraded r.newest r.roles ≡ None)) where
  abbrev slots : Reading → List (Sb × ℕ)
  slots r = fresh_from r.newest scope.sizes.sectors 0 r.own

  abbrev refusals : Reading → List (Option Refusal)
  refusals r = unsupported (slots r) ∷ bad_field r.newest (slots r) ∷ two_holders (slots r)
      ∷ members_missing r.newest r.roles ∷ dirty_degraded r.newest r.roles ∷ off_unit r.newest ∷ []

  none-some : (a : Option Refusal) → a ≡ None → a ≡ Some judged → ⊥
  none-some a none some = absurd (let both = sym none ∙ some in cc)

  same-some : (x : Refusal) → Some x ≡ Some judged → x ≡ judged
  same-some x e = cc

  by_kind : (r : Reading) → reading scope c ≡ Some r → IsAmong (refusals r) judged → ⊥
  unfolding IsAmong
  by_kind r is (inl e) = mapped-apart (λ s. Unsupported (refused_bits s.0.feature_map)) (find (λ s. not (refused_bits s.0.feature_map == 0)) (slots r)) judged (λ s. bits (refused_bits s.0.feature_map)) e
  by_kind r is (inr (inl e)) =
      or-apart (option_map (λ f. BadField f.0) (find (λ f. f.1) (judged_fields r.newest (slots r)))) (option_map (λ index. BadField (256 + 2 * index)) (first_bad_entry r.newest (slots r))) judged
      (mapped-apart (λ f. BadField f.0) (find (λ f. f.1) (judged_fields r.newest (slots r))) judged (λ f. field f.0))
      (mapped-apart (λ index. BadField (256 + 2 * index)) (first_bad_entry r.newest (slots r)) judged (λ index. field (256 + 2 * index))) e
  by_kind r is (inr (inr (inl e))) = mapped-apart (λ dev. TwoHolders dev) (shared_dev (slots r)) judged (λ dev. two dev) e
  by_kind r is (inr (inr (inr (inl e)))) = none-some (members_missing r.newest r.roles) (roles r is).0 e
  by_kind r is (inr (inr (inr (inr (inl e))))) = none-some (dirty_degraded r.newest r.roles) (roles r is).1 e
  by_kind r is (inr (inr (inr (inr (inr (inl e)))))) =
      unless-apart (not (is_reshaping r.newest) || is_multiple r.newest.reshape_position (unit_of r.newest) || (r.newest.reshape_position == list_length r.newest))
      (Some (PositionNotOnUnit r.newest.reshape_position (unit_of r.newest))) judged (λ s. off r.newest.reshape_position (unit_of r.newest) (same-some (PositionNotOnUnit r.newest.reshape_position (unit_of r.newest)) s)) e
  by_kind r is (inr (inr (inr (inr (inr (inr none)))))) = none

  by_reading : (found : Option Reading) → reading scope c ≡ found → option_map_or (refusal_of scope) found (Some NoSuperblock) ≡ Some judged → ⊥
  by_reading None is e = nothing (same-some NoSuperblock e)
  by_reading (Some r) is e = elim (or-either (members_refusal scope.sizes.sectors r) (backup_absent scope r.newest) judged e) [
    | inl member ↦ by_kind r is (first-among (refusals r) judged member)
    | inr absent ↦ unless-apart (not (is_reshaping r.newest) || has_room scope (reach_of r.newest)) (Some BackupAbsent) judged (λ s. backup (same-some BackupAbsent s)) absent
  ]

  unrefused : verdict scope c ≡ Some judged → ⊥
  unfolding verdict
  unrefused e = by_reading (reading scope c) refl e

pub few-missing : (scope : Scope) (c : Contents) → ((r : Reading) → reading scope c ≡ Some r → (members_missing r.newest r.roles ≡ None) × (dirty_degraded r.newest r.roles ≡ None))
    → (count tolerated : ℕ) → verdict scope c ≡ Some (MembersMissing count tolerated) → ⊥
few-missing scope c roles count tolerated e =
    unrefused (MembersMissing count tolerated) (λ n s. absurd (cc)) (λ n s. absurd (cc)) (λ n s. absurd (cc)) (λ a b s. absurd (cc)) (λ s. absurd (cc)) (λ s. absurd (cc)) scope c roles e

pub none-degraded : (scope : Scope) (c : Contents) → ((r : Reading) → reading scope c ≡ Some r → (members_missing r.newest r.roles ≡ None) × (dirty_degraded r.newest r.roles ≡ None))
    → (role : ℕ) → verdict scope c ≡ Some (DirtyDegraded role) → ⊥
none-degraded scope c roles role e =
    unrefused (DirtyDegraded role) (λ n s. absurd (cc)) (λ n s. absurd (cc)) (λ n s. absurd (cc)) (λ a b s. absurd (cc)) (λ s. absurd (cc)) (λ s. absurd (cc)) scope c roles e

-- ---- both, where the array is the same

module _ (scope fewer : Scope) (c : Contents) (same : IsSameArray scope fewer c) (accepted : verdict fewer c ≡ None) where
  scope-is : fewer ≡ in_slots scope fewer.given
  scope-is = λ i. record { uuid = same.uuid i; given = fewer.given; backup = same.backup i; sizes = same.sizes i }

  abbrev found : (q : Reading) × (reading fewer c ≡ Some q) × (members_missing q.newest q.roles ≡ None) × (dirty_degraded q.newest q.roles ≡ None)
  found = accepted-roles fewer c accepted

  roles-are : (r : Reading) → reading scope c ≡ Some r → (members_missing r.newest r.roles ≡ None) × (dirty_degraded r.newest r.roles ≡ None)
  roles-are r is =
      let f = accepted-roles fewer c accepted in
      let says = same.says r f.0 is f.1 in (
        sym (λ i. members_missing (says.0 i) (says.1 i)) ∙ f.2,
        sym (λ i. dirty_degraded (says.0 i) (says.1 i)) ∙ f.3,
      )

  pub found-same : (r : Reading) → reading scope c ≡ Some r → stands fewer c ≡ stands scope c
  found-same r is =
      let f = accepted-roles fewer c accepted in
      let says = same.says r f.0 is f.1 in
      ap (λ (s : Scope). stands s c) scope-is
      ∙ stands-same scope fewer.given c r f.0 is (sym (ap (λ (s : Scope). reading s c) scope-is) ∙ f.1) same.within same.sections says.0 says.1

  pub not-missing : (count tolerated : ℕ) → verdict scope c ≡ Some (MembersMissing count tolerated) → ⊥
  not-missing = few-missing scope c roles-are

  pub not-degraded : (role : ℕ) → verdict scope c ≡ Some (DirtyDegraded role) → ⊥
  not-degraded = none-degraded scope c roles-are
