-- An array that is the same in fewer slots is found sound there.
use Rattle.std.proofs.Common.{◌≡◌, inl, inr, ℕ, ◌+◌, ◌-◌, ◌<◌, ◌≤◌, true, not, ◌&&◌, cond, nat_lt, List, length, get_or, Option, Some, None, unwrap_or, option_map, refl, sym, ◌∙◌, ap, subst, arith, take}
use Rattle.std.specs.Prelude.{IfSome, IsTrue, IsFalse}
use Rattle.std.specs.Option.{option_map_or}
use Rattle.std.proofs.lemmas.Bool.{cases_lt}
use Rattle.std.proofs.lemmas.List.{get_or_past}
use Rattle.history.specs.raid_types_the_Shape.{Shape}
use Rattle.history.specs.raid_types_the_Span.{Span}
use Rattle.history.specs.raid_types_the_Role.{Role}
use Rattle.history.specs.raid_types_the_Role_TheVariants.{Whole, Recovering, Missing}
use Rattle.history.specs.raid_types_Sectors.{Sector, zero_sector}
use Rattle.history.specs.raid_types_Shapes.{has_slot, tolerance}
use Rattle.history.specs.raid_types_Search.{tabulate}
use Rattle.history.proofs.raid_types_Tabulated.{length-tabulate, get_or-tabulate}
use Rattle.history.specs.sb_codec_the_Sb.{Sb}
use Rattle.history.specs.sb_codec_Superblock.{superblock_in}
use Rattle.history.specs.bank_Tape.{Contents, contents}
use Rattle.history.proofs.bank_Images.{drawn-image, disk-some}
use Rattle.history.specs.raid_layout_Layout.{place, row_roles, stripe_of}
use Rattle.history.specs.raid_parity_Parity.{AreEquationsMet, fill, Row, lacking_in}
use Rattle.history.specs.sb_specs_Reading.{Scope, Reading, reading, superblocks, seen_superblock, of_array, is_backup, role_state, rows_held, holder, own_of, data_offset_of, next_window, list_length, is_reshaping, is_backward, final_shape, is_clean}
use Rattle.history.proofs.sb_read_laws_SaidSlots.{read-parts}
use Rattle.history.specs.bank_backup_Section.{has_section}
use Rattle.history.specs.declared.events.Entry.{Entry}
use Rattle.history.specs.ActiveSection.{section_for, active_section}
use Rattle.history.specs.CrashSafe.{IsCrashSafe, IsJudged}
use Rattle.history.specs.Opened.{HasFittingSections, IsSound, OpensSound}
use Rattle.history.specs.Reopened.{IsSameArray, IsFoundLater}
use Rattle.history.specs.Reshaped.{IsGoodRow}
use Rattle.history.specs.Stands.{verdict, placed_sector, held_sector, held_row, shape_for, covers}
use Rattle.history.specs.World.{World, contents_at, reading_at}
use Rattle.history_reopen_laws.specs.Later.{SoundArraysAreFoundLater}
use Rattle.history.proofs.FewerSlots.{in_slots, accepted-roles, not-missing, not-degraded}
use Rattle.history.proofs.GivenLaws.{holder-given}

module _ (scope : Scope) (fewer : ℕ) (c : Contents) (r q : Reading) (is : reading scope c ≡ Some r) (is' : reading (in_slots scope fewer) c ≡ Some q)
    (within : (slot : ℕ) → has_slot fewer slot ≡ true → has_slot scope.given slot ≡ true)
    (sections : (slot : ℕ) → scope.backup ≡ Some slot → has_slot fewer slot ≡ has_slot scope.given slot) (newest : q.newest ≡ r.newest) (roles : q.roles ≡ r.roles) where
  own-listed : (s : Scope) (x : Reading) → reading s c ≡ Some x → (slot : ℕ) → own_of x slot ≡ get_or (superblocks s c) slot None
  own-listed s x e slot = ap (λ (y : Reading). own_of y slot) (read-parts s c x e).1

  -- a slot that is looked at in both has its superblock in both
  own-same : (slot : ℕ) → has_slot fewer slot ≡ true → own_of q slot ≡ own_of r slot
  own-same slot held = own-listed (in_slots scope fewer) q is' slot ∙ elim (cases_lt slot scope.sizes.slots) [
    | inl below ↦
        get_or-tabulate scope.sizes.slots (λ s. of_array scope.uuid (seen_superblock (in_slots scope fewer) c s)) slot None below
        ∙ ap (λ b. of_array scope.uuid (cond (b && not (is_backup scope.backup slot)) (superblock_in (scope.sizes.sectors slot) (c slot)) None)) (held ∙ sym (within slot held))
        ∙ sym (get_or-tabulate scope.sizes.slots (λ s. of_array scope.uuid (seen_superblock scope c s)) slot None below)
    | inr past ↦
        get_or_past (superblocks (in_slots scope fewer) c) slot None (omega (arith, past, length-tabulate scope.sizes.slots (λ s. of_array scope.uuid (seen_superblock (in_slots scope fewer) c s))))
        ∙ sym (get_or_past (superblocks scope c) slot None (omega (arith, past, length-tabulate scope.sizes.slots (λ s. of_array scope.uuid (seen_superblock scope c s)))))
  ] ∙ sym (own-listed scope r is slot)

  state-same : (role : ℕ) → role_state q role ≡ role_state r role
  state-same role = ap (λ (l : List Role). get_or l role Missing) roles

  held-same : (role row : ℕ) → held_sector c q role row ≡ held_sector c r role row
  held-same role row = by (role_state q role) refl (sym (state-same role))
    where
      own-held : (slot : ℕ) → holder (role_state q role) ≡ Some slot → own_of q slot ≡ own_of r slot
      own-held slot held = own-same slot (holder-given (in_slots scope fewer) c q role slot is' held)

      sector : Reading → Role → Option Sector
      sector x state = cond (nat_lt row (rows_held x state)) (option_map (λ slot. c slot (data_offset_of x slot + row)) (holder state)) None

      of : (state : Role) → role_state q role ≡ state → sector q state ≡ sector r state
      of (Whole slot) at =
          let own = own-held slot (ap holder at) in
          λ i. cond (nat_lt row (newest i).size) (Some (c slot (option_map_or (λ sb. sb.data_offset) (own i) 0 + row))) None
      of (Recovering slot) at =
          let own = own-held slot (ap holder at) in
          λ i. cond (nat_lt row (cond (is_reshaping (newest i)) 0 (option_map_or (λ sb. sb.recovery_offset) (own i) 0))) (Some (c slot (option_map_or (λ sb. sb.data_offset) (own i) 0 + row))) None
      of Missing at = refl

      by : (state : Role) → role_state q role ≡ state → role_state r role ≡ state → held_sector c q role row ≡ held_sector c r role row
      by state at at' = ap (sector q) at ∙ of state at ∙ sym (ap (sector r) at')

  row-same : (shape : Shape) (row : ℕ) → held_row c q shape row ≡ held_row c r shape row
  row-same shape row = λ i. tabulate shape.disks (λ role. held-same role row i)

  placed-same : (shape : Shape) (x : ℕ) → placed_sector c q shape x ≡ placed_sector c r shape x
  placed-same shape x =
      let row : ℕ = (place shape x).row in
      λ i. unwrap_or (held-same (place shape x).role row i) (fill (row_roles shape row) (tabulate shape.disks (λ role. held-same role row i)) (place shape x).role)

  active-same : active_section (in_slots scope fewer) c q ≡ active_section scope c r
  active-same = ap (section_for (in_slots scope fewer) c scope.backup) (ap next_window newest) ∙ by scope.backup (next_window r.newest) refl
    where
      by : (backup : Option ℕ) (window : Option Span) → scope.backup ≡ backup → section_for (in_slots scope fewer) c backup window ≡ section_for scope c backup window
      by (Some slot) (Some span) at = ap (λ b. cond (b && has_section scope.uuid (scope.sizes.sectors slot) (c slot) span) (Some span) None) (sections slot at)
      by (Some slot) None at = refl
      by None window at = refl

  good-same : (shape : Shape) (row : ℕ) → IsGoodRow c r shape row → IsGoodRow c q shape row
  good-same shape row good = record {
    tolerated = subst (λ (l : Row). length (lacking_in l) ≤ tolerance shape) (sym (row-same shape row)) good.tolerated;
    parity = subst (λ (l : Row). AreEquationsMet (row_roles shape row) l) (sym (row-same shape row)) good.parity;
  }

  sound-same : IsSound scope c r → IsSound (in_slots scope fewer) c q
  sound-same sound = record {
    rows = λ clean x below out.
        subst (λ (n : Sb). IsGoodRow c q (shape_for n x) (place (shape_for n x) x).row) (sym newest)
        (good-same (shape_for r.newest x) (place (shape_for r.newest x) x).row
        (sound.rows (subst (λ (n : Sb). IsTrue (is_clean n)) newest clean) x (subst (λ (n : Sb). x < list_length n) newest below) (subst (λ (s : Option Span). IsFalse (covers s x)) active-same out)));
    sections = λ moving. subst (λ (n : Sb). HasFittingSections (in_slots scope fewer) c n) (sym newest) (sound.sections (subst (λ (n : Sb). IsTrue (is_reshaping n)) newest moving));
    tail = λ moving. subst (λ (n : Sb). IsFalse (is_backward n) → n.reshape_position ≡ list_length n → (x : ℕ) → list_length n ≤ x
        → stripe_of (final_shape n) x ≡ stripe_of (final_shape n) (list_length n - 1) → placed_sector c q (final_shape n) x ≡ zero_sector) (sym newest)
        (λ forward at x past same. placed-same (final_shape r.newest) x ∙ sound.tail (subst (λ (n : Sb). IsTrue (is_reshaping n)) newest moving) forward at x past same);
  }

module _ (scope fewer : Scope) (c : Contents) (same : IsSameArray scope fewer c) (accepted : verdict fewer c ≡ None) where
  scope-is : fewer ≡ in_slots scope fewer.given
  scope-is = λ i. record { uuid = same.uuid i; given = fewer.given; backup = same.backup i; sizes = same.sizes i }

  -- what is sound in these slots is so in fewer ones
  sound-fewer : (r : Reading) → reading scope c ≡ Some r → IsSound scope c r → IfSome (reading fewer c) (IsSound fewer c)
  sound-fewer r is sound =
      let f = accepted-roles fewer c accepted in
      let says = same.says r f.0 is f.1 in
      subst (λ (o : Option Reading). IfSome o (IsSound fewer c)) (sym f.1)
      (subst (λ (s : Scope). IsSound s c f.0) (sym scope-is)
      (sound-same scope fewer.given c r f.0 is (sym (ap (λ (s : Scope). reading s c) scope-is) ∙ f.1) same.within same.sections says.0 says.1 sound))

-- what stays safe and is accepted in fewer slots is accepted in all of them
accepted-more : (world next : World) (entries : List Entry) (last : ℕ) → IsCrashSafe world last entries → next.first ≤ last → IsFoundLater world entries next → verdict next.scope (contents_at world next.first) ≡ None
    → verdict world.scope (contents_at world next.first) ≡ None
accepted-more world next entries last safe by_last again accepted =
    by_kind (safe next.first again.later by_last again.flushes (contents_at world next.first)
    (drawn-image world.start world.tape next.first (contents_at world next.first) again.within (λ s k. disk-some world.start (take next.first world.tape) s k)))
  where
    c : Contents
    c = contents_at world next.first

    by_kind : IsJudged world entries next.first c → verdict world.scope c ≡ None
    by_kind judged = elim judged.judgement [
      | inl found ↦ found.2.assembles
      | inr (inl dirty) ↦ absurd (not-degraded world.scope next.scope c again.array accepted dirty.role dirty.refused)
      | inr (inr missing) ↦ absurd (not-missing world.scope next.scope c again.array accepted missing.count missing.tolerance missing.refused)
    ]

opens-sound : (world next : World) → next.start ≡ world.start → next.tape ≡ world.tape
    → IfSome (reading next.scope (contents_at world next.first)) (IsSound next.scope (contents_at world next.first)) → OpensSound next
unfolding reading_at
opens-sound world next start tape sound = rw start (rw tape sound)

-- What was opened fit, stays safe and sound, is found sound by a next epoch of the same array that opens accepted, perhaps in fewer slots.
pub sound-found-later : SoundArraysAreFoundLater
sound-found-later world next entries last fit safe stays by_last again accepted =
    let c : Contents = contents_at world next.first in
    let there : contents_at next next.first ≡ c = (λ i. contents (again.start i) (again.tape i) next.first) in
    let here : verdict next.scope c ≡ None = sym (ap (verdict next.scope) there) ∙ accepted in
    let before = accepted-more world next entries last safe by_last again here in
    let f = accepted-roles world.scope c before in
    let sound = stays fit next.first again.later by_last again.flushes c (drawn-image world.start world.tape next.first c again.within (λ s k. disk-some world.start (take next.first world.tape) s k)) before in
    opens-sound world next again.start again.tape (sound-fewer world.scope next.scope c again.array here f.0 f.1 (subst (λ (o : Option Reading). IfSome o (IsSound world.scope c)) f.1 sound))
