-- The backup of an array that was found, or made, holds no role and is no spare.
use Rattle.std.proofs.Common.{◌≡◌, inl, inr, ℕ, ◌+◌, ◌-◌, ◌<◌, ◌≤◌, ◌==◌, nat_lt, Bool, true, false, not, if◌then◌else◌, List, take, get_or, Option, Some, None, option_map, refl, sym, ◌∙◌, ap, subst, arith}
use Rattle.std.specs.Option.{option_or}
use Rattle.std.specs.List.{list_any}
use Rattle.std.proofs.lemmas.Bool.{cases_lt}
use Rattle.std.proofs.lemmas.Bool.Decides.{nat_tests}
use Rattle.std.proofs.lemmas.List.{get_or_past}
use Rattle.array_create_assemble.specs.raid_types_the_Refusal.{Refusal}
use Rattle.array_create_assemble.specs.raid_types_the_Refusal_TheVariants.{BadShape}
use Rattle.array_create_assemble.specs.raid_types_the_ShapeField.{ShapeField}
use Rattle.array_create_assemble.specs.raid_types_the_Role.{Role}
use Rattle.array_create_assemble.specs.raid_types_the_Role_TheVariants.{Whole, Missing}
use Rattle.array_create_assemble.specs.raid_types_Search.{tabulate}
use Rattle.array_create_assemble.proofs.raid_types_Tabulated.{length-tabulate, get_or-tabulate}
use Rattle.array_create_assemble.specs.bank_the_Operation.{Operation}
use Rattle.array_create_assemble.specs.bank_Given.{Given, sizes}
use Rattle.array_create_assemble.specs.bank_Tape.{Contents}
use Rattle.array_create_assemble.specs.sb_specs_the_Members.{Members}
use Rattle.array_create_assemble.specs.sb_specs_Reading.{is_backup, is_reshaping, role_state, holder}
use Rattle.array_create_assemble.specs.sb_specs_Reads.{has_spare}
use Rattle.array_create_assemble.specs.sb_specs_Update.{own_in, is_held_by}
use Rattle.array_create_assemble.specs.sb_specs_Writing.{AreWritable}
use Rattle.array_steps.specs.stripe_row_Rows.{reading_of}
use Rattle.array_steps.specs.crash_views_Regions.{AreShapesFit}
use Rattle.array_create_assemble.specs.array_members_Parts.{Parts}
use Rattle.array_create_assemble.specs.array_members_Rebuilding.{Held}
use Rattle.array_steps.specs.array_call_specs_Adopting.{IsAdopted}
use Rattle.array_create_assemble.specs.declared.spec.CreateSpec.{CreateSpec}
use Rattle.array_steps.proofs.history_invariant_Tests.{or-right}
use Rattle.array_create_assemble.specs.declared.opening.Opened.{Opened}
use Rattle.array_create_assemble.specs.Opening.{AreOfGiven, AreCounted, IsFound, IsAside}
use Rattle.array_create_assemble.specs.Creating.{IsLastSlot, member_slots, bad_field, create_refusal}
use Rattle.array_create_assemble.specs.Made.{IsNew}
use Rattle.array_create_assemble.proofs.StillFit.{found-fit}
use Rattle.array_reshaping_open_laws.specs.array_found_laws_Found.{AreElected}
use Rattle.array_reshaping_open_laws.proofs.array_found_laws_Placed.{live-there, holder-there-is}
use Rattle.array_steps.proofs.array_grow_Aside.{not-so}

-- so it is of the slot, if one is the backup
abbrev pub IsAsideOf : Option ℕ → Members → Type 0
IsAsideOf backup members = (slot : ℕ) → backup ≡ Some slot → (has_spare members.spares slot ≡ false) × ((role : ℕ) → Held members role slot → ⊥)

one-of : (a b : ℕ) → Some a ≡ Some b → a ≡ b
one-of a b e = cc

none-some : {X : Type 0} (x : X) → None ≡ Some x → ⊥
none-some x e = absurd (cc)

-- ---- found

module _ (bank : Given) (given : ℕ) (m : Members) (are : AreElected bank given m) (fit : AreShapesFit m.newest) (backup : Option ℕ) (aside : IsAside backup m.own) where
  -- it has no superblock of the array
  no-own : (slot : ℕ) → backup ≡ Some slot → own_in m.own slot ≡ None
  no-own slot is = aside slot (subst (λ (b : Option ℕ). is_backup b slot ≡ true) (sym is) (itself slot))
    where
      itself : (n : ℕ) → (n == n) ≡ true
      itself n = grind (arith, nat_tests)

  pub elected-aside : IsAsideOf backup m
  elected-aside slot is = (
    not-so (has_spare m.spares slot) (λ spare. (let found = live-there bank given m are fit slot (or-right (list_any (is_held_by slot) m.roles) (has_spare m.spares slot) spare) in
        none-some found.0 (sym (no-own slot is) ∙ found.1))),
    λ role held. (let found = holder-there-is bank given m are fit role slot held in none-some found.0 (sym (no-own slot is) ∙ found.1)),
  )

pub found-aside : {tells : Type 0} (bank : Given) (c : Contents) (backup : Option ℕ) (asked : Option (List ℕ)) (opened : Opened) → bank.slots ≤ 32 → IsFound tells bank c backup asked opened
    → is_reshaping opened.members.newest ≡ false → IsAside backup opened.members.own → AreWritable bank opened.members.own → AreOfGiven opened.given opened.members.own → AreCounted bank → IsAsideOf backup opened.members
found-aside bank c backup asked opened few is still aside writable own counted =
    elected-aside bank opened.given opened.members (record { few = few; elected = is.elected; lost = is.lost; own = own; writable = writable; counted = counted })
    (found-fit (sizes bank).sectors (take bank.slots opened.members.own) opened.members.lost opened.members is.elected still) backup aside

-- ---- made

-- nothing is refused, so there are as many slots besides it as the shape has disks
room-of : (field : Option ShapeField) (multiple more : Bool) (a b : Refusal) (rest : Option Refusal)
    → option_or (option_map (λ field. BadShape field) field) (if not multiple then Some a else if more then Some b else rest) ≡ None → more ≡ false
room-of (Some field) multiple more a b rest is = absurd (cc)
room-of None false more a b rest is = absurd (cc)
room-of None true true a b rest is = absurd (cc)
room-of None true false a b rest is = refl

module _ (bank : Given) (backup : Option ℕ) (spec : CreateSpec) (opened : Opened) (new : IsNew bank spec opened) (last : IsLastSlot bank.slots backup) (none : create_refusal bank backup spec ≡ None) where
  disks-few : nat_lt (member_slots bank.slots backup) spec.shape.disks ≡ false
  disks-few = room-of (bad_field spec) _ (nat_lt (member_slots bank.slots backup) spec.shape.disks) _ _ _ none

  few-disks : (slot : ℕ) → backup ≡ Some slot → spec.shape.disks ≤ slot
  few-disks slot is =
      reach bank.slots slot spec.shape.disks (subst (λ (b : Option ℕ). nat_lt (member_slots bank.slots b) spec.shape.disks ≡ false) is disks-few) (subst (λ (b : Option ℕ). IsLastSlot bank.slots b) is last)
    where
      reach : (slots slot disks : ℕ) → nat_lt (slots - 1) disks ≡ false → slot + 1 ≡ slots → disks ≤ slot
      reach slots slot disks fits at = grind (arith, nat_tests, fits, at)

  held-below : (role slot : ℕ) → Held opened.members role slot → slot < spec.shape.disks
  held-below role slot held = elim (cases_lt role spec.shape.disks) [
    | inl lt ↦ (let same : role ≡ slot = one-of role slot (sym (ap holder (state-is role ∙ get_or-tabulate spec.shape.disks (λ role. Whole role) role Missing lt)) ∙ held) in omega (arith, same, lt))
    | inr past ↦ absurd (none-some slot (sym (ap holder (state-is role ∙ get_or_past (tabulate spec.shape.disks (λ role. Whole role)) role Missing (let long = length-tabulate spec.shape.disks (λ role. Whole role) in omega (arith, long, past)))) ∙ held))
  ]
    where
      state-is : (role : ℕ) → role_state (reading_of opened.members) role ≡ get_or (tabulate spec.shape.disks (λ role. Whole role)) role Missing
      state-is role = ap (λ (l : List Role). get_or l role Missing) new.members.roles

  pub made-aside : IsAsideOf backup opened.members
  made-aside slot is = (
    ap (λ (l : List ℕ). has_spare l slot) new.members.spares,
    λ role held. (let low = few-disks slot is in let high = held-below role slot held in absurd (omega (arith, low, high))),
  )

-- ---- taken over

pub adopted-aside : {B tells : Type 0} {device : B} {tape : List Operation} {slots : ℕ} {backup : Option ℕ} {members : Members} {made : Parts B} → IsAdopted tells device tape slots backup members made → IsAsideOf backup members
    → IsAsideOf made.backup made.members
adopted-aside {backup = backup} {made = made} adopted aside =
    subst (λ (b : Option ℕ). IsAsideOf b made.members) (sym adopted.backup_is) (subst (λ (m : Members). IsAsideOf backup m) (sym adopted.members_are) aside)
