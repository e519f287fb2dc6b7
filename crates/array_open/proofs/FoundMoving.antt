-- What an opening finds of an array in a reshape, before its window is read; and where the backup fails then.
use Rattle.std.proofs.Common.{◌≡◌, ℕ, suc, ◌<◌, ◌≤◌, ◌==◌, ◌&&◌, nat_lt, Bool, true, false, not, cond, List, [], ◌∷◌, length, map, take, get_or, Option, Some, refl, sym, ◌∙◌, ap, ap₂, subst, arith}
use Rattle.std.proofs.lemmas.Bool.Decides.{nat_tests}
use Rattle.array_create_assemble.specs.raid_types_the_Refusal_TheVariants.{BackupAbsent}
use Rattle.array_create_assemble.specs.raid_types_the_Role.{Role}
use Rattle.array_create_assemble.specs.raid_types_the_Role_TheVariants.{Whole, Recovering, Missing}
use Rattle.array_create_assemble.specs.raid_types_Search.{count_below}
use Rattle.array_create_assemble.specs.raid_types_Shapes.{has_slot, tolerance}
use Rattle.array_create_assemble.specs.bank_the_Operation.{Operation}
use Rattle.array_create_assemble.specs.bank_Given.{Given, sizes, IsFaulted, NeverFalls}
use Rattle.array_create_assemble.specs.bank_Tape.{Contents, contents}
use Rattle.array_create_assemble.proofs.bank_Causes.{faulted_longer}
use Rattle.array_create_assemble.specs.sb_specs_the_Members.{Members}
use Rattle.array_create_assemble.specs.sb_specs_Election.{uuid_for, reading_in}
use Rattle.array_create_assemble.specs.sb_specs_Found.{AreInSectors}
use Rattle.array_create_assemble.specs.sb_specs_Reading.{is_reshaping, is_whole, shape_of, final_shape, role_state, holder}
use Rattle.array_create_assemble.specs.sb_specs_Outcome.{set_of}
use Rattle.array_create_assemble.specs.sb_specs_Writing.{AreWritable}
use Rattle.array_create_assemble.proofs.sb_specs_SlotSets.{has-set_of}
use Rattle.array_steps.specs.stripe_row_Rows.{reading_of, is_missing, role_without, members_without}
use Rattle.array_steps.proofs.stripe_row_Losses.{state_after}
use Rattle.array_create_assemble.specs.history_Left.{opened_role}
use Rattle.array_create_assemble.specs.history_Stands.{verdict}
use Rattle.array_steps.specs.crash_views_Regions.{DoWithout}
use Rattle.array_create_assemble.specs.array_members_Placed.{IsPlaced}
use Rattle.array_create_assemble.specs.declared.opening.Opened.{Opened}
use Rattle.array_create_assemble.specs.Opening.{scope_of, array_of, AreGiven, AreOfGiven, AreCounted, AreFlushed, IsFound, IsAside, IsUnfound}
use Rattle.array_reshaping_open_laws.specs.array_found_laws_Causes.{IsWithoutBackup}
use Rattle.array_reshaping_open_laws.proofs.array_found_laws_Causes.{backups-without, lost-backup}
use Rattle.array_reshaping_open_laws.proofs.array_found_laws_Elected.{elected-does}
use Rattle.array_reshaping_open_laws.specs.array_open_window_Recovering.{AreRecovering}
use Rattle.array_reshaping_open_laws.specs.Opening.{AreOpenedMoving}
use Rattle.array_reshaping_open_laws.proofs.Members.{placed-here}

-- ---- as it is found

-- What the superblocks of an array in a reshape say, whose backup is there.
module _ {tells : Type 0} (bank : Given) (tape : List Operation) (asked : Option (List ℕ)) (opened : Opened) (slot : ℕ) (few : bank.slots ≤ 32)
    (is : IsFound tells bank (contents bank.start tape (length tape)) (Some slot) asked opened) (active : is_reshaping opened.members.newest ≡ true) where
  pub found-moving : IsAside (Some slot) opened.members.own → AreWritable bank opened.members.own → AreOfGiven opened.given opened.members.own → AreCounted bank
      → ((s : ℕ) → has_slot opened.given s ≡ true → s < bank.slots) → (tells → AreInSectors (contents bank.start tape (length tape)) opened.members.own)
      → (tells → AreFlushed bank.start tape opened.given) → AreOpenedMoving tells bank tape opened.given slot opened.members
  found-moving aside writable own counted known sectors flushed = record {
    elected = record { few = few; elected = is.elected; lost = is.lost; own = own; writable = writable; counted = counted };
    aside = aside slot (itself slot);
    active = active;
    backed = is.backed;
    stored = λ t. record { says = is.says t; accepted = is.accepted t; inside = known; sectors = sectors t; flushed = flushed t };
  }
    where
      itself : (n : ℕ) → (n == n) ≡ true
      itself n = grind (arith, nat_tests)

-- ---- without the slots that recover a role

-- two changes of roles are the same where they are the same of each
map-each : (f g : Role → Role) (roles : List Role) → ((role : ℕ) → f (get_or roles role Missing) ≡ g (get_or roles role Missing)) → map f roles ≡ map g roles
map-each f g [] each = refl
map-each f g (state ∷ roles) each = ap₂ (λ (x : Role) (xs : List Role). x ∷ xs) (each 0) (map-each f g roles (λ role. each (suc role)))

module _ {tells : Type 0} {bank : Given} {tape : List Operation} {given backup : ℕ} {former : Members} (opened : AreOpenedMoving tells bank tape given backup former) (lost : ℕ) (recovering : AreRecovering former lost) where
  placed : IsPlaced bank former
  placed = placed-here bank given backup former opened.elected opened.aside opened.active opened.backed

  -- a slot that holds a role whole isn't lost
  kept : (role slot : ℕ) (b : Bool) → role_state (reading_of former) role ≡ Whole slot → has_slot lost slot ≡ b → b ≡ false
  kept role slot false is has = refl
  kept role slot true is has = absurd (
      let other = recovering.only slot has in
      let same : role ≡ other.0 = placed.apart role other.0 slot (ap holder is) (ap holder other.1) in
      let clash : Whole slot ≡ Recovering slot = sym is ∙ ap (role_state (reading_of former)) same ∙ other.1 in
      cc)

  -- each role is as an opening counts it
  role-opened : (role : ℕ) (state : Role) → role_state (reading_of former) role ≡ state → role_without lost state ≡ opened_role true state
  role-opened role (Whole slot) is = ap (λ (b : Bool). cond b Missing (Whole slot)) (kept role slot (has_slot lost slot) is refl)
  role-opened role (Recovering slot) is = ap (λ (b : Bool). cond b Missing (Recovering slot)) (recovering.each role slot is)
  role-opened role Missing is = refl

  pub found-roles : (members_without lost former).roles ≡ map (opened_role true) former.roles
  found-roles = map-each (role_without lost) (opened_role true) former.roles (λ role. role-opened role (role_state (reading_of former) role) refl)

  -- the same roles are missing
  missing-same : (role : ℕ) → is_missing (reading_of (members_without lost former)) role ≡ is_missing (reading_of former) role
  missing-same role = ap (λ (s : Role). not (is_whole s)) (state_after former lost role) ∙ of (role_state (reading_of former) role) refl
    where
      gone : (b : Bool) (slot : ℕ) → not (is_whole (cond b Missing (Recovering slot))) ≡ true
      gone true slot = refl
      gone false slot = refl

      of : (state : Role) → role_state (reading_of former) role ≡ state → not (is_whole (role_without lost state)) ≡ not (is_whole state)
      of (Whole slot) is = ap (λ (b : Bool). not (is_whole (cond b Missing (Whole slot)))) (kept role slot (has_slot lost slot) is refl)
      of (Recovering slot) is = gone (has_slot lost slot) slot
      of Missing is = refl

  count-same : (n : ℕ) → count_below n (is_missing (reading_of (members_without lost former))) ≡ count_below n (is_missing (reading_of former))
  count-same n = ap (count_below n) (λ i role. missing-same role i)

  -- so each shape does without them as before
  pub found-does : DoWithout (members_without lost former)
  found-does =
      let does = elected-does (sizes bank).sectors (take bank.slots former.own) former.lost former opened.elected.elected in
      record {
        old = subst (λ (k : ℕ). k ≤ tolerance (shape_of former.newest)) (sym (count-same (shape_of former.newest).disks)) does.old;
        final = subst (λ (k : ℕ). k ≤ tolerance (final_shape former.newest)) (sym (count-same (final_shape former.newest).disks)) does.final;
      }

-- ---- the backup fails

module _ {tells : Type 0} (bank : Given) (c : Contents) (asked : Option (List ℕ)) (opened : Opened) (slot : ℕ) (few : bank.slots ≤ 32) (is : IsFound tells bank c (Some slot) asked opened)
    (active : is_reshaping opened.members.newest ≡ true) (before mid after : ℕ → ℕ) (given : AreGiven bank opened.given before mid) where
  -- the slots that are left
  left : ℕ
  left = set_of 32 (λ s. has_slot opened.given s && not (slot == s))

  left-is : (s : ℕ) → has_slot left s ≡ (nat_lt s 32 && (has_slot opened.given s && not (slot == s)))
  unfolding left
  left-is s = has-set_of 32 (λ s. has_slot opened.given s && not (slot == s)) s

  parts : (a b d : Bool) → (a && (b && not d)) ≡ true → (b ≡ true) × (d ≡ false)
  parts true true false is = (refl, refl)
  parts true true true is = absurd (cc)
  parts true false d is = absurd (cc)
  parts false b d is = absurd (cc)

  were : (s : ℕ) → has_slot left s ≡ true → has_slot opened.given s ≡ true
  were s has = (parts (nat_lt s 32) (has_slot opened.given s) (slot == s) (sym (left-is s) ∙ has)).0

  below : (a b : ℕ) → a < b → nat_lt a b ≡ true
  below a b lt = grind (arith, nat_tests, lt)

  -- each but the backup is left
  stays : (s : ℕ) → (slot == s) ≡ false → has_slot left s ≡ has_slot opened.given s
  stays s other = of (has_slot opened.given s) refl
    where
      of : (b : Bool) → has_slot opened.given s ≡ b → has_slot left s ≡ b
      of true has = left-is s ∙ ap (λ (b : Bool). b && (has_slot opened.given s && not (slot == s))) (below s 32 (let known = given.known s has in omega (arith, known, few)))
          ∙ ap (λ (b : Bool). b && not (slot == s)) has ∙ ap not other
      of false none = left-is s ∙ ap (λ (b : Bool). nat_lt s 32 && (b && not (slot == s))) none ∙ never (nat_lt s 32)
        where
          never : (b : Bool) → (b && false) ≡ false
          never true = refl
          never false = refl

  lost-here : has_slot left slot ≡ false
  lost-here = left-is slot ∙ ap (λ (b : Bool). nat_lt slot 32 && (has_slot opened.given slot && not b)) (itself slot) ∙ none (nat_lt slot 32) (has_slot opened.given slot)
    where
      itself : (n : ℕ) → (n == n) ≡ true
      itself n = grind (arith, nat_tests)

      none : (a b : Bool) → (a && (b && false)) ≡ false
      none true true = refl
      none true false = refl
      none false b = refl

  without-backup : (uuid : List ℕ) → IsWithoutBackup (scope_of bank (Some slot) opened.given uuid) (scope_of bank (Some slot) left uuid)
  without-backup uuid = record {
    uuid = refl;
    backup_is = refl;
    sizes_are = refl;
    given = stays;
    absent = λ other same. subst (λ (s : ℕ). has_slot left s ≡ false) (one slot other same) lost-here;
  }
    where
      one : (a b : ℕ) → Some a ≡ Some b → a ≡ b
      one a b e = cc

  same-array : array_of bank (Some slot) left asked c ≡ array_of bank (Some slot) opened.given asked c
  same-array = ap (uuid_for asked) (backups-without (scope_of bank (Some slot) opened.given []) (scope_of bank (Some slot) left []) c (without-backup []))

  left-given : NeverFalls before mid → NeverFalls mid after → IsFaulted slot mid after → AreGiven bank left before after
  left-given rose falls failed = record {
    known = λ s has. given.known s (were s has);
    sound = λ s has. given.sound s (were s has);
    failed = λ s known none. of s known none (slot == s) refl;
  }
    where
      equal : (a b : ℕ) → (a == b) ≡ true → a ≡ b
      equal a b is = grind (arith, nat_tests, is)

      of : (s : ℕ) → s < bank.slots → has_slot left s ≡ false → (b : Bool) → (slot == s) ≡ b → IsFaulted s before after
      of s known none true same = subst (λ (n : ℕ). IsFaulted n before after) (equal slot s same)
          (faulted_longer slot before mid after after (rose slot) (omega arith) (falls slot) failed)
      of s known none false other = faulted_longer s before before mid after (omega arith) (falls s) (rose s) (given.failed s known (sym (stays s other) ∙ none))

  pub backup-failed : NeverFalls before mid → NeverFalls mid after → IsFaulted slot mid after → IsUnfound tells bank c (Some slot) asked before after BackupAbsent
  backup-failed rose falls failed = record {
    given = left;
    slots = left-given rose falls failed;
    why = λ t. subst (λ (u : List ℕ). verdict (scope_of bank (Some slot) left u) c ≡ Some BackupAbsent) (sym (same-array ∙ sym (is.array t)))
        (lost-backup (scope_of bank (Some slot) opened.given opened.members.newest.set_uuid) (scope_of bank (Some slot) left opened.members.newest.set_uuid) c (reading_in bank.slots opened.members)
        (without-backup opened.members.newest.set_uuid) (is.accepted t) (is.says t) active);
  }
