-- Of the contents only the given slots are seen.
use Rattle.std.proofs.Common.{◌≡◌, inl, inr, ℕ, suc, ◌+◌, Bool, true, false, ◌&&◌, cond, List, [], ◌∷◌, get_or, refl, sym, ap, ◌∙◌, subst, Option, Some, None, option_map, arith}
use Rattle.std.specs.Option.{option_map_or}
use Rattle.std.proofs.lemmas.Bool.{cases_lt}
use Rattle.std.proofs.lemmas.List.{ext_get_or, get_or_past}
use Rattle.raid_types.specs.declared.places.Span.{Span}
use Rattle.raid_types.specs.declared.status.Role.TheVariants.{Whole, Recovering, Missing}
use Rattle.raid_types.specs.Search.{tabulate}
use Rattle.raid_types.specs.Shapes.{has_slot}
use Rattle.raid_types.proofs.Tabulated.{length-tabulate, get_or-tabulate}
use Rattle.sb_read_laws.specs.sb_codec_the_Sb.{Sb}
use Rattle.sb_read_laws.specs.sb_codec_Superblock.{superblock_in}
use Rattle.bank.specs.Tape.{Contents}
use Rattle.sb_read_laws.specs.sb_specs_Reading.{Scope, Reading, reading, reading_by, newest_of, superblocks, of_array, seen_superblock, is_seen, is_recovering, holds_role, holder_from, state_of, role_state, role_count, holder, next_window, list_length}
use Rattle.bank_backup.specs.Section.{has_section, section_sector}
use Rattle.history.specs.ActiveSection.{section_for}
use Rattle.history.specs.Stands.{stands, standing_sector}
use Rattle.history.specs.Same.{AreSameFor, HaveSameSlots, OnlyGivenSlotsAreSeen}
use Rattle.history.proofs.SameLaws.{HaveSameMembers, read-same, judged-same, stands-by-row}

first : (a b : Bool) → (a && b) ≡ true → a ≡ true
first true b e = refl
first false b e = absurd (cc)

-- ---- a role's holder has a superblock of the array

-- the superblock that stands in a slot
HasOne : List (Option Sb) → ℕ → Type 0
HasOne own i = (sb : Sb) × (get_or own i None ≡ Some sb)

IsFrom : ℕ → ℕ → List (Option Sb) → Type 0
IsFrom from slot own = (i : ℕ) × (slot ≡ from + i) × HasOne own i

holder-of : (sb : Sb) (at slot : ℕ) → holder (state_of at sb) ≡ Some slot → slot ≡ at
holder-of sb at slot e = by_state (is_recovering sb) e
  where
    by_state : (b : Bool) → holder (cond b (Recovering at) (Whole at)) ≡ Some slot → slot ≡ at
    by_state true e = cc
    by_state false e = cc

holder-from : (newest : Sb) (role from slot : ℕ) (own : List (Option Sb)) → holder (holder_from newest role from own) ≡ Some slot → IsFrom from slot own
unfolding IsFrom HasOne
holder-from newest role from slot [] e = absurd (cc)
holder-from newest role from slot (None ∷ own) e =
    let found = holder-from newest role (from + 1) slot own e in
    (suc found.0, omega (arith, found.1), found.2)
holder-from newest role from slot (Some sb ∷ own) e =
    by_role (λ e. holder-from newest role (from + 1) slot own e) (holds_role newest role sb) e
  where
    by_role : (holder (holder_from newest role (from + 1) own) ≡ Some slot → IsFrom (from + 1) slot own)
        → (b : Bool) → holder (cond b (state_of from sb) (holder_from newest role (from + 1) own)) ≡ Some slot → IsFrom from slot (Some sb ∷ own)
    by_role more true e = (0, holder-of sb from slot e ∙ omega arith, (sb, refl))
    by_role more false e = let found = more e in (suc found.0, omega (arith, found.1), found.2)

seen-given : (scope : Scope) (c : Contents) (slot : ℕ) (sb : Sb) → of_array scope.uuid (seen_superblock scope c slot) ≡ Some sb → has_slot scope.given slot ≡ true
seen-given scope c slot sb e = by_seen (is_seen scope slot) refl e
  where
    by_seen : (b : Bool) → is_seen scope slot ≡ b
        → of_array scope.uuid (cond b (superblock_in (scope.sizes.sectors slot) (c slot)) None) ≡ Some sb → has_slot scope.given slot ≡ true
    by_seen true is e = first (has_slot scope.given slot) _ is
    by_seen false is e = absurd (cc)

module _ (scope : Scope) (c : Contents) where
  has-given : (slot : ℕ) → HasOne (superblocks scope c) slot → has_slot scope.given slot ≡ true
  unfolding HasOne
  has-given slot one = elim (cases_lt slot scope.sizes.slots) [
    | inl within ↦ seen-given scope c slot one.0
        (sym (get_or-tabulate scope.sizes.slots (λ slot. of_array scope.uuid (seen_superblock scope c slot)) slot None within) ∙ one.1)
    | inr past ↦ let none : get_or (superblocks scope c) slot None ≡ None =
        get_or_past (superblocks scope c) slot None (omega (arith, length-tabulate scope.sizes.slots (λ slot. of_array scope.uuid (seen_superblock scope c slot)), past)) in
        absurd (contrary one.0 (sym none ∙ one.1))
  ]
    where
      contrary : (sb : Sb) → ◌≡◌ {A = Option Sb} None (Some sb) → ⊥
      contrary sb e = absurd (cc)

  by_newest : (newest : Option Sb) (r : Reading) (role slot : ℕ)
      → option_map (reading_by scope.sizes.sectors (superblocks scope c)) newest ≡ Some r
      → holder (role_state r role) ≡ Some slot → has_slot scope.given slot ≡ true
  unfolding IsFrom
  by_newest None r role slot e held = absurd (cc)
  by_newest (Some newest) r role slot e held =
      let made : reading_by scope.sizes.sectors (superblocks scope c) newest ≡ r = cc in
      by_role (ap (λ r. holder (role_state r role)) made ∙ held)
    where
      contrary : ◌≡◌ {A = Option ℕ} None (Some slot) → ⊥
      contrary e = absurd (cc)

      by_role : holder (get_or (tabulate (role_count newest) (λ role. holder_from newest role 0 (superblocks scope c))) role Missing) ≡ Some slot
          → has_slot scope.given slot ≡ true
      by_role held = elim (cases_lt role (role_count newest)) [
        | inl within ↦
            let found = holder-from newest role 0 slot (superblocks scope c)
            (sym (ap holder (get_or-tabulate (role_count newest) (λ role. holder_from newest role 0 (superblocks scope c)) role Missing within)) ∙ held) in
            let same : slot ≡ found.0 = omega (arith, found.1) in
            has-given slot (subst (λ n. HasOne (superblocks scope c) n) (sym same) found.2)
        | inr past ↦
            let none : get_or (tabulate (role_count newest) (λ role. holder_from newest role 0 (superblocks scope c))) role Missing ≡ Missing =
            get_or_past (tabulate (role_count newest) (λ role. holder_from newest role 0 (superblocks scope c))) role Missing
            (omega (arith, length-tabulate (role_count newest) (λ role. holder_from newest role 0 (superblocks scope c)), past)) in
            absurd (contrary (sym (ap holder none) ∙ held))
      ]

  -- the holder of a role is a given slot
  pub holder-given : (r : Reading) (role slot : ℕ) → reading scope c ≡ Some r → holder (role_state r role) ≡ Some slot → has_slot scope.given slot ≡ true
  unfolding reading
  holder-given r role slot e held = by_newest (newest_of (superblocks scope c)) r role slot e held

-- ---- the backup of an active section is given

section-given : (scope : Scope) (c : Contents) (slot : ℕ) (window : Option Span) (span : Span) → section_for scope c (Some slot) window ≡ Some span
    → has_slot scope.given slot ≡ true
section-given scope c slot None span e = absurd (cc)
section-given scope c slot (Some next) span e = by_given (has_slot scope.given slot) refl e
  where
    by_given : (b : Bool) → has_slot scope.given slot ≡ b
        → cond (b && has_section scope.uuid (scope.sizes.sectors slot) (c slot) next) (Some next) None ≡ Some span → has_slot scope.given slot ≡ true
    by_given true is e = is
    by_given false is e = absurd (cc)

-- ---- the flat list

module _ (scope : Scope) (c d : Contents) (same : HaveSameSlots scope c d) where
  same-members : HaveSameMembers scope c d
  same-members = record {
    eighth = λ slot seen. same slot 8 (first (has_slot scope.given slot) _ seen);
    ninth = λ slot seen. same slot 9 (first (has_slot scope.given slot) _ seen);
  }

  same-for : (r : Reading) (x : ℕ) → reading scope c ≡ Some r → AreSameFor scope r x c d
  same-for r x here = record {
    eighth = same-members.eighth;
    ninth = same-members.ninth;
    header = λ backup is given. same backup 0 given;
    section = λ backup span is active covered.
        let given : has_slot scope.given backup ≡ true =
        section-given scope c backup (next_window r.newest) span (sym (ap (λ b. section_for scope c b (next_window r.newest)) is) ∙ active) in
        λ i. section_sector (λ k. same backup k given i) span x;
    row = λ free role slot held. same slot _ (holder-given scope c r role slot here held);
  }

  by_reading : (found : Option Reading) → reading scope c ≡ found → stands scope c ≡ stands scope d
  unfolding stands
  by_reading None is =
      nothing c is ∙ sym (nothing d (sym (read-same scope c d same-members) ∙ is))
    where
      nothing : (c : Contents) → reading scope c ≡ None → stands scope c ≡ []
      nothing c is = ap (λ found. option_map_or (λ r. tabulate (list_length r.newest) (standing_sector scope c r)) found []) is
  by_reading (Some r) is =
      ext_get_or [] (stands scope c) (stands scope d) (stands-by-row scope c d r 0 is (same-for r 0 is)).0
      (λ x h. (stands-by-row scope c d r x is (same-for r x is)).1)

pub only-given-seen : OnlyGivenSlotsAreSeen
only-given-seen scope c d same = (
  read-same scope c d (same-members scope c d same),
  judged-same scope c d (same-members scope c d same),
  by_reading scope c d same (reading scope c) refl,
)
