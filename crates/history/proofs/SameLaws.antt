-- What the verdict and each sector of the flat list see of the contents.
use Rattle.std.proofs.Common.{◌≡◌, ◌≢◌, inl, inr, ℕ, ◌+◌, ◌-◌, Bool, true, false, ◌&&◌, cond, [], length, get_or, refl, sym, ap, ap₂, ◌∙◌, subst, ◌++◌, Option, Some, None, unwrap_or, option_map, leb, ltb, arith}
use Rattle.std.specs.Option.{option_map_or}
use Rattle.std.proofs.lemmas.Bool.{cases_lt}
use Rattle.std.proofs.lemmas.Bool.Decides.{nat_tests}
use Rattle.std.proofs.lemmas.List.{get_or_past}
use Rattle.raid_types.specs.declared.places.Shape.{Shape}
use Rattle.raid_types.specs.declared.places.Span.{Span}
use Rattle.raid_types.specs.declared.answers.Refusal.TheVariants.{NoSuperblock}
use Rattle.raid_types.specs.Sectors.{Sector}
use Rattle.raid_types.specs.Search.{tabulate}
use Rattle.raid_types.specs.Shapes.{has_slot}
use Rattle.raid_types.proofs.Tabulated.{length-tabulate, get_or-tabulate}
use Rattle.bank.specs.declared.bank.Operation.TheVariants.{Write}
use Rattle.bank.specs.Tape.{Contents, with_one, after_one}
use Rattle.sb_read_laws.specs.sb_codec_Superblock.{superblock_in, is_valid, sb_of}
use Rattle.sb_read_laws.specs.raid_layout_Layout.{place, row_roles}
use Rattle.raid_parity.specs.Parity.{fill}
use Rattle.sb_read_laws.specs.sb_specs_Reading.{Scope, Reading, reading, reading_by, superblocks, newest_of, is_seen, of_array, role_state, rows_held, holder, data_offset_of, next_window, list_length}
use Rattle.sb_read_laws.proofs.sb_specs_SameLaws.{reading-same}
use Rattle.bank_backup.specs.Section.{is_header_of, names_span, has_section, section_sector}
use Rattle.history.specs.ActiveSection.{section_for, active_section}
use Rattle.history.specs.Stands.{stands, verdict, refusal_of, standing_sector, placed_sector, held_sector, shape_for, covers}
use Rattle.history.specs.Same.{VerdictIsOfSuperblocks, IsElsewhere, WritesElsewhereAreUnseen, AreSameFor, StandsByItsRow}

pub verdict-same : VerdictIsOfSuperblocks
unfolding verdict
verdict-same scope c d same = ap (λ found. option_map_or (refusal_of scope) found (Some NoSuperblock)) (reading-same scope c d same)

-- ---- the superblocks of the slots that are looked at

-- each of these slots has the same superblock sectors
pub record HaveSameMembers (scope : Scope) (c d : Contents) : Type 0 where
  pub eighth : (slot : ℕ) → is_seen scope slot ≡ true → c slot 8 ≡ d slot 8
  pub ninth : (slot : ℕ) → is_seen scope slot ≡ true → c slot 9 ≡ d slot 9

superblock_in-same : (sectors : ℕ) (a b : ℕ → Sector) → a 8 ≡ b 8 → a 9 ≡ b 9 → superblock_in sectors a ≡ superblock_in sectors b
superblock_in-same sectors a b eighth ninth =
    ap (λ bytes. cond (leb 10 sectors && is_valid bytes) (Some (sb_of bytes)) None) (ap₂ (λ x y. x ++ y) eighth ninth)

own-same : (scope : Scope) (c d : Contents) → HaveSameMembers scope c d → superblocks scope c ≡ superblocks scope d
own-same scope c d same = ap (tabulate scope.sizes.slots) (λ i slot. of_array scope.uuid (either slot (is_seen scope slot) refl i))
  where
    either : (slot : ℕ) (seen : Bool) → is_seen scope slot ≡ seen
        → cond seen (superblock_in (scope.sizes.sectors slot) (c slot)) None ≡ cond seen (superblock_in (scope.sizes.sectors slot) (d slot)) None
    either slot true is = superblock_in-same (scope.sizes.sectors slot) (c slot) (d slot) (same.eighth slot is) (same.ninth slot is)
    either slot false is = refl

pub read-same : (scope : Scope) (c d : Contents) → HaveSameMembers scope c d → reading scope c ≡ reading scope d
unfolding reading
read-same scope c d same =
    ap (λ own. option_map (reading_by scope.sizes.sectors own) (newest_of own)) (own-same scope c d same)

pub judged-same : (scope : Scope) (c d : Contents) → HaveSameMembers scope c d → verdict scope c ≡ verdict scope d
unfolding verdict
judged-same scope c d same = ap (λ found. option_map_or (refusal_of scope) found (Some NoSuperblock)) (read-same scope c d same)

-- ---- one write

written-members : (scope : Scope) (c : Contents) (slot at : ℕ) (bytes : Sector) → IsElsewhere scope slot at
    → HaveSameMembers scope (with_one (Write slot at bytes) c) c
written-members scope c slot at bytes (inl apart) = record {
  eighth = λ s seen. other s 8 (c s 8) (λ e. apart.0 (sym e));
  ninth = λ s seen. other s 9 (c s 9) (λ e. apart.1 (sym e));
}
  where
    other : (s k : ℕ) (v : Sector) → k ≢ at → after_one s k (Write slot at bytes) v ≡ v
    other s k v apart = grind (arith, nat_tests)
written-members scope c slot at bytes (inr unseen) = record {
  eighth = λ s seen. other s 8 (c s 8) (not_it s seen);
  ninth = λ s seen. other s 9 (c s 9) (not_it s seen);
}
  where
    not_it : (s : ℕ) → is_seen scope s ≡ true → s ≢ slot
    not_it s seen e = let here : is_seen scope slot ≡ true = subst (λ n. is_seen scope n ≡ true) e seen in absurd (cc)

    other : (s k : ℕ) (v : Sector) → s ≢ slot → after_one s k (Write slot at bytes) v ≡ v
    other s k v apart = grind (arith, nat_tests)

pub writes-elsewhere : WritesElsewhereAreUnseen
writes-elsewhere scope c slot at bytes elsewhere =
    let same : HaveSameMembers scope (with_one (Write slot at bytes) c) c = written-members scope c slot at bytes elsewhere in
    (read-same scope (with_one (Write slot at bytes) c) c same, judged-same scope (with_one (Write slot at bytes) c) c same)

-- ---- one sector of the list

-- the active section is decided by the header of a given backup
section-same : (scope : Scope) (c d : Contents) (backup : Option ℕ) (window : Option Span)
    → ((slot : ℕ) → backup ≡ Some slot → has_slot scope.given slot ≡ true → c slot 0 ≡ d slot 0)
    → section_for scope c backup window ≡ section_for scope d backup window
section-same scope c d (Some slot) (Some span) same = by_given (has_slot scope.given slot) refl
  where
    by_given : (b : Bool) → has_slot scope.given slot ≡ b
        → cond (b && has_section scope.uuid (scope.sizes.sectors slot) (c slot) span) (Some span) None
        ≡ cond (b && has_section scope.uuid (scope.sizes.sectors slot) (d slot) span) (Some span) None
    by_given true is =
        ap (λ header. cond (is_header_of scope.uuid header && names_span header span && leb (8 + (span.hi - span.lo)) (scope.sizes.sectors slot)) (Some span) None)
        (same slot refl is)
    by_given false is = refl
section-same scope c d (Some slot) None same = refl
section-same scope c d None window same = refl

module _ (scope : Scope) (c d : Contents) (r : Reading) (x : ℕ) (same : AreSameFor scope r x c d) where
  abbrev shape : Shape
  shape = shape_for r.newest x

  abbrev row : ℕ
  row = (place (shape_for r.newest x) x).row

  module _ (free : covers (active_section scope c r) x ≡ false) where
    held-same : (role : ℕ) → held_sector c r role row ≡ held_sector d r role row
    held-same role = ap (λ found. cond (ltb row (rows_held r (role_state r role))) found None) (by_holder (holder (role_state r role)) refl)
      where
        by_holder : (found : Option ℕ) → holder (role_state r role) ≡ found
            → option_map (λ slot. c slot (data_offset_of r slot + row)) found ≡ option_map (λ slot. d slot (data_offset_of r slot + row)) found
        by_holder (Some slot) is = ap (λ s. Some s) (same.row free role slot is)
        by_holder None is = refl

    placed-same : placed_sector c r shape x ≡ placed_sector d r shape x
    placed-same = ap₂ (λ own held. unwrap_or own (fill (row_roles shape row) held (place shape x).role))
        (held-same (place shape x).role) (ap (tabulate shape.disks) (λ i role. held-same role i))

  -- by the two cases of the test
  by_cover : (active : Option Span) (covered : Bool) → active_section scope c r ≡ active → covers active x ≡ covered
      → cond covered (option_map_or (λ span. section_sector (c (unwrap_or scope.backup 0)) span x) active []) (placed_sector c r shape x)
      ≡ cond covered (option_map_or (λ span. section_sector (d (unwrap_or scope.backup 0)) span x) active []) (placed_sector d r shape x)
  by_cover (Some span) true active covered = from_backup scope.backup refl
    where
      from_backup : (backup : Option ℕ) → scope.backup ≡ backup
          → section_sector (c (unwrap_or backup 0)) span x ≡ section_sector (d (unwrap_or backup 0)) span x
      from_backup (Some slot) is = same.section slot span is active covered
      from_backup None is = absurd (no_section (subst (λ b. section_for scope c b (next_window r.newest) ≡ Some span) is active))
        where
          no_section : ◌≡◌ {A = Option Span} None (Some span) → ⊥
          no_section e = absurd (cc)
  by_cover None true active covered = absurd (cc)
  by_cover active false is covered = placed-same (subst (λ a. covers a x ≡ false) (sym is) covered)

  standing-same : standing_sector scope c r x ≡ standing_sector scope d r x
  standing-same =
      by_cover (active_section scope c r) (covers (active_section scope c r) x) refl refl
      ∙ ap (λ active. cond (covers active x) (option_map_or (λ span. section_sector (d (unwrap_or scope.backup 0)) span x) active [])
      (placed_sector d r shape x)) (section-same scope c d scope.backup (next_window r.newest) same.header)

pub stands-is : (scope : Scope) (c : Contents) (r : Reading) → reading scope c ≡ Some r
    → stands scope c ≡ tabulate (list_length r.newest) (standing_sector scope c r)
unfolding stands
stands-is scope c r here = ap (λ found. option_map_or (λ r. tabulate (list_length r.newest) (standing_sector scope c r)) found []) here

-- sector x of two such lists
same-at : (n x : ℕ) (f g : ℕ → Sector) → f x ≡ g x → get_or (tabulate n f) x [] ≡ get_or (tabulate n g) x []
same-at n x f g same = elim (cases_lt x n) [
  | inl within ↦ get_or-tabulate n f x [] within ∙ same ∙ sym (get_or-tabulate n g x [] within)
  | inr past ↦ get_or_past (tabulate n f) x [] (omega (arith, length-tabulate n f, past))
      ∙ sym (get_or_past (tabulate n g) x [] (omega (arith, length-tabulate n g, past)))
]

pub stands-by-row : StandsByItsRow
stands-by-row scope c d r x here same =
    let there : reading scope d ≡ Some r = sym (read-same scope c d (record { eighth = same.eighth; ninth = same.ninth })) ∙ here in
    let one : stands scope c ≡ tabulate (list_length r.newest) (standing_sector scope c r) = stands-is scope c r here in
    let two : stands scope d ≡ tabulate (list_length r.newest) (standing_sector scope d r) = stands-is scope d r there in (
      ap length one ∙ length-tabulate (list_length r.newest) (standing_sector scope c r)
          ∙ sym (ap length two ∙ length-tabulate (list_length r.newest) (standing_sector scope d r)),
      ap (λ l. get_or l x []) one ∙ same-at (list_length r.newest) x (standing_sector scope c r) (standing_sector scope d r) (standing-same scope c d r x same)
          ∙ sym (ap (λ l. get_or l x []) two),
    )
