-- Where sections and sources hold at a mark, every image there is right.
use Rattle.std.proofs.Common.{◌≡◌, ℕ, ◌<◌, ◌≤◌, inl, inr, Bool, true, false, ◌&&◌, cond, List, [], length, get_or, refl, sym, subst, Option, Some, None, unwrap_or, leb, ltb, leb-true, ltb-true, not-suc-le-zero}
use Rattle.std.specs.Option.{option_map_or}
use Rattle.raid_types.specs.declared.places.Span.{Span}
use Rattle.raid_types.specs.Shapes.{has_slot}
use Rattle.raid_types.specs.Search.{tabulate}
use Rattle.raid_types.proofs.Tabulated.{length-tabulate, get_or-tabulate}
use Rattle.history.specs.declared.events.Entry.{Entry}
use Rattle.bank.specs.Tape.{Contents}
use Rattle.raid_types.specs.Sectors.{Sector}
use Rattle.sb_read_laws.specs.sb_specs_Reading.{Scope, Reading, reading, next_window, list_length}
use Rattle.history.specs.ActiveSection.{section_for, active_section}
use Rattle.bank_backup.specs.Section.{has_section, section_sector}
use Rattle.history.specs.Stands.{stands, standing_sector, covers, placed_sector, shape_for}
use Rattle.history.specs.Flat.{IsAllowed}
use Rattle.history.specs.World.{World, opening_list}
use Rattle.history.specs.CrashSafe.{IsSafeAt, StandsFor}
use Rattle.history.specs.Settled.{HasSources, IsSourced, HasAllowedSections, HasAllowedSources}

both : (a b : Bool) → (a && b) ≡ true → (a ≡ true) × (b ≡ true)
both true b e = (refl, e)
both false b e = absurd (cc)

-- where an active section covers a sector, its span does
covers-within : (span : Span) (x : ℕ) → covers (Some span) x ≡ true → (span.lo ≤ x) × (x < span.hi)
covers-within span x e =
    let parts : (leb span.lo x ≡ true) × (ltb x span.hi ≡ true) = both (leb span.lo x) (ltb x span.hi) e in
    (leb-true span.lo x parts.0, ltb-true x span.hi parts.1)

-- an active section is the backup's, and its span is the next window
IsHeldBy : Scope → Contents → Option ℕ → Option Span → Span → Type 0
IsHeldBy scope c backup window span =
    (slot : ℕ) × (backup ≡ Some slot) × (has_slot scope.given slot ≡ true)
    × (has_section scope.uuid (scope.sizes.sectors slot) (c slot) span ≡ true) × (window ≡ Some span)

held_by : (scope : Scope) (c : Contents) (slot : ℕ) (span span' : Span) (given has : Bool)
    → given ≡ has_slot scope.given slot → has ≡ has_section scope.uuid (scope.sizes.sectors slot) (c slot) span
    → cond (given && has) (Some span) None ≡ Some span' → IsHeldBy scope c (Some slot) (Some span) span'
unfolding IsHeldBy
held_by scope c slot span span' true true there is e =
    let same : span ≡ span' = some_same e in
    (slot, refl, sym there, subst (λ s. has_section scope.uuid (scope.sizes.sectors slot) (c slot) s ≡ true) same (sym is), e)
  where
    some_same : Some span ≡ Some span' → span ≡ span'
    some_same e = cc
held_by scope c slot span span' true false there is e = absurd (cc)
held_by scope c slot span span' false has there is e = absurd (cc)

section-held : (scope : Scope) (c : Contents) (backup : Option ℕ) (window : Option Span) (span : Span)
    → section_for scope c backup window ≡ Some span → IsHeldBy scope c backup window span
section-held scope c (Some slot) (Some span') span e =
    held_by scope c slot span' span (has_slot scope.given slot) (has_section scope.uuid (scope.sizes.sectors slot) (c slot) span') refl refl e
section-held scope c (Some slot) None span e = absurd (cc)
section-held scope c None window span e = absurd (cc)

-- the sector that stands at x, from the section or from its place
module _ (world : World) (judged : List Entry) (c : Contents) (r : Reading) (here : reading world.scope c ≡ Some r)
    (sections : HasAllowedSections world judged c) (sources : HasAllowedSources world judged c) (x : ℕ)
    (within : x < list_length r.newest) where
  Allowed : Sector → Type 0
  Allowed value = IsAllowed (opening_list world) judged x value

  in_section : (span : Span) → active_section world.scope c r ≡ Some span → covers (Some span) x ≡ true
      → Allowed (section_sector (c (unwrap_or world.scope.backup 0)) span x)
  unfolding Allowed IsHeldBy
  in_section span active covered =
      let held : IsHeldBy world.scope c world.scope.backup (next_window r.newest) span =
      section-held world.scope c world.scope.backup (next_window r.newest) span active in
      let inside : (span.lo ≤ x) × (x < span.hi) = covers-within span x covered in
      let MayStand : Option ℕ → Type 0 = λ backup. Allowed (section_sector (c (unwrap_or backup 0)) span x) in
      subst MayStand (sym held.1) (sections r held.0 span x here held.1 held.2 held.3 (inl held.4) inside.0 inside.1)

  -- by the two cases of the test
  by_cover : (active : Option Span) (covered : Bool) → active_section world.scope c r ≡ active → covers active x ≡ covered
      → Allowed (cond covered (option_map_or (λ span. section_sector (c (unwrap_or world.scope.backup 0)) span x) active [])
      (placed_sector c r (shape_for r.newest x) x))
  unfolding Allowed
  by_cover (Some span) true active covered = in_section span active covered
  by_cover None true active covered = absurd (cc)
  by_cover active false is covered = sources r x here within (subst (λ a. covers a x ≡ false) (sym is) covered)

  standing : Allowed (standing_sector world.scope c r x)
  standing = by_cover (active_section world.scope c r) (covers (active_section world.scope c r) x) refl refl

-- each sector of the list that the image stands for is allowed
listed : (world : World) (judged : List Entry) (c : Contents) (sections : HasAllowedSections world judged c)
    (sources : HasAllowedSources world judged c) (x : ℕ) (found : Option Reading) → reading world.scope c ≡ found
    → x < length (option_map_or (λ r. tabulate (list_length r.newest) (standing_sector world.scope c r)) found [])
    → IsAllowed (opening_list world) judged x
    (get_or (option_map_or (λ r. tabulate (list_length r.newest) (standing_sector world.scope c r)) found []) x [])
unfolding Allowed
listed world judged c sections sources x None here within = absurd (not-suc-le-zero within)
listed world judged c sections sources x (Some r) here within =
    let is_len : length (tabulate (list_length r.newest) (standing_sector world.scope c r)) ≡ list_length r.newest =
    length-tabulate (list_length r.newest) (standing_sector world.scope c r) in
    let inside : x < list_length r.newest = rw is_len at within in
    rw (get_or-tabulate (list_length r.newest) (standing_sector world.scope c r) x [] inside)
    (standing world judged c r here sections sources x inside)

stands-for : (world : World) (judged : List Entry) (c : Contents) → IsSourced world judged c → StandsFor world judged c
unfolding stands
stands-for world judged c sourced = record {
  assembles = sourced.assembles;
  sized = sourced.sized;
  sectors = λ x within. listed world judged c sourced.sections sourced.sources x (reading world.scope c) refl within;
}

-- The three facts give that every image of the mark is right.
pub safe-of-sources : (world : World) (entries : List Entry) (mark : ℕ) → HasSources world entries mark → IsSafeAt world entries mark
safe-of-sources world entries mark facts c image =
    let found = facts c image in
    record {
      j = found.0;
      made = found.1;
      running = found.2;
      judgement = elim found.3 [ inl sourced ↦ inl (sourced.0, sourced.1, stands-for world sourced.0 c sourced.2) | inr refused ↦ inr refused ];
    }
