-- The live slots of members whose superblocks are held are known, where some were lost since.
use Rattle.std.proofs.Common.{◌≡◌, ⊎_elim, ℕ, ◌+◌, ◌*◌, ◌<◌, ◌||◌, ◌&&◌, Bool, true, false, not, nat_lt, bit_or, List, [], Option, Some, None, option_map, replicate, refl, sym, ◌∙◌, ap, arith}
use Rattle.std.specs.Prelude.{find}
use Rattle.std.specs.List.{list_any}
use Rattle.std.specs.Option.{option_or}
use Rattle.std.proofs.lemmas.Bool.Decides.{nat_tests}
use Rattle.sb_safe_updates.specs.raid_types_Sectors.{Sector}
use Rattle.sb_safe_updates.specs.raid_types_Shapes.{has_slot}
use Rattle.sb_safe_updates.specs.raid_types_the_Refusal.{Refusal}
use Rattle.sb_safe_updates.specs.raid_types_the_Refusal_TheVariants.{BadField}
use Rattle.sb_safe_updates.specs.sb_codec_the_Sb.{Sb}
use Rattle.sb_safe_updates.specs.sb_specs_the_Give_TheVariants.{Same}
use Rattle.sb_safe_updates.specs.sb_specs_the_Change.{Change}
use Rattle.sb_safe_updates.specs.sb_specs_the_Members.{Members}
use Rattle.sb_safe_updates.specs.sb_specs_Reading.{Scope}
use Rattle.sb_safe_updates.specs.sb_specs_Verdict.{judged_fields, bad_field, first_bad_entry}
use Rattle.sb_safe_updates.specs.sb_specs_Update.{is_held_by}
use Rattle.sb_safe_updates.specs.sb_specs_Outcome.{live_set}
use Rattle.sb_safe_updates.specs.sb_specs_Reads.{has_spare}
use Rattle.sb_safe_updates.proofs.sb_specs_ReadLists.{by_bool}
use Rattle.sb_safe_updates.proofs.sb_read_laws_SaidSlots.{role-known, spare-known}
use Rattle.sb_safe_updates.specs.stripe_row_Rows.{members_without}
use Rattle.sb_safe_updates.specs.crash_safety_laws_Marking.{marking}
use Rattle.sb_safe_updates.specs.crash_safety_laws_Held.{IsHeldBy}
use Rattle.sb_safe_updates.proofs.crash_safety_laws_Without.{in-both, any-holds, live-is, live-before}

both : (a b : Bool) → (a && b) ≡ true → (a ≡ true) × (b ≡ true)
both true b e = (refl, e)
both false b e = absurd (cc)

flip : (b : Bool) → not b ≡ true → b ≡ false
flip true e = absurd (cc)
flip false e = refl

either_of : (a b : Bool) → ((a || b) || false) ≡ true → (a ≡ false) → b ≡ true
either_of true b e none = absurd (cc)
either_of false true e none = refl
either_of false false e none = absurd (cc)

below_of : (a b : ℕ) → nat_lt a b ≡ true → a < b
below_of a b e = grind (arith, nat_tests, e)

-- the update that gives no slot anything else, with this resync offset
abbrev pub resyncing : Members → ℕ → Change
resyncing members resync = record { shared = record members.newest { resync_offset = resync }; gives = replicate 32 Same; added = None }

pub none-judged : (newest : Sb) → bad_field newest [] ≡ None → find (λ f. f.1) (judged_fields newest []) ≡ None
none-judged newest e = found_none (find (λ f. f.1) (judged_fields newest [])) (option_map (λ (index : ℕ). BadField (256 + 2 * index)) (first_bad_entry newest [])) e
  where
    found_none : (a : Option (ℕ × Bool)) (b : Option Refusal) → option_or (option_map (λ (f : ℕ × Bool). BadField f.0) a) b ≡ None → a ≡ None
    found_none None b e = refl
    found_none (Some x) b e = absurd (cc)

-- ---- the slots

module _ (scope : Scope) (former : Members) (gone resync : ℕ) (d : ℕ → ℕ → List Sector) (held : IsHeldBy scope former d) where
  abbrev pub Live : ℕ
  Live = live_set (members_without gone former) (resyncing (members_without gone former) resync)

  abbrev pub Lost : ℕ
  Lost = bit_or former.lost gone

  pub gone-lost : (s : ℕ) → has_slot gone s ≡ true → has_slot Lost s ≡ true
  gone-lost s is = in-both former.lost gone s ∙ ap (λ (b : Bool). has_slot former.lost s || b) is ∙ or_true (has_slot former.lost s)
    where
      or_true : (b : Bool) → (b || true) ≡ true
      or_true true = refl
      or_true false = refl

  pub first-lost : (s : ℕ) → has_slot former.lost s ≡ true → has_slot Lost s ≡ true
  first-lost s is = in-both former.lost gone s ∙ ap (λ (b : Bool). b || has_slot gone s) is

  pub known-live : (s : ℕ) → has_slot held.known s ≡ true → (has_slot (live_set former (resyncing former resync)) s ≡ true) × (has_slot former.lost s ≡ false)
  known-live s is =
      let parts = both (has_slot (live_set former (marking former false)) s) (not (has_slot former.lost s)) (sym (held.live s) ∙ is) in
      (parts.0, flip (has_slot former.lost s) parts.1)

  pub known-small : (s : ℕ) → has_slot held.known s ≡ true → s < 32
  known-small s is = below_of s 32 (both (nat_lt s 32) ((list_any (is_held_by s) former.roles || has_spare former.spares s) || false) (sym (live-is former false s) ∙ (known-live s is).0)).0

  pub live-known-first : (s : ℕ) → has_slot (live_set former (resyncing former resync)) s ≡ true → has_slot held.known s ≡ true
  live-known-first s is =
      let parts = both (nat_lt s 32) ((list_any (is_held_by s) former.roles || has_spare former.spares s) || false) (sym (live-is former false s) ∙ is) in
      ⊎_elim (λ holds. let role = any-holds s former.roles holds in (role-known scope held.known former held.said role.0 s role.1).0)
      (λ none. spare-known scope held.known former held.said s (either_of (list_any (is_held_by s) former.roles) (has_spare former.spares s) parts.1 none))
      (by_bool (list_any (is_held_by s) former.roles))

  -- each live slot is known
  pub live-known : (s : ℕ) → has_slot Live s ≡ true → has_slot held.known s ≡ true
  live-known s is = live-known-first s (live-before former gone false s is)
