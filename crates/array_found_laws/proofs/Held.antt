-- The superblocks of members that were elected and whose slots are flushed are held.
use Rattle.std.proofs.Common.{◌≡◌, ℕ, ◌<◌, ◌≤◌, Bool, true, false, cond, not, ◌||◌, ◌&&◌, nat_lt, nat_le, List, [], ◌∷◌, ◌++◌, get_or, Option, Some, None, refl, sym, ◌∙◌, ap, ap₂, subst, inl, inr}
use Rattle.std.specs.Option.{option_or, option_map_or}
use Rattle.std.proofs.lemmas.List.{get_or-take}
use Rattle.array_call_specs.specs.raid_types_the_Refusal.{Refusal}
use Rattle.array_call_specs.specs.raid_types_the_Refusal_TheVariants.{NoSuperblock}
use Rattle.array_call_specs.specs.raid_types_Sectors.{Sector}
use Rattle.array_call_specs.specs.raid_types_Shapes.{has_slot}
use Rattle.array_call_specs.proofs.raid_types_Tabulated.{get_or-tabulate}
use Rattle.array_call_specs.specs.sb_codec_the_Sb.{Sb}
use Rattle.array_call_specs.specs.sb_codec_Superblock.{is_valid, sb_of}
use Rattle.array_call_specs.specs.bank_Given.{Given}
use Rattle.array_call_specs.specs.bank_Tape.{Contents, IsIn}
use Rattle.array_call_specs.specs.sb_specs_the_Members.{Members}
use Rattle.array_call_specs.specs.sb_specs_Reading.{Scope, Reading, reading, reading_by, superblocks, newest_of, is_seen, is_backup, of_array}
use Rattle.array_call_specs.specs.sb_specs_Verdict.{members_refusal}
use Rattle.array_call_specs.specs.sb_specs_Update.{own_in, is_live}
use Rattle.array_call_specs.specs.sb_specs_Outcome.{set_of, is_in_update, live_set}
use Rattle.array_call_specs.specs.sb_specs_Held.{own_at}
use Rattle.array_call_specs.specs.sb_specs_Stages.{AreLeft}
use Rattle.array_call_specs.specs.sb_specs_Election.{reading_in}
use Rattle.array_call_specs.specs.sb_specs_Found.{IsInSectors}
use Rattle.array_call_specs.proofs.sb_specs_SlotSets.{has-set_of}
use Rattle.array_call_specs.proofs.sb_read_laws_Accepted.{IsAccepted, is-accepted}
use Rattle.array_call_specs.proofs.sb_read_laws_SaidSlots.{read-parts}
use Rattle.array_call_specs.proofs.sb_read_laws_FoundHeld.{found-of, found-held, found-exact, found-said, live-seen}
use Rattle.array_call_specs.proofs.sb_read_laws_StageReads.{held-reads}
use Rattle.array_call_specs.specs.history_Stands.{verdict, refusal_of, backup_absent}
use Rattle.array_call_specs.specs.crash_safety_laws_Marking.{marking}
use Rattle.array_call_specs.specs.crash_safety_laws_Held.{IsHeldBy}
use Rattle.array_call_specs.specs.crash_views_Views.{Disk}
use Rattle.array_call_specs.specs.Kept.{scope_in}
use Rattle.array_call_specs.specs.Adopting.{AreNumbersKept}
use Rattle.array_call_specs.proofs.history_LegalLaws.{both}
use Rattle.array_found_laws.specs.Found.{AreStored}

pub one : {a v : Sector} → IsIn (v ∷ []) a → a ≡ v
one (inl same) = same
one (inr none) = absurd none

-- a reading that is refused for nothing isn't refused for its members
no-refusal : (scope : Scope) (c : Contents) (r : Reading) → reading scope c ≡ Some r → verdict scope c ≡ None → members_refusal scope.sizes.sectors r ≡ None
unfolding verdict
no-refusal scope c r is none = first (members_refusal scope.sizes.sectors r) (backup_absent scope r.newest) (ap (λ (found : Option Reading). option_map_or (refusal_of scope) found (Some NoSuperblock)) (sym is) ∙ none)
  where
    first : (a b : Option Refusal) → option_or a b ≡ None → a ≡ None
    first None b e = refl
    first (Some x) b e = absurd (cc)

module _ (bank : Given) (uuid : List ℕ) (given : ℕ) (backup : Option ℕ) (m : Members) (c : Contents) (d : Disk) (few : bank.slots ≤ 32)
    (lost : (s : ℕ) → has_slot m.lost s ≡ (nat_lt s bank.slots && not (has_slot given s))) (stored : AreStored bank (scope_in bank uuid given backup) m c d) where
  abbrev scope : Scope
  scope = scope_in bank uuid given backup

  parts : (newest_of (superblocks scope c) ≡ Some m.newest) × (reading_in bank.slots m ≡ reading_by scope.sizes.sectors (superblocks scope c) m.newest)
  parts = read-parts scope c (reading_in bank.slots m) stored.says

  own-is : (s : ℕ) → s < bank.slots → own_in m.own s ≡ own_at scope s (c s)
  own-is s h = sym (get_or-take bank.slots m.own s None h) ∙ ap (λ (q : Reading). get_or q.own s None) parts.1 ∙ get_or-tabulate bank.slots (λ slot. own_at scope slot (c slot)) s None h

  given-seen : (s : ℕ) → is_seen scope s ≡ true → has_slot given s ≡ true
  given-seen s seen = (both (has_slot given s) (not (is_backup backup s)) seen).0

  inside-seen : (s : ℕ) → is_seen scope s ≡ true → s < bank.slots
  inside-seen s seen = stored.inside s (given-seen s seen)

  -- what is found in a slot is the member's
  pub own-found : (s : ℕ) (sb : Sb) → own_at (scope_in bank uuid given backup) s (c s) ≡ Some sb → own_in m.own s ≡ Some sb
  own-found s sb found = own-is s (inside-seen s (found-of scope s (c s) sb found).seen) ∙ found

  flushed-seen : (s : ℕ) → is_seen scope s ≡ true → (d s 8 ≡ c s 8 ∷ []) × (d s 9 ≡ c s 9 ∷ [])
  flushed-seen s seen = (stored.flushed s 8 (given-seen s seen), stored.flushed s 9 (given-seen s seen))

  -- so is what a slot may show
  pub found-numbers : AreNumbersKept (scope_in bank uuid given backup) m.own d
  found-numbers s sb shown = (sb, own-found s sb (sym same ∙ shown.is), refl)
    where
      there : (d s 8 ≡ c s 8 ∷ []) × (d s 9 ≡ c s 9 ∷ [])
      there = flushed-seen s (found-of scope s shown.at sb shown.is).seen

      eighth : shown.at 8 ≡ c s 8
      eighth = one (subst (λ (l : List Sector). IsIn l (shown.at 8)) there.0 shown.eighth)

      ninth : shown.at 9 ≡ c s 9
      ninth = one (subst (λ (l : List Sector). IsIn l (shown.at 9)) there.1 shown.ninth)

      same : own_at scope s shown.at ≡ own_at scope s (c s)
      same = ap₂ (λ (a b : Sector). of_array scope.uuid (cond (is_seen scope s) (cond (nat_le 10 (scope.sizes.sectors s) && is_valid (a ++ b)) (Some (sb_of (a ++ b))) None) None)) eighth ninth

  accepted : IsAccepted scope.sizes.sectors m.newest (superblocks scope c)
  accepted = is-accepted scope.sizes.sectors m.newest (superblocks scope c)
      (ap (members_refusal scope.sizes.sectors) (sym parts.1) ∙ no-refusal scope c (reading_in bank.slots m) stored.says stored.accepted)

  sectors : (s : ℕ) (sb : Sb) → own_at scope s (c s) ≡ Some sb → IsInSectors (c s)
  sectors s sb found = stored.sectors s sb (own-is s (inside-seen s (found-of scope s (c s) sb found).seen) ∙ found)

  live-kept : (s : ℕ) → has_slot (set_of 32 (is_live m.roles m.spares)) s ≡ true → has_slot m.lost s ≡ false
  live-kept s live =
      lost s ∙ ap (λ b. nat_lt s bank.slots && not b)
      (given-seen s (live-seen scope c d m parts.0 accepted own-is (ap (λ (q : Reading). q.roles) parts.1) (ap (λ (q : Reading). q.spares) parts.1) inside-seen few flushed-seen sectors s live))
      ∙ never (nat_lt s bank.slots)
    where
      never : (b : Bool) → (b && false) ≡ false
      never true = refl
      never false = refl

  live-left : AreLeft (live_set m (marking m false)) m.lost (set_of 32 (is_live m.roles m.spares))
  live-left s = of (has_slot (set_of 32 (is_live m.roles m.spares)) s) refl
      ∙ ap (λ b. b && not (has_slot m.lost s)) (sym (has-set_of 32 (is_in_update m (marking m false)) s ∙ ap (λ b. nat_lt s 32 && b) (or_false (is_live m.roles m.spares s)) ∙ sym (has-set_of 32 (is_live m.roles m.spares) s)))
    where
      or_false : (b : Bool) → (b || false) ≡ b
      or_false true = refl
      or_false false = refl

      of : (b : Bool) → has_slot (set_of 32 (is_live m.roles m.spares)) s ≡ b
          → has_slot (set_of 32 (is_live m.roles m.spares)) s ≡ (has_slot (set_of 32 (is_live m.roles m.spares)) s && not (has_slot m.lost s))
      of true live = live ∙ sym (λ i. live i && not (live-kept s live i))
      of false none = none ∙ sym (ap (λ b. b && not (has_slot m.lost s)) none)

  pub found-is-held : IsHeldBy (scope_in bank uuid given backup) m d
  found-is-held =
      let held = found-held scope c d m parts.0 accepted own-is (ap (λ (q : Reading). q.roles) parts.1) (ap (λ (q : Reading). q.spares) parts.1) inside-seen few flushed-seen sectors m.lost in
      record {
        known = set_of 32 (is_live m.roles m.spares);
        live = live-left;
        updated = record {
          held = held;
          exact = found-exact scope c d m parts.0 accepted own-is (ap (λ (q : Reading). q.roles) parts.1) (ap (λ (q : Reading). q.spares) parts.1) inside-seen few flushed-seen sectors;
          reads = λ image drawn. held-reads scope (set_of 32 (is_live m.roles m.spares)) m.lost m.newest m.own d held (set_of 32 (is_live m.roles m.spares)) (λ s live. live) image drawn;
        };
        said = found-said scope c d m parts.0 accepted own-is (ap (λ (q : Reading). q.roles) parts.1) (ap (λ (q : Reading). q.spares) parts.1) inside-seen few flushed-seen sectors;
      }
