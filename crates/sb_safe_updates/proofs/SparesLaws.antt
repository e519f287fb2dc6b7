-- The spares that an update leaves.
use Rattle.std.proofs.Common.{◌≡◌, ◌⊎◌, inl, inr, ℕ, ◌<◌, ◌&&◌, ◌||◌, Bool, true, false, not, nat_lt, List, replicate, refl, sym, ◌∙◌, ap, arith}
use Rattle.std.specs.Prelude.{None}
use Rattle.std.specs.List.{list_any}
use Rattle.std.proofs.lemmas.Bool.Decides.{nat_tests}
use Rattle.raid_layout.specs.raid_types_Shapes.{has_slot}
use Rattle.sb_update.specs.bank_Given.{Given}
use Rattle.sb_update.specs.sb_specs_the_Change.{Change}
use Rattle.sb_update.specs.sb_specs_the_Give.{Give}
use Rattle.sb_update.specs.sb_specs_the_Give_TheVariants.{Same}
use Rattle.sb_update.specs.sb_specs_the_Members.{Members}
use Rattle.sb_update.specs.sb_specs_Outcome.{live_set, planned_spares}
use Rattle.sb_update.specs.sb_specs_Reads.{has_spare}
use Rattle.sb_update.specs.sb_specs_Update.{is_held_by, is_live, is_planned_spare, give_of}
use Rattle.array_members.proofs.sb_read_laws_SaidSlots.{has-slots_below}
use Rattle.array_members.specs.stripe_row_Rows.{reading_of}
use Rattle.array_members.specs.Flushing.{AreHolders}
use Rattle.array_members.specs.crash_safety_laws_Marking.{marking}
use Rattle.array_members.specs.Rebuilding.{IsFree}
use Rattle.array_members.proofs.crash_safety_laws_Kept.{give_of-same}
use Rattle.array_members.proofs.crash_safety_laws_Without.{any-holds, live-of}

-- a mark leaves those that aren't lost
module _ (old : Members) (clean : Bool) (lost : ℕ) (slots : List ℕ) (is : slots ≡ planned_spares old (marking old clean) lost) where
  pub spares-are : (s : ℕ) → has_spare slots s ≡ (nat_lt s 32 && (not (has_slot lost s) && (has_spare old.spares s || false)))
  spares-are s =
      ap (λ (l : List ℕ). has_spare l s) is
      ∙ has-slots_below (λ slot. not (has_slot lost slot) && is_planned_spare old.spares None (give_of (replicate 32 Same) slot) slot) s 32
      ∙ ap (λ (g : Give). nat_lt s 32 && (not (has_slot lost s) && is_planned_spare old.spares None g s)) (give_of-same 32 s)

  pub spare-left : (s : ℕ) → has_spare slots s ≡ true → (has_spare old.spares s ≡ true) × (has_slot lost s ≡ false)
  spare-left s has = parts (nat_lt s 32) (has_slot lost s) (has_spare old.spares s) (sym (spares-are s) ∙ has)
    where
      parts : (below gone spare : Bool) → (below && (not gone && (spare || false))) ≡ true → (spare ≡ true) × (gone ≡ false)
      parts false gone spare e = absurd (cc)
      parts true true spare e = absurd (cc)
      parts true false true e = (refl, refl)
      parts true false false e = absurd (cc)

  pub spare-stays : (s : ℕ) → s < 32 → has_slot lost s ≡ false → has_spare old.spares s ≡ true → has_spare slots s ≡ true
  spare-stays s lt kept has = spares-are s ∙ all (nat_lt s 32) (has_slot lost s) (has_spare old.spares s) (grind (arith, nat_tests, lt)) kept has
    where
      all : (below gone spare : Bool) → below ≡ true → gone ≡ false → spare ≡ true → (below && (not gone && (spare || false))) ≡ true
      all true false true one two three = refl
      all below true spare one two three = absurd (cc)
      all false gone spare one two three = absurd (cc)
      all below gone false one two three = absurd (cc)

-- a slot that was lost in an update, and holds no role, was a spare
pub told-were : (m : Members) (change : Change) (held slot : ℕ) → change.added ≡ None → AreHolders (reading_of m) held → has_slot (live_set m change) slot ≡ true → has_slot held slot ≡ false
    → has_spare m.spares slot ≡ true
told-were m change held slot none holders live idle = of (list_any (is_held_by slot) m.roles) refl (second (nat_lt slot 32) (is_live m.roles m.spares slot) (sym (live-of m change none slot) ∙ live))
  where
    second : (a b : Bool) → (a && b) ≡ true → b ≡ true
    second true b e = e
    second false b e = absurd (cc)

    of : (b : Bool) → list_any (is_held_by slot) m.roles ≡ b → (b || has_spare m.spares slot) ≡ true → has_spare m.spares slot ≡ true
    of true holds e = absurd (let found = any-holds slot m.roles holds in let there = holders.all found.0 slot found.1 in let clash = sym there ∙ idle in cc)
    of false holds e = e

-- Of the slots that were lost in an update those that held no role are told: a free one is left, or it is among them.
pub free-told : {given : Given} (m : Members) (held after lost told slot : ℕ) → IsFree given m slot → AreHolders (reading_of m) held
    → has_slot lost slot ≡ (has_slot after slot && not (has_slot m.lost slot)) → has_slot told slot ≡ (has_slot lost slot && not (has_slot held slot))
    → (has_slot after slot ≡ false) ⊎ (has_slot told slot ≡ true)
free-told m held after lost told slot free holders is_lost is_told = by (has_slot after slot) refl
  where
    none : (b : Bool) → has_slot held slot ≡ b → b ≡ false
    none true here = absurd (let of = holders.only slot here in free.none of.0 of.1)
    none false here = refl

    by : (b : Bool) → has_slot after slot ≡ b → (has_slot after slot ≡ false) ⊎ (has_slot told slot ≡ true)
    by false kept = inl kept
    by true gone = inr (is_told
        ∙ ap (λ (b : Bool). b && not (has_slot held slot)) (is_lost ∙ ap (λ (b : Bool). b && not (has_slot m.lost slot)) gone ∙ ap not free.unlost)
        ∙ ap not (none (has_slot held slot) refl))
