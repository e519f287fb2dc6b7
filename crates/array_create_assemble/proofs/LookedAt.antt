-- What is known of the slots of a bank, after they were read and then flushed.
use Rattle.std.proofs.Common.{◌≡◌, ◌<◌, ◌≤◌, ℕ, IsTrue, ◌+◌, ◌-◌, ◌^◌, Bool, true, false, cond, nat_lt, refl, sym, ap, ◌∙◌, subst, arith, List, [], length, take, drop, get_or, Option, Some, None, inl, inr, replicate}
use Rattle.std.specs.Prelude.{not, ◌&&◌}
use Rattle.std.proofs.lemmas.Bool.{cases_lt}
use Rattle.std.proofs.lemmas.List.{get_or_past, ext_get_or, get_or-take, get_or-drop, get_or-replicate, length-take-le, length-drop, length-replicate}
use Rattle.std.proofs.lemmas.Bool.Decides.{nat_tests}
use Rattle.array_found_laws.specs.raid_types_Shapes.{has_slot}
use Rattle.array_found_laws.specs.raid_types_Search.{tabulate}
use Rattle.array_found_laws.proofs.raid_types_Tabulated.{length-tabulate, get_or-tabulate}
use Rattle.array_found_laws.specs.sb_codec_the_Sb.{Sb}
use Rattle.array_found_laws.specs.sb_codec_Superblock.{superblock_in}
use Rattle.bank.specs.declared.bank.Operation.{Operation}
use Rattle.bank.specs.Given.{Given, sizes}
use Rattle.bank.specs.Tape.{Contents, contents}
use Rattle.array_found_laws.specs.sb_specs_Reading.{seen_superblock, is_backup}
use Rattle.array_found_laws.specs.sb_specs_Election.{members_scope, seen_superblocks, OnlyMembersFail, AreLost}
use Rattle.array_found_laws.specs.sb_specs_Writing.{AreWritable}
use Rattle.array_found_laws.specs.sb_specs_Found.{AreInSectors}
use Rattle.sb_election.proofs.LostSlots.{has-all_but}
use Rattle.array_create_assemble.specs.Opening.{scope_of}
use Rattle.sb_add_spare.specs.array_members_Flushing.{AreTried, OnlyFlushesAdded, OnlyItsSlotsFail}
use Rattle.sb_add_spare.proofs.array_members_Flushed.{contents-added}

is_below : (s n : ℕ) → s < n → nat_lt s n ≡ true
is_below s n h = grind (arith, nat_tests)

-- the slots past the last one still have no superblock
pub rest-none : (slots : ℕ) (found seen : List (Option Sb)) (lost : ℕ) → drop slots found ≡ replicate (32 - slots) None
    → ((s : ℕ) → s < 32 → get_or seen s None ≡ cond (has_slot lost s) None (get_or found s None)) → length seen ≡ 32
    → drop slots seen ≡ replicate (32 - slots) None
rest-none slots found seen lost none kept long =
    let count : length (drop slots seen) ≡ 32 - slots = length-drop slots seen ∙ ap (λ n. n - slots) long in
    ext_get_or None (drop slots seen) (replicate (32 - slots) None) (count ∙ sym (length-replicate (32 - slots) None))
    (λ i h. let within : slots + i < 32 = omega (arith, h, count) in
    get_or-drop slots seen i None ∙ kept (slots + i) within
    ∙ ap (λ o. cond (has_slot lost (slots + i)) None o) (sym (get_or-drop slots found i None) ∙ ap (λ l. get_or l i None) none)
    ∙ both_none (has_slot lost (slots + i)) (get_or (replicate (32 - slots) None) i None) (get_or-replicate (32 - slots) i None None (omega (arith, h, count))))
  where
    both_none : (b : Bool) (o : Option Sb) → o ≡ None → cond b None o ≡ o
    both_none true o e = sym e
    both_none false o e = refl

-- fewer superblocks can be written again too
pub writable-left : (bank : Given) (found seen : List (Option Sb)) (lost : ℕ)
    → ((s : ℕ) → s < 32 → get_or seen s None ≡ cond (has_slot lost s) None (get_or found s None)) → length seen ≡ 32
    → AreWritable bank found → AreWritable bank seen
writable-left bank found seen lost kept long was s sb e = elim (cases_lt s 32) [
  | inl within ↦ was s sb (there (has_slot lost s) (sym (kept s within) ∙ e))
  | inr past ↦ absurd (contrary (sym (get_or_past seen s None (omega (arith, long, past))) ∙ e))
]
  where
    there : (b : Bool) → cond b None (get_or found s None) ≡ Some sb → get_or found s None ≡ Some sb
    there true e = absurd (cc)
    there false e = e

    contrary : ◌≡◌ {A = Option Sb} None (Some sb) → ⊥
    contrary e = absurd (cc)

-- nor has the backup one
pub aside-left : (backup : Option ℕ) (found seen : List (Option Sb)) (lost : ℕ)
    → ((s : ℕ) → s < 32 → get_or seen s None ≡ cond (has_slot lost s) None (get_or found s None)) → length seen ≡ 32
    → ((s : ℕ) → IsTrue (is_backup backup s) → get_or found s None ≡ None) → (s : ℕ) → IsTrue (is_backup backup s) → get_or seen s None ≡ None
aside-left backup found seen lost kept long was s is = elim (cases_lt s 32) [
  | inl within ↦ kept s within ∙ none (has_slot lost s) (get_or found s None) (was s is)
  | inr past ↦ get_or_past seen s None (omega (arith, long, past))
]
  where
    none : (b : Bool) (o : Option Sb) → o ≡ None → cond b None o ≡ None
    none true o e = refl
    none false o e = e

-- and stand in sectors too
pub sectors-left : (c : Contents) (found seen : List (Option Sb)) (lost : ℕ)
    → ((s : ℕ) → s < 32 → get_or seen s None ≡ cond (has_slot lost s) None (get_or found s None)) → length seen ≡ 32
    → AreInSectors c found → AreInSectors c seen
sectors-left c found seen lost kept long was s sb e = elim (cases_lt s 32) [
  | inl within ↦ was s sb (there (has_slot lost s) (sym (kept s within) ∙ e))
  | inr past ↦ absurd (contrary (sym (get_or_past seen s None (omega (arith, long, past))) ∙ e))
]
  where
    there : (b : Bool) → cond b None (get_or found s None) ≡ Some sb → get_or found s None ≡ Some sb
    there true e = absurd (cc)
    there false e = e

    contrary : ◌≡◌ {A = Option Sb} None (Some sb) → ⊥
    contrary e = absurd (cc)

module _ (tells : Type 0) (bank : Given) (old mid new : List Operation) (backup : Option ℕ) (before between after : ℕ → ℕ)
    (found seen : List (Option Sb)) (failed lost given : ℕ)
    (few : bank.slots ≤ 32) (small : failed < 2 ^ 32)
    (read : tells → take bank.slots found ≡ seen_superblocks (members_scope bank backup failed []) (contents bank.start old (length old)))
    (members : AreLost bank backup failed before between) (first : OnlyMembersFail bank backup before between)
    (same : tells → mid ≡ old)
    (tried : AreTried tells bank new bank.slots failed lost between after)
    (added : tells → OnlyFlushesAdded mid new) (second : OnlyItsSlotsFail bank between after)
    (kept : (s : ℕ) → s < 32 → get_or seen s None ≡ cond (has_slot lost s) None (get_or found s None)) (long : length seen ≡ 32)
    (bits : (s : ℕ) → has_slot given s ≡ (nat_lt s bank.slots && not (has_slot lost s))) where
  pub added-since : tells → OnlyFlushesAdded old new
  added-since told = subst (λ tape. OnlyFlushesAdded tape new) (same told) (added told)

  not_given : (s : ℕ) → s < bank.slots → has_slot given s ≡ not (has_slot lost s)
  not_given s h = bits s ∙ ap (λ b. b && not (has_slot lost s)) (is_below s bank.slots h)

  module _ (told : tells) where
    abbrev c : Contents
    c = contents bank.start new (length new)

    -- what was read in a slot
    was_read : (s : ℕ) → s < bank.slots → get_or found s None ≡ seen_superblock (members_scope bank backup failed []) c s
    was_read s h =
        let f : ℕ → Option Sb = seen_superblock (members_scope bank backup failed []) (contents bank.start old (length old)) in
        sym (get_or-take bank.slots found s None h) ∙ ap (λ l. get_or l s None) (read told) ∙ get_or-tabulate bank.slots f s None h
        ∙ ap (λ c. seen_superblock (members_scope bank backup failed []) c s) (sym (contents-added bank.start old new (added-since told)))

    abbrev stored : ℕ → Option Sb
    stored s = superblock_in ((sizes bank).sectors s) (c s)

    is_left : (s : ℕ) → s < bank.slots → cond (has_slot lost s) None (seen_superblock (members_scope bank backup failed []) c s)
        ≡ seen_superblock (scope_of bank backup given []) c s
    is_left s h = by_lost (has_slot lost s) refl
      where
        by_lost : (b : Bool) → has_slot lost s ≡ b → cond b None (seen_superblock (members_scope bank backup failed []) c s)
            ≡ seen_superblock (scope_of bank backup given []) c s
        by_lost true is = ap (λ b. cond (b && not (is_backup backup s)) (stored s) None) (sym (not_given s h ∙ ap not is))
        by_lost false is =
            ap (λ b. cond (b && not (is_backup backup s)) (stored s) None)
            (has-all_but failed s small (omega (arith, h, few)) ∙ ap not (not_yet (has_slot failed s) refl) ∙ sym (not_given s h ∙ ap not is))
          where
            not_yet : (b : Bool) → has_slot failed s ≡ b → has_slot failed s ≡ false
            not_yet true at_once = let then : has_slot lost s ≡ true = tried.stay s at_once in absurd (cc)
            not_yet false later = later

    pub seen-given : take bank.slots seen ≡ seen_superblocks (scope_of bank backup given []) c
    seen-given =
        let f : ℕ → Option Sb = seen_superblock (scope_of bank backup given []) c in
        let count : length (take bank.slots seen) ≡ bank.slots = length-take-le bank.slots seen (omega (arith, long, few)) in
        ext_get_or None (take bank.slots seen) (tabulate bank.slots f) (count ∙ sym (length-tabulate bank.slots f))
        (λ i h. let within : i < bank.slots = omega (arith, h, count) in
        get_or-take bank.slots seen i None within ∙ kept i (omega (arith, within, few))
        ∙ ap (λ o. cond (has_slot lost i) None o) (was_read i within) ∙ is_left i within
        ∙ sym (get_or-tabulate bank.slots f i None within))
