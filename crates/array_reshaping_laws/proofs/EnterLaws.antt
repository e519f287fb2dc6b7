-- The backup of an array in a reshape, which has room for the section of the next window.
use Rattle.std.proofs.Common.{◌≡◌, ℕ, ◌+◌, ◌-◌, ◌<◌, ◌≤◌, ◌&&◌, ◌||◌, nat_le, nat_lt, Bool, true, false, not, if◌then◌else◌, Option, Some, None, List, refl, sym, subst, arith}
use Rattle.std.proofs.lemmas.Bool.Decides.{nat_tests}
use Rattle.array_fixed_laws.specs.raid_types_Shapes.{has_slot}
use Rattle.array_fixed_laws.specs.raid_types_the_Refusal.{Refusal}
use Rattle.array_fixed_laws.specs.raid_types_the_Refusal_TheVariants.{BackupAbsent}
use Rattle.array_fixed_laws.specs.raid_types_the_Span.{Span}
use Rattle.reshape_window_backup.specs.bank_Given.{Given}
use Rattle.array_reshaping_resync_laws.specs.sb_specs_the_Members.{Members}
use Rattle.array_reshaping_resync_laws.specs.sb_specs_Reading.{is_reshaping, next_window}
use Rattle.array_reshaping_resync_laws.specs.history_Stands.{reach_of}
use Rattle.array_fixed_laws.specs.array_call_specs_Kept.{scope_in}
use Rattle.reshape_window_backup.specs.Backup.{IsBackupFor}
use Rattle.array_fixed_laws.proofs.array_reshaping_state_ReshapeLaws.{window-reach}
use Rattle.array_reshaping_resync_laws.specs.array_reshaping_invariant_Moving.{AreReshaping}

-- ---- the backup

room-of : (active there fits : Bool) → active ≡ true → ◌≡◌ {A = Option Refusal} (if not active || (there && fits) then None else Some BackupAbsent) None → (there ≡ true) × (fits ≡ true)
room-of true true true is none = (refl, refl)
room-of true true false is none = absurd (cc)
room-of true false fits is none = absurd (cc)
room-of false there fits is none = absurd (cc)

fits-of : (reach most : ℕ) (b : Bool) → nat_le (8 + reach) (if b then most else 0) ≡ true → (b ≡ true) × (8 + reach ≤ most)
fits-of reach most true fits = (refl, grind (arith, nat_tests, fits))
fits-of reach most false fits = absurd (let none : 8 + reach ≤ 0 = grind (arith, nat_tests, fits) in omega (arith, none))

less-of : (a b : ℕ) → nat_lt a b ≡ true → a < b
less-of a b is = grind (arith, nat_tests, is)

-- the array's backup is there, with room for the next window's section
pub record HasBackup (given : Given) (uuid : List ℕ) (slots backup : ℕ) (span : Span) : Type 0 where
  pub is : IsBackupFor (scope_in given uuid slots (Some backup)) backup uuid span
  pub slot : backup < given.slots
  pub within : 8 + (span.hi - span.lo) ≤ given.sectors backup

pub backup-for : (given : Given) (uuid : List ℕ) (slots backup : ℕ) (m : Members) (span : Span) → AreReshaping (scope_in given uuid slots (Some backup)) given m → next_window m.newest ≡ Some span
    → HasBackup given uuid slots backup span
backup-for given uuid slots backup m span are next =
    let parts = room-of (is_reshaping m.newest) (has_slot slots backup) (nat_le (8 + reach_of m.newest) (if nat_lt backup given.slots then given.sectors backup else 0)) are.active are.backed.backup in
    let fits = fits-of (reach_of m.newest) (given.sectors backup) (nat_lt backup given.slots) parts.1 in
    let most = fits.1 in
    let reach = window-reach m.newest are.placed.fit span next in
    record {
      is = record {
        backup = refl;
        there = parts.0;
        array = refl;
        room = subst (λ (b : Bool). 8 + (span.hi - span.lo) ≤ (if b then given.sectors backup else 0)) (sym fits.0) (omega (arith, most, reach));
      };
      slot = less-of backup given.slots fits.0;
      within = omega (arith, most, reach);
    }
