-- A write that was refused for the backup: the array is in a reshape, and has a backup that failed.
use Rattle.std.proofs.Common.{◌≡◌, ℕ, ◌+◌, ◌≤◌, ◌/◌, Bool, true, false, Option, Some, None, Result, Err, List, length, refl, subst, arith}
use Rattle.std.specs.Prelude.{MatchOption, IfSome, IsSome}
use Rattle.run_specs.specs.raid_types_Sectors.{sectors_of}
use Rattle.run_specs.proofs.raid_types_SectorLaws.{length-sectors_of}
use Rattle.run_specs.specs.raid_types_the_Fault.{Fault}
use Rattle.run_specs.specs.raid_types_the_Fault_TheVariants.{Refused as IsRefusedWith}
use Rattle.run_specs.specs.raid_types_the_Refusal.{Refusal}
use Rattle.run_specs.specs.raid_types_the_Refusal_TheVariants.{BackupFault}
use Rattle.run_specs.specs.raid_types_the_Who.{Who}
use Rattle.run_specs.specs.sb_specs_the_Members.{Members}
use Rattle.run_specs.specs.history_the_Entry.{Entry}
use Rattle.run_specs.specs.history_the_Event_TheVariants.{Wrote}
use Rattle.run_specs.specs.history_the_Request_TheVariants.{Write as AsksWrite}
use Rattle.run_specs.specs.array_call_specs_Calls.{IsAnswered, IsCausedBy}
use Rattle.run_specs.proofs.AskLaws.{barred_within}
use Rattle.run_specs.proofs.Turned.{unbarred}

not-still : {T : Type 0} (size at : ℕ) (body : List (List ℕ)) (who : Who) (old new : List Entry) (r : Result T Fault) → IsAnswered size (AsksWrite at body) who old new (Wrote at body) r → r ≡ Err (IsRefusedWith BackupFault) → ⊥
not-still {T = T} size at body who old new r answered is =
    unbarred _ _ (subst (λ (x : Result T Fault). IsAnswered size (AsksWrite at body) who old new (Wrote at body) x) is answered).fits.answers

-- so it is in a reshape, where it has a backup
pub barred-backup : (moving : Bool) (backup : Option ℕ) (Failed : ℕ → Type 0) → ((moving ≡ false) → ⊥) → (moving ≡ true → IsSome backup) → IfSome backup Failed → MatchOption backup ⊥ Failed
barred-backup true None Failed here backed failed = absurd (let some = backed refl in cc)
barred-backup true (Some slot) Failed here backed failed = failed
barred-backup false backup Failed here backed failed = absurd (here refl)

pub barred-still : {T : Type 0} (size at : ℕ) (body : List (List ℕ)) (who : Who) (old new : List Entry) (moving : Bool) (r : Result T Fault) → (moving ≡ false → IsAnswered size (AsksWrite at body) who old new (Wrote at body) r)
    → r ≡ Err (IsRefusedWith BackupFault) → moving ≡ false → ⊥
barred-still size at body who old new moving r answered is still = not-still size at body who old new r (answered still) is

-- and the write doesn't go past the end
pub barred-end : {T : Type 0} (size at visible : ℕ) (bytes : List ℕ) (why : Members → Refusal → Type 0) (members after : Members) (r : Result T Fault) → IsCausedBy size (at + length bytes / 512) why members after r → visible ≡ size
    → r ≡ Err (IsRefusedWith BackupFault) → at + length (sectors_of bytes) ≤ visible
barred-end size at visible bytes why members after r caused seen is =
    let within = barred_within size (at + length bytes / 512) why members after r caused is in
    let many = length-sectors_of bytes in
    omega (arith, within, many, seen)
