-- The order of the writes over all passes of an update.
use Rattle.std.proofs.Common.{◌≡◌, ◌⊎◌, inl, inr, ⊎_elim, ℕ, true, List, [], ◌∷◌, replicate, Option, sym, subst}
use Rattle.bank.specs.raid_types_Sectors.{Sector}
use Rattle.sb_specs.specs.raid_types_Shapes.{has_slot}
use Rattle.sb_specs.specs.sb_codec_the_Sb.{Sb}
use Rattle.bank.specs.declared.bank.Operation.{Operation}
use Rattle.bank.specs.Tape.{IsIn, EachMark, disk}
use Rattle.bank.proofs.Marks.{each_mark-map, each_mark-then}
use Rattle.sb_specs.specs.declared.change.Give.TheVariants.{Same}
use Rattle.sb_specs.specs.declared.change.Change.{Change}
use Rattle.sb_specs.specs.Update.{give_of, own_in}
use Rattle.sb_specs.specs.Writing.{IsPlanned}
use Rattle.sb_specs.specs.Updating.{IsUpdate, IsLater, IsRecorded, IsInOrder, AreRecoveriesWritten, planned_newest}
use Rattle.sb_specs.specs.Order.{AreRecoveriesRecorded, IsRecoveryFirst}
use Rattle.sb_specs.proofs.Updates.{later-then, stays_left}

abbrev Disk : Type 0
Disk = ℕ → ℕ → List Sector

only_one : (l : List Sector) (v w : Sector) → l ≡ w ∷ [] → IsIn l v → v ≡ w
only_one l v w is held = of (subst (λ (m : List Sector). IsIn m v) is held)
  where
    of : (v ≡ w) ⊎ ⊥ → v ≡ w
    of (inl same) = same
    of (inr none) = absurd none

module _ (former newest2 newest3 : Sb) (change : Change) (own : List (Option Sb)) (live lost0 lost1 lost3 lost4 : ℕ) (start : ℕ → ℕ → Sector) (tape0 tape1 tape3 tape4 : List Operation)
    (stay : (s : ℕ) → has_slot lost3 s ≡ true → has_slot lost4 s ≡ true)
    (later2 : IsLater (planned_newest change.shared former) newest2) (later3 : IsLater (planned_newest change.shared former) newest3) where
  abbrev pub Now : Disk → Type 0
  Now = IsRecoveryFirst former change own live lost4 (disk start tape0)

  -- a recovery that is written alone
  alone : (e : Disk) → AreRecoveriesWritten newest2 change.gives own live lost3 e → AreRecoveriesRecorded (planned_newest change.shared former) change.gives own live lost4 e
  alone e written s v is left recovery held =
      let w = written s is (stays_left lost3 lost4 s (stay s) left) recovery in
      (newest2, later2, subst (IsPlanned newest2 (give_of change.gives s) (own_in own s)) (sym (only_one (e s 8) v w.0 w.2 held)) w.1)

  pub all_in_order : {tells : Type 0} → IsUpdate tells live lost0 lost1 (IsRecorded former (replicate 32 Same) own) start tape0 tape1
      → EachMark tells start tape1 tape3 (IsInOrder newest2 change.gives own live lost3 (disk start tape1))
      → (tells → AreRecoveriesWritten newest2 change.gives own live lost3 (disk start tape3))
      → IsUpdate tells live lost3 lost4 (IsRecorded newest3 change.gives own) start tape3 tape4
      → EachMark tells start tape0 tape4 (IsRecoveryFirst former change own live lost4 (disk start tape0))
  all_in_order first order written last =
      each_mark-then (each_mark-map Now (λ _ e at. inl (λ s v none held. at.touched.values s v held)) first.marks)
      (each_mark-then (each_mark-map Now (λ told e at. ⊎_elim
      (λ kept. inl (λ s v none held. (first.end told).touched.values s v (subst (λ (l : List Sector). IsIn l v) (kept s none) held)))
      (λ w. inr (alone e w)) at) order)
      (each_mark-map Now (λ told e at. inr (λ s v is left recovery held. ⊎_elim
      (λ there. alone (disk start tape3) (written told) s v is left recovery there)
      (λ w. (w.0, later-then (planned_newest change.shared former) newest3 w.0 later3 w.1, w.2)) (at.touched.values s v held))) last.marks))
