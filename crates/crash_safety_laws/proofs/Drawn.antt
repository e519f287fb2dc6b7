-- Whatever superblocks are drawn on the slots that are looked at, something may stand in each sector of the disk.
use Rattle.std.proofs.Common.{◌≡◌, ℕ, Bool, true, false, cond, List, sym, ◌∙◌, ap, refl}
use Rattle.crash_views.specs.bank_the_Operation.{Operation}
use Rattle.crash_views.specs.bank_Given.{Given}
use Rattle.crash_views.specs.bank_Tape.{Contents, IsIn, disk, value_after}
use Rattle.crash_views.proofs.bank_Images.{disk-some}
use Rattle.crash_views.specs.sb_specs_Reading.{Scope, is_seen}
use Rattle.crash_views.specs.sb_specs_Held.{AreDrawn}
use Rattle.crash_views.proofs.history_SameLaws.{HaveSameMembers, read-same}
use Rattle.crash_views.specs.Views.{Disk, Ledger, IsSeenRight}
use Rattle.crash_views.specs.Windows.{IsSomewhere}
use Rattle.crash_safety_laws.specs.Steady.{AreDrawnSuperblocks, AreViewsRight}

pub disk-somewhere : (given : Given) (tape : List Operation) → IsSomewhere (disk given.start tape)
disk-somewhere given tape s k = (value_after s k (given.start s k) tape, disk-some given.start tape s k)

module _ (scope : Scope) (d : Disk) (some : IsSomewhere d) (c : Contents) (drawn : AreDrawnSuperblocks scope d c) where
  -- the same on those slots, and some drawn value on the others
  abbrev pub filled : Contents
  filled s k = cond (is_seen scope s) (c s k) (some s k).0

  filled-at : (s k : ℕ) → (is_seen scope s ≡ true → IsIn (d s k) (c s k)) → IsIn (d s k) (filled s k)
  filled-at s k seen = of (is_seen scope s) refl
    where
      of : (b : Bool) → is_seen scope s ≡ b → IsIn (d s k) (cond b (c s k) (some s k).0)
      of true is = seen is
      of false is = (some s k).1

  pub filled-drawn : AreDrawn d filled
  filled-drawn slot = (filled-at slot 8 (λ seen. drawn.eighth slot seen), filled-at slot 9 (λ seen. drawn.ninth slot seen))

  pub filled-same : HaveSameMembers scope filled c
  filled-same = record {
    eighth = λ slot seen. ap (λ (b : Bool). cond b (c slot 8) (some slot 8).0) seen;
    ninth = λ slot seen. ap (λ (b : Bool). cond b (c slot 9) (some slot 9).0) seen;
  }

  pub seen-filled : (sound : Type 0) (given : Given) (told : Ledger) (e : Disk) → IsSeenRight sound scope given told e filled → IsSeenRight sound scope given told e c
  seen-filled sound given told e seen = record { found = seen.found; is = sym (read-same scope filled c filled-same) ∙ seen.is; view = seen.view; same = seen.same; right = seen.right }

-- it is enough that what is drawn on all slots is seen right
pub views-right : (sound : Type 0) (scope : Scope) (given : Given) (told : Ledger) (d : Disk) → IsSomewhere d
    → ((c : Contents) → AreDrawn d c → IsSeenRight sound scope given told d c) → AreViewsRight sound scope given told d
views-right sound scope given told d some each c drawn = seen-filled scope d some c drawn sound given told d (each (filled scope d some c drawn) (filled-drawn scope d some c drawn))
