-- Rows of one region that are written in a dirty array keep it safe: a place of the list gets its sector of the list, which is allowed.
use Rattle.std.proofs.Common.{◌≡◌, ◌⊎◌, inl, inr, ℕ, false, List, Contains, refl, sym, subst, arith}
use Rattle.crash_views.specs.raid_types_the_Shape.{Shape}
use Rattle.crash_views.specs.raid_types_Sectors.{Sector}
use Rattle.crash_views.specs.bank_Given.{Given}
use Rattle.crash_views.specs.bank_Tape.{IsIn}
use Rattle.crash_views.specs.sb_specs_the_Members.{Members}
use Rattle.crash_views.specs.sb_specs_Reading.{Scope, is_clean}
use Rattle.crash_views.specs.stripe_row_Rows.{reading_of, members_without}
use Rattle.crash_views.proofs.stripe_row_Losses.{holder-after}
use Rattle.crash_views.specs.stripe_list_Writing.{MayHaveFull, IsPutting, AreSuperblocksKept}
use Rattle.crash_views.specs.Views.{Disk, Ledger, IsTailZero, IsViewRight}
use Rattle.crash_views.specs.Windows.{IsOfRegion}
use Rattle.crash_views.proofs.WindowLaws.{putting-right}
use Rattle.crash_safety_laws.specs.Steady.{IsSteady, IsSafeNow, AreHolders, AreUnlost, AreWritesAllowed, WritesStaySafe}
use Rattle.crash_safety_laws.proofs.Carried.{carried-fewer}
use Rattle.crash_safety_laws.proofs.HeldAlike.{held-alike}
use Rattle.crash_safety_laws.proofs.Spent.{nothing-put}
use Rattle.crash_safety_laws.proofs.Steady.{losing-stays-safe}

-- what is put on the members without lost slots is put on the former ones
former-putting : (former : Members) (gone : ℕ) (shape : Shape) (list : ℕ → Sector) (touched : ℕ → Type 0) (d e : Disk)
    → IsPutting (reading_of (members_without gone former)) shape list touched d e → IsPutting (reading_of former) shape list touched d e
former-putting former gone shape list touched d e putting s k = of (putting s k)
  where
    of : (e s k ≡ d s k) ⊎ MayHaveFull (reading_of (members_without gone former)) shape list touched s k (d s k) (e s k)
        → (e s k ≡ d s k) ⊎ MayHaveFull (reading_of former) shape list touched s k (d s k) (e s k)
    of (inl same) = inl same
    of (inr full) = inr (record {
      row = full.row;
      role = full.role;
      among = full.among;
      within = full.within;
      held = holder-after former gone full.role s full.held;
      place = full.place;
      values = full.values;
    })

-- ---- the law

module _ (sound : Type 0) (scope : Scope) (given : Given) (told : Ledger) (shape : Shape) (list : ℕ → Sector) (rows : List ℕ) (d e : Disk) (kept : AreSuperblocksKept d e) where
  view-written : (former : Members) (gone : ℕ) → is_clean former.newest ≡ false → IsOfRegion (members_without gone former) shape (Contains rows)
      → AreWritesAllowed (members_without gone former) told.values list → (sound → IsTailZero former.newest list) → IsPutting (reading_of (members_without gone former)) shape list (Contains rows) d e
      → IsViewRight sound scope given told former d → IsViewRight sound scope given told former e
  view-written former gone dirty region allowed zeros putting right =
      putting-right sound scope given told former shape list rows d e dirty region allowed zeros (former-putting former gone shape list (Contains rows) d e putting) right

  steady-written : (members : Members) → is_clean members.newest ≡ false → IsOfRegion members shape (Contains rows) → AreWritesAllowed members told.values list
      → (sound → IsTailZero members.newest list) → IsPutting (reading_of members) shape list (Contains rows) d e → IsSteady sound scope given told members d → IsSteady sound scope given told members e
  steady-written members dirty region allowed zeros putting steady = record {
    former = steady.former;
    since = record {
      gone = steady.since.gone;
      since = steady.since.since;
      held = held-alike scope d e (λ s. kept s 8 (omega arith)) (λ s. kept s 9 (omega arith)) steady.former steady.since.held;
    };
    right = subst
        (λ (m : Members). is_clean m.newest ≡ false → IsOfRegion m shape (Contains rows) → AreWritesAllowed m told.values list
        → (sound → IsTailZero m.newest list) → IsPutting (reading_of m) shape list (Contains rows) d e
        → IsViewRight sound scope given told steady.former e)
        (sym steady.since.since) (λ is of may ends put. view-written steady.former steady.since.gone is of may ends put steady.right) dirty region allowed zeros putting;
    numbers = carried-fewer scope told.carried steady.former.own d e (λ s v may. subst (λ (l : List Sector). IsIn l v) (kept s 8 (omega arith)) may)
        (λ s v may. subst (λ (l : List Sector). IsIn l v) (kept s 9 (omega arith)) may) steady.numbers;
  }

  safe-written : (members : Members) → AreHolders given members → is_clean members.newest ≡ false → AreUnlost members → IsOfRegion members shape (Contains rows)
      → AreWritesAllowed members told.values list → (sound → IsTailZero members.newest list) → IsPutting (reading_of members) shape list (Contains rows) d e
      → IsSafeNow sound scope given told members d → IsSafeNow sound scope given told members e
  safe-written members holders dirty unlost region allowed zeros putting (inl steady) = inl (steady-written members dirty region allowed zeros putting steady)
  safe-written members holders dirty unlost region allowed zeros putting (inr spent) =
      subst (λ (f : Disk). IsSafeNow sound scope given told members f)
      (λ i s k. sym (nothing-put given members shape list (Contains rows) d e holders unlost spent.none putting s k) i) (inr spent)

pub writes-stay-safe : (sound : Type 0) → WritesStaySafe sound
writes-stay-safe sound scope given told members shape list rows lost d e holders dirty unlost region allowed zeros putting kept safe =
    losing-stays-safe sound scope given lost told told members e
    (record { size = refl; values = λ x lt v may. may; gone = λ role is. is; unclean = λ is. is; reshaping = λ is. is; carried = λ slot number is. is })
    (safe-written sound scope given told shape list rows d e kept members holders dirty unlost region allowed zeros putting safe)
