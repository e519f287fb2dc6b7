-- Marks and flushes of a call that keep an array safe.
use Rattle.std.proofs.Common.{◌≡◌, ℕ, ◌≤◌, Bool, true, List, length, length-append, take, take_all, le_refl, ◌++◌, sym, ◌∙◌, ap, subst, arith}
use Rattle.std.specs.Prelude.{⊤}
use Rattle.crash_role_laws.specs.raid_types_Sectors.{Sector}
use Rattle.crash_role_laws.specs.bank_the_Operation.{Operation}
use Rattle.crash_role_laws.specs.bank_Given.{Given}
use Rattle.crash_role_laws.specs.bank_Tape.{EachMark, disk}
use Rattle.crash_role_laws.specs.sb_specs_the_Members.{Members}
use Rattle.crash_role_laws.specs.sb_specs_Reading.{Scope, is_clean}
use Rattle.crash_role_laws.specs.stripe_row_Rows.{reading_of, present, members_without}
use Rattle.array_members.specs.Placed.{IsPlaced}
use Rattle.crash_role_laws.specs.crash_safety_laws_Steady.{AreUnlost, IsSteady, IsSafeNow, IsSafeStretch, AreGoneTold, IsUncleanTold, AreWritesAllowed}
use Rattle.array_members.specs.Lacking.{AreHoldersFlushed}
use Rattle.array_members.specs.Under.{RowsStandUnder}
use Rattle.array_members.specs.Flushing.{OnlyFlushesAdded}
use Rattle.crash_role_laws.specs.crash_views_Views.{Ledger, IsSettled}
use Rattle.crash_role_laws.specs.crash_safety_laws_Kinds.{IsMarkable}
use Rattle.array_members.proofs.Still.{told-same, flushed-is-settled}
use Rattle.array_members.proofs.LiveLeft.{without-left, left-steady}
use Rattle.crash_role_laws.proofs.crash_safety_laws_Steady.{safe-is-seen, losing-stays-safe, flushes-stay-safe}
use Rattle.crash_role_laws.specs.crash_views_Regions.{DoWithout}
use Rattle.crash_role_laws.proofs.crash_safety_laws_Kept.{without-less}
use Rattle.crash_role_laws.proofs.crash_safety_laws_LessViews.{less-settled, does-without}

-- ---- a mark, over a bank that tells its contents

pub told-marks : {tells : Type 0} {start : ℕ → ℕ → Sector} {old new : List Operation} {P : (ℕ → ℕ → List Sector) → Type 0} → tells → EachMark tells start old new P → EachMark ⊤ start old new P
told-marks told marks = record { longer = λ u. marks.longer told; earlier = λ u. marks.earlier told; each = λ u. marks.each told }

-- A clean array that can do without the roles that it misses has settled rows: they were so by the members before they lost slots.
pub clean-settled : (sound : Type 0) (scope : Scope) (given : Given) (told : Ledger) (m : Members) (d : ℕ → ℕ → List Sector) → IsPlaced given m → AreUnlost m
    → IsSafeNow sound scope given told m d → is_clean m.newest ≡ true → DoWithout m → sound → IsSettled scope m told.values d
clean-settled sound scope given told m d placed unlost safe clean does premise =
    let steady = left-steady (without-left given m placed unlost does) safe in
    of steady steady.since.gone steady.since.since
  where
    of : (steady : IsSteady sound scope given told m d) (gone : ℕ) → m ≡ members_without gone steady.former → IsSettled scope m told.values d
    of steady gone is =
        let former = steady.former in
        let less = without-less former gone in
        subst (λ (n : Members). IsSettled scope n told.values d) (sym is)
        (less-settled former (members_without gone former) less scope told.values d
        (steady.right.settled (ap (λ (n : Members). is_clean n.newest) (sym is) ∙ clean)
        (does-without former (members_without gone former) less (subst DoWithout is does)) premise))

-- so it can be marked again as it is
pub same-markable : (sound : Type 0) (scope : Scope) (given : Given) (told : Ledger) (clean : Bool) (old new : Members) (d : ℕ → ℕ → List Sector) → IsPlaced given old → AreUnlost old
    → clean ≡ is_clean old.newest → AreGoneTold told new → IsUncleanTold told old → IsSafeNow sound scope given told old d → IsMarkable sound scope clean told old new d
same-markable sound scope given told clean old new d placed unlost same gone unclean safe = record {
  gone = gone;
  unclean = λ dirty. unclean (sym same ∙ dirty);
  settled = λ is does premise. clean-settled sound scope given told old d placed unlost safe (sym same ∙ is) does premise;
}

-- A clean mark behind a flush: the rows stand as the list, where the array can do without the roles that it misses.
pub settled-markable : (sound : Type 0) (scope : Scope) (given : Given) (told : Ledger) (old new : Members) (tape : List Operation) (list : ℕ → Sector) → IsPlaced given old → AreHoldersFlushed (reading_of old) given tape
    → AreGoneTold told new → AreWritesAllowed old told.values list → (DoWithout old → sound → RowsStandUnder scope old (present given tape) (disk given.start tape) list) → IsMarkable sound scope true told old new (disk given.start tape)
settled-markable sound scope given told old new tape list placed flushed gone allowed rows = record {
  gone = gone;
  unclean = λ dirty. absurd (cc);
  settled = λ clean does premise. flushed-is-settled scope given old tape told.values list placed flushed (rows does premise) allowed;
}

-- ---- flushes

pub added-longer : (before after : List Operation) → OnlyFlushesAdded before after → length before ≤ length after
added-longer before after added = subst (λ (l : List Operation). length before ≤ length l) (sym added.2) (let all = length-append before added.0 in omega (arith, all))

-- flushes alone were done
pub flushed-safe : (sound : Type 0) (scope : Scope) (given : Given) (told : Ledger) (members : Members) (before after : List Operation) → OnlyFlushesAdded before after
    → IsSafeNow sound scope given told members (disk given.start before) → IsSafeStretch sound scope given told members before after
flushed-safe sound scope given told members before after added safe =
    subst (λ (l : List Operation). IsSafeStretch sound scope given told members before l) (sym added.2) (record {
      marks = record {
        longer = marks.longer;
        earlier = marks.earlier;
        each = λ u n low high. safe-is-seen sound scope given told members (take n (before ++ added.0)) (marks.each u n low high);
      };
      next = subst (λ (l : List Operation). IsSafeNow sound scope given told members (disk given.start l)) (take_all (length (before ++ added.0)) (before ++ added.0) (le_refl (length (before ++ added.0))))
          (marks.each tt (length (before ++ added.0)) (marks.longer tt) (le_refl (length (before ++ added.0))));
    })
  where
    marks : EachMark ⊤ given.start before (before ++ added.0) (IsSafeNow sound scope given told members)
    marks = flushes-stay-safe sound scope given told members before added.0 added.1 safe

-- and slots were lost
pub lost-safe : (sound : Type 0) (scope : Scope) (given : Given) (told : Ledger) (old new : Members) (lost : ℕ) (before after : List Operation) → new ≡ members_without lost old
    → OnlyFlushesAdded before after → IsSafeNow sound scope given told old (disk given.start before) → IsSafeStretch sound scope given told new before after
lost-safe sound scope given told old new lost before after is added safe = flushed-safe sound scope given told new before after added
    (subst (λ (m : Members). IsSafeNow sound scope given told m (disk given.start before)) (sym is)
    (losing-stays-safe sound scope given lost told told old (disk given.start before) (told-same told) safe))
