-- Rows of a role that are written to the slot that recovers it, where it doesn't hold them yet, keep an array safe: no view has them.
use Rattle.std.proofs.Common.{◌≡◌, ◌⊎◌, inl, inr, ℕ, ◌+◌, ◌<◌, ◌≤◌, Bool, true, false, cond, nat_lt, List, Option, Some, None, refl, sym, ◌∙◌, ap, subst, arith}
use Rattle.std.proofs.lemmas.Bool.Decides.{nat_tests}
use Rattle.crash_views.specs.raid_types_Sectors.{Sector}
use Rattle.crash_views.specs.raid_types_Shapes.{has_slot}
use Rattle.crash_views.specs.raid_types_the_Role.{Role}
use Rattle.crash_views.specs.raid_types_the_Role_TheVariants.{Whole, Recovering, Missing}
use Rattle.crash_views.specs.bank_Given.{Given}
use Rattle.crash_views.specs.bank_Tape.{IsIn, disk}
use Rattle.crash_views.specs.sb_specs_the_Members.{Members}
use Rattle.crash_views.specs.raid_layout_Layout.{place}
use Rattle.crash_views.specs.sb_specs_Reading.{Scope, final_shape, role_state, rows_held, holder, data_offset_of}
use Rattle.crash_views.specs.stripe_row_Rows.{reading_of, held_slot, role_without, members_without}
use Rattle.crash_views.proofs.stripe_row_Losses.{holder-of, state_after}
use Rattle.crash_views.specs.Regions.{backup_of, place_by, ArePlaced}
use Rattle.crash_views.specs.Views.{Disk, Ledger, IsViewRight}
use Rattle.crash_views.specs.Windows.{IsSomewhere, IsLess, IsWrittenAt}
use Rattle.crash_views.proofs.WindowLaws.{open-some, IsUnread, unread-right}
use Rattle.crash_safety_laws.specs.Steady.{IsSteady, IsUnheldPlace, FillingStaysSafe}
use Rattle.crash_safety_laws.proofs.Carried.{carried-fewer}
use Rattle.crash_safety_laws.proofs.Drawn.{disk-somewhere}
use Rattle.crash_safety_laws.proofs.HeldAlike.{held-alike}
use Rattle.crash_safety_laws.proofs.Spent.{live-holder}

-- ---- no view has such a place

-- a slot that holds a row has so many
row-below : (n row slot : ℕ) (held : Option ℕ) → cond (nat_lt row n) held None ≡ Some slot → row < n
row-below n row slot held is = by (nat_lt row n) refl is
  where
    by : (b : Bool) → nat_lt row n ≡ b → cond b held None ≡ Some slot → row < n
    by true lt e = grind (arith, nat_tests, lt)
    by false lt e = absurd (cc)

-- a role that recovers without lost slots recovered before
recovering-before : (lost slot : ℕ) (state : Role) → role_without lost state ≡ Recovering slot → state ≡ Recovering slot
recovering-before lost slot (Whole s) is = by (has_slot lost s) is
  where
    by : (b : Bool) → cond b Missing (Whole s) ≡ Recovering slot → Whole s ≡ Recovering slot
    by true e = absurd (cc)
    by false e = e
recovering-before lost slot (Recovering s) is = by (has_slot lost s) is
  where
    by : (b : Bool) → cond b Missing (Recovering s) ≡ Recovering slot → Recovering s ≡ Recovering slot
    by true e = absurd (cc)
    by false e = e
recovering-before lost slot Missing is = absurd (cc)

-- each sector is as it was, or such a place
abbrev IsFilled : Members → ℕ → ℕ → Disk → Disk → Type 0
IsFilled members role slot d e = (s k : ℕ) → (e s k ≡ d s k) ⊎ IsUnheldPlace members role slot s k

module _ (scope : Scope) (given : Given) (former : Members) (gone role slot : ℕ) (placed : ArePlaced scope given former)
    (recovers : role_state (reading_of (members_without gone former)) role ≡ Recovering slot) where
  abbrev IsPlace : ℕ → ℕ → Type 0
  IsPlace s k = IsUnheldPlace (members_without gone former) role slot s k

  recovered : role_state (reading_of former) role ≡ Recovering slot
  recovered = recovering-before gone slot (role_state (reading_of former) role) (sym (state_after former gone role) ∙ recovers)

  -- it lies behind the superblock
  behind : (s k : ℕ) → IsPlace s k → 10 ≤ k
  behind s k there = let far = placed.behind role slot (ap holder recovered) in let at = there.place in omega (arith, far, at)

  -- and it is no place of a row that a slot holds
  apart : (other row s : ℕ) → held_slot (reading_of former) other row ≡ Some s → IsPlace s (data_offset_of (reading_of former) s + row) → ⊥
  apart other row s held there =
      let whose : other ≡ role = placed.apart other role s (holder-of (reading_of former) other row s held) (ap holder recovered ∙ ap (λ (n : ℕ). Some n) (sym there.here)) in
      let same : there.row ≡ row = same-row (data_offset_of (reading_of former) s) (data_offset_of (reading_of former) slot) there.row (ap (data_offset_of (reading_of former)) there.here) there.place in
      let few : row < rows_held (reading_of former) (role_state (reading_of former) other) =
      row-below (rows_held (reading_of former) (role_state (reading_of former) other)) row s (holder (role_state (reading_of former) other)) held in
      let has : rows_held (reading_of former) (role_state (reading_of former) other) ≡ rows_held (reading_of former) (role_state (reading_of (members_without gone former)) role) =
      ap (λ (r : ℕ). rows_held (reading_of former) (role_state (reading_of former) r)) whose ∙ ap (rows_held (reading_of former)) (recovered ∙ sym recovers) in
      let beyond : rows_held (reading_of former) (role_state (reading_of (members_without gone former)) role) ≤ there.row = there.beyond in
      omega (arith, few, has, beyond, same)
    where
      same-row : (a b at : ℕ) → a ≡ b → a + row ≡ b + at → at ≡ row
      same-row a b at e is = omega (arith, e, is)

  unread : (d : Disk) → IsUnread scope former d IsPlace
  unread d = record {
    header = λ there. absurd (let far = behind (backup_of scope) 0 there in omega (arith, far));
    section = λ header may span active k there.
        placed.members_own role (backup_of scope) (ap holder recovered ∙ ap (λ (n : ℕ). Some n) (sym there.here)) (open-some scope former header span active);
    rows = λ header may x other s outside held there. apart other (place_by former.newest x).row s held there;
    tails = λ x s tail held there. apart (place (final_shape former.newest) x).role (place (final_shape former.newest) x).row s held there;
  }

  module _ (d e : Disk) (filling : IsFilled (members_without gone former) role slot d e) where
    superblocks-kept : (s k : ℕ) → k < 10 → e s k ≡ d s k
    superblocks-kept s k low = by (filling s k)
      where
        by : (e s k ≡ d s k) ⊎ IsPlace s k → e s k ≡ d s k
        by (inl same) = same
        by (inr there) = absurd (let far = behind s k there in omega (arith, far, low))

    written : IsWrittenAt IsPlace d e
    written s k = by (filling s k)
      where
        by : (e s k ≡ d s k) ⊎ IsPlace s k → IsLess (d s k) (e s k) ⊎ IsPlace s k
        by (inl same) = inl (λ v may. subst (λ (l : List Sector). IsIn l v) same may)
        by (inr there) = inr there

    view-filled : IsSomewhere d → (sound : Type 0) (told : Ledger) → IsViewRight sound scope given told former d → IsViewRight sound scope given told former e
    view-filled some sound told right = unread-right sound scope given told former d e IsPlace some written (unread d) right

-- ---- the law

module _ (sound : Type 0) (scope : Scope) (given : Given) (told : Ledger) (role slot : ℕ) (d e : Disk) (some : IsSomewhere d) where
  filled-former : (former : Members) (gone : ℕ) → role_state (reading_of (members_without gone former)) role ≡ Recovering slot → IsFilled (members_without gone former) role slot d e
      → (steady : IsSteady sound scope given told (members_without gone former) d) → steady.former ≡ former → IsSteady sound scope given told (members_without gone former) e
  filled-former former gone recovers filling steady is = record {
    former = steady.former;
    since = record {
      gone = steady.since.gone;
      since = steady.since.since;
      held = held-alike scope d e (λ s. kept s 8 (omega arith)) (λ s. kept s 9 (omega arith)) steady.former steady.since.held;
    };
    right = subst (λ (m : Members). IsViewRight sound scope given told m e) (sym is) (view-filled scope given former gone role slot right.placed recovers d e filling some sound told right);
    numbers = carried-fewer scope told.carried steady.former.own d e (λ s v may. subst (λ (l : List Sector). IsIn l v) (kept s 8 (omega arith)) may)
        (λ s v may. subst (λ (l : List Sector). IsIn l v) (kept s 9 (omega arith)) may) steady.numbers;
  }
    where
      right : IsViewRight sound scope given told former d
      right = subst (λ (m : Members). IsViewRight sound scope given told m d) is steady.right

      kept : (s k : ℕ) → k < 10 → e s k ≡ d s k
      kept = superblocks-kept scope given former gone role slot right.placed recovers d e filling

  steady-filled : (members : Members) → role_state (reading_of members) role ≡ Recovering slot → IsFilled members role slot d e
      → IsSteady sound scope given told members d → IsSteady sound scope given told members e
  steady-filled members recovers filling steady = of members steady.since.since recovers filling steady refl
    where
      of : (m : Members) → m ≡ members_without steady.since.gone steady.former → role_state (reading_of m) role ≡ Recovering slot → IsFilled m role slot d e
          → (here : IsSteady sound scope given told m d) → here.former ≡ steady.former → IsSteady sound scope given told m e
      of m is = subst
          (λ (n : Members). role_state (reading_of n) role ≡ Recovering slot → IsFilled n role slot d e
          → (here : IsSteady sound scope given told n d) → here.former ≡ steady.former → IsSteady sound scope given told n e)
          (sym is) (filled-former steady.former steady.since.gone)

pub filling-stays-safe : (sound : Type 0) → FillingStaysSafe sound
filling-stays-safe sound scope given told members role slot tape e holders unlost recovers filling (inl steady) =
    inl (steady-filled sound scope given told role slot (disk given.start tape) e (disk-somewhere given tape) members recovers filling steady)
filling-stays-safe sound scope given told members role slot tape e holders unlost recovers filling (inr spent) =
    absurd (spent.none (slot, live-holder given members false role slot holders (ap holder recovers), unlost role slot (ap holder recovers)))
