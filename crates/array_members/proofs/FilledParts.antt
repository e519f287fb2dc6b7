-- The parts of a stripe of a role that are filled in one after another: where they are, what stands after each, and why the array stays safe.
use Rattle.std.proofs.Common.{◌≡◌, inl, inr, ℕ, ◌+◌, ◌*◌, ◌<◌, ◌≤◌, nat_lt, Bool, true, false, if◌then◌else◌, List, length, take, take_all, le_refl, Option, Some, None, refl, sym, ◌∙◌, ap, subst, arith}
use Rattle.std.specs.Prelude.{Contains, slice_index, IfSome, IfNone, is_some}
use Rattle.std.proofs.lemmas.Bool.Decides.{nat_tests}
use Rattle.std.proofs.lemmas.List.{get_or_default}
use Rattle.crash_role_laws.specs.raid_types_Sectors.{Sector}
use Rattle.crash_role_laws.specs.raid_types_Shapes.{is_valid_shape, data_disks}
use Rattle.crash_role_laws.specs.raid_types_the_Shape.{Shape}
use Rattle.crash_role_laws.specs.raid_types_the_Role.{Role}
use Rattle.crash_role_laws.specs.raid_types_the_Role_TheVariants.{Recovering}
use Rattle.crash_role_laws.specs.bank_Given.{Given}
use Rattle.crash_role_laws.specs.bank_the_Operation.{Operation}
use Rattle.crash_role_laws.specs.bank_Tape.{Contents, EachMark, disk}
use Rattle.crash_role_laws.specs.sb_specs_the_Members.{Members}
use Rattle.crash_role_laws.specs.sb_specs_Reading.{Scope, role_state, rows_held, holder, data_offset_of}
use Rattle.crash_role_laws.specs.stripe_row_Rows.{reading_of, held_slot}
use Rattle.crash_role_laws.proofs.stripe_row_Losses.{holder-of}
use Rattle.crash_role_laws.specs.stripe_list_Full.{RowStands}
use Rattle.crash_role_laws.specs.stripe_list_Buffers.{AreTouched, IsTouched}
use Rattle.crash_role_laws.specs.stripe_list_Writing.{HasFull}
use Rattle.array_members.specs.Placed.{IsPlaced}
use Rattle.crash_role_laws.specs.crash_safety_laws_Steady.{AreUnlost, IsSafeNow, IsSafeStretch}
use Rattle.crash_role_laws.specs.crash_safety_laws_Marking.{AreOthersPresent}
use Rattle.array_members.specs.Moving.{IsMoved}
use Rattle.array_members.specs.Lacking.{IsOfStripe, DataStandsAmong}
use Rattle.array_members.specs.Rebuilding.{IsUnheld, IsFilling, IsFilledAmong}
use Rattle.crash_role_laws.specs.crash_views_Views.{Ledger}
use Rattle.crash_role_laws.proofs.crash_safety_laws_Steady.{safe-is-seen}
use Rattle.crash_role_laws.proofs.crash_safety_laws_FillingSafe.{filling-stays-safe}
use Rattle.array_members.proofs.LackingWrites.{recovering-before}
use Rattle.array_members.proofs.SyncedParts.{IsInParts}
use Rattle.array_members.proofs.HeldRows.{held-moved}
use Rattle.array_members.proofs.Stripes.{touched-of_stripe}

-- ---- where the parts are

-- a row of a part is of the parts up to its end
pub touched-in_parts : (shape : Shape) → is_valid_shape shape ≡ true → (stripe long : ℕ) → long ≡ data_disks shape * shape.chunk → (done count : ℕ) → done + count ≤ shape.chunk
    → (row : ℕ) → IsTouched shape (stripe * long + done) count row → IsInParts shape stripe (done + count) row
touched-in_parts shape valid stripe long is done count part row touched =
    let at = touched-of_stripe shape valid stripe done count part row (subst (λ (n : ℕ). IsTouched shape (stripe * n + done) count row) is touched) in
    let low = at.0 in
    let high = at.1 in
    (omega (arith, low), omega (arith, high))

pub parts-longer : (shape : Shape) (stripe done count row : ℕ) → IsInParts shape stripe done row → IsInParts shape stripe (done + count) row
parts-longer shape stripe done count row at = (at.0, let high = at.1 in omega (arith, high))

-- the parts are within the stripe, and all of them are the stripe
pub parts-of_stripe : (shape : Shape) (stripe done row : ℕ) → done ≤ shape.chunk → IsInParts shape stripe done row → IsOfStripe shape stripe row
parts-of_stripe shape stripe done row few at = (at.0, of shape.chunk few at.1)
  where
    of : (chunk : ℕ) → done ≤ chunk → row < stripe * chunk + done → row < (stripe + 1) * chunk
    of chunk few high = let turned : (stripe + 1) * chunk ≡ stripe * chunk + chunk = omega arith in omega (arith, few, high, turned)

pub stripe-in_parts : (shape : Shape) (stripe done row : ℕ) → shape.chunk ≤ done → IsOfStripe shape stripe row → IsInParts shape stripe done row
stripe-in_parts shape stripe done row all at = (at.0, of shape.chunk all at.1)
  where
    of : (chunk : ℕ) → chunk ≤ done → row < (stripe + 1) * chunk → row < stripe * chunk + done
    of chunk all high = let turned : (stripe + 1) * chunk ≡ stripe * chunk + chunk = omega arith in omega (arith, all, high, turned)

-- ---- the slot that recovers the role

module _ {given : Given} {old new : Members} (moved : IsMoved given old new) (role : ℕ) where
  -- no other slot does so later
  pub recovered-alone : (slot other : ℕ) → role_state (reading_of old) role ≡ Recovering slot → role_state (reading_of new) role ≡ Recovering other → other ≡ slot
  recovered-alone slot other was recovers =
      let same : ◌≡◌ {A = Role} (Recovering other) (Recovering slot) = sym (recovering-before moved role other recovers) ∙ was in
      cc

  -- it holds as many rows
  pub recovered-rows : (slot : ℕ) → role_state (reading_of new) role ≡ Recovering slot → rows_held (reading_of new) (Recovering slot) ≡ rows_held (reading_of old) (Recovering slot)
  recovered-rows slot recovers = subst (λ (state : Role). rows_held (reading_of new) state ≡ rows_held (reading_of old) state) recovers (moved.rows role)

  -- what it doesn't hold it didn't hold before
  pub unheld-before : (slot : ℕ) (among more : ℕ → Type 0) → role_state (reading_of new) role ≡ Recovering slot → ((row : ℕ) → among row → more row)
      → (s k : ℕ) → IsUnheld new role slot among s k → IsUnheld old role slot more s k
  unheld-before slot among more recovers wider s k there = (
    there.0,
    (
      there.1.0,
      wider there.1.0 there.1.1,
      subst (λ (n : ℕ). there.1.0 < n) moved.size there.1.2,
      subst (λ (state : Role). rows_held (reading_of old) state ≤ there.1.0) (sym (recovering-before moved role slot recovers))
          (subst (λ (n : ℕ). n ≤ there.1.0) (recovered-rows slot recovers) (subst (λ (state : Role). rows_held (reading_of new) state ≤ there.1.0) recovers there.1.3)),
      there.1.4 ∙ ap (λ (n : ℕ). n + there.1.0) (moved.offsets slot),
    ),
  )

  pub filled-before : (slot : ℕ) (among more : ℕ → Type 0) (b c : Contents) → role_state (reading_of new) role ≡ Recovering slot → ((row : ℕ) → among row → more row)
      → IsFilledAmong new role slot among b c → IsFilledAmong old role slot more b c
  filled-before slot among more b c recovers wider filled s k other = elim (filled s k other) [
    | inl same ↦ inl same
    | inr there ↦ inr (unheld-before slot among more recovers wider s k there)
  ]

-- where only superblocks are written, nothing is filled in
pub others-filled : (members : Members) (role slot : ℕ) (among : ℕ → Type 0) (a b c : Contents) → IsFilledAmong members role slot among a b → AreOthersPresent b c → IsFilledAmong members role slot among a c
others-filled members role slot among a b c filled others s k other = elim (filled s k other) [
  | inl same ↦ inl (others s k other ∙ same)
  | inr there ↦ inr there
]

-- a row that is touched is one of those that were read
pub at-touched : (shape : Shape) (first count : ℕ) (rows : List ℕ) → AreTouched shape first count rows → (P : ℕ → Type 0) → ((i : ℕ) → i < length rows → P (slice_index rows i)) → (row : ℕ) → IsTouched shape first count row → P row
at-touched shape first count rows touched P each row at =
    let has : Contains rows row = subst (λ (r : ℕ). Contains rows r) at.3 (touched.all at.0 at.1 at.2) in
    subst P (get_or_default rows has.0 0 row has.1 ∙ has.2) (each has.0 has.1)

-- ---- why the array stays safe

pub safe-filled : {tells : Type 0} (sound : Type 0) (scope : Scope) (given : Given) (told : Ledger) (members : Members) (role slot : ℕ) (before after : List Operation) → tells
    → IsPlaced given members → AreUnlost members → role_state (reading_of members) role ≡ Recovering slot
    → EachMark tells given.start before after (IsFilling members role slot (disk given.start before)) → IsSafeNow sound scope given told members (disk given.start before)
    → IsSafeStretch sound scope given told members before after
safe-filled sound scope given told members role slot before after tell placed unlost recovers marks safe = record {
  marks = record {
    longer = λ one. marks.longer tell;
    earlier = λ one. marks.earlier tell;
    each = λ one n low high. safe-is-seen sound scope given told members (take n after) (safe-at n low high);
  };
  next = subst (λ (tape : List Operation). IsSafeNow sound scope given told members (disk given.start tape)) (take_all (length after) after (le_refl (length after)))
      (safe-at (length after) (marks.longer tell) (le_refl (length after)));
}
  where
    safe-at : (n : ℕ) → length before ≤ n → n ≤ length after → IsSafeNow sound scope given told members (disk given.start (take n after))
    safe-at n low high = filling-stays-safe sound scope given told members role slot before (disk given.start (take n after)) placed.holders unlost recovers
        (λ s k. elim (marks.each tell n low high s k) [
          | inl same ↦ inl same
          | inr there ↦ inr (record { row = there.1.0; here = there.0; beyond = there.1.3; place = there.1.4 })
        ]) safe

-- ---- an option that isn't empty

pub found-in : (o : Option ℕ) (P : ℕ → Type 0) → is_some o ≡ true → IfSome o P → (x : ℕ) × P x
found-in (Some x) P some is = (x, is)
found-in None P some is = absurd (cc)

-- ---- what stands behind a part

-- What slots hold of the rows is as it was: only places that the recovering slot doesn't hold yet are filled in.
module _ {given : Given} {old new : Members} (moved : IsMoved given old new) (placed : IsPlaced given old) (role slot : ℕ) (recovers : role_state (reading_of old) role ≡ Recovering slot)
    (among : ℕ → Type 0) (before after : Contents) (filled : IsFilledAmong old role slot among before after) where
  still-held : (r s row : ℕ) → held_slot (reading_of new) r row ≡ Some s → after s (data_offset_of (reading_of new) s + row) ≡ before s (data_offset_of (reading_of old) s + row)
  still-held r s row held = elim (filled s (data_offset_of (reading_of old) s + row) (λ e. absurd (let far = placed.behind r s held-before in omega (arith, e, far)))) [
    | inl same ↦ ap (λ (n : ℕ). after s (n + row)) (moved.offsets s) ∙ same
    | inr there ↦ absurd (
        let own : r ≡ role = placed.apart r role s held-before (ap holder recovers ∙ ap (λ (n : ℕ). Some n) (sym there.0)) in
        let at : there.1.0 ≡ row = cancel (data_offset_of (reading_of old) s) there.1.0 row (ap (λ (t : ℕ). data_offset_of (reading_of old) t + there.1.0) there.0 ∙ sym there.1.4) in
        let low : row < rows_held (reading_of old) (role_state (reading_of old) role) =
        subst (λ (n : ℕ). row < rows_held (reading_of old) (role_state (reading_of old) n)) own (within (rows_held (reading_of old) (role_state (reading_of old) r)) (holder (role_state (reading_of old) r)) was) in
        let high = there.1.3 in
        omega (arith, low, high, at)
        )
  ]
    where
      was : held_slot (reading_of old) r row ≡ Some s
      was = held-moved moved r row s held

      held-before : holder (role_state (reading_of old) r) ≡ Some s
      held-before = holder-of (reading_of old) r row s was

      cancel : (a x y : ℕ) → a + x ≡ a + y → x ≡ y
      cancel a x y is = omega (arith, is)

      within : (rows : ℕ) (h : Option ℕ) → (if nat_lt row rows then h else None) ≡ Some s → row < rows
      within rows h is = by (nat_lt row rows) refl is
        where
          by : (b : Bool) → nat_lt row rows ≡ b → (if b then h else None) ≡ Some s → row < rows
          by true lt found = grind (arith, nat_tests, lt)
          by false lt found = absurd (cc)

  -- so the data of rows stands as it stood
  pub data-filled : (shape : Shape) (of : ℕ → Type 0) (list : ℕ → Sector) → DataStandsAmong shape of old before list → DataStandsAmong shape of new after list
  data-filled shape of list stands row has below r s lt here held =
      still-held r s row held ∙ stands row has (subst (λ (n : ℕ). row < n) moved.size below) r s lt here (held-moved moved r row s held)

  -- and so does a row
  pub row-filled : (shape : Shape) (list : ℕ → Sector) (row : ℕ) → RowStands (reading_of old) before shape list row → RowStands (reading_of new) after shape list row
  row-filled shape list row stands = record {
    whole = stands.whole;
    sectors = λ r s lt here held. still-held r s row held ∙ stands.sectors r s lt here (held-moved moved r row s held);
    parity = λ r s lt here held. still-held r s row held ∙ stands.parity r s lt here (held-moved moved r row s held);
  }

  -- a full sector of a recovering slot stays, but perhaps that of one of these rows of the role
  pub full-kept : (shape : Shape) (list : ℕ → Sector) (r s row : ℕ) → role_state (reading_of new) r ≡ Recovering s → (r ≡ role → among row → ⊥)
      → HasFull (reading_of old) before shape list row r s → HasFull (reading_of new) after shape list row r s
  full-kept shape list r s row is apart full =
      elim (filled s (data_offset_of (reading_of old) s + row) (λ e. absurd (let far = placed.behind r s (ap holder was) in omega (arith, e, far)))) [
        | inl same ↦ ap (λ (n : ℕ). after s (n + row)) (moved.offsets s) ∙ same ∙ full
        | inr there ↦ absurd (
            apart (placed.apart r role s (ap holder was) (ap holder recovers ∙ ap (λ (n : ℕ). Some n) (sym there.0)))
            (subst among (cancel (data_offset_of (reading_of old) s) there.1.0 row (ap (λ (t : ℕ). data_offset_of (reading_of old) t + there.1.0) there.0 ∙ sym there.1.4)) there.1.1)
            )
      ]
    where
      was : role_state (reading_of old) r ≡ Recovering s
      was = recovering-before moved r s is

      cancel : (a x y : ℕ) → a + x ≡ a + y → x ≡ y
      cancel a x y is = omega (arith, is)

-- the rows that a part touches are behind those of the parts before
pub touched-late : (shape : Shape) → is_valid_shape shape ≡ true → (stripe long : ℕ) → long ≡ data_disks shape * shape.chunk → (done count : ℕ) → done + count ≤ shape.chunk
    → (row : ℕ) → IsInParts shape stripe done row → IsTouched shape (stripe * long + done) count row → ⊥
touched-late shape valid stripe long is done count part row early touched =
    let at = touched-of_stripe shape valid stripe done count part row (subst (λ (n : ℕ). IsTouched shape (stripe * n + done) count row) is touched) in
    let low = at.0 in
    let high = early.1 in
    omega (arith, low, high)

pub none-found : (o : Option ℕ) (P : ℕ → Type 0) → is_some o ≡ false → IfNone o ((x : ℕ) → P x → ⊥) → (x : ℕ) → P x → ⊥
none-found (Some x) P none is = absurd (cc)
none-found None P none is = is
