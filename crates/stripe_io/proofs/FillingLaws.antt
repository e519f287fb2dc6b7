-- A row of a role that is filled in on the slot that recovers it.
use Rattle.std.proofs.Common.{◌≡◌, ◌⊎◌, inl, inr, ℕ, ◌+◌, ◌-◌, ◌*◌, ◌<◌, ◌≤◌, ◌==◌, ◌&&◌, eqb-true, eq-eqb, Bool, true, false, if◌then◌else◌, List, [], ◌∷◌, ◌++◌, length, take, drop, Result, refl, sym, ◌∙◌, ap, ap₂, subst, arith}
use Rattle.sb_safe_updates.specs.raid_types_the_Shape.{Shape}
use Rattle.sb_safe_updates.specs.raid_types_the_Place.{Place}
use Rattle.sb_safe_updates.specs.raid_types_the_Role.{Role}
use Rattle.sb_safe_updates.specs.raid_types_the_Role_TheVariants.{Recovering}
use Rattle.sb_safe_updates.specs.raid_types_Sectors.{Sector}
use Rattle.sb_safe_updates.specs.raid_types_Shapes.{is_valid_shape}
use Rattle.sb_safe_updates.specs.bank_Given.{Given}
use Rattle.sb_safe_updates.specs.bank_the_Operation.{Operation}
use Rattle.sb_safe_updates.specs.bank_the_Operation_TheVariants.{Write}
use Rattle.sb_safe_updates.specs.bank_Tape.{Contents, EachMark, Did, disk, run}
use Rattle.std.proofs.lemmas.Bool.{cases_eq}
use Rattle.std.specs.Prelude.{slice_index}
use Rattle.sb_safe_updates.proofs.bank_Calls.{did_marks}
use Rattle.sb_safe_updates.proofs.bank_Marks.{each_mark-map, each_mark-then, each_mark-told}
use Rattle.sb_safe_updates.proofs.bank_Laws.{disk-append}
use Rattle.sb_safe_updates.specs.raid_layout_Layout.{row_roles, IsParity}
use Rattle.sb_safe_updates.proofs.raid_layout_Places.{parity-or_sector}
use Rattle.sb_safe_updates.specs.raid_parity_Rows.{sector_of}
use Rattle.sb_safe_updates.specs.sb_specs_the_Members.{Members}
use Rattle.sb_safe_updates.specs.sb_specs_Reading.{role_state, rows_held, holder, data_offset_of}
use Rattle.sb_safe_updates.specs.stripe_row_Rows.{reading_of, present}
use Rattle.sb_safe_updates.specs.stripe_row_Writes.{new_sector}
use Rattle.sb_safe_updates.proofs.stripe_row_Turns.{marks_last}
use Rattle.sb_safe_updates.proofs.stripe_row_Written.{present-is, present-same}
use Rattle.sb_safe_updates.specs.stripe_list_Full.{full_sector}
use Rattle.sb_safe_updates.specs.stripe_list_Writing.{AreDataOf, AreSuperblocksKept, HasFull}
use Rattle.sb_safe_updates.specs.stripe_list_Buffers.{buffered, AreDistinct}
use Rattle.sb_safe_updates.proofs.stripe_list_FullLaws.{full-data, new-full}
use Rattle.sb_safe_updates.proofs.stripe_list_PartBytes.{sector-part}
use Rattle.sb_safe_updates.specs.array_members_Placed.{IsPlaced}
use Rattle.sb_safe_updates.specs.array_members_Rebuilding.{IsUnheld, IsFilling, IsFilledAmong}
use Rattle.sb_safe_updates.specs.Named.{AreDataKept}
use Rattle.stripe_io.specs.Filled.{IsNamedFirst}
use Rattle.sb_safe_updates.proofs.array_members_LackingWrites.{marks-here}

-- ---- a role's sector

-- with its parity, a row of the list's data is the full row
pub made-full : (shape : Shape) (list : ℕ → Sector) (row : ℕ) (bytes : List ℕ) → is_valid_shape shape ≡ true → AreDataOf shape list row (sector_of bytes)
    → (role : ℕ) → role < shape.disks → new_sector shape row bytes role ≡ full_sector shape list row role
made-full shape list row bytes valid own = new-full shape list row bytes valid (λ role x lt at. ap (λ (p : Place). sector_of bytes p.role) (sym at) ∙ own x (ap (λ (p : Place). p.row) at))

-- and so is a data role as it is
pub plain-full : (shape : Shape) (list : ℕ → Sector) (row : ℕ) (bytes : List ℕ) → is_valid_shape shape ≡ true → AreDataOf shape list row (sector_of bytes)
    → (role : ℕ) → role < shape.disks → (IsParity (row_roles shape row) role → ⊥) → sector_of bytes role ≡ full_sector shape list row role
plain-full shape list row bytes valid own role lt none = elim (parity-or_sector shape valid role row lt) [
  | inl parity ↦ absurd (none parity)
  | inr found ↦ ap (λ (p : Place). sector_of bytes p.role) (sym found.1) ∙ own found.0 (ap (λ (p : Place). p.row) found.1) ∙ sym (full-data shape list role row found.0 valid found.1)
]

-- ---- what is written

-- each value is as it was, or it is a place of one of these rows that the slot doesn't hold yet
abbrev pub AreFilled : Members → ℕ → ℕ → (ℕ → Type 0) → (ℕ → ℕ → List Sector) → (ℕ → ℕ → List Sector) → Type 0
AreFilled members role slot among d e = (s k : ℕ) → (e s k ≡ d s k) ⊎ IsUnheld members role slot among s k

unheld-more : (members : Members) (role slot : ℕ) (among more : ℕ → Type 0) (s k : ℕ) → ((row : ℕ) → among row → more row) → IsUnheld members role slot among s k → IsUnheld members role slot more s k
unheld-more members role slot among more s k wider there = (there.0, (there.1.0, wider there.1.0 there.1.1, there.1.2, there.1.3, there.1.4))

pub filled-more : (members : Members) (role slot : ℕ) (among more : ℕ → Type 0) (d e : ℕ → ℕ → List Sector) → ((row : ℕ) → among row → more row) → AreFilled members role slot among d e
    → AreFilled members role slot more d e
filled-more members role slot among more d e wider filled s k = elim (filled s k) [
  | inl same ↦ inl same
  | inr there ↦ inr (unheld-more members role slot among more s k wider there)
]

pub filling-then : (members : Members) (role slot : ℕ) (d e f : ℕ → ℕ → List Sector) → IsFilling members role slot d e → IsFilling members role slot e f → IsFilling members role slot d f
filling-then members role slot d e f one two s k = elim (two s k) [
  | inl still ↦ elim (one s k) [ inl same ↦ inl (still ∙ same) | inr there ↦ inr there ]
  | inr there ↦ inr there
]

-- no superblock is among them
pub filling-kept : (given : Given) (members : Members) (role slot : ℕ) (d e : ℕ → ℕ → List Sector) → IsPlaced given members → role_state (reading_of members) role ≡ Recovering slot
    → IsFilling members role slot d e → AreSuperblocksKept d e
filling-kept given members role slot d e placed recovers filling s at low = elim (filling s at) [
  | inl same ↦ same
  | inr there ↦ absurd (let behind = placed.behind role slot (ap holder recovers) in let is = there.1.4 in omega (arith, low, behind, is))
]

-- what stands is filled in at the same places
pub filled-present : (members : Members) (role slot : ℕ) (among : ℕ → Type 0) (given : Given) (old new : List Operation) → AreFilled members role slot among (disk given.start old) (disk given.start new)
    → IsFilledAmong members role slot among (present given old) (present given new)
filled-present members role slot among given old new filled s k other = elim (filled s k) [
  | inl same ↦ inl (present-same given old new s k same)
  | inr there ↦ inr there
]

pub filled-none : (members : Members) (role slot : ℕ) (among : ℕ → Type 0) (c : Contents) → IsFilledAmong members role slot among c c
filled-none members role slot among c s k other = inl refl

pub filled-then : (members : Members) (role slot : ℕ) (one two both : ℕ → Type 0) (a b c : Contents) → ((row : ℕ) → one row → both row) → ((row : ℕ) → two row → both row)
    → IsFilledAmong members role slot one a b → IsFilledAmong members role slot two b c → IsFilledAmong members role slot both a c
filled-then members role slot one two both a b c first second early late s k other = elim (late s k other) [
  | inl still ↦ elim (early s k other) [
    | inl same ↦ inl (still ∙ same)
    | inr there ↦ inr (unheld-more members role slot one both s k first there)
  ]
  | inr there ↦ inr (unheld-more members role slot two both s k second there)
]

-- ---- one row

module _ (members : Members) (role slot row : ℕ) (bytes : Sector) where
  -- the write of its sector
  abbrev pub row_write : List Operation
  row_write = Write slot (data_offset_of (reading_of members) slot + row) bytes ∷ []

  -- then it stands there
  pub write-stands : (given : Given) (old new : List Operation) → new ≡ old ++ row_write → present given new slot (data_offset_of (reading_of members) slot + row) ≡ bytes
  write-stands given old new is =
      let k = data_offset_of (reading_of members) slot + row in
      present-is given new slot k bytes (disk given.start old slot k)
      (ap (λ (l : List Operation). disk given.start l slot k) is ∙ ap (λ (d : ℕ → ℕ → List Sector). d slot k) (disk-append given.start old row_write)
      ∙ ap₂ (λ (a b : Bool). if a && b then bytes ∷ disk given.start old slot k else disk given.start old slot k) (eq-eqb slot slot refl) (eq-eqb k k refl))

  module _ (small : row < members.newest.size) (recovers : role_state (reading_of members) role ≡ Recovering slot) (unheld : rows_held (reading_of members) (Recovering slot) ≤ row) where
    written : (d : ℕ → ℕ → List Sector) → AreFilled members role slot (λ other. other ≡ row) d (run d row_write)
    written d s k = by (slot == s) (data_offset_of (reading_of members) slot + row == k) refl refl
      where
        by : (a b : Bool) → (slot == s) ≡ a → (data_offset_of (reading_of members) slot + row == k) ≡ b
            → ((if a && b then bytes ∷ d s k else d s k) ≡ d s k) ⊎ IsUnheld members role slot (λ other. other ≡ row) s k
        by true true one two = inr (
          sym (eqb-true slot s one),
          (
            row,
            refl,
            small,
            subst (λ (state : Role). rows_held (reading_of members) state ≤ row) (sym recovers) unheld,
            sym (eqb-true (data_offset_of (reading_of members) slot + row) k two),
          ),
        )
        by true false one two = inl refl
        by false b one two = inl refl

    pub marks-written : {T E : Type 0} {tells : Type 0} {r : Result T E} (start : Contents) (old new : List Operation) → Did tells r old new row_write
        → EachMark tells start old new (AreFilled members role slot (λ other. other ≡ row) (disk start old))
    marks-written start old new did = did_marks (AreFilled members role slot (λ other. other ≡ row) (disk start old)) start ((λ s k. inl refl), written (disk start old)) did

-- a row that isn't among these stays full
pub full-still : (given : Given) (members : Members) (role slot : ℕ) (among : ℕ → Type 0) (shape : Shape) (list : ℕ → Sector) (b c : Contents) → IsPlaced given members
    → role_state (reading_of members) role ≡ Recovering slot → IsFilledAmong members role slot among b c
    → (row : ℕ) → (among row → ⊥) → HasFull (reading_of members) b shape list row role slot → HasFull (reading_of members) c shape list row role slot
full-still given members role slot among shape list b c placed recovers filled row apart full =
    elim (filled slot (data_offset_of (reading_of members) slot + row) (λ e. absurd (let far = placed.behind role slot (ap holder recovers) in omega (arith, e, far)))) [
      | inl same ↦ same ∙ full
      | inr there ↦ absurd (apart (subst among (cancel (data_offset_of (reading_of members) slot) there.1.0 row (sym there.1.4)) there.1.1))
    ]
  where
    cancel : (a x y : ℕ) → a + x ≡ a + y → x ≡ y
    cancel a x y is = omega (arith, is)

-- ---- many rows

-- a row lies in its part of the buffer as it did at the start
pub part-is : (bytes first : List ℕ) (i disks role : ℕ) → role < disks → buffered bytes i role ≡ buffered first i role
    → sector_of (take (8192 * i + 512 * disks - 8192 * i) (drop (8192 * i) bytes)) role ≡ buffered first i role
part-is bytes first i disks role lt ahead =
    let n : 8192 * i + 512 * disks - 8192 * i ≡ 512 * disks = omega arith in
    sector-part bytes i role (8192 * i + 512 * disks - 8192 * i) (omega (arith, lt, n)) ∙ ahead

-- one row more, at each mark
pub marks-then : {tells : Type 0} (given given1 : Given) → given1 ≡ given → (members : Members) (role slot : ℕ) (a b c : List Operation)
    → EachMark tells given.start a b (IsFilling members role slot (disk given.start a)) → EachMark tells given1.start b c (IsFilling members role slot (disk given1.start b))
    → EachMark tells given.start a c (IsFilling members role slot (disk given.start a))
marks-then {tells = tells} given given1 same members role slot a b c early late =
    each_mark-then early (each_mark-map (IsFilling members role slot (disk given.start a))
    (λ told e next. filling-then members role slot (disk given.start a) (disk given.start b) e (marks_last {P = IsFilling members role slot (disk given.start a)} early told) next)
    (subst (λ (g : Given). EachMark tells g.start b c (IsFilling members role slot (disk g.start b))) same late))

-- the rows up to this one are full, behind those before it
pub full-next : (given : Given) (members : Members) (role slot : ℕ) (shape : Shape) (list : ℕ → Sector) (b c : Contents) → IsPlaced given members
    → role_state (reading_of members) role ≡ Recovering slot → (rows : List ℕ) → AreDistinct rows → (held i : ℕ) → i < length rows
    → IsFilledAmong members role slot (λ other. other ≡ slice_index rows i) b c
    → ((j : ℕ) → j < i → held ≤ slice_index rows j → HasFull (reading_of members) b shape list (slice_index rows j) role slot)
    → (held ≤ slice_index rows i → HasFull (reading_of members) c shape list (slice_index rows i) role slot)
    → (j : ℕ) → j < i + 1 → held ≤ slice_index rows j → HasFull (reading_of members) c shape list (slice_index rows j) role slot
full-next given members role slot shape list b c placed recovers rows once held i lt filled before here j below high = elim (cases_eq j i) [
  | inl same ↦ subst (λ (n : ℕ). HasFull (reading_of members) c shape list (slice_index rows n) role slot) (sym same) (here (subst (λ (n : ℕ). held ≤ slice_index rows n) same high))
  | inr other ↦
      let early : j < i = omega (arith, below, other) in
      full-still given members role slot (λ other. other ≡ slice_index rows i) shape list b c placed recovers filled (slice_index rows j) (λ e. once j i early lt e) (before j early high)
]

-- ---- names before data

-- nothing is written
pub named-none : {tells : Type 0} (given : Given) (old new : List Operation) → (tells → new ≡ old) → EachMark tells given.start old new (IsNamedFirst (disk given.start old) (disk given.start new))
named-none {tells = tells} given old new same = each_mark-told (λ told.
    subst (λ (l : List Operation). EachMark tells given.start old l (IsNamedFirst (disk given.start old) (disk given.start l))) (sym (same told))
    (marks-here {P = IsNamedFirst (disk given.start old) (disk given.start old)} tells given.start old (inl (λ s k other. inl refl))))

-- no data is written
pub named-only : {tells : Type 0} (given given1 : Given) (tape0 tape1 tape2 : List Operation) → given1 ≡ given → (tells → tape1 ≡ tape0)
    → EachMark tells given1.start tape1 tape2 (AreDataKept (disk given1.start tape1)) → EachMark tells given.start tape0 tape2 (IsNamedFirst (disk given.start tape0) (disk given.start tape2))
named-only {tells = tells} given given1 tape0 tape1 tape2 is same still = each_mark-told (λ told.
    each_mark-map (IsNamedFirst (disk given.start tape0) (disk given.start tape2)) (λ told' e kept. inl kept)
    (subst (λ (l : List Operation). EachMark tells given.start l tape2 (AreDataKept (disk given.start l))) (same told)
    (subst (λ (b : Given). EachMark tells b.start tape1 tape2 (AreDataKept (disk b.start tape1))) is still)))

-- names are written, and then data
pub named-first : {tells : Type 0} (given given1 given2 : Given) (tape0 tape1 tape2 tape3 : List Operation) → given1 ≡ given → given2 ≡ given → (tells → tape1 ≡ tape0)
    → EachMark tells given1.start tape1 tape2 (AreDataKept (disk given1.start tape1)) → EachMark tells given2.start tape2 tape3 (AreSuperblocksKept (disk given2.start tape2))
    → EachMark tells given.start tape0 tape3 (IsNamedFirst (disk given.start tape0) (disk given.start tape3))
named-first {tells = tells} given given1 given2 tape0 tape1 tape2 tape3 one two same first kept =
    let late : EachMark tells given.start tape2 tape3 (AreSuperblocksKept (disk given.start tape2)) = subst (λ (b : Given). EachMark tells b.start tape2 tape3 (AreSuperblocksKept (disk b.start tape2))) two kept in
    each_mark-told (λ told.
    each_mark-then
    (each_mark-map (IsNamedFirst (disk given.start tape0) (disk given.start tape3)) (λ told' e still. inl still)
    (subst (λ (l : List Operation). EachMark tells given.start l tape2 (AreDataKept (disk given.start l))) (same told)
    (subst (λ (b : Given). EachMark tells b.start tape1 tape2 (AreDataKept (disk b.start tape1))) one first)))
    (each_mark-map (IsNamedFirst (disk given.start tape0) (disk given.start tape3))
    (λ told' e still. inr (λ s at low. still s at low ∙ sym (marks_last {P = AreSuperblocksKept (disk given.start tape2)} late told s at low))) late))
