-- The writes of a run: one role's stretches of rows, and the roles one after another.
use Rattle.std.proofs.Common.{◌≡◌, inl, inr, ℕ, ◌+◌, ◌-◌, ◌<◌, ◌≤◌, Bool, true, false, ◌∷◌, List, Option, Some, None, sym, ◌∙◌, ap, subst, arith}
use Rattle.std.proofs.lemmas.Bool.{cases_eq, cases_lt}
use Rattle.raid_layout.specs.raid_types_Sectors.{Sector}
use Rattle.raid_layout.specs.raid_types_Shapes.{has_slot}
use Rattle.stripe_row.specs.bank_Given.{Given}
use Rattle.stripe_row.specs.bank_the_Operation.{Operation}
use Rattle.stripe_row.specs.bank_Tape.{EachMark, disk}
use Rattle.stripe_row.proofs.raid_parity_Columns.{bool_cases}
use Rattle.stripe_row.specs.sb_specs_Reading.{Reading, role_state, holder, data_offset_of}
use Rattle.stripe_row.specs.Writes.{AreApart}
use Rattle.stripe_runs.specs.Writing.{IsGaining, IsSlotSector, IsNewSector, HaveNewSectors}
use Rattle.stripe_runs.proofs.GainLaws.{gained_not, marks_wider, marks_then}

-- ---- one slot's stretches

-- a row that is due isn't the first that isn't
pub stretch_some : (due : ℕ → Bool) (from to count : ℕ) → from < count → due from ≡ true → from ≤ to → (to < count → due to ≡ false) → from < to
stretch_some due from to count lt is_due order ends = elim (cases_eq from to) [
  | inl same ↦ absurd (let e = ends (omega (arith, same, lt)) in let e' = subst (λ (j : ℕ). due j ≡ true) same is_due in cc)
  | inr other ↦ omega (arith, order, other)
]

-- the rows from one up to another are due, and were written in one call
module _ (slot at : ℕ) (due : ℕ → Bool) (new new' : ℕ → Sector) (from to next : ℕ) (order : from ≤ to) (behind : to ≤ next)
    (dues : (j : ℕ) → from ≤ j → j < to → due j ≡ true) (same : (j : ℕ) → new' j ≡ new (from + j)) where
  before_in : (s k : ℕ) (v : Sector) → IsSlotSector slot at 0 from due new s k v → IsSlotSector slot at 0 next due new s k v
  before_in s k v p = record { j = p.j; low = omega arith; high = omega (arith, p.high, order, behind); is_written = p.is_written; here = p.here; place = p.place; value = p.value }

  stretch_in : (s k : ℕ) (v : Sector) → IsSlotSector slot (at + from) 0 (to - from) (λ j. true) new' s k v → IsSlotSector slot at 0 next due new s k v
  stretch_in s k v q = record {
    j = from + q.j;
    low = omega arith;
    high = omega (arith, q.high, behind);
    is_written = dues (from + q.j) (omega arith) (omega (arith, q.high));
    here = q.here;
    place = omega (arith, q.place);
    value = q.value ∙ same q.j;
  }

  pub stretch_marks : {tells : Type 0} (start start' : Given) (old mid tape : List Operation) → start' ≡ start
      → EachMark tells start.start old mid (IsGaining (IsSlotSector slot at 0 from due new) (disk start.start old))
      → EachMark tells start'.start mid tape (IsGaining (IsSlotSector slot (at + from) 0 (to - from) (λ j. true) new') (disk start'.start mid))
      → EachMark tells start.start old tape (IsGaining (IsSlotSector slot at 0 next due new) (disk start.start old))
  stretch_marks start start' old mid tape is was did =
      marks_then start start' (IsSlotSector slot at 0 from due new) (IsSlotSector slot (at + from) 0 (to - from) (λ j. true) new') (IsSlotSector slot at 0 next due new) old mid tape is before_in stretch_in
      (λ s k v w p q. omega (arith, p.high, p.place, q.place)) was did

  pub stretch_written : (d e f : ℕ → ℕ → List Sector) → ((j : ℕ) → to ≤ j → j < next → due j ≡ false)
      → IsGaining (IsSlotSector slot at 0 from due new) d e → IsGaining (IsSlotSector slot (at + from) 0 (to - from) (λ j. true) new') e f
      → ((j : ℕ) → j < from → due j ≡ true → e slot (at + j) ≡ new j ∷ d slot (at + j))
      → ((j : ℕ) → j < to - from → f slot (at + from + j) ≡ new' j ∷ e slot (at + from + j))
      → (j : ℕ) → j < next → due j ≡ true → f slot (at + j) ≡ new j ∷ d slot (at + j)
  stretch_written d e f idle one two was did j lt is_due = elim (cases_lt j from) [
    | inl below ↦ gained_not (IsSlotSector slot (at + from) 0 (to - from) (λ j. true) new') e f slot (at + j) (λ v q. omega (arith, below, q.place)) two ∙ was j below is_due
    | inr low ↦ elim (cases_lt j to) [
      | inl within ↦
          let there : at + from + (j - from) ≡ at + j = omega (arith, low) in
          let value : new' (j - from) ≡ new j = same (j - from) ∙ ap new (omega (arith, low)) in
          let fresh = gained_not (IsSlotSector slot at 0 from due new) d e slot (at + j) (λ v p. omega (arith, low, p.high, p.place)) one in
          subst (λ (k : ℕ). f slot k ≡ new' (j - from) ∷ e slot k) there (did (j - from) (omega (arith, low, within)))
          ∙ ap (λ (v : Sector). v ∷ e slot (at + j)) value ∙ ap (λ (l : List Sector). new j ∷ l) fresh
      | inr above ↦ absurd (let e = idle j above lt in cc)
    ]
  ]

-- ---- one role

module _ (r : Reading) (role row count slot at : ℕ) (due : ℕ → ℕ → Bool) (new : ℕ → ℕ → Sector) (has : holder (role_state r role) ≡ Some slot) (is : at ≡ data_offset_of r slot + row) where
  role_in : (s k : ℕ) (v : Sector) → IsSlotSector slot at 0 count (λ j. due j role) (λ j. new j role) s k v → IsNewSector r role (role + 1) row count due new s k v
  role_in s k v p = record {
    j = p.j;
    role = role;
    among = p.high;
    from = omega arith;
    below = omega arith;
    is_written = p.is_written;
    held = has ∙ ap (λ (t : ℕ). Some t) (sym p.here);
    place = p.place ∙ subst (λ (t : ℕ). at + p.j ≡ data_offset_of r t + (row + p.j)) (sym p.here) (omega (arith, is));
    value = p.value;
  }

  pub role_marks : {tells : Type 0} (start : ℕ → ℕ → Sector) (old new_tape : List Operation)
      → EachMark tells start old new_tape (IsGaining (IsSlotSector slot at 0 count (λ j. due j role) (λ j. new j role)) (disk start old))
      → EachMark tells start old new_tape (IsGaining (IsNewSector r role (role + 1) row count due new) (disk start old))
  role_marks start old new_tape marks =
      marks_wider start (IsSlotSector slot at 0 count (λ j. due j role) (λ j. new j role)) (IsNewSector r role (role + 1) row count due new) old new_tape role_in marks

  pub role_written : (lost : ℕ) (d e : ℕ → ℕ → List Sector) → ((j : ℕ) → j < count → due j role ≡ true → e slot (at + j) ≡ new j role ∷ d slot (at + j))
      → HaveNewSectors r role (role + 1) row count due new lost d e
  role_written lost d e did other j s low high lt is_due held here =
      let one : role ≡ other = omega (arith, low, high) in
      let same : ◌≡◌ {A = Option ℕ} (Some slot) (Some s) = sym has ∙ subst (λ (k : ℕ). holder (role_state r k) ≡ Some s) (sym one) held in
      let its : slot ≡ s = cc in
      let there : at + j ≡ data_offset_of r slot + (row + j) = omega (arith, is) in
      subst (λ (k : ℕ). e s (data_offset_of r s + (row + j)) ≡ new j k ∷ d s (data_offset_of r s + (row + j))) one
      (subst (λ (t : ℕ). e t (data_offset_of r t + (row + j)) ≡ new j role ∷ d t (data_offset_of r t + (row + j))) its
      (subst (λ (k : ℕ). e slot k ≡ new j role ∷ d slot k) there (did j lt (subst (λ (k : ℕ). due j k ≡ true) (sym one) is_due))))

-- a role without a slot, and one whose slot is lost
pub none_written : (r : Reading) (role row count : ℕ) (due : ℕ → ℕ → Bool) (new : ℕ → ℕ → Sector) (lost : ℕ) (d e : ℕ → ℕ → List Sector) → holder (role_state r role) ≡ None
    → HaveNewSectors r role (role + 1) row count due new lost d e
none_written r role row count due new lost d e none other j s low high lt is_due held here =
    let one : other ≡ role = omega (arith, low, high) in
    absurd (let same : ◌≡◌ {A = Option ℕ} None (Some s) = sym none ∙ subst (λ (k : ℕ). holder (role_state r k) ≡ Some s) one held in cc)

pub lost_unwritten : (r : Reading) (role row count slot : ℕ) (due : ℕ → ℕ → Bool) (new : ℕ → ℕ → Sector) (lost : ℕ) (d e : ℕ → ℕ → List Sector) → holder (role_state r role) ≡ Some slot
    → has_slot lost slot ≡ true → HaveNewSectors r role (role + 1) row count due new lost d e
lost_unwritten r role row count slot due new lost d e has gone other j s low high lt is_due held here =
    let one : other ≡ role = omega (arith, low, high) in
    absurd (
    let same : ◌≡◌ {A = Option ℕ} (Some slot) (Some s) = sym has ∙ subst (λ (k : ℕ). holder (role_state r k) ≡ Some s) one held in
    let its : slot ≡ s = cc in
    let gone' = subst (λ (t : ℕ). has_slot lost t ≡ true) its gone in
    cc
    )

-- ---- one role after another

module _ (r : Reading) (apart : AreApart r) (n row count : ℕ) (due : ℕ → ℕ → Bool) (new : ℕ → ℕ → Sector) where
  first_in : (s k : ℕ) (v : Sector) → IsNewSector r 0 n row count due new s k v → IsNewSector r 0 (n + 1) row count due new s k v
  first_in s k v p = record { j = p.j; role = p.role; among = p.among; from = omega arith; below = omega (arith, p.below); is_written = p.is_written; held = p.held; place = p.place; value = p.value }

  next_in : (s k : ℕ) (v : Sector) → IsNewSector r n (n + 1) row count due new s k v → IsNewSector r 0 (n + 1) row count due new s k v
  next_in s k v p = record { j = p.j; role = p.role; among = p.among; from = omega arith; below = p.below; is_written = p.is_written; held = p.held; place = p.place; value = p.value }

  pub roles_marks : {tells : Type 0} (start start' : Given) (old mid tape : List Operation) → start' ≡ start
      → EachMark tells start.start old mid (IsGaining (IsNewSector r 0 n row count due new) (disk start.start old))
      → EachMark tells start'.start mid tape (IsGaining (IsNewSector r n (n + 1) row count due new) (disk start'.start mid))
      → EachMark tells start.start old tape (IsGaining (IsNewSector r 0 (n + 1) row count due new) (disk start.start old))
  roles_marks start start' old mid tape is was did =
      marks_then start start' (IsNewSector r 0 n row count due new) (IsNewSector r n (n + 1) row count due new) (IsNewSector r 0 (n + 1) row count due new) old mid tape is first_in next_in
      (λ s k v w p q. let one = apart p.role q.role s p.held q.held in omega (arith, one, p.below, q.from)) was did

  pub roles_written : (lost after : ℕ) (d e f : ℕ → ℕ → List Sector) → ((s : ℕ) → has_slot lost s ≡ true → has_slot after s ≡ true)
      → IsGaining (IsNewSector r 0 n row count due new) d e → IsGaining (IsNewSector r n (n + 1) row count due new) e f
      → HaveNewSectors r 0 n row count due new lost d e → HaveNewSectors r n (n + 1) row count due new after e f → HaveNewSectors r 0 (n + 1) row count due new after d f
  roles_written lost after d e f stay one two was did role j s low high lt is_due held here = elim (cases_lt role n) [
    | inl below ↦
        let kept : has_slot lost s ≡ false = elim (bool_cases (has_slot lost s)) [ inl gone ↦ absurd (let e = stay s gone in cc) | inr left ↦ left ] in
        gained_not (IsNewSector r n (n + 1) row count due new) e f s (data_offset_of r s + (row + j))
        (λ v q. let same = apart role q.role s held q.held in omega (arith, same, below, q.from)) two
        ∙ was role j s low below lt is_due held kept
    | inr above ↦
        did role j s above high lt is_due held here
        ∙ ap (λ (l : List Sector). new j role ∷ l) (gained_not (IsNewSector r 0 n row count due new) d e s (data_offset_of r s + (row + j))
        (λ v p. let same = apart role p.role s held p.held in omega (arith, same, above, p.below)) one)
  ]

-- ---- the same by other words for what is due, and for the new sectors

module _ (r : Reading) (n row count : ℕ) (due due' : ℕ → ℕ → Bool) (new new' : ℕ → ℕ → Sector) (same_due : (j role : ℕ) → j < count → due j role ≡ due' j role)
    (same_new : (role j : ℕ) → role < n → j < count → new j role ≡ new' j role) where
  sector_by : (s k : ℕ) (v : Sector) → IsNewSector r 0 n row count due new s k v → IsNewSector r 0 n row count due' new' s k v
  sector_by s k v p = record {
    j = p.j;
    role = p.role;
    among = p.among;
    from = p.from;
    below = p.below;
    is_written = sym (same_due p.j p.role p.among) ∙ p.is_written;
    held = p.held;
    place = p.place;
    value = p.value ∙ same_new p.role p.j p.below p.among;
  }

  pub marks_by : {tells : Type 0} (start : ℕ → ℕ → Sector) (old tape : List Operation) → EachMark tells start old tape (IsGaining (IsNewSector r 0 n row count due new) (disk start old))
      → EachMark tells start old tape (IsGaining (IsNewSector r 0 n row count due' new') (disk start old))
  marks_by start old tape marks = marks_wider start (IsNewSector r 0 n row count due new) (IsNewSector r 0 n row count due' new') old tape sector_by marks

  pub written_by : (lost : ℕ) (d e : ℕ → ℕ → List Sector) → HaveNewSectors r 0 n row count due new lost d e → HaveNewSectors r 0 n row count due' new' lost d e
  written_by lost d e did role j s low high lt is_due held here =
      did role j s low high lt (same_due j role lt ∙ is_due) held here ∙ ap (λ (v : Sector). v ∷ d s (data_offset_of r s + (row + j))) (same_new role j high lt)
