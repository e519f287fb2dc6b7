-- The members with a role given to a slot: how the list stands on them, what is missing, and their spares.
use Rattle.std.proofs.Common.{◌≡◌, ◌≢◌, inl, inr, ⊎_elim, ℕ, ◌+◌, ◌*◌, ◌^◌, ◌<◌, ◌≤◌, nat_lt, ◌==◌, eq-eqb, ◌||◌, ◌&&◌, Bool, true, false, not, cond, if◌then◌else◌, length, Option, Some, None, is_some, refl, sym, ◌∙◌, ap, ap₂, subst, arith}
use Rattle.std.specs.List.{list_any}
use Rattle.std.proofs.lemmas.Bool.{cases_lt, cases_eq}
use Rattle.std.proofs.lemmas.Bool.Decides.{nat_tests}
use Rattle.array_call_specs.specs.raid_types_Sectors.{Sector}
use Rattle.array_call_specs.specs.raid_types_the_Role.{Role}
use Rattle.array_call_specs.specs.raid_types_the_Role_TheVariants.{Whole, Recovering, Missing}
use Rattle.array_call_specs.specs.bank_Given.{Given}
use Rattle.array_call_specs.specs.bank_Tape.{Contents}
use Rattle.array_call_specs.specs.sb_specs_the_Members.{Members}
use Rattle.array_call_specs.specs.sb_specs_Reading.{Reading, is_reshaping, is_whole, shape_of, role_state, rows_held, holder, data_offset_of}
use Rattle.array_call_specs.specs.sb_specs_Reads.{has_spare}
use Rattle.array_call_specs.specs.sb_specs_Update.{is_held_by, is_live}
use Rattle.array_call_specs.specs.stripe_row_Rows.{reading_of, held_slot, is_missing}
use Rattle.array_call_specs.proofs.stripe_row_Losses.{holder-of}
use Rattle.array_call_specs.specs.stripe_list_Full.{full_sector}
use Rattle.array_call_specs.specs.array_members_the_Work.{Work}
use Rattle.array_call_specs.specs.array_members_Placed.{is_unassigned, IsPlaced}
use Rattle.array_call_specs.specs.crash_safety_laws_Steady.{AreUnlost}
use Rattle.array_call_specs.specs.array_members_Status.{rebuilt_of}
use Rattle.array_call_specs.specs.array_members_Rebuilding.{AreSparesFree, AreRebuilt, AreRowsFull, MayHold}
use Rattle.array_call_specs.specs.array_members_Lacking.{ListStands, RowsStandAmong}
use Rattle.array_call_specs.proofs.array_members_GivenMembers.{IsReceiver, W, state-here, state-other, holder-then, offset-same, recovered-here, rows-other, spare-before}
use Rattle.array_call_specs.proofs.array_members_HeldRows.{recovered_of}
use Rattle.array_call_specs.proofs.array_members_MarkLaws.{few-below}
use Rattle.array_call_specs.proofs.crash_safety_laws_Without.{any-held}
use Rattle.array_call_specs.specs.array_members_Moving.{IsMoved}
use Rattle.array_call_specs.specs.Calls.{IsHeldOrGiven, IsRecoveredOrLost}
use Rattle.array_call_specs.specs.raid_types_Shapes.{has_slot}
use Rattle.array_call_specs.proofs.sb_specs_SlotSets.{none_there, none_above}
use Rattle.array_call_specs.proofs.array_members_Fit.{disks-within}

-- ---- slots that may get the role

-- a spare, where no slot holds the role
pub receiver-spare : (given : Given) (m : Members) → IsPlaced given m → AreSparesFree given m → (role slot : ℕ) → role < (shape_of m.newest).disks → is_unassigned (reading_of m) role ≡ true → has_spare m.spares slot ≡ true
    → IsReceiver given m role slot
receiver-spare given m placed all role slot lt vacant spare =
    let free = all slot spare in
    let live : is_live m.roles m.spares slot ≡ true = ap (λ (b : Bool). list_any (is_held_by slot) m.roles || b) spare ∙ or_true (list_any (is_held_by slot) m.roles) in
    record {
      room = free.room;
      behind = free.behind;
      member = placed.live slot live;
      live = live;
      only = λ r is. absurd (free.none r is);
      others = λ s is. absurd (let e : false ≡ true = sym (none (holder (role_state (reading_of m) role)) s is) ∙ vacant in cc);
      unlost = free.unlost;
      below = let n = disks-within given m placed (shape_of m.newest) (inl refl) in omega (arith, lt, n);
    }
  where
    or_true : (b : Bool) → (b || true) ≡ true
    or_true true = refl
    or_true false = refl

    none : (o : Option ℕ) (s : ℕ) → o ≡ Some s → not (is_some o) ≡ false
    none o s is = ap (λ (o : Option ℕ). not (is_some o)) is

-- the slot that recovers it
pub receiver-recovering : (given : Given) (m : Members) → IsPlaced given m → AreUnlost m → (role slot : ℕ) → role < (shape_of m.newest).disks → role_state (reading_of m) role ≡ Recovering slot → IsReceiver given m role slot
receiver-recovering given m placed unlost role slot lt recovers =
    let held : holder (role_state (reading_of m) role) ≡ Some slot = ap holder recovers in
    let live : is_live m.roles m.spares slot ≡ true = ap (λ (b : Bool). b || has_spare m.spares slot) (any-held slot m.roles role held) in
    record {
      room = placed.holders role slot held;
      behind = placed.behind role slot held;
      member = placed.live slot live;
      live = live;
      only = λ r is. placed.apart r role slot is held;
      others = λ s is. (let e : ◌≡◌ {A = Option ℕ} (Some s) (Some slot) = sym is ∙ held in cc);
      unlost = unlost role slot held;
      below = let n = disks-within given m placed (shape_of m.newest) (inl refl) in omega (arith, lt, n);
    }

module _ (given : Given) (m : Members) (placed : IsPlaced given m) (recovery : Option ℕ) (role slot : ℕ) (to : IsReceiver given m role slot) where
  abbrev V : Members
  V = W given m placed recovery role slot to

  -- ---- the spares

  pub few-given : length V.spares ≤ 32
  few-given = few-below 32 _

  pub free-then : AreSparesFree given m → AreSparesFree given V
  free-then all s has =
      let p = spare-before given m placed recovery role slot to s has in
      let free = all s p.0 in
      record {
        room = record {
          small = free.room.small;
          known = free.room.known;
          short = free.room.short;
          within = let within = free.room.within in let here = offset-same given m placed recovery role slot to s in omega (arith, within, here);
        };
        behind = subst (λ (n : ℕ). 10 ≤ n) (sym (offset-same given m placed recovery role slot to s)) free.behind;
        none = λ r is. ⊎_elim (λ here. p.1 here.1) (λ other. free.none r other.2) (holder-then given m placed recovery role slot to r s is);
        unlost = free.unlost;
      }

  -- ---- what is missing

  pub missing-given : is_missing (reading_of m) role ≡ true → (r : ℕ) → is_missing (reading_of V) r ≡ true → is_missing (reading_of m) r ≡ true
  missing-given was r gone = elim (cases_eq r role) [
    | inl same ↦ ap (is_missing (reading_of m)) same ∙ was
    | inr apart ↦ ap (λ (s : Role). not (is_whole s)) (sym (state-other given m placed recovery role slot to r apart)) ∙ gone
  ]

  -- ---- the rows

  -- of each other role its slot holds the same ones
  rows-apart : (state : Role) → ((s : ℕ) → holder state ≡ Some s → s ≢ slot) → rows_held (reading_of V) state ≡ rows_held (reading_of m) state
  rows-apart (Whole s) apart = refl
  rows-apart (Recovering s) apart = rows-other given m placed recovery role slot to s (Recovering s) refl (apart s refl)
  rows-apart Missing apart = refl

  holds-other : (r : ℕ) → r ≢ role → (s : ℕ) → holder (role_state (reading_of m) r) ≡ Some s → s ≢ slot
  holds-other r apart s is same = apart (to.only r (is ∙ ap (λ (n : ℕ). Some n) same))

  held-apart : (r row : ℕ) → r ≢ role → held_slot (reading_of V) r row ≡ held_slot (reading_of m) r row
  held-apart r row apart =
      ap (λ (s : Role). if nat_lt row (rows_held (reading_of V) s) then holder s else None) (state-other given m placed recovery role slot to r apart)
      ∙ ap (λ (n : ℕ). if nat_lt row n then holder (role_state (reading_of m) r) else None) (rows-apart (role_state (reading_of m) r) (holds-other r apart))

  module _ (c : Contents) (list : ℕ → Sector)
      (here : (s row : ℕ) → row < m.newest.size → held_slot (reading_of V) role row ≡ Some s → c s (data_offset_of (reading_of V) s + row) ≡ full_sector (shape_of m.newest) list row role) where
    sector-then : (r s row : ℕ) → row < m.newest.size → held_slot (reading_of V) r row ≡ Some s
        → (held_slot (reading_of m) r row ≡ Some s → c s (data_offset_of (reading_of m) s + row) ≡ full_sector (shape_of m.newest) list row r)
        → c s (data_offset_of (reading_of V) s + row) ≡ full_sector (shape_of m.newest) list row r
    sector-then r s row lt held was = elim (cases_eq r role) [
      | inl same ↦ here s row lt (subst (λ (k : ℕ). held_slot (reading_of V) k row ≡ Some s) same held) ∙ ap (λ (k : ℕ). full_sector (shape_of m.newest) list row k) (sym same)
      | inr apart ↦ ap (λ (n : ℕ). c s (n + row)) (offset-same given m placed recovery role slot to s) ∙ was (sym (held-apart r row apart) ∙ held)
    ]

    -- the list stands as it stood
    pub list-given : ListStands m c list → ListStands V c list
    list-given stands row lt r s below plain held = sector-then r s row lt held (λ before. stands row lt r s below plain before)

    pub among-given : (among : ℕ → Type 0) → RowsStandAmong (shape_of m.newest) among m c list → RowsStandAmong (shape_of m.newest) among V c list
    among-given among stands row has lt =
        let was = stands row has lt in
        record {
          whole = was.whole;
          sectors = λ r s below plain held. sector-then r s row lt held (λ before. was.sectors r s below plain before);
          parity = λ r s below plain held. sector-then r s row lt held (λ before. was.parity r s below plain before);
        }

  -- ---- what is rebuilt

  pub rebuilt-given : (work work' : Work) (c : Contents) (list : ℕ → Sector) → ((other : ℕ) → other ≢ role → rebuilt_of work' other ≡ rebuilt_of work other)
      → ((s row : ℕ) → role_state (reading_of V) role ≡ Recovering s → row < rebuilt_of work' role * (shape_of m.newest).chunk → ⊥) → AreRebuilt work m c list → AreRebuilt work' V c list
  rebuilt-given work work' c list same none was r s row below is held under within = elim (cases_eq r role) [
    | inl own ↦ absurd (none s row (ap (role_state (reading_of V)) (sym own) ∙ is) (subst (λ (k : ℕ). row < rebuilt_of work' k * (shape_of m.newest).chunk) own under))
    | inr apart ↦
        let before : role_state (reading_of m) r ≡ Recovering s = sym (state-other given m placed recovery role slot to r apart) ∙ is in
        ap (λ (n : ℕ). c s (n + row)) (offset-same given m placed recovery role slot to s)
        ∙ was r s row below before (subst (λ (n : ℕ). n ≤ row) (rows-apart (Recovering s) (λ t e. holds-other r apart t (ap holder before ∙ e))) held)
        (subst (λ (n : ℕ). row < n * (shape_of m.newest).chunk) (same r apart) under) within
  ]

-- ---- of the role itself

-- a slot that recovers it from the start has nothing of it
pub none-recovered : (given : Given) (m : Members) (placed : IsPlaced given m) (role slot : ℕ) (to : IsReceiver given m role slot) (s row : ℕ)
    → held_slot (reading_of (W given m placed (Some 0) role slot to)) role row ≡ Some s → ⊥
none-recovered given m placed role slot to s row held = by (is_reshaping m.newest) (ap (λ (state : Role). if nat_lt row (rows_held V state) then holder state else None) (sym (state-here given m placed (Some 0) role slot to)) ∙ held)
  where
    V : Reading
    V = reading_of (W given m placed (Some 0) role slot to)

    none : (n : ℕ) → n ≡ 0 → nat_lt row n ≡ false
    none n is = grind (arith, nat_tests, is)

    never : (n : ℕ) → n ≡ 0 → (if nat_lt row n then Some slot else None) ≡ Some s → ⊥
    never n is e = let no : None ≡ Some s = sym (ap (λ (b : Bool). if b then Some slot else None) (none n is)) ∙ e in cc

    by : (b : Bool) → (if nat_lt row (cond b 0 (recovered_of V slot)) then Some slot else None) ≡ Some s → ⊥
    by true e = never 0 refl e
    by false e = never (recovered_of V slot) (recovered-here given m placed (Some 0) role slot to) e

-- one on which it is whole has each row that it has in full
pub whole-here : (given : Given) (m : Members) (placed : IsPlaced given m) (role slot : ℕ) (to : IsReceiver given m role slot) (c : Contents) (list : ℕ → Sector) → AreRowsFull m role slot list c
    → (s row : ℕ) → row < m.newest.size → held_slot (reading_of (W given m placed None role slot to)) role row ≡ Some s
    → c s (data_offset_of (reading_of (W given m placed None role slot to)) s + row) ≡ full_sector (shape_of m.newest) list row role
whole-here given m placed role slot to c list full s row lt held =
    let V = reading_of (W given m placed None role slot to) in
    let on : ◌≡◌ {A = Option ℕ} (Some slot) (Some s) = ap holder (sym (state-here given m placed None role slot to)) ∙ holder-of V role row s held in
    let own : s ≡ slot = cc in
    ap (λ (k : ℕ). c k (data_offset_of V k + row)) own ∙ ap (λ (n : ℕ). c slot (n + row)) (offset-same given m placed None role slot to slot) ∙ full row lt

-- ---- a spare that has got the role

module _ (given : Given) (m : Members) (placed : IsPlaced given m) (role slot : ℕ) (to : IsReceiver given m role slot) where
  abbrev T : Members
  T = W given m placed (Some 0) role slot to

  -- no other role has a slot then
  pub taken-vacant : (disks vacant one set : ℕ) → disks ≤ 32 → set < 2 ^ 32 → ((r : ℕ) → has_slot vacant r ≡ (nat_lt r disks && is_unassigned (reading_of m) r)) → ((r : ℕ) → has_slot one r ≡ (has_slot 0 r || (role == r)))
      → ((r : ℕ) → r < 32 → has_slot set r ≡ (has_slot vacant r && not (has_slot one r))) → (r : ℕ) → has_slot set r ≡ (nat_lt r disks && is_unassigned (reading_of T) r)
  taken-vacant disks vacant one set few small are is without r = elim (cases_lt r 32) [
    | inl low ↦ without r low ∙ taken r
    | inr high ↦ none_above set r small high ∙ sym (ap (λ (b : Bool). b && is_unassigned (reading_of T) r) (past r high))
  ]
    where
      past : (r : ℕ) → 32 ≤ r → nat_lt r disks ≡ false
      past r above = grind (arith, nat_tests, above, few)

      or_true : (b : Bool) → (b || true) ≡ true
      or_true true = refl
      or_true false = refl

      and_false : (b : Bool) → (b && false) ≡ false
      and_false true = refl
      and_false false = refl

      and_true : (b : Bool) → (b && true) ≡ b
      and_true true = refl
      and_true false = refl

      differ : (a b : ℕ) → a ≢ b → (a == b) ≡ false
      differ a b apart = grind (arith, nat_tests, apart)

      taken : (r : ℕ) → (has_slot vacant r && not (has_slot one r)) ≡ (nat_lt r disks && is_unassigned (reading_of T) r)
      taken r = elim (cases_eq r role) [
        | inl same ↦
            let here : is_unassigned (reading_of T) r ≡ false = ap (is_unassigned (reading_of T)) same ∙ ap (λ (s : Role). not (is_some (holder s))) (state-here given m placed (Some 0) role slot to) in
            let has : has_slot one r ≡ true = is r ∙ ap (λ (b : Bool). has_slot 0 r || b) (eq-eqb role r (sym same)) ∙ or_true (has_slot 0 r) in
            ap (λ (b : Bool). has_slot vacant r && not b) has ∙ and_false (has_slot vacant r) ∙ sym (ap (λ (b : Bool). nat_lt r disks && b) here ∙ and_false (nat_lt r disks))
        | inr apart ↦
            let none : has_slot one r ≡ false = is r ∙ ap₂ (λ (a b : Bool). a || b) (none_there r) (differ role r (λ same. apart (sym same))) in
            ap (λ (b : Bool). has_slot vacant r && not b) none ∙ and_true (has_slot vacant r) ∙ are r
            ∙ ap (λ (s : Role). nat_lt r disks && not (is_some (holder s))) (sym (state-other given m placed (Some 0) role slot to r apart))
      ]

  -- who held a role before holds it still
  pub taken-held : (r s : ℕ) → holder (role_state (reading_of m) r) ≡ Some s → holder (role_state (reading_of T) r) ≡ Some s
  taken-held r s held = elim (cases_eq r role) [
    | inl same ↦ ap (λ (k : ℕ). holder (role_state (reading_of T) k)) same ∙ ap holder (state-here given m placed (Some 0) role slot to)
        ∙ ap (λ (k : ℕ). Some k) (sym (to.others s (ap (λ (k : ℕ). holder (role_state (reading_of m) k)) (sym same) ∙ held)))
    | inr apart ↦ ap holder (state-other given m placed (Some 0) role slot to r apart) ∙ held
  ]

  -- and who holds one then held it, or is the slot that was given it
  pub taken-by : (r s : ℕ) → holder (role_state (reading_of T) r) ≡ Some s → IsHeldOrGiven m role slot r s
  taken-by r s held = elim (holder-then given m placed (Some 0) role slot to r s held) [
    | inl here ↦ inr (here.0, here.1)
    | inr other ↦ inl other.2
  ]

  -- so it held it, or was a spare
  pub taken-before : has_spare m.spares slot ≡ true → (r s : ℕ) → holder (role_state (reading_of T) r) ≡ Some s → MayHold m r s
  taken-before spare r s held = elim (taken-by r s held) [
    | inl had ↦ inl had
    | inr here ↦ inr (ap (has_spare m.spares) here.1 ∙ spare)
  ]

  -- the slot recovers the role in the end, or none holds it
  pub taken-after : (new : Members) → IsMoved given T new → IsRecoveredOrLost new role slot
  taken-after new moved = by (holder (role_state (reading_of new) role)) refl
    where
      by : (o : Option ℕ) → holder (role_state (reading_of new) role) ≡ o → IsRecoveredOrLost new role slot
      by None is = inr (ap (λ (o : Option ℕ). not (is_some o)) is)
      by (Some s) is = inl (moved.states role s is ∙ state-here given m placed (Some 0) role slot to)
