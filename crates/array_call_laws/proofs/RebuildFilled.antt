-- What an array keeps after a step that rebuilds the next stripe of a role on the slot that recovers it.
use Rattle.std.proofs.Common.{◌≡◌, ◌≢◌, inl, inr, ℕ, ◌+◌, ◌*◌, ◌<◌, ◌≤◌, true, false, not, is_some, length, sym, ◌∙◌, ap, subst, arith}
use Rattle.std.specs.Prelude.{⊤}
use Rattle.std.proofs.lemmas.Bool.{cases_lt, cases_eq}
use Rattle.std.proofs.lemmas.List.{get_or-set_same, get_or-set_other}
use Rattle.array_call_specs.specs.raid_types_Sectors.{Sector}
use Rattle.array_call_specs.specs.raid_types_the_Shape.{Shape}
use Rattle.array_call_specs.specs.raid_types_the_Role.{Role}
use Rattle.array_call_specs.specs.raid_types_the_Role_TheVariants.{Recovering}
use Rattle.array_call_specs.specs.bank_Given.{Given}
use Rattle.array_call_specs.specs.bank_Tape.{Contents}
use Rattle.array_call_specs.specs.sb_specs_the_Members.{Members}
use Rattle.array_call_specs.specs.sb_specs_Reading.{shape_of, role_state, rows_held, holder}
use Rattle.array_call_specs.specs.stripe_row_Rows.{reading_of}
use Rattle.array_call_specs.specs.stripe_list_Writing.{HasFull}
use Rattle.array_call_specs.specs.array_members_the_Work.{Work}
use Rattle.array_call_specs.specs.array_members_Placed.{is_unassigned, IsPlaced}
use Rattle.array_call_specs.specs.array_members_Moving.{IsMoved}
use Rattle.array_call_specs.specs.array_members_Status.{rebuilt_of}
use Rattle.array_call_specs.specs.array_members_Rebuilding.{AreRebuilt, IsFilledAmong}
use Rattle.array_call_specs.specs.array_members_Lacking.{RowsStandBelow, IsOfStripe, ListStands}
use Rattle.array_call_specs.specs.Calls.{with_rebuilt}
use Rattle.array_call_specs.proofs.DegradedLaws.{rows-same}
use Rattle.array_call_specs.proofs.array_members_FilledParts.{data-filled, row-filled, full-kept}
use Rattle.array_call_specs.proofs.array_members_LackingWrites.{recovering-before}
use Rattle.array_call_specs.specs.stripe_list_Full.{DataStands, RowStands}

-- ---- how many stripes are rebuilt

pub rebuilt-here : (work : Work) (role n : ℕ) → role < length work.rebuilt → rebuilt_of (with_rebuilt role n work) role ≡ n
rebuilt-here work role n lt = get_or-set_same work.rebuilt role n 0 lt

pub rebuilt-other : (work : Work) (role n other : ℕ) → other ≢ role → rebuilt_of (with_rebuilt role n work) other ≡ rebuilt_of work other
rebuilt-other work role n other apart = get_or-set_other work.rebuilt role other n 0 apart

-- ---- what is filled in

module _ {given : Given} {old new : Members} (work : Work) (moved : IsMoved given old new) (placed : IsPlaced given old) (role slot : ℕ)
    (recovers : role_state (reading_of old) role ≡ Recovering slot) (shape : Shape) (shape_is : shape ≡ shape_of old.newest) (before after : Contents) (list : ℕ → Sector)
    (filled : IsFilledAmong old role slot (IsOfStripe shape (rebuilt_of work role)) before after) where
  -- the rows stand that stood
  pub good-filled : (mended : ℕ) → RowsStandBelow mended old before list → RowsStandBelow mended new after list
  good-filled mended stands row below within =
      row-filled moved placed role slot recovers (IsOfStripe shape (rebuilt_of work role)) before after filled (shape_of new.newest) list row
      (subst (λ (s : Shape). RowStands (reading_of old) before s list row) (sym moved.shape) (stands row below (subst (λ (n : ℕ). row < n) moved.size within)))

  -- and so does the list
  pub list-filled : ListStands old before list → ListStands new after list
  list-filled stands row within =
      data-filled moved placed role slot recovers (IsOfStripe shape (rebuilt_of work role)) before after filled (shape_of new.newest) (λ r. ⊤) list
      (λ r has lt. subst (λ (s : Shape). DataStands (reading_of old) before s list r) (sym moved.shape) (stands r lt)) row tt within

  -- and what was rebuilt is, with a stripe more of the role
  pub rebuilt-filled : role < length work.rebuilt → (role_state (reading_of new) role ≡ Recovering slot → (row : ℕ) → IsOfStripe shape (rebuilt_of work role) row → rows_held (reading_of old) (Recovering slot) ≤ row
      → HasFull (reading_of new) after shape list row role slot) → AreRebuilt work old before list → AreRebuilt (with_rebuilt role (rebuilt_of work role + 1) work) new after list
  rebuilt-filled lt full was r s row below is held under within = elim (cases_eq r role) [
    | inl same ↦
        let here : role_state (reading_of new) role ≡ Recovering s = ap (role_state (reading_of new)) (sym same) ∙ is in
        let own : s ≡ slot = (let e : ◌≡◌ {A = Role} (Recovering s) (Recovering slot) = sym (recovering-before moved role s here) ∙ recovers in cc) in
        let n : rebuilt_of (with_rebuilt role (rebuilt_of work role + 1) work) r ≡ rebuilt_of work role + 1 = ap (rebuilt_of (with_rebuilt role (rebuilt_of work role + 1) work)) same ∙ rebuilt-here work role (rebuilt_of work role + 1) lt in
        let high : row < (rebuilt_of work role + 1) * shape.chunk = subst (λ (x : Shape). row < (rebuilt_of work role + 1) * x.chunk) (moved.shape ∙ sym shape_is) (subst (λ (k : ℕ). row < k * (shape_of new.newest).chunk) n under) in
        elim (cases_lt row (rebuilt_of work role * shape.chunk)) [
          | inl early ↦ kept r s row below is held within (λ of. let low = of.0 in omega (arith, low, early))
              (subst (λ (k : ℕ). row < rebuilt_of work k * (shape_of old.newest).chunk) (sym same) (subst (λ (x : Shape). row < rebuilt_of work role * x.chunk) shape_is early))
          | inr late ↦
              subst (λ (x : Shape). HasFull (reading_of new) after x list row r s) (shape_is ∙ sym moved.shape)
              (subst (λ (k : ℕ). HasFull (reading_of new) after shape list row k s) (sym same)
              (subst (λ (k : ℕ). HasFull (reading_of new) after shape list row role k) (sym own)
              (full (here ∙ ap (λ (k : ℕ). Recovering k) own) row (late, high) (subst (λ (k : ℕ). rows_held (reading_of old) (Recovering k) ≤ row) own (subst (λ (k : ℕ). k ≤ row) (rows-same moved r s is) held)))))
        ]
    | inr apart ↦ kept r s row below is held within (λ of. absurd (apart of.2))
        (subst (λ (x : Shape). row < rebuilt_of work r * x.chunk) moved.shape (subst (λ (k : ℕ). row < k * (shape_of new.newest).chunk) (rebuilt-other work role (rebuilt_of work role + 1) r apart) under))
  ]
    where
      kept : (r s row : ℕ) → r < (shape_of new.newest).disks → role_state (reading_of new) r ≡ Recovering s → rows_held (reading_of new) (Recovering s) ≤ row → row < new.newest.size
          → ((rebuilt_of work role * shape.chunk ≤ row) × (row < (rebuilt_of work role + 1) * shape.chunk) × (r ≡ role) → ⊥) → row < rebuilt_of work r * (shape_of old.newest).chunk
          → HasFull (reading_of new) after (shape_of new.newest) list row r s
      kept r s row below is held within out under =
          full-kept moved placed role slot recovers (IsOfStripe shape (rebuilt_of work role)) before after filled (shape_of new.newest) list r s row is (λ same of. out (of.0, of.1, same))
          (subst (λ (x : Shape). HasFull (reading_of old) before x list row r s) (sym moved.shape)
          (was r s row (subst (λ (x : Shape). r < x.disks) moved.shape below) (recovering-before moved r s is) (subst (λ (k : ℕ). k ≤ row) (rows-same moved r s is) held) under
          (subst (λ (k : ℕ). row < k) moved.size within)))

-- a role that a slot recovers isn't vacant
pub not-vacant : {P : Type 0} (m : Members) (role slot : ℕ) → role_state (reading_of m) role ≡ Recovering slot → is_unassigned (reading_of m) role ≡ true → P
not-vacant m role slot recovers vacant = absurd (let e : false ≡ true = sym (ap (λ (s : Role). not (is_some (holder s))) recovers) ∙ vacant in cc)
