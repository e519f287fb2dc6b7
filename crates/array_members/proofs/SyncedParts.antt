-- The parts of a stripe that are mended one after another: where they are, what stands after each, and why the array stays safe.
use Rattle.std.proofs.Common.{◌≡◌, ◌⊎◌, inl, inr, ℕ, ◌+◌, ◌*◌, ◌/◌, ◌^◌, ◌<◌, ◌≤◌, Bool, true, false, List, [], Option, Some, None, refl, sym, ap, subst, arith}
use Rattle.std.specs.Prelude.{MatchOption, ⊤, is_some}
use Rattle.std.proofs.lemmas.Bool.{cases_lt}
use Rattle.std.proofs.lemmas.Nat.{mul-le}
use Rattle.crash_role_laws.specs.raid_types_Sectors.{Sector}
use Rattle.crash_role_laws.specs.raid_types_Shapes.{is_valid_shape, data_disks}
use Rattle.crash_role_laws.specs.raid_types_the_Refusal.{Refusal}
use Rattle.crash_role_laws.specs.raid_types_the_Shape.{Shape}
use Rattle.crash_role_laws.specs.raid_types_the_Role_TheVariants.{Recovering}
use Rattle.crash_role_laws.specs.bank_Given.{Given}
use Rattle.crash_role_laws.specs.bank_the_Operation.{Operation}
use Rattle.crash_role_laws.proofs.raid_layout_Limits.{limited}
use Rattle.crash_role_laws.proofs.raid_layout_Places.{data_some}
use Rattle.crash_role_laws.specs.sb_specs_the_Members.{Members}
use Rattle.crash_role_laws.specs.sb_specs_Reading.{role_state, holder}
use Rattle.crash_role_laws.specs.stripe_row_Rows.{reading_of, present}
use Rattle.crash_role_laws.specs.stripe_list_Buffers.{IsTouched}
use Rattle.crash_role_laws.specs.stripe_list_Full.{AreWholeIn, RowStands}
use Rattle.crash_role_laws.specs.stripe_list_Writing.{IsWritten, HasFull}
use Rattle.crash_role_laws.specs.history_World.{World}
use Rattle.crash_role_laws.specs.history_Sound.{OpensFit}
use Rattle.array_members.specs.Placed.{IsPlaced, IsInForce}
use Rattle.crash_role_laws.specs.crash_safety_laws_Marking.{AreOthersPresent}
use Rattle.array_members.specs.Moving.{Grows, IsMoved}
use Rattle.crash_role_laws.specs.crash_safety_laws_Safety.{HasRoomLeft, IsRisen}
use Rattle.array_members.specs.Lacking.{AreBytes, DoesWithout, DataStandsAmong, LacksTooMany, AreOtherRowsKept}
use Rattle.crash_role_laws.specs.crash_views_Views.{Ledger}
use Rattle.crash_role_laws.specs.crash_safety_laws_Steady.{IsSafeOver, KeepsSafe, AreGoneTold}
use Rattle.array_members.proofs.LackingLists.{row-moved, data-among-moved}
use Rattle.array_members.proofs.LackingWrites.{recovering-before, full-later, others-then, others-same}
use Rattle.crash_role_laws.proofs.crash_safety_laws_Risen.{room-first, room-then}
use Rattle.array_members.proofs.SafeStretch.{gone-before, safe-then, grows-longer, over-at, keeps-from}
use Rattle.array_members.proofs.Stripes.{stripes-within, of_stripe-touched}
use Rattle.array_members.proofs.Fit.{force-valid, force-multiple, short}

-- ---- where a part is

-- the row is one of the first so many of the stripe
abbrev pub IsInParts : Shape → ℕ → ℕ → ℕ → Type 0
IsInParts shape stripe done row = (stripe * shape.chunk ≤ row) × (row < stripe * shape.chunk + done)

pub valid-in : (given : Given) (m : Members) → IsPlaced given m → (shape : Shape) → IsInForce m.newest shape → is_valid_shape shape ≡ true
valid-in given m placed shape force = force-valid m.newest placed.fit shape force

-- the stripe's rows are rows of the members
pub stripe-within : (given : Given) (m : Members) → IsPlaced given m → (shape : Shape) → IsInForce m.newest shape → (stripe : ℕ) → stripe < m.newest.size / shape.chunk → (stripe + 1) * shape.chunk ≤ m.newest.size
stripe-within given m placed shape force stripe lt = stripes-within m.newest.size shape.chunk (stripe + 1) (force-multiple m.newest placed.fit shape force) (omega (arith, lt))

-- a part of its first chunk is within the list, which is short
pub part-within : (given : Given) (m : Members) → IsPlaced given m → (shape : Shape) → IsInForce m.newest shape → (stripe : ℕ) → stripe < m.newest.size / shape.chunk → (long : ℕ) → long ≡ data_disks shape * shape.chunk
    → (done count : ℕ) → done + count ≤ shape.chunk → (stripe * long + done + count ≤ data_disks shape * m.newest.size) × (data_disks shape * m.newest.size < 2 ^ 53)
part-within given m placed shape force stripe lt long is done count part = (
  subst (λ (n : ℕ). stripe * n + done + count ≤ data_disks shape * m.newest.size) (sym is)
      (fits (data_disks shape) shape.chunk m.newest.size (data_some shape (valid-in given m placed shape force)) (stripe-within given m placed shape force stripe lt) part),
  let most = (limited shape (valid-in given m placed shape force)).most in
      let few : data_disks shape ≤ 16 = omega (arith, most) in
      let all = mul-le (data_disks shape) m.newest.size 16 (2 ^ 48) few (short given m placed) in
      omega (arith, all),
)
  where
    fits : (disks chunk size : ℕ) → 0 < disks → (stripe + 1) * chunk ≤ size → done + count ≤ chunk → stripe * (disks * chunk) + done + count ≤ disks * size
    fits disks chunk size some rows within =
        let all = mul-le disks ((stripe + 1) * chunk) disks size (omega arith) rows in
        let each : 1 * chunk ≤ disks * chunk = mul-le 1 chunk disks chunk some (omega arith) in
        let turned : disks * ((stripe + 1) * chunk) ≡ stripe * (disks * chunk) + disks * chunk = omega arith in
        omega (arith, all, each, turned, within)

-- a row of the parts up to here is of the parts before, or the part's sectors touch it
pub part-touches : (shape : Shape) → is_valid_shape shape ≡ true → (stripe long : ℕ) → long ≡ data_disks shape * shape.chunk → (done count : ℕ) → done + count ≤ shape.chunk
    → (row : ℕ) → IsInParts shape stripe (done + count) row → IsInParts shape stripe done row ⊎ IsTouched shape (stripe * long + done) count row
part-touches shape valid stripe long is done count part row at = elim (cases_lt row (stripe * shape.chunk + done)) [
  | inl early ↦ inl (at.0, early)
  | inr late ↦ inr (subst (λ (n : ℕ). IsTouched shape (stripe * n + done) count row) (sym is)
      (of_stripe-touched shape valid stripe done count part row late (let high = at.1 in omega (arith, high))))
]

-- ---- what stands behind a part

-- Of these rows of one shape the data stands as it stood, and so do the rows that were put, where the list is whole in them, and those that stood before;
-- what was rebuilt on a recovering slot stays so. Each other row is as it was.
pub record ArePut (given : Given) (shape : Shape) (region put : ℕ → Type 0) (old new : Members) (before after : List Operation) : Type 0 where
  pub stands : (list : ℕ → Sector) → DataStandsAmong shape region old (present given before) list → DataStandsAmong shape region new (present given after) list
  pub rows : (list : ℕ → Sector) → DataStandsAmong shape region old (present given before) list → (row : ℕ) → region row → row < old.newest.size → AreWholeIn shape list row
      → put row ⊎ RowStands (reading_of old) (present given before) shape list row → RowStands (reading_of new) (present given after) shape list row
  pub rebuilt : (list : ℕ → Sector) → DataStandsAmong shape region old (present given before) list → (role slot row : ℕ) → role < shape.disks → role_state (reading_of new) role ≡ Recovering slot
      → region row → row < old.newest.size
      → HasFull (reading_of old) (present given before) shape list row role slot → HasFull (reading_of new) (present given after) shape list row role slot
  pub others : AreOtherRowsKept region (reading_of new) (present given before) (present given after)

pub put-none : (given : Given) (shape : Shape) (region put : ℕ → Type 0) (m : Members) (tape : List Operation) → ((row : ℕ) → put row → ⊥) → ArePut given shape region put m m tape tape
put-none given shape region put m tape none = record {
  stands = λ list stands. stands;
  rows = λ list stands row has lt whole is. elim is [
    | inl put ↦ absurd (none row put)
    | inr here ↦ here
  ];
  rebuilt = λ list stands role slot row below is has lt full. full;
  others = λ row out role slot held. refl;
}

pub put-then : (given : Given) (shape : Shape) (region one two both : ℕ → Type 0) (a b c : Members) (first second third : List Operation) → b.newest.size ≡ a.newest.size → IsMoved given b c → ((row : ℕ) → both row → one row ⊎ two row)
    → ArePut given shape region one a b first second → ArePut given shape region two b c second third → ArePut given shape region both a c first third
put-then given shape region one two both a b c first second third size moved either early late = record {
  stands = λ list stands. late.stands list (early.stands list stands);
  rows = λ list stands row has lt whole is. late.rows list (early.stands list stands) row has (subst (λ (n : ℕ). row < n) (sym size) lt) whole
      (elim is [
        | inl put ↦ elim (either row put) [
          | inl first ↦ inr (early.rows list stands row has lt whole (inl first))
          | inr second ↦ inl second
        ]
        | inr here ↦ inr (early.rows list stands row has lt whole (inr here))
      ]);
  rebuilt = λ list stands role slot row below is has lt full.
      late.rebuilt list (early.stands list stands) role slot row below is has (subst (λ (n : ℕ). row < n) (sym size) lt)
      (early.rebuilt list stands role slot row below (recovering-before moved role slot is) has lt full);
  others = others-then given region a b c (present given first) (present given second) (present given third) moved early.others late.others;
}

-- where no row was begun, they stand on
pub put-untouched : (given given1 : Given) → given1 ≡ given → (shape : Shape) (region put : ℕ → Type 0) (a b c : Members) (first second third : List Operation) → IsMoved given a b → IsMoved given b c
    → AreOthersPresent (present given1 second) (present given1 third) → ArePut given shape region put a b first second → ArePut given shape region put a c first third
put-untouched given given1 same shape region put a b c first second third early late others before =
    put-then given shape region put (λ row. ⊥) put a b c first second third early.size late (λ row at. inl at) before (record {
      stands = λ list stands. data-among-moved shape region given b c (present given second) (present given third) list late early.placed kept stands;
      rows = λ list stands row has lt whole at. elim at [
        | inl none ↦ absurd none
        | inr here ↦ row-moved given b c (present given second) (present given third) list late early.placed kept row shape here
      ];
      rebuilt = λ list stands role slot row below recovers has lt full. full-later late early.placed kept shape list row role slot (ap holder recovers) full;
      others = others-same given region b c (present given second) (present given third) late early.placed kept;
    })
  where
    kept : AreOthersPresent (present given second) (present given third)
    kept = subst (λ (g : Given). AreOthersPresent (present g second) (present g third)) same others

-- nothing is written into the list
pub nothing-written : (list : ℕ → Sector) (first : ℕ) → IsWritten list list first []
nothing-written list first = record {
  here = λ x low high. absurd (omega (arith, low, high));
  other = λ x out. refl;
}

pub no-bytes : AreBytes []
no-bytes at = omega arith

-- a refusal that isn't for too many comes before a row is begun
pub not-begun : (shape : Shape) (m : Members) (begun : Bool) (refusal : Option Refusal) → is_some refusal ≡ true → DoesWithout shape m → (begun ≡ true → MatchOption refusal ⊤ (LacksTooMany shape m)) → begun ≡ false
not-begun shape m false refusal some does torn = refl
not-begun shape m true None some does torn = absurd (cc)
not-begun shape m true (Some refusal) some does torn = absurd (let above = (torn refl).above in omega (arith, above, does))

-- ---- why the array stays safe

-- a part keeps it safe behind those that did so
pub safe-part : {tells : Type 0} (world : World) (given given1 : Given) (told : Ledger) (old mid new : Members) (one two three : List Operation) → tells → given1 ≡ given
    → IsPlaced given mid → IsMoved given mid new → Grows tells two three → IsRisen tells old mid one two → HasRoomLeft old one three → AreGoneTold told new
    → (HasRoomLeft old one two → AreGoneTold told mid → KeepsSafe world given told mid one two)
    → (HasRoomLeft mid two three → IsSafeOver world given1 told mid two → KeepsSafe world given1 told new two three)
    → KeepsSafe world given told new one three
safe-part world given given1 told old mid new one two three tell same placed moved grows rise room gone first second =
    let early = first (room-first old one two three room (grows-longer grows tell)) (gone-before given mid new placed moved told gone) in
    safe-then (OpensFit world) world.scope given told mid new one two three early
    (keeps-from world given given1 told new two three same (second (room-then three tell room rise) (over-at world given given1 told mid two same early.next)))
