-- A write of many rows: how what a stop may leave goes on over them, and what stands afterwards.
use Rattle.std.proofs.Common.{◌≡◌, ◌≢◌, ◌⊎◌, inl, inr, ℕ, ◌+◌, ◌<◌, ◌≤◌, List, length, true, sym, ◌∙◌, ap, ap₂, subst, arith}
use Rattle.std.specs.Prelude.{slice_index}
use Rattle.std.proofs.lemmas.Bool.{cases_eq}
use Rattle.raid_layout.specs.raid_types_the_Shape.{Shape}
use Rattle.raid_layout.specs.raid_types_Sectors.{Sector}
use Rattle.raid_layout.specs.raid_types_Shapes.{is_valid_shape}
use Rattle.stripe_row.specs.bank_Given.{Given}
use Rattle.stripe_row.specs.bank_the_Operation.{Operation}
use Rattle.stripe_row.specs.bank_Tape.{Contents, EachMark, disk}
use Rattle.stripe_row.proofs.bank_Marks.{each_mark-map, each_mark-then}
use Rattle.raid_layout.specs.Layout.{place}
use Rattle.raid_layout.proofs.Places.{place-role_below}
use Rattle.stripe_row.specs.sb_specs_the_Members.{Members}
use Rattle.stripe_row.specs.sb_specs_Reading.{Reading, data_offset_of}
use Rattle.stripe_row.specs.Rows.{reading_of, members_without}
use Rattle.stripe_row.specs.Writes.{AreApart}
use Rattle.stripe_row.proofs.Losses.{held_slot-after}
use Rattle.stripe_row.proofs.Turns.{marks_last}
use Rattle.stripe_row.proofs.Written.{members_without-none}
use Rattle.stripe_list.proofs.LossLaws.{recovering-after}
use Rattle.stripe_list.specs.Full.{full_sector, DataStands, ParityStands}
use Rattle.stripe_list.specs.Buffers.{AreDistinct, AreStanding}
use Rattle.stripe_list.specs.Writing.{AreDataOf, IsFull, StaysRebuilt, IsRowKept, MayHaveFull, IsPutting, AreSuperblocksKept, AreBehind}

-- ---- what a stop may leave

cancel : (a b c : ℕ) → a + b ≡ a + c → b ≡ c
cancel a b c is = omega (arith, is)

two_values : (r : Reading) (shape : Shape) (list : ℕ → Sector) (touched : ℕ → Type 0) (s k : ℕ) (old mid now : List Sector) → AreApart r
    → MayHaveFull r shape list touched s k old mid → MayHaveFull r shape list touched s k mid now → MayHaveFull r shape list touched s k old now
two_values r shape list touched s k old mid now apart one two = record {
  row = one.row;
  role = one.role;
  among = one.among;
  within = one.within;
  held = one.held;
  place = one.place;
  values = λ v there. elim (two.values v there) [
    | inl before ↦ one.values v before
    | inr full ↦ inr (full ∙ ap₂ (λ (row role : ℕ). full_sector shape list row role) (sym same_row) (sym same_role))
  ];
}
  where
    same_row : one.row ≡ two.row
    same_row = cancel (data_offset_of r s) one.row two.row (sym one.place ∙ two.place)

    same_role : one.role ≡ two.role
    same_role = apart one.role two.role s one.held two.held

pub putting_then : (r : Reading) (shape : Shape) (list : ℕ → Sector) (touched : ℕ → Type 0) (d e f : ℕ → ℕ → List Sector) → AreApart r
    → IsPutting r shape list touched d e → IsPutting r shape list touched e f → IsPutting r shape list touched d f
putting_then r shape list touched d e f apart one two s k = at (one s k) (two s k)
  where
    at : (e s k ≡ d s k) ⊎ MayHaveFull r shape list touched s k (d s k) (e s k) → (f s k ≡ e s k) ⊎ MayHaveFull r shape list touched s k (e s k) (f s k)
        → (f s k ≡ d s k) ⊎ MayHaveFull r shape list touched s k (d s k) (f s k)
    at (inl same) (inl still) = inl (still ∙ same)
    at (inl same) (inr has) = inr (subst (λ (l : List Sector). MayHaveFull r shape list touched s k l (f s k)) same has)
    at (inr has) (inl still) = inr (subst (λ (l : List Sector). MayHaveFull r shape list touched s k (d s k) l) (sym still) has)
    at (inr one) (inr two) = inr (two_values r shape list touched s k (d s k) (e s k) (f s k) apart one two)

-- among more rows
pub putting_among : (r : Reading) (shape : Shape) (list : ℕ → Sector) (touched more : ℕ → Type 0) (d e : ℕ → ℕ → List Sector) → ((row : ℕ) → touched row → more row)
    → IsPutting r shape list touched d e → IsPutting r shape list more d e
putting_among r shape list touched more d e wider one s k = at (one s k)
  where
    at : (e s k ≡ d s k) ⊎ MayHaveFull r shape list touched s k (d s k) (e s k) → (e s k ≡ d s k) ⊎ MayHaveFull r shape list more s k (d s k) (e s k)
    at (inl same) = inl same
    at (inr has) = inr (record { row = has.row; role = has.role; among = wider has.row has.among; within = has.within; held = has.held; place = has.place; values = has.values })

-- one row more, at each mark
pub marks_more : {tells : Type 0} (start start' : Given) (m m' : Members) (shape : Shape) (list : ℕ → Sector) (touched one : ℕ → Type 0) (old mid new : List Operation) → AreApart (reading_of m)
    → start' ≡ start → m' ≡ m → ((row : ℕ) → one row → touched row)
    → EachMark tells start.start old mid (IsPutting (reading_of m) shape list touched (disk start.start old))
    → EachMark tells start'.start mid new (IsPutting (reading_of m') shape list one (disk start'.start mid))
    → EachMark tells start.start old new (IsPutting (reading_of m) shape list touched (disk start.start old))
marks_more {tells = tells} start start' m m' shape list touched one old mid new apart same is wider marks more =
    each_mark-then marks (each_mark-map (IsPutting (reading_of m) shape list touched (disk start.start old))
    (λ told e next. putting_then (reading_of m) shape list touched (disk start.start old) (disk start.start mid) e apart
    (marks_last {P = IsPutting (reading_of m) shape list touched (disk start.start old)} marks told) (putting_among (reading_of m) shape list one touched (disk start.start mid) e wider next))
    (subst (λ (n : Members). EachMark tells start.start mid new (IsPutting (reading_of n) shape list one (disk start.start mid))) is
    (subst (λ (s : Given). EachMark tells s.start mid new (IsPutting (reading_of m') shape list one (disk s.start mid))) same more)))

-- no place is among the superblocks
pub superblocks_kept : (r : Reading) (shape : Shape) (list : ℕ → Sector) (touched : ℕ → Type 0) (d e : ℕ → ℕ → List Sector) → AreBehind r → IsPutting r shape list touched d e → AreSuperblocksKept d e
superblocks_kept r shape list touched d e behind putting slot at low = by (putting slot at)
  where
    by : (e slot at ≡ d slot at) ⊎ MayHaveFull r shape list touched slot at (d slot at) (e slot at) → e slot at ≡ d slot at
    by (inl same) = same
    by (inr has) = absurd (
        let begins = behind has.role slot has.held in
        let there = has.place in
        omega (arith, low, begins, there)
        )

-- ---- the rows

pub standing_later : (r : Reading) (c later : Contents) (shape : Shape) (row : ℕ) (sectors sectors' : ℕ → Sector) → ((role : ℕ) → role < shape.disks → sectors' role ≡ sectors role)
    → IsRowKept r c later row → AreStanding r c shape row sectors → AreStanding r later shape row sectors'
standing_later r c later shape row sectors sectors' same kept standing role slot lt held = same role lt ∙ standing role slot lt held ∙ sym (kept slot)

pub data_same : (shape : Shape) (list : ℕ → Sector) (row : ℕ) (sectors sectors' : ℕ → Sector) → is_valid_shape shape ≡ true → ((role : ℕ) → role < shape.disks → sectors' role ≡ sectors role)
    → AreDataOf shape list row sectors → AreDataOf shape list row sectors'
data_same shape list row sectors sectors' valid same own x at = same (place shape x).role (place-role_below shape valid x) ∙ own x at

-- a full row stays so while it is kept, whatever is lost
pub full_later : (mid new : Members) (lost : ℕ) (c later : Contents) (shape : Shape) (list : ℕ → Sector) (row : ℕ) → new ≡ members_without lost mid → IsRowKept (reading_of mid) c later row
    → IsFull (reading_of mid) c shape list row → IsFull (reading_of new) later shape list row
full_later mid new lost c later shape list row is kept full =
    subst (λ (m : Members). IsFull (reading_of m) later shape list row) (sym is)
    (λ role slot lt held. kept slot ∙ full role slot lt (held_slot-after mid lost role row slot held).0)

pub kept_then : (mid new : Members) (lost : ℕ) (a b c : Contents) (row : ℕ) → new ≡ members_without lost mid → IsRowKept (reading_of mid) a b row → IsRowKept (reading_of mid) b c row
    → IsRowKept (reading_of new) a c row
kept_then mid new lost a b c row is one two = subst (λ (m : Members). IsRowKept (reading_of m) a c row) (sym is) (λ slot. two slot ∙ one slot)

-- a row that stays rebuilt does so while it is kept, before and after, whatever is lost
pub rebuilt_later : (mid new : Members) (lost : ℕ) (before between after : Contents) (shape : Shape) (list list' : ℕ → Sector) (row : ℕ) → new ≡ members_without lost mid
    → IsRowKept (reading_of mid) between after row → StaysRebuilt (reading_of mid) before between shape list list' row → StaysRebuilt (reading_of new) before after shape list list' row
rebuilt_later mid new lost before between after shape list list' row is kept was =
    subst (λ (m : Members). StaysRebuilt (reading_of m) before after shape list list' row) (sym is)
    (λ role slot lt recovers full. kept slot ∙ was role slot lt (recovering-after mid lost role slot recovers).0 full)

pub rebuilt_since : (mid new : Members) (lost : ℕ) (before between after : Contents) (shape : Shape) (list list' : ℕ → Sector) (row : ℕ) → new ≡ members_without lost mid
    → IsRowKept (reading_of mid) before between row → StaysRebuilt (reading_of new) between after shape list list' row → StaysRebuilt (reading_of new) before after shape list list' row
rebuilt_since mid new lost before between after shape list list' row is kept did role slot lt recovers full =
    did role slot lt recovers (here slot ∙ full)
  where
    here : (slot : ℕ) → between slot (data_offset_of (reading_of new) slot + row) ≡ before slot (data_offset_of (reading_of new) slot + row)
    here = subst (λ (m : Members). IsRowKept (reading_of m) before between row) (sym is) kept

pub none_then : (mid new : Members) (lost : ℕ) → new ≡ members_without lost mid → lost ≡ 0 → new ≡ mid
none_then mid new lost is none = is ∙ ap (λ (n : ℕ). members_without n mid) none ∙ sym (members_without-none mid)

-- one row more is full, and each other one is as it was
module _ (mid new : Members) (lost : ℕ) (is : new ≡ members_without lost mid) (before between after : Contents) (shape : Shape) (rows : List ℕ) (once : AreDistinct rows)
    (start i : ℕ) (lt : i < length rows) (others : (other : ℕ) → other ≢ slice_index rows i → IsRowKept (reading_of mid) between after other) where
  pub full_more : (list : ℕ → Sector) → ((j : ℕ) → start ≤ j → j < i → IsFull (reading_of mid) between shape list (slice_index rows j)) → IsFull (reading_of new) after shape list (slice_index rows i)
      → (j : ℕ) → start ≤ j → j < i + 1 → IsFull (reading_of new) after shape list (slice_index rows j)
  full_more list was here j low high = elim (cases_eq j i) [
    | inl same ↦ subst (λ (n : ℕ). IsFull (reading_of new) after shape list (slice_index rows n)) (sym same) here
    | inr ne ↦
        let below : j < i = omega (arith, high, ne) in
        full_later mid new lost between after shape list (slice_index rows j) is (others (slice_index rows j) (once j i below lt)) (was j low below)
  ]

  pub rebuilt_more : (list list' : ℕ → Sector) → start ≤ i → ((row : ℕ) → ((j : ℕ) → start ≤ j → j < i → slice_index rows j ≢ row) → IsRowKept (reading_of mid) before between row)
      → ((j : ℕ) → start ≤ j → j < i → StaysRebuilt (reading_of mid) before between shape list list' (slice_index rows j))
      → StaysRebuilt (reading_of new) between after shape list list' (slice_index rows i)
      → (j : ℕ) → start ≤ j → j < i + 1 → StaysRebuilt (reading_of new) before after shape list list' (slice_index rows j)
  rebuilt_more list list' from_start kept was here j low high = elim (cases_eq j i) [
    | inl same ↦ subst (λ (n : ℕ). StaysRebuilt (reading_of new) before after shape list list' (slice_index rows n)) (sym same)
        (rebuilt_since mid new lost before between after shape list list' (slice_index rows i) is (kept (slice_index rows i) (λ k l h. once k i h lt)) here)
    | inr ne ↦
        let below : j < i = omega (arith, high, ne) in
        rebuilt_later mid new lost before between after shape list list' (slice_index rows j) is (others (slice_index rows j) (once j i below lt)) (was j low below)
  ]

  pub kept_more : start ≤ i → ((row : ℕ) → ((j : ℕ) → start ≤ j → j < i → slice_index rows j ≢ row) → IsRowKept (reading_of mid) before between row)
      → (row : ℕ) → ((j : ℕ) → start ≤ j → j < i + 1 → slice_index rows j ≢ row) → IsRowKept (reading_of new) before after row
  kept_more low was row apart = kept_then mid new lost before between after row is (was row (λ j l h. apart j l (omega (arith, h))))
      (others row (λ same. apart i low (omega arith) (sym same)))

-- what wasn't written yet stands as it lies in the buffer, whatever was lost
pub standing_after : (old new : Members) (lost : ℕ) (c later : Contents) (shape : Shape) (row : ℕ) (sectors sectors' : ℕ → Sector) → new ≡ members_without lost old
    → ((role : ℕ) → role < shape.disks → sectors' role ≡ sectors role) → IsRowKept (reading_of new) c later row → AreStanding (reading_of old) c shape row sectors
    → AreStanding (reading_of new) later shape row sectors'
standing_after old new lost c later shape row sectors sectors' is same kept standing =
    standing_later (reading_of new) c later shape row sectors sectors' same kept
    (subst (λ (m : Members). AreStanding (reading_of m) c shape row sectors) (sym is) (λ role slot lt held. standing role slot lt (held_slot-after old lost role row slot held).0))

-- a full row stands, by its data and its parity
pub full_stands : (r : Reading) (c : Contents) (shape : Shape) (list : ℕ → Sector) (row : ℕ) → IsFull r c shape list row → DataStands r c shape list row × ParityStands r c shape list row
full_stands r c shape list row full = (λ role slot lt here held. full role slot lt held, λ role slot lt here held. full role slot lt held)
