-- What a read of the next window leaves, from what `read_list` says of it.
use Rattle.std.proofs.Common.{◌≡◌, ◌⊎◌, inl, inr, ℕ, ◌+◌, ◌-◌, ◌*◌, ◌/◌, ◌<◌, ◌≤◌, nat_le, Bool, true, if◌then◌else◌, Option, Some, None, List, length, refl, sym, ap, subst, arith}
use Rattle.std.specs.Prelude.{MatchOption, ⊤}
use Rattle.std.proofs.lemmas.Bool.Decides.{nat_tests}
use Rattle.stripe_region_read.specs.raid_types_Sectors.{Sector}
use Rattle.stripe_region_read.specs.raid_types_Shapes.{stripe_sectors}
use Rattle.stripe_region_read.specs.raid_types_the_Refusal.{Refusal}
use Rattle.stripe_region_read.specs.raid_types_the_Shape.{Shape}
use Rattle.stripe_region_read.specs.raid_types_the_Side_TheVariants.{Old}
use Rattle.stripe_region_read.specs.raid_types_the_Span.{Span}
use Rattle.stripe_region_read.specs.bank_Given.{NeverFalls}
use Rattle.stripe_region_read.specs.bank_Tape.{Contents}
use Rattle.reshape_progress.proofs.bank_Causes.{faulted_longer}
use Rattle.stripe_region_read.specs.raid_parity_Rows.{sector_of}
use Rattle.stripe_region_read.specs.reshape_geometry_Geometry as geometry
use Rattle.reshape_progress.specs.sb_specs_the_Members.{Members}
use Rattle.reshape_progress.specs.sb_specs_Reading.{shape_of, list_length, next_window}
use Rattle.reshape_progress.specs.history_Stands.{shape_for}
use Rattle.reshape_progress.specs.crash_views_Regions.{AreShapesFit, DoWithout}
use Rattle.reshape_progress.specs.crash_views_Windows.{IsShown, ListStands, RowsStand}
use Rattle.reshape_progress.proofs.crash_views_Alike.{row-below}
use Rattle.reshape_progress.proofs.crash_views_UnderWay.{is-reshaping, shape-on}
use Rattle.reshape_progress.specs.array_members_Lacking.{AreTooMany, LacksTooMany, AreLostSince}
use Rattle.stripe_region_read.specs.Stretches.{relied_rows, IsListUnread, ListStandsIn, RowsStandIn, IsUnrelied}
use Rattle.reshape_progress.specs.reshape_window_rows_Copies.{HasWindow, IsRoomFor}
use Rattle.reshape_progress.proofs.reshape_window_rows_ReadLaws.{the-window}

-- ---- the window's sectors

-- each of them is placed by the old shape
old-here : (m : Members) → AreShapesFit m.newest → (span : Span) → next_window m.newest ≡ Some span → (x : ℕ) → geometry.IsIn x span → (x < list_length m.newest) × (shape_for m.newest x ≡ shape_of m.newest)
old-here m fit span next x inside =
    let window = the-window m m fit span next in
    let high = inside.1 in
    let in_list = window.inside in
    let below : x < list_length m.newest = omega (arith, high, in_list) in
    (below, shape-on m.newest (is-reshaping m.newest span next) x Old (window.rows x x inside below refl))

-- as many as the buffer has room for
pub window-end : (span : Span) (bytes : List ℕ) → span.lo ≤ span.hi → IsRoomFor span bytes → span.lo + length bytes / 512 ≡ span.hi
window-end span bytes order room = omega (arith, order, room)

-- ---- why it isn't read

-- where parity is relied on up to the list's end, no row isn't
all-relied : (m : Members) → AreShapesFit m.newest → (relied x : ℕ) → list_length m.newest ≤ relied → x < list_length m.newest → IsUnrelied relied m x → ⊥
all-relied m fit relied x all below lacked =
    let rows : relied_rows m.newest relied (shape_for m.newest x) ≡ m.newest.size = ap (λ (b : Bool). if b then m.newest.size else relied / stripe_sectors (shape_for m.newest x) * (shape_for m.newest x).chunk) (yes (list_length m.newest) relied all) in
    let far = lacked.1 in
    let near = row-below m.newest fit x below in
    omega (arith, far, near, rows)
  where
    yes : (a b : ℕ) → a ≤ b → nat_le a b ≡ true
    yes a b le = grind (arith, nat_tests, le)

-- too many roles are missing of the old shape
unread-many : (m : Members) → AreShapesFit m.newest → (span : Span) → next_window m.newest ≡ Some span → (relied to : ℕ) (refusal : Refusal) → list_length m.newest ≤ relied → to ≤ span.hi
    → IsListUnread relied span.lo to m refusal → AreTooMany m refusal
unread-many m fit span next relied to refusal all within why =
    let low = why.1 in
    let high = why.2 in
    let here = old-here m fit span next why.0 (low, omega (arith, high, within)) in
    elim why.3 [
      | inl many ↦ inl (subst (λ (s : Shape). LacksTooMany s m refusal) here.1 many)
      | inr lacked ↦ absurd (all-relied m fit relied why.0 all here.0 lacked.1)
    ]

pub refused-many : (m : Members) → AreShapesFit m.newest → (span : Span) → next_window m.newest ≡ Some span → (relied to : ℕ) (read refusal : Option Refusal) → list_length m.newest ≤ relied → to ≤ span.hi
    → MatchOption read ⊤ (IsListUnread relied span.lo to m) → MatchOption refusal ((read ≡ None) × DoWithout m) (λ r. (read ≡ Some r) ⊎ AreTooMany m r) → MatchOption refusal (DoWithout m) (AreTooMany m)
refused-many m fit span next relied to read None all within unread why = why.1
refused-many m fit span next relied to read (Some refusal) all within unread (inl is) =
    unread-many m fit span next relied to refusal all within (subst (λ (o : Option Refusal). MatchOption o ⊤ (IsListUnread relied span.lo to m)) is unread)
refused-many m fit span next relied to read (Some refusal) all within unread (inr many) = many

pub none-read : (m : Members) (read refusal : Option Refusal) → MatchOption refusal ((read ≡ None) × DoWithout m) (λ r. (read ≡ Some r) ⊎ AreTooMany m r) → refusal ≡ None → read ≡ None
none-read m read None why none = why.0
none-read m read (Some refusal) why none = absurd (cc)

-- ---- what the buffer has then

module _ (m : Members) (span : Span) (bytes : List ℕ) (c : Contents) (list : ℕ → Sector) (n relied : ℕ) where
  pub stands-in : (among : Shape → Type 0) → ListStands None m c list → ListStandsIn among None m c list
  stands-in among stands x slot own shown held = stands x slot shown held

  pub rows-in : (among : Shape → Type 0) → (Whole : Type 0) → Whole ⊎ RowsStand None m c list → Whole ⊎ RowsStandIn among None relied m c list
  rows-in among Whole (inl whole) = inl whole
  rows-in among Whole (inr rows) = inr (λ x low own shown. rows x shown)

  pub has-window : AreShapesFit m.newest → next_window m.newest ≡ Some span → span.hi - span.lo ≤ n
      → ((i : ℕ) → i < n → IsShown None m.newest (span.lo + i) → sector_of bytes i ≡ list (span.lo + i)) → HasWindow span bytes list
  has-window fit next long has x inside =
      let low = inside.0 in
      let high = inside.1 in
      let at : span.lo + (x - span.lo) ≡ x = omega (arith, low) in
      let here = old-here m fit span next x inside in
      subst (λ (y : ℕ). sector_of bytes (x - span.lo) ≡ list y) at
      (has (x - span.lo) (omega (arith, low, high, long)) (subst (λ (y : ℕ). IsShown None m.newest y) (sym at) (record { within = here.0; outside = refl })))

-- ---- what was lost

-- slots that failed have failed later too
pub since-later : (old new : Members) (roles spares : ℕ) (a b c : ℕ → ℕ) → NeverFalls a b → NeverFalls b c → AreLostSince old new roles spares a b → AreLostSince old new roles spares a c
since-later old new roles spares a b c first second since = record {
  vacant = since.vacant;
  gone = since.gone;
  held = λ role has. let h = since.held role has in (h.0, h.1, faulted_longer h.0 a a b c (omega arith) (second h.0) (first h.0) h.2);
  failed = λ slot has. faulted_longer slot a a b c (omega arith) (second slot) (first slot) (since.failed slot has);
  were = since.were;
  told = since.told;
}
