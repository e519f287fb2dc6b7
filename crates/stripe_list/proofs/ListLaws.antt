-- Sectors of the list, read from a slot or filled in, and what becomes of them in the rest of a call.
use Rattle.std.proofs.Common.{◌≡◌, ℕ, ◌+◌, ◌<◌, Bool, true, false, if◌then◌else◌, List, Option, Some, None, option_map, Result, Ok, Err, refl, sym, ap₂, ◌∙◌, subst}
use Rattle.std.specs.Prelude.{OnOk}
use Rattle.raid_layout.specs.raid_types_the_Shape.{Shape}
use Rattle.raid_layout.specs.raid_types_Sectors.{Sector}
use Rattle.raid_layout.specs.raid_types_Shapes.{is_valid_shape}
use Rattle.stripe_row.specs.bank_Given.{Given}
use Rattle.stripe_row.specs.bank_the_Operation.{Operation}
use Rattle.stripe_row.specs.bank_Tape.{Contents}
use Rattle.raid_layout.specs.Layout.{place}
use Rattle.raid_layout.proofs.Places.{place-role_below}
use Rattle.stripe_row.specs.sb_specs_the_Members.{Members}
use Rattle.stripe_row.specs.sb_specs_Reading.{Reading, role_state, holder, data_offset_of}
use Rattle.stripe_row.specs.Rows.{present, reading_of, is_held, held_sector, standing_sector, members_without, IsTolerated}
use Rattle.stripe_list.specs.declared.outcome.Unavailable.{Unavailable}
use Rattle.stripe_list.specs.declared.outcome.Unavailable.TheVariants.{TooManyMissing, NotResynced}
use Rattle.stripe_list.specs.Full.{DataStands, RowStands}
use Rattle.stripe_list.specs.Calls.{IsAnswer, IsListed}
use Rattle.stripe_list.proofs.FullLaws.{data_here, full-data, standing-is-full, data-kept, parity-kept}
use Rattle.stripe_list.proofs.LossLaws.{lacks_after}

-- ---- answers

-- what follows at an Ok
pub answered : {T A B Q : Type 0} (shape : Shape) (synced : Bool) (r : Reading) (asked : ℕ → Type 0) (answer : Result T Unavailable) → (IsTolerated r shape → A → B → Q)
    → IsAnswer shape synced r asked answer → OnOk answer A → OnOk answer B → OnOk answer Q
answered shape synced r asked (Ok done) f is a b = f is a b
answered shape synced r asked (Err TooManyMissing) f is a b = tt
answered shape synced r asked (Err (NotResynced role)) f is a b = tt

pub followed : {T A Q : Type 0} (shape : Shape) (synced : Bool) (r : Reading) (asked : ℕ → Type 0) (answer : Result T Unavailable) → (IsTolerated r shape → A → Q)
    → IsAnswer shape synced r asked answer → OnOk answer A → OnOk answer Q
followed shape synced r asked (Ok done) f is a = f is a
followed shape synced r asked (Err TooManyMissing) f is a = tt
followed shape synced r asked (Err (NotResynced role)) f is a = tt

pub at_ok : {T E : Type 0} {P : Type 0} (r : Result T E) {x : T} → r ≡ Ok x → OnOk r P → P
at_ok (Ok y) is held = held
at_ok (Err e) is held = absurd (cc)

pub tolerated_ok : {T : Type 0} (shape : Shape) (synced : Bool) (r : Reading) (asked : ℕ → Type 0) (answer : Result T Unavailable) {x : T} → answer ≡ Ok x
    → IsAnswer shape synced r asked answer → IsTolerated r shape
tolerated_ok shape synced r asked (Ok y) is answer = answer
tolerated_ok shape synced r asked (Err cause) is answer = absurd (cc)

-- more was asked for
pub asked_more : {T : Type 0} (shape : Shape) (synced : Bool) (r : Reading) (asked more : ℕ → Type 0) (answer : Result T Unavailable) → ((role : ℕ) → asked role → more role)
    → IsAnswer shape synced r asked answer → IsAnswer shape synced r more answer
asked_more shape synced r asked more (Ok done) f is = is
asked_more shape synced r asked more (Err TooManyMissing) f is = is
asked_more shape synced r asked more (Err (NotResynced role)) f is = (is.0, is.1, is.2, f role is.3)

-- ---- one sector

from_holder : (b : Bool) (h : Option ℕ) (f : ℕ → Sector) (v : Sector) → (if b then option_map f h else None) ≡ Some v → (slot : ℕ) × ((if b then h else None) ≡ Some slot) × (f slot ≡ v)
from_holder true (Some slot) f v is = (slot, refl, inner (f slot) v is)
  where
    inner : (a b : Sector) → ◌≡◌ {A = Option Sector} (Some a) (Some b) → a ≡ b
    inner a b e = cc
from_holder true None f v is = absurd (cc)
from_holder false h f v is = absurd (cc)

-- a sector that a slot holds
pub listed_held : (shape : Shape) (synced : Bool) (old new : Reading) (c : Contents) (x : ℕ) (v : Sector) → is_valid_shape shape ≡ true
    → held_sector c old (place shape x).role (place shape x).row ≡ Some v → IsListed shape synced old new c x v
listed_held shape synced old new c x v valid is list stands parity =
    let role = (place shape x).role in
    let row = (place shape x).row in
    let from = from_holder (is_held old role row) (holder (role_state old role)) (λ slot. c slot (data_offset_of old slot + row)) v is in
    sym from.2 ∙ stands role from.0 (place-role_below shape valid x) (data_here shape role row x valid refl) from.1 ∙ full-data shape list role row x valid refl

row_after : (m : Members) (lost : ℕ) (c : Contents) (shape : Shape) (list : ℕ → Sector) (row : ℕ) → RowStands (reading_of m) c shape list row → RowStands (reading_of (members_without lost m)) c shape list row
row_after m lost c shape list row stands = record {
  whole = stands.whole;
  sectors = data-kept m lost c shape list row stands.sectors;
  parity = parity-kept m lost c shape list row stands.parity;
}

pub row_by : (c : Contents) (shape : Shape) (list : ℕ → Sector) (row : ℕ) (old : Members) (lost : ℕ) (new : Members) → new ≡ members_without lost old
    → RowStands (reading_of old) c shape list row → RowStands (reading_of new) c shape list row
row_by c shape list row old lost new is stands = subst (λ (m : Members). RowStands (reading_of m) c shape list row) (sym is) (row_after old lost c shape list row stands)

pub data_by : (c : Contents) (shape : Shape) (list : ℕ → Sector) (row : ℕ) (old : Members) (lost : ℕ) (new : Members) → new ≡ members_without lost old
    → DataStands (reading_of old) c shape list row → DataStands (reading_of new) c shape list row
data_by c shape list row old lost new is stands = subst (λ (m : Members). DataStands (reading_of m) c shape list row) (sym is) (data-kept old lost c shape list row stands)

pub lacks_by : (role row : ℕ) (old : Members) (lost : ℕ) (new : Members) → new ≡ members_without lost old → is_held (reading_of old) role row ≡ false → is_held (reading_of new) role row ≡ false
lacks_by role row old lost new is lacks = subst (λ (m : Members). is_held (reading_of m) role row ≡ false) (sym is) (lacks_after old lost role row lacks)

-- a sector that was filled in
pub listed_filled : (shape : Shape) (synced : Bool) (old new : Members) (lost : ℕ) (c : Contents) (x : ℕ) (v : Sector) → is_valid_shape shape ≡ true → new ≡ members_without lost old
    → (place shape x).row < new.newest.size → synced ≡ true → is_held (reading_of new) (place shape x).role (place shape x).row ≡ false → IsTolerated (reading_of new) shape
    → v ≡ standing_sector c (reading_of new) shape (place shape x).row (place shape x).role → IsListed shape synced (reading_of old) (reading_of new) c x v
listed_filled shape synced old new lost c x v valid without below synced' lacks few is list stands parity =
    let role = (place shape x).role in
    let row = (place shape x).row in
    is ∙ standing-is-full (reading_of new) c shape list row valid below few (row_by c shape list row old lost new without (parity synced' lacks)) role (place-role_below shape valid x)
    ∙ full-data shape list role row x valid refl

-- ---- in the rest of a call

pub listed_later : (shape : Shape) (synced : Bool) (old : Reading) (c : Contents) (x : ℕ) (v : Sector) (mid : Members) (lost : ℕ) (new : Members) → new ≡ members_without lost mid
    → IsListed shape synced old (reading_of mid) c x v → IsListed shape synced old (reading_of new) c x v
listed_later shape synced old c x v mid lost new is was list stands parity =
    was list stands (λ synced' lacks. parity synced' (lacks_by (place shape x).role (place shape x).row mid lost new is lacks))

pub listed_since : (shape : Shape) (synced : Bool) (new : Reading) (c c' : Contents) (x : ℕ) (v : Sector) (old : Members) (lost : ℕ) (mid : Members) → mid ≡ members_without lost old → c' ≡ c
    → IsListed shape synced (reading_of mid) new c' x v → IsListed shape synced (reading_of old) new c x v
listed_since shape synced new c c' x v old lost mid is same was =
    at (subst (λ (e : Contents). IsListed shape synced (reading_of mid) new e x v) same was)
  where
    at : IsListed shape synced (reading_of mid) new c x v → IsListed shape synced (reading_of old) new c x v
    at was list stands parity =
        was list (data_by c shape list (place shape x).row old lost mid is stands) (λ synced' lacks. row_by c shape list (place shape x).row old lost mid is (parity synced' lacks))

pub present_same : {given given' : Given} {tape tape' : List Operation} → given' ≡ given → tape' ≡ tape → present given' tape' ≡ present given tape
present_same same is = ap₂ (λ (g : Given) (t : List Operation). present g t) same is
