-- The first refusal of a read or a write of the list, and what it tells.
use Rattle.std.proofs.Common.{◌≡◌, ◌⊎◌, ◌↔◌, inl, inr, ℕ, ◌+◌, ◌-◌, ◌<◌, ◌≤◌, Bool, true, false, nat_lt, if◌then◌else◌, Option, Some, None, option_map, is_some, refl, sym, ◌∙◌, ap, subst, arith}
use Rattle.std.specs.Prelude.{MatchOption, ⊤}
use Rattle.std.proofs.lemmas.Bool.{cases_lt}
use Rattle.std.proofs.lemmas.Bool.Decides.{nat_tests}
use Rattle.array_call_specs.proofs.raid_types_Least.{least_below-none}
use Rattle.array_call_specs.specs.raid_types_Shapes.{tolerance}
use Rattle.array_call_specs.specs.raid_types_the_Shape.{Shape}
use Rattle.reshape_progress.specs.raid_types_the_Span.{Span}
use Rattle.array_call_specs.specs.raid_types_the_Refusal.{Refusal}
use Rattle.array_call_specs.specs.raid_types_the_Refusal_TheVariants.{PastEnd, NotResynced as Unsynced}
use Rattle.reshape_progress.specs.reshape_geometry_Geometry.{IsIn}
use Rattle.reshape_progress.specs.raid_layout_Layout.{place}
use Rattle.reshape_progress.specs.sb_specs_the_Members.{Members}
use Rattle.reshape_progress.proofs.sb_specs_Searches.{least_below-first}
use Rattle.reshape_progress.specs.history_Stands.{covers, shape_for}
use Rattle.reshape_progress.specs.crash_views_Regions.{AreShapesFit, place_by}
use Rattle.reshape_progress.specs.array_members_Lacking.{lacking, too_many, DoesWithout, LacksTooMany, IsNotResynced}
use Rattle.stripe_region_resync.specs.sb_safe_updates_First.{call_refusal, write_refusal}
use Rattle.stripe_region_resync.proofs.sb_safe_updates_RefusingLaws.{told-few, write-none}
use Rattle.stripe_region_resync.specs.stripe_region_read_Stretches.{IsStretch, relied_rows, IsUnrelied, IsLacked, IsListUnread}
use Rattle.stripe_region_resync.specs.stripe_region_write_the_Run.{Run}
use Rattle.stripe_region_resync.specs.stripe_region_write_Runs.{IsRun, IsRelied, AreRuns, AreRunsUnwritten, IsListTorn, IsListUnwritten}
use Rattle.stripe_region_resync.proofs.stripe_region_write_RunLaws.{runs-unwritten}
use Rattle.array_call_specs.specs.Calls.{IsRefusalOf}
use Rattle.array_call_specs.proofs.ReplyLaws.{IsOfMissing, unread-of, unwritten-of, refused-for}
use Rattle.array_reshaping_state.specs.First.{is_lacking, list_refusal, IsUnreadAround}
use Rattle.array_reshaping_state.proofs.PartLaws.{IsAskedIn}

lacks-is : (a b : ℕ) → a < b → nat_lt a b ≡ true
lacks-is a b h = grind (arith, nat_tests)

few-is : (a b : ℕ) → b ≤ a → nat_lt a b ≡ false
few-is a b h = grind (arith, nat_tests)

-- ---- the call ends past what is visible, or not

pub past-is : (visible to : ℕ) (why : Option Refusal) → visible < to → Some (PastEnd visible) ≡ call_refusal visible to why
past-is visible to why past = sym (ap (λ (b : Bool). if b then Some (PastEnd visible) else why) (lacks-is visible to past))

pub within-is : (visible to : ℕ) (found why : Option Refusal) → to ≤ visible → found ≡ why → found ≡ call_refusal visible to why
within-is visible to found why within is = is ∙ sym (ap (λ (b : Bool). if b then Some (PastEnd visible) else why) (few-is visible to within))

-- where one of them is told it is the answer
pub past-first : (visible to : ℕ) (why : Option Refusal) → visible < to → MatchOption (call_refusal visible to why) ⊤ (λ refusal. Some (PastEnd visible) ≡ Some refusal)
past-first visible to why past = subst (λ (o : Option Refusal). MatchOption o ⊤ (λ refusal. Some (PastEnd visible) ≡ Some refusal)) (past-is visible to why past) refl

pub told-here : (visible to : ℕ) (found why : Option Refusal) → to ≤ visible → found ≡ why → MatchOption (call_refusal visible to why) ⊤ (λ refusal. found ≡ Some refusal)
told-here visible to found why within is = subst (λ (o : Option Refusal). MatchOption o ⊤ (λ refusal. found ≡ Some refusal)) (within-is visible to found why within is) (self found)
  where
    self : (o : Option Refusal) → MatchOption o ⊤ (λ refusal. o ≡ Some refusal)
    self None = tt
    self (Some refusal) = refl

-- and where none is, none of them is the answer
pub none-here : (P : Refusal → Type 0) (visible to : ℕ) (found why : Option Refusal) → to ≤ visible → found ≡ why → is_some found ≡ false → MatchOption (call_refusal visible to why) ⊤ P
none-here P visible to found why within is none = subst (λ (o : Option Refusal). MatchOption o ⊤ P) (within-is visible to found why within is) (by found none)
  where
    by : (o : Option Refusal) → is_some o ≡ false → MatchOption o ⊤ P
    by None none = tt
    by (Some refusal) none = absurd (cc)

-- ---- the first sector that lacks too many roles

module _ (m : Members) (first count : ℕ) where
  -- each sector before it lacks none
  abbrev pub AreFineTo : ℕ → Type 0
  AreFineTo end = (x : ℕ) → first ≤ x → x < end → DoesWithout (shape_for m.newest x) m

  fine-is : (x : ℕ) → DoesWithout (shape_for m.newest x) m → is_lacking m x ≡ false
  fine-is x few = few-is (tolerance (shape_for m.newest x)) (lacking (shape_for m.newest x) m) few

  pub none-first : AreFineTo (first + count) → None ≡ list_refusal first count m
  none-first fine = sym (ap (option_map (λ i. too_many (shape_for m.newest (first + i)) m))
      (least_below-none count (λ i. is_lacking m (first + i)) (λ j lt. fine-is (first + j) (fine (first + j) (omega arith) (omega (arith, lt))))))

  pub found-first : (at : ℕ) (shape : Shape) (found : Option Refusal) → first ≤ at → at < first + count → shape ≡ shape_for m.newest at → AreFineTo at → is_some found ≡ true
      → MatchOption found (DoesWithout shape m) (LacksTooMany shape m) → found ≡ list_refusal first count m
  found-first at shape None low high same fine told many = absurd (cc)
  found-first at shape (Some refusal) low high same fine told many =
      let there : first + (at - first) ≡ at = omega (arith, low) in
      let here : is_lacking m at ≡ true = subst (λ (s : Shape). nat_lt (tolerance s) (lacking s m) ≡ true) same (lacks-is (tolerance shape) (lacking shape m) many.above) in
      let pass : is_lacking m (first + (at - first)) ≡ true = subst (λ (x : ℕ). is_lacking m x ≡ true) (sym there) here in
      let least = least_below-first count (λ i. is_lacking m (first + i)) (at - first) (omega (arith, low, high)) pass
      (λ j lt. fine-is (first + j) (fine (first + j) (omega arith) (omega (arith, lt, low)))) in
      sym (ap (option_map (λ i. too_many (shape_for m.newest (first + i)) m)) least
      ∙ ap (λ (x : ℕ). Some (too_many (shape_for m.newest x) m)) there
      ∙ ap (λ (s : Shape). Some (too_many s m)) (sym same)
      ∙ ap (λ (r : Refusal). Some r) (sym many.told))

  pub found-torn : (A : Type 0) (at : ℕ) (shape : Shape) (found : Option Refusal) → first ≤ at → at < first + count → shape ≡ shape_for m.newest at → is_some found ≡ true
      → MatchOption found (DoesWithout shape m) (LacksTooMany shape m) → MatchOption found A (IsListTorn first (first + count) m)
  found-torn A at shape None low high same told many = absurd (cc)
  found-torn A at shape (Some refusal) low high same told many = (at, low, high, subst (λ (s : Shape). LacksTooMany s m refusal) same many)

-- none of a stretch does where its shape doesn't
pub fine-on : (m : Members) (shape : Shape) (at end : ℕ) (found : Option Refusal) → IsStretch m.newest shape at end → is_some found ≡ false → MatchOption found (DoesWithout shape m) (LacksTooMany shape m)
    → (x : ℕ) → at ≤ x → x < end → DoesWithout (shape_for m.newest x) m
fine-on m shape at end found one none told x low high = subst (λ (s : Shape). DoesWithout s m) (sym (one x low high)) (told-few shape m found none told)

-- ---- sectors outside a window

module _ (m : Members) (hidden : Option Span) (relied from to : ℕ) (part : Span) (are : (x : ℕ) → IsIn x part ↔ IsAskedIn hidden from to x) (begins : from ≤ part.lo) (ends : part.hi ≤ to) where
  -- one before its part, or behind it, is outside
  outside : (x : ℕ) → from ≤ x → x < to → (x < part.lo) ⊎ (part.hi ≤ x) → covers hidden x ≡ false
  outside x low high out = by (covers hidden x) refl
    where
      by : (b : Bool) → covers hidden x ≡ b → covers hidden x ≡ false
      by false here = here
      by true here = absurd (let at = (are x).1 (low, high, here) in let over = at.0 in let under = at.1 in elim out [ inl before ↦ omega (arith, before, over) | inr behind ↦ omega (arith, behind, under) ])

  -- so a refusal of one of these is one of the request
  around : (x : ℕ) (refusal : Refusal) → from ≤ x → x < to → (x < part.lo) ⊎ (part.hi ≤ x) → LacksTooMany (shape_for m.newest x) m refusal ⊎ ((refusal ≡ Unsynced (place_by m.newest x).role) × IsUnrelied relied m x)
      → IsUnreadAround hidden relied from to m refusal
  around x refusal low high out (inl many) = (x, low, high, inl many)
  around x refusal low high out (inr cause) = (x, low, high, inr (outside x low high out, cause.0, cause.1))

  pub before-around : (A B : Type 0) (found : Option Refusal) → part.lo ≤ to → is_some found ≡ true → MatchOption found A (IsListUnread relied from part.lo m) → MatchOption found B (IsUnreadAround hidden relied from to m)
  before-around A B None order some told = absurd (cc)
  before-around A B (Some refusal) order some told = let under = told.2 in around told.0 refusal told.1 (omega (arith, under, order)) (inl under) told.3

  -- and where neither side tells one, each sector outside can be had
  pub both-around : (first found : Option Refusal) → from ≤ part.hi → is_some first ≡ false → MatchOption first ((x : ℕ) → from ≤ x → x < part.lo → IsLacked relied m x → ⊥) (IsListUnread relied from part.lo m)
      → MatchOption found ((x : ℕ) → part.hi ≤ x → x < to → IsLacked relied m x → ⊥) (IsListUnread relied part.hi to m)
      → MatchOption found ((x : ℕ) → from ≤ x → x < to → covers hidden x ≡ false → IsLacked relied m x → ⊥) (IsUnreadAround hidden relied from to m)
  both-around (Some refusal) found order none one two = absurd (cc)
  both-around None (Some refusal) order none one told = let over = told.1 in around told.0 refusal (omega (arith, over, order)) told.2 (inr over) told.3
  both-around None None order none one two = λ x low high out lacked. elim (cases_lt x part.lo) [
    | inl before ↦ one x low before lacked
    | inr past ↦ elim (cases_lt x part.hi) [
      | inl inside ↦ absurd (let asked = (are x).0 (past, inside) in let both : false ≡ true = sym out ∙ asked.2 in cc)
      | inr behind ↦ two x behind high lacked
    ]
  ]

-- ---- what is told of the list is what refuses the call

module _ (visible relied first count : ℕ) (m : Members) (fit : AreShapesFit m.newest) (within : first + count ≤ visible) where
  never-torn : AreFineTo m first count (first + count) → (refusal : Refusal) → IsListTorn first (first + count) m refusal → ⊥
  never-torn fine refusal torn =
      let x = torn.0 in
      let many : LacksTooMany (shape_for m.newest x) m refusal = torn.3 in
      let few = fine x torn.1 torn.2 in
      let above = many.above in
      absurd (omega (arith, few, above))

  -- too many roles are missing
  pub torn-read : (A : Type 0) (hidden : Option Span) (found : Option Refusal) → is_some found ≡ true → MatchOption found A (IsListTorn first (first + count) m)
      → IsRefusalOf visible (first + count) (IsUnreadAround hidden relied first (first + count)) m found
  torn-read A hidden None some torn = absurd (cc)
  torn-read A hidden (Some refusal) some torn =
      refused-for visible (first + count) (IsUnreadAround hidden relied first (first + count)) m m refusal (unread-of (shape_for m.newest torn.0) 0 0 0 m refusal (inl torn.3)) within
      (torn.0, torn.1, torn.2, inl torn.3)

  pub torn-write : (A : Type 0) (window : Option Span) (found : Option Refusal) → is_some found ≡ true → MatchOption found A (IsListTorn first (first + count) m)
      → IsRefusalOf visible (first + count) (IsListUnwritten window relied first (first + count)) m found
  torn-write A window None some torn = absurd (cc)
  torn-write A window (Some refusal) some torn =
      refused-for visible (first + count) (IsListUnwritten window relied first (first + count)) m m refusal (unread-of (shape_for m.newest torn.0) 0 0 0 m refusal (inl torn.3)) within (inl torn)

  -- none of its shapes misses too many
  pub fine-all : (found : Option Refusal) → is_some found ≡ false → MatchOption found (AreFineTo m first count (first + count)) (IsListTorn first (first + count) m) → AreFineTo m first count (first + count)
  fine-all None none fine = fine
  fine-all (Some refusal) none torn = absurd (cc)

  around-missing : (hidden : Option Span) (refusal : Refusal) → IsUnreadAround hidden relied first (first + count) m refusal → IsOfMissing refusal
  around-missing hidden refusal why = elim why.3 [
    | inl many ↦ unread-of (shape_for m.newest why.0) 0 0 0 m refusal (inl many)
    | inr cause ↦ subst IsOfMissing (sym cause.1) (tt, λ p. p)
  ]

  pub read-judged : (hidden : Option Span) → AreFineTo m first count (first + count) → (found : Option Refusal)
      → MatchOption found ((x : ℕ) → first ≤ x → x < first + count → covers hidden x ≡ false → IsLacked relied m x → ⊥) (IsUnreadAround hidden relied first (first + count) m)
      → IsRefusalOf visible (first + count) (IsUnreadAround hidden relied first (first + count)) m found
  read-judged hidden fine None had = (
    within,
    λ refusal why. elim why.3 [
      | inl many ↦ never-torn fine refusal (why.0, why.1, why.2, many)
      | inr un ↦ had why.0 why.1 why.2 un.0 (inr un.2)
    ],
  )
  read-judged hidden fine (Some refusal) told =
      refused-for visible (first + count) (IsUnreadAround hidden relied first (first + count)) m m refusal (around-missing hidden refusal told) within told

  module _ (window : Option Span) (low high : Run) (are : AreRuns m.newest window relied first (first + count) low high) where
    -- a run that isn't refused misses no role with data behind the rows that are relied on
    run-had : (run : Run) → IsRun m.newest run → IsRelied m.newest window relied run → write_refusal run.shape run.synced m ≡ None → (x : ℕ) → run.first ≤ x → x < run.end → covers window x ≡ false
        → relied_rows m.newest relied (shape_for m.newest x) ≤ (place_by m.newest x).row → (refusal : Refusal) → IsNotResynced (shape_for m.newest x) false m refusal → ⊥
    run-had run is trusted none x from under out beyond refusal cause =
        let both = subst (λ (s : Shape). (relied_rows m.newest relied s ≤ (place s x).row) × IsNotResynced s false m refusal) (is.one x from under) (beyond, cause) in
        by run.synced refl both.0 both.1
      where
        by : (b : Bool) → run.synced ≡ b → relied_rows m.newest relied run.shape ≤ (place run.shape x).row → IsNotResynced run.shape false m refusal → ⊥
        by true synced past un = absurd (let row = trusted.rows synced x from under out in omega (arith, row, past))
        by false unsynced past un =
            let whole = (write-none run.shape run.synced m none).1 unsynced in
            absurd (let both : true ≡ false = sym (whole un.0 un.4.0 un.3) ∙ un.4.1 in cc)

    pub write-judged : AreFineTo m first count (first + count) → (found : Option Refusal)
        → MatchOption found ((write_refusal low.shape low.synced m ≡ None) × (write_refusal high.shape high.synced m ≡ None)) (AreRunsUnwritten low high m)
        → IsRefusalOf visible (first + count) (IsListUnwritten window relied first (first + count)) m found
    write-judged fine None none = (
      within,
      λ refusal why. elim why [
        | inl torn ↦ never-torn fine refusal torn
        | inr un ↦
            let there = un.1 in
            let from = there.1 in
            let under = there.2 in
            elim (cases_lt there.0 low.end) [
              | inl near ↦ run-had low are.low are.low_relied none.0 there.0 (let begins = are.begins in omega (arith, begins, from)) near there.3 there.4 refusal there.5
              | inr far ↦ run-had high are.high are.high_relied none.1 there.0 (let meet = are.meet in omega (arith, meet, far)) (let ends = are.ends in omega (arith, ends, under)) there.3 there.4 refusal there.5
            ]
      ],
    )
    write-judged fine (Some refusal) told =
        let why = runs-unwritten m window relied first (first + count) low high are refusal told in
        refused-for visible (first + count) (IsListUnwritten window relied first (first + count)) m m refusal (unwritten-missing refusal why) within why
      where
        unwritten-missing : (refusal : Refusal) → IsListUnwritten window relied first (first + count) m refusal → IsOfMissing refusal
        unwritten-missing refusal (inl torn) = unwritten-of (shape_for m.newest torn.0) false m refusal (inl torn.3)
        unwritten-missing refusal (inr (each, there)) = unwritten-of (shape_for m.newest there.0) false m refusal (inr there.5)
