-- An array that is safe is seen right, and it stays safe where slots are lost, where more is told, and where a stop may leave less.
use Rattle.std.proofs.Common.{◌≡◌, inl, inr, ℕ, ◌==◌, ◌||◌, Bool, true, false, cond, take, List, [], ◌∷◌, refl, sym, ◌∙◌, arith}
use Rattle.std.specs.Prelude.{⊤}
use Rattle.crash_views.specs.raid_types_Sectors.{Sector}
use Rattle.crash_views.specs.raid_types_Shapes.{has_slot}
use Rattle.crash_views.specs.bank_the_Operation.{Operation}
use Rattle.crash_views.specs.bank_the_Operation_TheVariants.{Write, Flush}
use Rattle.crash_views.specs.bank_Given.{Given}
use Rattle.crash_views.specs.bank_Tape.{Contents, IsIn, disk, run, AreFlushes}
use Rattle.crash_views.proofs.bank_Marks.{Along, each_mark-along}
use Rattle.crash_views.specs.sb_specs_the_Members.{Members}
use Rattle.crash_views.specs.sb_specs_Reading.{Scope, list_length}
use Rattle.crash_views.specs.stripe_row_Rows.{members_without}
use Rattle.crash_views.proofs.history_SameLaws.{read-same}
use Rattle.crash_views.specs.Views.{Disk, Ledger, IsSettled, IsViewRight, IsSeenRight}
use Rattle.crash_views.specs.Windows.{IsSomewhere, AreFewer}
use Rattle.crash_views.proofs.Stands.{window-inside}
use Rattle.crash_views.proofs.WindowLaws.{fewer-right, open-window}
use Rattle.crash_safety_laws.specs.Safety.{HasLiveSlot}
use Rattle.crash_safety_laws.specs.Steady.{AreViewsRight, HeldIsRead, IsSteady, IsSafeNow, SafeIsSeen, IsMoreTold, LosingStaysSafe, NumbersStaySafe, FlushesStaySafe}
use Rattle.crash_safety_laws.proofs.Carried.{carried-more, carried-fewer, carried-anew}
use Rattle.crash_safety_laws.proofs.ChangeViews.{known-read}
use Rattle.crash_safety_laws.proofs.Drawn.{disk-somewhere, filled, filled-drawn, filled-same}
use Rattle.crash_safety_laws.proofs.HeldKept.{held-fewer}
use Rattle.crash_safety_laws.proofs.Since.{since-more}
use Rattle.crash_safety_laws.proofs.Without.{in-both, live-before}

-- ---- what is seen

-- held superblocks are
pub held-read : HeldIsRead
held-read scope given members tape held c drawn =
    let some = disk-somewhere given tape in
    let d : Disk = disk given.start tape in
    let read = held.updated.reads (filled scope d some c drawn) (filled-drawn scope d some c drawn) in (
      read.found,
      sym (read-same scope (filled scope d some c drawn) c (filled-same scope d some c drawn)) ∙ read.is,
      known-read scope held.known members held.said members.lost (filled scope d some c drawn) read,
    )

pub steady-seen : (sound : Type 0) (scope : Scope) (given : Given) (told : Ledger) (m : Members) (tape : List Operation) → IsSteady sound scope given told m (disk given.start tape)
    → AreViewsRight sound scope given told (disk given.start tape)
steady-seen sound scope given told m tape steady c drawn =
    let read = held-read scope given steady.former tape steady.since.held c drawn in
    record { found = read.0; is = read.1; view = steady.former; same = read.2; right = steady.right }

pub safe-is-seen : (sound : Type 0) → SafeIsSeen sound
safe-is-seen sound scope given told members tape (inl steady) = steady-seen sound scope given told members tape steady
safe-is-seen sound scope given told members tape (inr spent) = spent.right

-- ---- more that is told

module _ (sound : Type 0) (given : Given) (told more : Ledger) (is : IsMoreTold told more) where
  unfoldable settled-told : (scope : Scope) (m : Members) (d : Disk) → list_length m.newest ≡ told.size → IsSettled scope m told.values d → IsSettled scope m more.values d
  settled-told scope m d sized settled = record {
    list = settled.list;
    allowed = λ x lt. is.values x (omega (arith, lt, sized)) (settled.list x) (settled.allowed x lt);
    rows = settled.rows;
    zeros = settled.zeros;
  }

  view-told : (scope : Scope) (m : Members) (d : Disk) → IsViewRight sound scope given told m d → IsViewRight sound scope given more m d
  view-told scope m d right = record {
    placed = right.placed;
    sized = right.sized ∙ is.size;
    reshaping = λ active. is.reshaping (right.reshaping active);
    gone = λ role lt missing. is.gone role (right.gone role lt missing);
    unclean = λ dirty. is.unclean (right.unclean dirty);
    held = λ header may x slot outside holds v there.
        let below = outside.within in
        let sized = right.sized in
        is.values x (omega (arith, below, sized)) v (right.held header may x slot outside holds v there);
    sections = λ header may span active x low high v there.
        let inside = window-inside m.newest right.placed.fit span (open-window scope m.newest header span active) in
        let sized = right.sized in
        is.values x (omega (arith, high, inside, sized)) v (right.sections header may span active x low high v there);
    settled = λ clean few premise. settled-told scope m d right.sized (right.settled clean few premise);
    headers = right.headers;
    tails = right.tails;
  }

  pub views-told : (scope : Scope) (d : Disk) → AreViewsRight sound scope given told d → AreViewsRight sound scope given more d
  views-told scope d views c drawn =
      let seen = views c drawn in
      record { found = seen.found; is = seen.is; view = seen.view; same = seen.same; right = view-told scope seen.view d seen.right }

-- ---- slots that are lost

-- no live slot is left, and so it is where more are lost
none-left : (m : Members) (lost : ℕ) → (HasLiveSlot m → ⊥) → HasLiveSlot (members_without lost m) → ⊥
none-left m lost none some = none (some.0, live-before m lost false some.0 some.1, first (has_slot m.lost some.0) (has_slot lost some.0) (sym (in-both m.lost lost some.0) ∙ some.2))
  where
    first : (a b : Bool) → (a || b) ≡ false → a ≡ false
    first false b e = refl
    first true b e = e

pub losing-stays-safe : (sound : Type 0) → LosingStaysSafe sound
losing-stays-safe sound scope given lost told more members d is (inl steady) = inl (record {
  former = steady.former;
  since = since-more scope steady.former members lost d steady.since;
  right = view-told sound given told more is scope steady.former d steady.right;
  numbers = carried-more scope told.carried more.carried steady.former.own d is.carried steady.numbers;
})
losing-stays-safe sound scope given lost told more members d is (inr spent) = inr (record {
  right = views-told sound given told more is scope d spent.right;
  none = none-left members lost spent.none;
})

-- ---- device numbers that are told anew

module _ (sound : Type 0) (scope : Scope) (given : Given) (told : Ledger) (carried : ℕ → ℕ → Bool) (d : Disk) where
  -- no view tells of them
  view-anew : (m : Members) → IsViewRight sound scope given told m d → IsViewRight sound scope given (record told { carried = carried }) m d
  view-anew m right = record {
    placed = right.placed;
    sized = right.sized;
    gone = right.gone;
    unclean = right.unclean;
    reshaping = right.reshaping;
    held = right.held;
    sections = right.sections;
    settled = right.settled;
    headers = right.headers;
    tails = right.tails;
  }

  pub seen-anew : (c : Contents) → IsSeenRight sound scope given told d c → IsSeenRight sound scope given (record told { carried = carried }) d c
  seen-anew c seen = record { found = seen.found; is = seen.is; view = seen.view; same = seen.same; right = view-anew seen.view seen.right }

pub numbers-stay-safe : (sound : Type 0) → NumbersStaySafe sound
numbers-stay-safe sound scope given told carried members d anew (inl steady) = inl (record {
  former = steady.former;
  since = steady.since;
  right = view-anew sound scope given told carried d steady.former steady.right;
  numbers = carried-anew scope told.carried carried steady.former members d steady.since anew steady.numbers;
})
numbers-stay-safe sound scope given told carried members d anew (inr spent) = inr (record {
  right = λ c drawn. seen-anew sound scope given told carried d c (spent.right c drawn);
  none = spent.none;
})

-- ---- where a stop may leave less

module _ (sound : Type 0) (scope : Scope) (given : Given) (told : Ledger) (d e : Disk) (fewer : AreFewer d e) where
  pub views-fewer : AreViewsRight sound scope given told d → AreViewsRight sound scope given told e
  views-fewer views c drawn =
      let seen = views c (record {
        eighth = λ slot looked. fewer slot 8 (c slot 8) (drawn.eighth slot looked);
        ninth = λ slot looked. fewer slot 9 (c slot 9) (drawn.ninth slot looked);
      }) in
      record { found = seen.found; is = seen.is; view = seen.view; same = seen.same; right = fewer-right sound scope given told seen.view d e fewer seen.right }

  safe-fewer : IsSomewhere d → (members : Members) → IsSafeNow sound scope given told members d → IsSafeNow sound scope given told members e
  safe-fewer some members (inl steady) = inl (record {
    former = steady.former;
    since = record {
      gone = steady.since.gone;
      since = steady.since.since;
      held = held-fewer scope d e some (record { eighth = λ s v looked may. fewer s 8 v may; ninth = λ s v looked may. fewer s 9 v may }) steady.former steady.since.held;
    };
    right = fewer-right sound scope given told steady.former d e fewer steady.right;
    numbers = carried-fewer scope told.carried steady.former.own d e (λ s v may. fewer s 8 v may) (λ s v may. fewer s 9 v may) steady.numbers;
  })
  safe-fewer some members (inr spent) = inr (record { right = views-fewer spent.right; none = spent.none })

-- ---- flushes

flush-fewer : (d : Disk) (t : ℕ) → AreFewer d (run d (Flush t ∷ []))
flush-fewer d t s k v may = first (t == s) (d s k) may
  where
    first : (b : Bool) (values : List Sector) → IsIn (cond b (take 1 values) values) v → IsIn values v
    first true [] is = is
    first true (w ∷ values) (inl here) = inl here
    first true (w ∷ values) (inr none) = absurd none
    first false values is = is

flush-somewhere : (d : Disk) (t : ℕ) → IsSomewhere d → IsSomewhere (run d (Flush t ∷ []))
flush-somewhere d t some s k = of (t == s) (d s k) (some s k)
  where
    of : (b : Bool) (values : List Sector) → (v : Sector) × IsIn values v → (v : Sector) × IsIn (cond b (take 1 values) values) v
    of true [] (v, none) = absurd none
    of true (w ∷ values) found = (w, inl refl)
    of false values found = found

flushes-along : (sound : Type 0) (scope : Scope) (given : Given) (told : Ledger) (members : Members) (d : Disk) (ops : List Operation) → IsSomewhere d → AreFlushes ops
    → IsSafeNow sound scope given told members d → Along (IsSafeNow sound scope given told members) d ops
flushes-along sound scope given told members d [] some only safe = safe
flushes-along sound scope given told members d (Write t at bytes ∷ ops) some only safe = absurd only
flushes-along sound scope given told members d (Flush t ∷ ops) some only safe = (
  safe,
  flushes-along sound scope given told members (run d (Flush t ∷ [])) ops (flush-somewhere d t some) only
      (safe-fewer sound scope given told d (run d (Flush t ∷ [])) (flush-fewer d t) some members safe),
)

pub flushes-stay-safe : (sound : Type 0) → FlushesStaySafe sound
flushes-stay-safe sound scope given told members tape ops only safe =
    each_mark-along ⊤ given.start tape ops (IsSafeNow sound scope given told members)
    (flushes-along sound scope given told members (disk given.start tape) ops (disk-somewhere given tape) only safe)
