-- The refusal that is found is the first that is true, and the only one.
use Rattle.std.proofs.Common.{◌≡◌, ℕ, ◌+◌, ◌<◌, ◌≤◌, ◌==◌, Bool, true, false, nat_lt, if◌then◌else◌, length, Option, Some, None, unwrap_or, option_map, is_some, refl, sym, ap, subst, ◌∙◌, inl, inr, arith, lit≤}
use Rattle.std.specs.Prelude.{MatchOption, ◌↔◌, ⊤}
use Rattle.std.specs.Option.{option_or}
use Rattle.std.proofs.lemmas.Bool.{cases_lt}
use Rattle.std.proofs.lemmas.Bool.Decides.{nat_tests}
use Rattle.history.specs.raid_types_the_Wish.{Wish}
use Rattle.history.specs.raid_types_the_ShapeField.{ShapeField}
use Rattle.history.specs.raid_types_the_Refusal.{Refusal}
use Rattle.history.specs.raid_types_the_Refusal_TheVariants.{Busy, Degraded, SameShape, BadShape, SizeNotMultiple, NeedSpares, NeedBackup, BackupTooSmall, ArraySizeFirst, Nothing}
use Rattle.history.specs.raid_types_the_BusyKind.{BusyKind}
use Rattle.history.specs.raid_types_the_BusyKind_TheVariants.{Reshape, Resync, Rebuild, Plan}
use Rattle.stripe_row.specs.sb_specs_Reading.{is_reshaping, shape_of}
use Rattle.stripe_row.specs.Rows.{reading_of}
use Rattle.history.specs.reshape_plan_Plans.{is_same, bad_shape, target}
use Rattle.history.specs.raid_types_Shapes.{is_multiple}
use Rattle.history.specs.Fits.{is_rebuildable}
use Rattle.reshape_request.specs.Asked.{Asked, lowest_missing, refusal_for, roles_for, window_for, least_for, IsUngrowable, order, IsFirst, busy_kind, backup_refusal, lacking_refusal, grow_refusal}

clash : (b : Bool) → b ≡ false → b ≡ true → ⊥
clash b off on = absurd (cc)

not-below : (a b : ℕ) → nat_lt a b ≡ false → b ≤ a
not-below a b e = grind (arith, nat_tests)

is-below : (a b : ℕ) → nat_lt a b ≡ true → a < b
is-below a b e = grind (arith, nat_tests)

below-is : (a b : ℕ) → a < b → nat_lt a b ≡ true
below-is a b h = grind (arith, nat_tests)

some-same : {A : Type 0} (x y : A) → Some x ≡ Some y → x ≡ y
some-same x y e = cc

none-some : {A : Type 0} (o : Option A) (x : A) → o ≡ None → o ≡ Some x → ⊥
none-some o x none some = absurd (cc)

-- ---- what isn't so before the place k

pub record AreNot (a : Asked) (wish : Wish) (k : ℕ) : Type 0 where
  pub reshape : 0 < k → is_reshaping a.members.newest ≡ false
  pub resync : 1 < k → is_some a.resync ≡ false
  pub rebuild : 2 < k → is_rebuildable (reading_of a.members) ≡ false
  pub plan : 3 < k → nat_lt 0 a.phases ≡ false
  pub whole : 4 < k → lowest_missing a.members ≡ None
  pub planned : (r : Refusal) → order r < k → refusal_for a wish ≡ Some r → ⊥
  pub spares : 8 < k → nat_lt (length a.members.spares) (roles_for a wish) ≡ false
  pub backed : (r : Refusal) → order r < k → backup_refusal a.backup (window_for a wish) ≡ Some r → ⊥
  pub sized : 11 < k → nat_lt (least_for a wish) a.visible ≡ false

wants-backup : (o : Option ℕ) (window : ℕ) → o ≡ None → 0 < window → backup_refusal o window ≡ Some NeedBackup
wants-backup (Some have) window e h = absurd (cc)
wants-backup None window e h = ap (λ (b : Bool). if b then Some NeedBackup else None) (below-is 0 window h)

wants-room : (o : Option ℕ) (window have want : ℕ) → o ≡ Some have → want ≡ 8 + window → have < want → backup_refusal o window ≡ Some (BackupTooSmall have want)
wants-room None window have want e w h = absurd (cc)
wants-room (Some n) window have want e w h =
    let same : n ≡ have = some-same n have e in
    ap (λ (b : Bool). if b then Some (BackupTooSmall n (8 + window)) else None) (below-is n (8 + window) (omega (arith, same, w, h)))
    ∙ ap (λ (m : ℕ). Some (BackupTooSmall m (8 + window))) same ∙ ap (λ (m : ℕ). Some (BackupTooSmall have m)) (sym w)

pub none-before : (a : Asked) (wish : Wish) (k : ℕ) (r : Refusal) → AreNot a wish k → order r < k → IsUngrowable a wish r → ⊥
none-before a wish k (Busy Reshape) n lt is = clash _ (n.reshape lt) is
none-before a wish k (Busy Resync) n lt is = clash _ (n.resync lt) is
none-before a wish k (Busy Rebuild) n lt is = clash _ (n.rebuild lt) is
none-before a wish k (Busy Plan) n lt is = let few = not-below 0 a.phases (n.plan lt) in absurd (omega (arith, few, is))
none-before a wish k (Degraded role) n lt is = none-some (lowest_missing a.members) role (n.whole lt) is
none-before a wish k SameShape n lt is = n.planned SameShape lt is
none-before a wish k (BadShape field) n lt is = n.planned (BadShape field) lt is
none-before a wish k (SizeNotMultiple size chunk) n lt is = n.planned (SizeNotMultiple size chunk) lt is
none-before a wish k (NeedSpares have want) n lt is =
    let few = not-below (length a.members.spares) (roles_for a wish) (n.spares lt) in absurd (omega (arith, few, is.0, is.1, is.2))
none-before a wish k NeedBackup n lt is = n.backed NeedBackup lt (wants-backup a.backup (window_for a wish) is.0 is.1)
none-before a wish k (BackupTooSmall have want) n lt is = n.backed (BackupTooSmall have want) lt (wants-room a.backup (window_for a wish) have want is.0 is.1 is.2)
none-before a wish k (ArraySizeFirst visible least) n lt is =
    let few = not-below (least_for a wish) a.visible (n.sized lt) in absurd (omega (arith, few, is.0, is.1, is.2))
none-before a wish k r n lt is = absurd is

first-at : (a : Asked) (wish : Wish) (r : Refusal) → AreNot a wish (order r) → IsUngrowable a wish r → IsFirst a wish r
first-at a wish r n is = record { holds = is; first = λ other lt it. none-before a wish (order r) other n lt it }

late : {A : Type 0} (n k : ℕ) → k ≤ n → n < k → A
late n k le lt = absurd (omega (arith, le, lt))

-- ---- the refusals of a plan, and of its backup

abbrev IsOfPlan : Refusal → Type 0
IsOfPlan SameShape = ⊤
IsOfPlan (BadShape field) = ⊤
IsOfPlan (SizeNotMultiple size chunk) = ⊤
IsOfPlan r = ⊥

of-plan : (same : Bool) (bad : Option ShapeField) (fits : Bool) (size chunk : ℕ) (r : Refusal)
    → (if same then Some SameShape else option_or (option_map (λ field. BadShape field) bad) (if fits then None else Some (SizeNotMultiple size chunk))) ≡ Some r → IsOfPlan r
of-plan true bad fits size chunk r e = subst IsOfPlan (some-same _ _ e) tt
of-plan false (Some field) fits size chunk r e = subst IsOfPlan (some-same _ _ e) tt
of-plan false None true size chunk r e = absurd (cc)
of-plan false None false size chunk r e = subst IsOfPlan (some-same _ _ e) tt

is-of-plan : (a : Asked) (wish : Wish) (r : Refusal) → refusal_for a wish ≡ Some r → IsOfPlan r
is-of-plan a wish r e =
    let now = shape_of a.members.newest in
    of-plan (is_same now wish) (bad_shape now wish) (is_multiple a.members.newest.size (target now wish).chunk) a.members.newest.size (target now wish).chunk r e

plan-order : (r : Refusal) → IsOfPlan r → (5 ≤ order r) × (order r ≤ 7)
plan-order SameShape is = (omega arith, omega arith)
plan-order (BadShape field) is = (omega arith, omega arith)
plan-order (SizeNotMultiple size chunk) is = (omega arith, omega arith)
plan-order r is = absurd is

plan-holds : (a : Asked) (wish : Wish) (r : Refusal) → IsOfPlan r → refusal_for a wish ≡ Some r → IsUngrowable a wish r
plan-holds a wish SameShape is e = e
plan-holds a wish (BadShape field) is e = e
plan-holds a wish (SizeNotMultiple size chunk) is e = e
plan-holds a wish r is e = absurd is

-- the refusal for a backup is one of two, and true
record IsOfBackup (a : Asked) (wish : Wish) (r : Refusal) : Type 0 where
  holds : IsUngrowable a wish r
  low : 9 ≤ order r
  high : order r ≤ 10

of-backup : (a : Asked) (wish : Wish) (o : Option ℕ) (r : Refusal) → a.backup ≡ o → backup_refusal o (window_for a wish) ≡ Some r → IsOfBackup a wish r
of-backup a wish None r is e = wanting (nat_lt 0 (window_for a wish)) refl e
  where
    wanting : (b : Bool) → nat_lt 0 (window_for a wish) ≡ b → (if b then Some NeedBackup else None) ≡ Some r → IsOfBackup a wish r
    wanting true t e = subst (IsOfBackup a wish) (some-same _ _ e) (record { holds = (is, is-below 0 (window_for a wish) t); low = omega arith; high = omega arith })
    wanting false t e = absurd (cc)
of-backup a wish (Some have) r is e = wanting (nat_lt have (8 + window_for a wish)) refl e
  where
    wanting : (b : Bool) → nat_lt have (8 + window_for a wish) ≡ b → (if b then Some (BackupTooSmall have (8 + window_for a wish)) else None) ≡ Some r → IsOfBackup a wish r
    wanting true t e = subst (IsOfBackup a wish) (some-same _ _ e) (record { holds = (is, refl, is-below have (8 + window_for a wish) t); low = omega arith; high = omega arith })
    wanting false t e = absurd (cc)

-- ---- what is pending

abbrev IsFirstKind : Bool → Bool → Bool → Bool → BusyKind → Type 0
IsFirstKind a b c d Reshape = a ≡ true
IsFirstKind a b c d Resync = (a ≡ false) × (b ≡ true)
IsFirstKind a b c d Rebuild = (a ≡ false) × (b ≡ false) × (c ≡ true)
IsFirstKind a b c d Plan = (a ≡ false) × (b ≡ false) × (c ≡ false) × (d ≡ true)

kind-of : (a b c d : Bool) (kind : BusyKind) → (if a then Some Reshape else if b then Some Resync else if c then Some Rebuild else if d then Some Plan else None) ≡ Some kind → IsFirstKind a b c d kind
kind-of true b c d kind e = subst (IsFirstKind true b c d) (some-same _ _ e) refl
kind-of false true c d kind e = subst (IsFirstKind false true c d) (some-same _ _ e) (refl, refl)
kind-of false false true d kind e = subst (IsFirstKind false false true d) (some-same _ _ e) (refl, refl, refl)
kind-of false false false true kind e = subst (IsFirstKind false false false true) (some-same _ _ e) (refl, refl, refl, refl)
kind-of false false false false kind e = absurd (cc)

no-kind : (a b c d : Bool) → (if a then Some Reshape else if b then Some Resync else if c then Some Rebuild else if d then Some Plan else None) ≡ None → (a ≡ false) × (b ≡ false) × (c ≡ false) × (d ≡ false)
no-kind true b c d e = absurd (cc)
no-kind false true c d e = absurd (cc)
no-kind false false true d e = absurd (cc)
no-kind false false false true e = absurd (cc)
no-kind false false false false e = (refl, refl, refl, refl)

-- ---- one after another

abbrev Judged : Asked → Wish → Option Refusal → Type 0
Judged a wish o = MatchOption o ((r : Refusal) → IsUngrowable a wish r → ⊥) (IsFirst a wish)

-- no refusal of a plan or of its backup comes before the place 5
early-plan : (a : Asked) (wish : Wish) (k : ℕ) → k ≤ 5 → (r : Refusal) → order r < k → refusal_for a wish ≡ Some r → ⊥
early-plan a wish k le r lt e = let o = plan-order r (is-of-plan a wish r e) in absurd (omega (arith, le, lt, o.0))

early-backup : (a : Asked) (wish : Wish) (k : ℕ) → k ≤ 9 → (r : Refusal) → order r < k → backup_refusal a.backup (window_for a wish) ≡ Some r → ⊥
early-backup a wish k le r lt e = let o = of-backup a wish a.backup r refl e in absurd (omega (arith, le, lt, o.low))

busy-first : (a : Asked) (wish : Wish) (kind : BusyKind) → busy_kind a ≡ Some kind → IsFirst a wish (Busy kind)
busy-first a wish kind e = of kind (kind-of (is_reshaping a.members.newest) (is_some a.resync) (is_rebuildable (reading_of a.members)) (nat_lt 0 a.phases) kind e)
  where
    of : (kind : BusyKind) → IsFirstKind (is_reshaping a.members.newest) (is_some a.resync) (is_rebuildable (reading_of a.members)) (nat_lt 0 a.phases) kind → IsFirst a wish (Busy kind)
    of Reshape is = first-at a wish (Busy Reshape) (record {
      reshape = late 0 0 (lit≤ tt);
      resync = late 1 0 (lit≤ tt);
      rebuild = late 2 0 (lit≤ tt);
      plan = late 3 0 (lit≤ tt);
      whole = late 4 0 (lit≤ tt);
      planned = early-plan a wish 0 (lit≤ tt);
      spares = late 8 0 (lit≤ tt);
      backed = early-backup a wish 0 (lit≤ tt);
      sized = late 11 0 (lit≤ tt);
    }) is
    of Resync is = first-at a wish (Busy Resync) (record {
      reshape = λ lt. is.0;
      resync = late 1 1 (lit≤ tt);
      rebuild = late 2 1 (lit≤ tt);
      plan = late 3 1 (lit≤ tt);
      whole = late 4 1 (lit≤ tt);
      planned = early-plan a wish 1 (lit≤ tt);
      spares = late 8 1 (lit≤ tt);
      backed = early-backup a wish 1 (lit≤ tt);
      sized = late 11 1 (lit≤ tt);
    }) is.1
    of Rebuild is = first-at a wish (Busy Rebuild) (record {
      reshape = λ lt. is.0;
      resync = λ lt. is.1;
      rebuild = late 2 2 (lit≤ tt);
      plan = late 3 2 (lit≤ tt);
      whole = late 4 2 (lit≤ tt);
      planned = early-plan a wish 2 (lit≤ tt);
      spares = late 8 2 (lit≤ tt);
      backed = early-backup a wish 2 (lit≤ tt);
      sized = late 11 2 (lit≤ tt);
    }) is.2
    of Plan is = first-at a wish (Busy Plan) (record {
      reshape = λ lt. is.0;
      resync = λ lt. is.1;
      rebuild = λ lt. is.2;
      plan = late 3 3 (lit≤ tt);
      whole = late 4 3 (lit≤ tt);
      planned = early-plan a wish 3 (lit≤ tt);
      spares = late 8 3 (lit≤ tt);
      backed = early-backup a wish 3 (lit≤ tt);
      sized = late 11 3 (lit≤ tt);
    }) (is-below 0 a.phases is.3)

-- nothing is pending
record IsIdle (a : Asked) : Type 0 where
  reshape : is_reshaping a.members.newest ≡ false
  resync : is_some a.resync ≡ false
  rebuild : is_rebuildable (reading_of a.members) ≡ false
  plan : nat_lt 0 a.phases ≡ false

idle : (a : Asked) → busy_kind a ≡ None → IsIdle a
idle a e =
    let all = no-kind (is_reshaping a.members.newest) (is_some a.resync) (is_rebuildable (reading_of a.members)) (nat_lt 0 a.phases) e in
    record { reshape = all.0; resync = all.1; rebuild = all.2; plan = all.3 }

missing-first : (a : Asked) (wish : Wish) (role : ℕ) → IsIdle a → lowest_missing a.members ≡ Some role → IsFirst a wish (Degraded role)
missing-first a wish role i e = first-at a wish (Degraded role) (record {
  reshape = λ lt. i.reshape;
  resync = λ lt. i.resync;
  rebuild = λ lt. i.rebuild;
  plan = λ lt. i.plan;
  whole = late 4 4 (lit≤ tt);
  planned = early-plan a wish 4 (lit≤ tt);
  spares = late 8 4 (lit≤ tt);
  backed = early-backup a wish 4 (lit≤ tt);
  sized = late 11 4 (lit≤ tt);
}) e

plan-first : (a : Asked) (wish : Wish) (r : Refusal) → IsIdle a → lowest_missing a.members ≡ None → refusal_for a wish ≡ Some r → IsFirst a wish r
plan-first a wish r i w e =
    let kind = is-of-plan a wish r e in
    let place = plan-order r kind in
    first-at a wish r (record {
      reshape = λ lt. i.reshape;
      resync = λ lt. i.resync;
      rebuild = λ lt. i.rebuild;
      plan = λ lt. i.plan;
      whole = λ lt. w;
      planned = λ s lt f. (let same : s ≡ r = some-same s r (sym f ∙ e) in let at = ap order same in absurd (omega (arith, lt, at)));
      spares = λ lt. absurd (omega (arith, lt, place.1));
      backed = early-backup a wish (order r) (omega (arith, place.1));
      sized = λ lt. absurd (omega (arith, lt, place.1));
    }) (plan-holds a wish r kind e)

-- every role is whole, and the plan stands
record IsPlannable (a : Asked) (wish : Wish) : Type 0 where
  still : IsIdle a
  whole : lowest_missing a.members ≡ None
  planned : refusal_for a wish ≡ None

spares-first : (a : Asked) (wish : Wish) → IsPlannable a wish → nat_lt (length a.members.spares) (roles_for a wish) ≡ true → IsFirst a wish (NeedSpares (length a.members.spares) (roles_for a wish))
spares-first a wish p e = first-at a wish (NeedSpares (length a.members.spares) (roles_for a wish)) (record {
  reshape = λ lt. p.still.reshape;
  resync = λ lt. p.still.resync;
  rebuild = λ lt. p.still.rebuild;
  plan = λ lt. p.still.plan;
  whole = λ lt. p.whole;
  planned = λ r lt f. none-some _ r p.planned f;
  spares = late 8 8 (lit≤ tt);
  backed = early-backup a wish 8 (lit≤ tt);
  sized = late 11 8 (lit≤ tt);
})
    (refl, refl, is-below _ _ e)

backup-first : (a : Asked) (wish : Wish) (r : Refusal) → IsPlannable a wish → nat_lt (length a.members.spares) (roles_for a wish) ≡ false → backup_refusal a.backup (window_for a wish) ≡ Some r → IsFirst a wish r
backup-first a wish r p s e =
    let of = of-backup a wish a.backup r refl e in
    first-at a wish r (record {
      reshape = λ lt. p.still.reshape;
      resync = λ lt. p.still.resync;
      rebuild = λ lt. p.still.rebuild;
      plan = λ lt. p.still.plan;
      whole = λ lt. p.whole;
      planned = λ q lt f. none-some _ q p.planned f;
      spares = λ lt. s;
      backed = λ q lt f. (let same : q ≡ r = some-same q r (sym f ∙ e) in let at = ap order same in absurd (omega (arith, lt, at)));
      sized = λ lt. absurd (omega (arith, lt, of.high));
    }) of.holds

size-first : (a : Asked) (wish : Wish) → IsPlannable a wish → nat_lt (length a.members.spares) (roles_for a wish) ≡ false → backup_refusal a.backup (window_for a wish) ≡ None
    → nat_lt (least_for a wish) a.visible ≡ true → IsFirst a wish (ArraySizeFirst a.visible (least_for a wish))
size-first a wish p s b e = first-at a wish (ArraySizeFirst a.visible (least_for a wish)) (record {
  reshape = λ lt. p.still.reshape;
  resync = λ lt. p.still.resync;
  rebuild = λ lt. p.still.rebuild;
  plan = λ lt. p.still.plan;
  whole = λ lt. p.whole;
  planned = λ r lt f. none-some _ r p.planned f;
  spares = λ lt. s;
  backed = λ r lt f. none-some _ r b f;
  sized = late 11 11 (lit≤ tt);
})
    (refl, refl, is-below _ _ e)

-- at the place 12 nothing is so
none-at-all : (a : Asked) (wish : Wish) → AreNot a wish 12 → (r : Refusal) → IsUngrowable a wish r → ⊥
none-at-all a wish n r is =
    elim (cases_lt (order r) 12) [
      | inl lt ↦ none-before a wish 12 r n lt is
      | inr past ↦ beyond r past is
    ]
  where
    beyond : (r : Refusal) → 12 ≤ order r → IsUngrowable a wish r → ⊥
    beyond (Busy Reshape) past is = absurd (omega (arith, past))
    beyond (Busy Resync) past is = absurd (omega (arith, past))
    beyond (Busy Rebuild) past is = absurd (omega (arith, past))
    beyond (Busy Plan) past is = absurd (omega (arith, past))
    beyond (Degraded role) past is = absurd (omega (arith, past))
    beyond SameShape past is = absurd (omega (arith, past))
    beyond (BadShape field) past is = absurd (omega (arith, past))
    beyond (SizeNotMultiple size chunk) past is = absurd (omega (arith, past))
    beyond (NeedSpares have want) past is = absurd (omega (arith, past))
    beyond NeedBackup past is = absurd (omega (arith, past))
    beyond (BackupTooSmall have want) past is = absurd (omega (arith, past))
    beyond (ArraySizeFirst visible least) past is = absurd (omega (arith, past))
    beyond r past is = absurd is

none-of-all : (a : Asked) (wish : Wish) → IsPlannable a wish → nat_lt (length a.members.spares) (roles_for a wish) ≡ false → backup_refusal a.backup (window_for a wish) ≡ None
    → nat_lt (least_for a wish) a.visible ≡ false → (r : Refusal) → IsUngrowable a wish r → ⊥
none-of-all a wish p s b e = none-at-all a wish (record {
  reshape = λ lt. p.still.reshape;
  resync = λ lt. p.still.resync;
  rebuild = λ lt. p.still.rebuild;
  plan = λ lt. p.still.plan;
  whole = λ lt. p.whole;
  planned = λ r lt f. none-some _ r p.planned f;
  spares = λ lt. s;
  backed = λ r lt f. none-some _ r b f;
  sized = λ lt. e;
})

by-size : (a : Asked) (wish : Wish) → IsPlannable a wish → nat_lt (length a.members.spares) (roles_for a wish) ≡ false → backup_refusal a.backup (window_for a wish) ≡ None
    → (t : Bool) → nat_lt (least_for a wish) a.visible ≡ t → Judged a wish (option_or (if t then Some (ArraySizeFirst a.visible (least_for a wish)) else None) None)
by-size a wish p s b true e = size-first a wish p s b e
by-size a wish p s b false e = none-of-all a wish p s b e

by-backup : (a : Asked) (wish : Wish) → IsPlannable a wish → nat_lt (length a.members.spares) (roles_for a wish) ≡ false
    → (o : Option Refusal) → backup_refusal a.backup (window_for a wish) ≡ o
    → Judged a wish (option_or o (option_or (if nat_lt (least_for a wish) a.visible then Some (ArraySizeFirst a.visible (least_for a wish)) else None) None))
by-backup a wish p s (Some r) e = backup-first a wish r p s e
by-backup a wish p s None e = by-size a wish p s e (nat_lt (least_for a wish) a.visible) refl

by-spares : (a : Asked) (wish : Wish) → IsPlannable a wish → (t : Bool) → nat_lt (length a.members.spares) (roles_for a wish) ≡ t
    → Judged a wish (option_or (if t then Some (NeedSpares (length a.members.spares) (roles_for a wish)) else None) (option_or (backup_refusal a.backup (window_for a wish))
    (option_or (if nat_lt (least_for a wish) a.visible then Some (ArraySizeFirst a.visible (least_for a wish)) else None) None)))
by-spares a wish p true e = spares-first a wish p e
by-spares a wish p false e = by-backup a wish p e (backup_refusal a.backup (window_for a wish)) refl

or-none : (o : Option Refusal) → option_or o None ≡ o
or-none None = refl
or-none (Some r) = refl

by-plan : (a : Asked) (wish : Wish) → IsIdle a → lowest_missing a.members ≡ None → (o : Option Refusal) → refusal_for a wish ≡ o
    → Judged a wish (option_or o (option_or (lacking_refusal (length a.members.spares) a.visible a.backup (roles_for a wish) (window_for a wish) (least_for a wish)) None))
by-plan a wish i w (Some r) e = plan-first a wish r i w e
by-plan a wish i w None e =
    subst (Judged a wish) (sym (or-none (lacking_refusal (length a.members.spares) a.visible a.backup (roles_for a wish) (window_for a wish) (least_for a wish))))
    (by-spares a wish (record { still = i; whole = w; planned = e }) (nat_lt (length a.members.spares) (roles_for a wish)) refl)

by-missing : (a : Asked) (wish : Wish) → IsIdle a → (o : Option ℕ) → lowest_missing a.members ≡ o
    → Judged a wish (option_or (option_map (λ role. Degraded role) o) (option_or (refusal_for a wish)
    (option_or (lacking_refusal (length a.members.spares) a.visible a.backup (roles_for a wish) (window_for a wish) (least_for a wish)) None)))
by-missing a wish i (Some role) e = missing-first a wish role i e
by-missing a wish i None e = by-plan a wish i e (refusal_for a wish) refl

by-kind : (a : Asked) (wish : Wish) → (o : Option BusyKind) → busy_kind a ≡ o
    → Judged a wish (option_or (option_map (λ kind. Busy kind) o) (option_or (option_map (λ role. Degraded role) (lowest_missing a.members)) (option_or (refusal_for a wish)
    (option_or (lacking_refusal (length a.members.spares) a.visible a.backup (roles_for a wish) (window_for a wish) (least_for a wish)) None))))
by-kind a wish (Some kind) e = busy-first a wish kind e
by-kind a wish None e = by-missing a wish (idle a e) (lowest_missing a.members) refl

pub judged : (a : Asked) (wish : Wish) → MatchOption (grow_refusal a wish) ((r : Refusal) → IsUngrowable a wish r → ⊥) (IsFirst a wish)
judged a wish = by-kind a wish (busy_kind a) refl

-- ---- only one is first

-- the refusal of each place
abbrev told : Asked → Wish → ℕ → Refusal
told a wish k =
    if k == 0 then Busy Reshape
    else if k == 1 then Busy Resync
    else if k == 2 then Busy Rebuild
    else if k == 3 then Busy Plan
    else if k == 4 then Degraded (unwrap_or (lowest_missing a.members) 0)
    else if k == 8 then NeedSpares (length a.members.spares) (roles_for a wish)
    else if k == 9 then NeedBackup
    else if k == 10 then BackupTooSmall (unwrap_or a.backup 0) (8 + window_for a wish)
    else if k == 11 then ArraySizeFirst a.visible (least_for a wish)
    else unwrap_or (refusal_for a wish) Nothing

unwrapped : {A : Type 0} (o : Option A) (x d : A) → o ≡ Some x → unwrap_or o d ≡ x
unwrapped {A = A} o x d e = ap (λ (p : Option A). unwrap_or p d) e

same-spares : (a b c d : ℕ) → a ≡ c → b ≡ d → NeedSpares c d ≡ NeedSpares a b
same-spares a b c d e f = cc

same-room : (a b c d : ℕ) → a ≡ c → b ≡ d → BackupTooSmall c d ≡ BackupTooSmall a b
same-room a b c d e f = cc

same-size : (a b c d : ℕ) → a ≡ c → b ≡ d → ArraySizeFirst c d ≡ ArraySizeFirst a b
same-size a b c d e f = cc

told-is : (a : Asked) (wish : Wish) (r : Refusal) → IsUngrowable a wish r → told a wish (order r) ≡ r
told-is a wish (Busy Reshape) is = refl
told-is a wish (Busy Resync) is = refl
told-is a wish (Busy Rebuild) is = refl
told-is a wish (Busy Plan) is = refl
told-is a wish (Degraded role) is = ap (λ (n : ℕ). Degraded n) (unwrapped _ role 0 is)
told-is a wish SameShape is = unwrapped _ SameShape Nothing is
told-is a wish (BadShape field) is = unwrapped _ (BadShape field) Nothing is
told-is a wish (SizeNotMultiple size chunk) is = unwrapped _ (SizeNotMultiple size chunk) Nothing is
told-is a wish (NeedSpares have want) is = same-spares have want _ _ is.0 is.1
told-is a wish NeedBackup is = refl
told-is a wish (BackupTooSmall have want) is = same-room have want _ _ (sym (unwrapped a.backup have 0 is.0)) is.1
told-is a wish (ArraySizeFirst visible least) is = same-size visible least _ _ is.0 is.1
told-is a wish r is = absurd is

one-first : (a : Asked) (wish : Wish) (r s : Refusal) → IsFirst a wish r → IsFirst a wish s → r ≡ s
one-first a wish r s f g =
    elim (cases_lt (order r) (order s)) [
      | inl lt ↦ absurd (g.first r lt f.holds)
      | inr ge ↦ elim (cases_lt (order s) (order r)) [
        | inl lt ↦ absurd (f.first s lt g.holds)
        | inr le ↦ (let same : order r ≡ order s = omega (arith, ge, le) in sym (told-is a wish r f.holds) ∙ ap (told a wish) same ∙ told-is a wish s g.holds)
      ]
    ]

pub exactly : (a : Asked) (wish : Wish) (o : Option Refusal) → MatchOption o ((r : Refusal) → IsUngrowable a wish r → ⊥) (IsFirst a wish) → (r : Refusal) → (o ≡ Some r) ↔ IsFirst a wish r
exactly a wish (Some s) first r = (λ e. subst (IsFirst a wish) (some-same s r e) first, λ f. ap (λ (x : Refusal). Some x) (one-first a wish s r first f))
exactly a wish None none r = (λ e. absurd (cc), λ f. absurd (none r f.holds))

pub none-exactly : (a : Asked) (wish : Wish) (o : Option Refusal) → MatchOption o ((r : Refusal) → IsUngrowable a wish r → ⊥) (IsFirst a wish) → (o ≡ None) ↔ ((r : Refusal) → IsUngrowable a wish r → ⊥)
none-exactly a wish (Some s) first = (λ e. absurd (cc), λ no. absurd (no s first.holds))
none-exactly a wish None none = (λ e. none, λ no. refl)

-- where nothing refuses it, its plan stands
pub unrefused-plan : (a : Asked) (wish : Wish) → grow_refusal a wish ≡ None → refusal_for a wish ≡ None
unrefused-plan a wish e = by (refusal_for a wish) refl
  where
    none : (r : Refusal) → IsUngrowable a wish r → ⊥
    none = (none-exactly a wish (grow_refusal a wish) (judged a wish)).0 e

    by : (o : Option Refusal) → refusal_for a wish ≡ o → refusal_for a wish ≡ None
    by None is = is
    by (Some r) is = absurd (none r (plan-holds a wish r (is-of-plan a wish r is) is))
