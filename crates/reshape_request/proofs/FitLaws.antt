-- The answers to a request to grow fit it.
use Rattle.std.proofs.Common.{◌≡◌, ◌⊎◌, inl, inr, ℕ, zero, suc, ◌+◌, ◌*◌, ◌<◌, ◌||◌, ◌&&◌, nat_lt, Bool, true, false, cond, length, List, Option, Some, None, option_map, IsTrue, refl, sym, ap, subst, ◌∙◌, arith, lit<, eq-or-lt_of_le, le_of_suc-le-suc}
use Rattle.std.specs.Prelude.{IfSome, IsSome, MatchBool, ⊤}
use Rattle.std.specs.Option.{option_or, option_map_or}
use Rattle.std.specs.List.{list_any}
use Rattle.history.specs.raid_types_Search.{least_below}
use Rattle.history.specs.raid_types_the_Shape.{Shape}
use Rattle.history.specs.raid_types_the_Role.{Role}
use Rattle.history.specs.raid_types_the_Wish.{Wish}
use Rattle.history.specs.raid_types_the_Refusal.{Refusal}
use Rattle.history.specs.raid_types_the_Refusal_TheVariants.{Busy, Degraded, SameShape, BadShape, SizeNotMultiple, NeedSpares, NeedBackup, BackupTooSmall, ArraySizeFirst}
use Rattle.history.specs.raid_types_the_BusyKind_TheVariants.{Reshape, Resync, Rebuild, Plan}
use Rattle.stripe_row.specs.sb_specs_the_Members.{Members}
use Rattle.stripe_row.specs.sb_specs_Reading.{Reading, is_reshaping, role_count, shape_of}
use Rattle.stripe_row.specs.Rows.{reading_of, is_missing}
use Rattle.history.specs.reshape_plan_Plans.{phases, plan_refusal, largest_window, least_data, new_roles, phases_steps}
use Rattle.history.specs.World.{World, reading_at}
use Rattle.history.specs.Legal.{known_left, is_free_step}
use Rattle.history.specs.Fits.{slot_length, is_rebuildable, is_missing_role, is_recovering_role, IfShape}
use Rattle.history.proofs.OneShapeReplies.{where-asked}
use Rattle.reshape_request.specs.Asked.{Asked, lowest_missing, order, IsFirst, IsUngrowable, grow_refusal}
use Rattle.reshape_request.specs.Fitting.{SaysSameShape, AreAllWhole, GrowRefusalsFit, GrowPlansFit, FallenStepsAreLegal}
use Rattle.reshape_request.proofs.FirstLaws.{judged, none-exactly, unrefused-plan}

-- ---- the lowest that passes

lowest-found : (n : ℕ) (test : ℕ → Bool) (k : ℕ) → least_below n test ≡ Some k → (k < n) × (test k ≡ true)
unfolding least_below
lowest-found zero test k is = absurd (cc)
lowest-found (suc n) test k is = of (least_below n test) (test n) (lowest-found n test k) refl is
  where
    of : (before : Option ℕ) (here : Bool) → (before ≡ Some k → (k < n) × (test k ≡ true)) → test n ≡ here → option_or before (cond here (Some n) None) ≡ Some k → (k < suc n) × (test k ≡ true)
    of (Some i) here rest passes e = let found = rest e in (omega (arith, found.0), found.1)
    of None true rest passes e = let same : n ≡ k = cc in (omega (arith, same), subst (λ (i : ℕ). test i ≡ true) same passes)
    of None false rest passes e = absurd (cc)

lowest-fails : (n : ℕ) (test : ℕ → Bool) → least_below n test ≡ None → (k : ℕ) → k < n → test k ≡ false
unfolding least_below
lowest-fails zero test none k lt = absurd (omega (arith, lt))
lowest-fails (suc n) test none k lt = by (least_below n test) (test n) refl none (λ found. lowest-fails n test found k) (eq-or-lt_of_le (le_of_suc-le-suc lt))
  where
    by : (o : Option ℕ) (b : Bool) → test n ≡ b → option_or o (cond b (Some n) None) ≡ None → (o ≡ None → k < n → test k ≡ false) → (k ≡ n) ⊎ (k < n) → test k ≡ false
    by (Some j) b here none lesser at_place = absurd cc
    by None true here none lesser at_place = absurd cc
    by None false here none lesser (inr below) = lesser refl below
    by None false here none lesser (inl same) = ap test same ∙ here

-- ---- what is read at the end

all-whole : (m : Members) → ((role : ℕ) → lowest_missing m ≡ Some role → ⊥) → AreAllWhole m
all-whole m none = by (lowest_missing m) refl
  where
    by : (o : Option ℕ) → lowest_missing m ≡ o → AreAllWhole m
    by (Some role) is = absurd (none role is)
    by None is = λ role below. lowest-fails (role_count m.newest) (is_missing (reading_of m)) is role below

whole-before : (a : Asked) (wish : Wish) (r : Refusal) → IsFirst a wish r → 4 < order r → AreAllWhole a.members
whole-before a wish r f lt = all-whole a.members (λ role is. f.first (Degraded role) lt is)

if-shape : (world : World) (end : ℕ) (m : Members) (Fact : Shape → ℕ → Type 0) → ((r : Reading) → reading_at world end ≡ Some r → SaysSameShape r.newest m.newest)
    → Fact (shape_of m.newest) m.newest.size → IfShape world end Fact
if-shape world end m Fact same holds = by (reading_at world end) refl
  where
    by : (found : Option Reading) → reading_at world end ≡ found → IfSome found (λ r. Fact (shape_of r.newest) r.newest.size)
    by None is = tt
    by (Some r) is =
        let s = same r is in
        subst (λ (n : ℕ). Fact (shape_of r.newest) n) (sym s.size) (subst (λ (x : Shape). Fact x m.newest.size) (sym s.shape) holds)

same-rebuilds : (r : Reading) (m : Members) → r.roles ≡ m.roles → r.spares ≡ m.spares → is_rebuildable r ≡ is_rebuildable (reading_of m)
same-rebuilds r m roles spares =
    ap (λ (x : List Role). list_any is_recovering_role x || list_any is_missing_role x && nat_lt 0 (length r.spares)) roles
    ∙ ap (λ (x : List ℕ). list_any is_recovering_role m.roles || list_any is_missing_role m.roles && nat_lt 0 (length x)) spares

-- ---- the backup

no-backup : (o : Option ℕ) (sectors : ℕ → ℕ) (b : Option ℕ) → b ≡ option_map sectors o → b ≡ None → o ≡ None
no-backup None sectors b e none = refl
no-backup (Some slot) sectors b e none = absurd (cc)

its-length : (o : Option ℕ) (sectors : ℕ → ℕ) (b : Option ℕ) (have : ℕ) → b ≡ option_map sectors o → b ≡ Some have → IsSome o × (have ≡ option_map_or sectors o 0)
its-length None sectors b have e some = absurd (cc)
its-length (Some slot) sectors b have e some = (refl, cc)

-- ---- the laws

pub refusals-fit : GrowRefusalsFit
refusals-fit world before end a wish (Busy Reshape) told f =
    where-asked world before end (λ r. IsTrue (is_reshaping r.newest)) (λ r is asked. (told.asked r is asked).array.reshaping ∙ f.holds)
refusals-fit world before end a wish (Busy Resync) told f = told.unsynced ∙ f.holds
refusals-fit world before end a wish (Busy Rebuild) told f =
    where-asked world before end (λ r. IsTrue (is_rebuildable r)) (λ r is asked. same-rebuilds r a.members (told.asked r is asked).roles (told.asked r is asked).spares ∙ f.holds)
refusals-fit world before end a wish (Busy Plan) told f = told.phases_are f.holds
refusals-fit world before end a wish (Degraded role) told f =
    let low = lowest-found (role_count a.members.newest) (is_missing (reading_of a.members)) role f.holds in told.gone role low.0 low.1
refusals-fit world before end a wish SameShape told f =
    if-shape world end a.members (λ shape size. plan_refusal shape size wish ≡ Some SameShape) (λ r is. told.whole r is (whole-before a wish SameShape f (lit< tt))) f.holds
refusals-fit world before end a wish (BadShape field) told f =
    if-shape world end a.members (λ shape size. plan_refusal shape size wish ≡ Some (BadShape field)) (λ r is. told.whole r is (whole-before a wish (BadShape field) f (lit< tt))) f.holds
refusals-fit world before end a wish (SizeNotMultiple size chunk) told f =
    if-shape world end a.members (λ shape rows. plan_refusal shape rows wish ≡ Some (SizeNotMultiple size chunk)) (λ r is. told.whole r is (whole-before a wish (SizeNotMultiple size chunk) f (lit< tt))) f.holds
refusals-fit world before end a wish (NeedSpares have want) told f =
    where-asked world before end (λ r. (have ≡ length r.spares) × (have < want) × (want ≡ new_roles (shape_of r.newest) wish)) (λ r is asked.
    (f.holds.0 ∙ ap length (sym (told.asked r is asked).spares), f.holds.2, f.holds.1 ∙ ap (λ (s : Shape). new_roles s wish) (sym (told.asked r is asked).array.shape)))
refusals-fit world before end a wish NeedBackup told f = (
  no-backup world.scope.backup (slot_length world) a.backup told.backup_is f.holds.0,
  if-shape world end a.members (λ shape size. 0 < largest_window shape size (phases shape wish)) (λ r is. told.whole r is (whole-before a wish NeedBackup f (lit< tt))) f.holds.1,
)
refusals-fit world before end a wish (BackupTooSmall have want) told f =
    let its = its-length world.scope.backup (slot_length world) a.backup have told.backup_is f.holds.0 in (
      its.0,
      its.1,
      f.holds.2,
      if-shape world end a.members (λ shape size. want ≡ 8 + largest_window shape size (phases shape wish)) (λ r is. told.whole r is (whole-before a wish (BackupTooSmall have want) f (lit< tt))) f.holds.1,
    )
refusals-fit world before end a wish (ArraySizeFirst visible least) told f = (
  f.holds.0 ∙ sym told.visible_is,
  f.holds.2,
  if-shape world end a.members (λ shape size. least ≡ least_data shape (phases shape wish) * size) (λ r is. told.whole r is (whole-before a wish (ArraySizeFirst visible least) f (lit< tt))) f.holds.1,
)
refusals-fit world before end a wish refusal told f = absurd f.holds

pub plans-fit : GrowPlansFit
plans-fit world before e a wish left told none steps = (
  refl,
  if-shape world e.end a.members (λ shape size. (plan_refusal shape size wish ≡ None) × (left ≡ phases_steps shape size (phases shape wish)))
      (λ r is. told.whole r is whole) (unrefused-plan a wish none, steps),
)
  where
    nothing : (r : Refusal) → IsUngrowable a wish r → ⊥
    nothing = (none-exactly a wish (grow_refusal a wish) (judged a wish)).0 none

    whole : AreAllWhole a.members
    whole = all-whole a.members (λ role is. nothing (Degraded role) is)

pub fallen-legal : FallenStepsAreLegal
fallen-legal world before e rest kind old left told fall = by (is_free_step world before kind) (known_left before e rest) told
  where
    by : (free : Bool) (known : Option ℕ) → IfSome known (λ n. n ≡ old) → MatchBool free ⊤ (IfSome known (λ n. left + 1 ≡ n))
    by true known told = tt
    by false None told = tt
    by false (Some n) told = fall ∙ sym told
