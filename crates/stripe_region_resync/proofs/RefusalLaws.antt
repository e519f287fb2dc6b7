-- Why a stripe isn't mended: too many are missing of a shape in force, or what was found in its rows.
use Rattle.std.proofs.Common.{◌≡◌, inl, inr, ℕ, ◌<◌, ◌≤◌, nat_lt, Bool, true, false, if◌then◌else◌, Option, Some, None, is_some, refl, sym, ◌∙◌, ap, subst, arith}
use Rattle.std.specs.Prelude.{MatchOption, ⊤}
use Rattle.std.proofs.lemmas.Bool.Decides.{nat_tests}
use Rattle.reshape_request.specs.raid_types_Shapes.{tolerance}
use Rattle.reshape_request.specs.raid_types_the_Shape.{Shape}
use Rattle.reshape_request.specs.raid_types_the_Refusal.{Refusal}
use Rattle.reshape_request.specs.sb_specs_the_Members.{Members}
use Rattle.reshape_request.specs.sb_specs_Reading.{shape_of, final_shape}
use Rattle.stripe_region_write.specs.crash_views_Regions.{DoWithout}
use Rattle.stripe_region_write.specs.array_members_Placed.{IsInForce}
use Rattle.stripe_region_write.specs.array_members_Lacking.{lacking, too_many, DoesWithout, LacksTooMany, AreTooMany, IsUnwritten}
use Rattle.stripe_region_write.specs.sb_safe_updates_First.{are_too_many, write_refusal}
use Rattle.stripe_region_write.proofs.sb_safe_updates_RefusingLaws.{write-cause}
use Rattle.stripe_region_resync.specs.Mends.{lacking_or, refusal_of_resync, IsNotSynced}

is-above : (a b : ℕ) → nat_lt a b ≡ true → a < b
is-above a b is = grind (arith, nat_tests, is)

is-few : (a b : ℕ) → nat_lt a b ≡ false → b ≤ a
is-few a b is = grind (arith, nat_tests, is)

above-is : (a b : ℕ) → a < b → nat_lt a b ≡ true
above-is a b lt = grind (arith, nat_tests, lt)

few-is : (a b : ℕ) → b ≤ a → nat_lt a b ≡ false
few-is a b le = grind (arith, nat_tests, le)

few-of : (shape : Shape) (m : Members) → are_too_many shape m ≡ false → DoesWithout shape m
few-of shape m is = is-few (tolerance shape) (lacking shape m) is

many-of : (shape : Shape) (m : Members) → are_too_many shape m ≡ true → LacksTooMany shape m (too_many shape m)
many-of shape m is = record { above = is-above (tolerance shape) (lacking shape m) is; told = refl }

-- ---- what the members give

-- of the two tests and what was found
abbrev chosen : Members → Bool → Bool → Option Refusal → Option Refusal
chosen m old final found = if old then Some (too_many (shape_of m.newest) m) else if final then Some (too_many (final_shape m.newest) m) else found

chosen-many : (m : Members) (refusal : Refusal) (found : Option Refusal) → AreTooMany m refusal → Some refusal ≡ lacking_or m found
chosen-many m refusal found (inl many) =
    ap (λ (r : Refusal). Some r) many.told ∙ sym (ap (λ (b : Bool). chosen m b (are_too_many (final_shape m.newest) m) found) (above-is (tolerance (shape_of m.newest)) (lacking (shape_of m.newest) m) many.above))
chosen-many m refusal found (inr (few, many)) =
    ap (λ (r : Refusal). Some r) many.told
    ∙ sym (ap (λ (b : Bool). chosen m false b found) (above-is (tolerance (final_shape m.newest)) (lacking (final_shape m.newest) m) many.above))
    ∙ sym (ap (λ (b : Bool). chosen m b (are_too_many (final_shape m.newest) m) found) (few-is (tolerance (shape_of m.newest)) (lacking (shape_of m.newest) m) few))

chosen-none : (m : Members) (found : Option Refusal) → DoWithout m → found ≡ lacking_or m found
chosen-none m found does =
    sym (ap (λ (b : Bool). chosen m false b found) (few-is (tolerance (final_shape m.newest)) (lacking (final_shape m.newest) m) does.final))
    ∙ sym (ap (λ (b : Bool). chosen m b (are_too_many (final_shape m.newest) m) found) (few-is (tolerance (shape_of m.newest)) (lacking (shape_of m.newest) m) does.old))

-- too many are told first
pub told-lacking : (m : Members) (told found : Option Refusal) → is_some told ≡ true → MatchOption told (DoWithout m) (AreTooMany m) → told ≡ lacking_or m found
told-lacking m None found some is = absurd (cc)
told-lacking m (Some refusal) found some is = chosen-many m refusal found is

-- else what was found
pub told-found : (m : Members) (told found : Option Refusal) → is_some told ≡ false → MatchOption told (DoWithout m) (AreTooMany m) → found ≡ lacking_or m found
told-found m None found none is = chosen-none m found is
told-found m (Some refusal) found none is = absurd (cc)

-- ---- what that tells

module _ (m : Members) (shape : Shape) (force : IsInForce m.newest shape) where
  -- the stripe's shape is in force: where it lacks too many, that was told
  never-lacks : {P : Type 0} → DoesWithout (shape_of m.newest) m → DoesWithout (final_shape m.newest) m → (refusal : Refusal) → LacksTooMany shape m refusal → P
  never-lacks old final refusal many = elim force [
    | inl same ↦ absurd (let above = (subst (λ (s : Shape). LacksTooMany s m refusal) same many).above in omega (arith, above, old))
    | inr same ↦ absurd (let above = (subst (λ (s : Shape). LacksTooMany s m refusal) same many).above in omega (arith, above, final))
  ]

  pub told-why : (found : Option Refusal) → MatchOption found ⊤ (IsUnwritten shape false m) → MatchOption (lacking_or m found) (DoWithout m) (IsNotSynced shape m)
  told-why found is = by (are_too_many (shape_of m.newest) m) refl (are_too_many (final_shape m.newest) m) refl found is
    where
      by : (a : Bool) → are_too_many (shape_of m.newest) m ≡ a → (b : Bool) → are_too_many (final_shape m.newest) m ≡ b → (found : Option Refusal) → MatchOption found ⊤ (IsUnwritten shape false m)
          → MatchOption (chosen m a b found) (DoWithout m) (IsNotSynced shape m)
      by true one b two found is = inl (inl (many-of (shape_of m.newest) m one))
      by false one true two found is = inl (inr (few-of (shape_of m.newest) m one, many-of (final_shape m.newest) m two))
      by false one false two None is = record { old = few-of (shape_of m.newest) m one; final = few-of (final_shape m.newest) m two }
      by false one false two (Some refusal) (inl many) = never-lacks (few-of (shape_of m.newest) m one) (few-of (final_shape m.newest) m two) refusal many
      by false one false two (Some refusal) (inr cause) = inr (record { old = few-of (shape_of m.newest) m one; final = few-of (final_shape m.newest) m two }, cause)

pub told-first : (m : Members) (shape : Shape) (found : Option Refusal) → MatchOption found ⊤ (λ refusal. write_refusal shape false m ≡ Some refusal)
    → MatchOption (lacking_or m found) ⊤ (λ refusal. refusal_of_resync shape m ≡ Some refusal)
told-first m shape found is = by (are_too_many (shape_of m.newest) m) (are_too_many (final_shape m.newest) m) found is
  where
    by : (a b : Bool) (found : Option Refusal) → MatchOption found ⊤ (λ refusal. write_refusal shape false m ≡ Some refusal)
        → MatchOption (chosen m a b found) ⊤ (λ refusal. chosen m a b (write_refusal shape false m) ≡ Some refusal)
    by true b found is = refl
    by false true found is = refl
    by false false None is = tt
    by false false (Some refusal) is = is

-- where nothing is told, nothing was found
pub none-found : (m : Members) (found : Option Refusal) → lacking_or m found ≡ None → found ≡ None
none-found m found is = by (are_too_many (shape_of m.newest) m) (are_too_many (final_shape m.newest) m) is
  where
    by : (a b : Bool) → chosen m a b found ≡ None → found ≡ None
    by true b none = absurd (cc)
    by false true none = absurd (cc)
    by false false none = none

-- and each shape in force does without what is missing
pub none-lacking : (m : Members) (found : Option Refusal) → lacking_or m found ≡ None → DoWithout m
none-lacking m found is = by (are_too_many (shape_of m.newest) m) refl (are_too_many (final_shape m.newest) m) refl is
  where
    by : (a : Bool) → are_too_many (shape_of m.newest) m ≡ a → (b : Bool) → are_too_many (final_shape m.newest) m ≡ b → chosen m a b found ≡ None → DoWithout m
    by true one b two none = absurd (cc)
    by false one true two none = absurd (cc)
    by false one false two none = record { old = few-of (shape_of m.newest) m one; final = few-of (final_shape m.newest) m two }

-- ---- before any device is touched

pub told-before : (m : Members) (shape : Shape) → IsInForce m.newest shape → (told : Option Refusal) → told ≡ refusal_of_resync shape m → MatchOption told (DoWithout m) (IsNotSynced shape m)
told-before m shape force told is = subst (λ (o : Option Refusal). MatchOption o (DoWithout m) (IsNotSynced shape m)) (sym is) (told-why m shape force (write_refusal shape false m) (cause (write_refusal shape false m) refl))
  where
    cause : (found : Option Refusal) → write_refusal shape false m ≡ found → MatchOption found ⊤ (IsUnwritten shape false m)
    cause None is = tt
    cause (Some refusal) is = write-cause shape false m refusal is
