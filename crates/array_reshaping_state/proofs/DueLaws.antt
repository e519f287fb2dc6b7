-- The step that is next in a reshape, and what is true there.
use Rattle.std.proofs.Common.{◌≡◌, inl, inr, ℕ, ◌<◌, ◌≤◌, nat_lt, Bool, true, false, if◌then◌else◌, is_some, Option, Some, None, refl, sym, ◌∙◌, ap, arith}
use Rattle.std.specs.Prelude.{IfSome}
use Rattle.std.proofs.lemmas.Bool.{cases_lt}
use Rattle.std.proofs.lemmas.Bool.Decides.{nat_tests}
use Rattle.reshape_progress.specs.raid_types_the_Span.{Span}
use Rattle.reshape_progress.specs.sb_codec_the_Sb.{Sb}
use Rattle.reshape_progress.specs.sb_specs_Reading.{is_reshaping, next_window}
use Rattle.reshape_progress.specs.crash_views_Regions.{AreShapesFit}
use Rattle.stripe_region_resync.specs.Mends.{resync_stripes}
use Rattle.reshape_progress.specs.reshape_request_the_Window.{Window}
use Rattle.reshape_progress.specs.reshape_request_the_Window_TheVariants.{Closed, Entered, Unsure}
use Rattle.reshape_progress.specs.reshape_request_Left.{stripes_in, zeroed_by}
use Rattle.reshape_progress.specs.declared.course.Course.{Course}
use Rattle.reshape_progress.specs.Course.{IsCourseOf}
use Rattle.array_reshaping_state.specs.declared.stepping.Due.{Due}
use Rattle.array_reshaping_state.specs.declared.stepping.Due.TheVariants.{Copy, Record, Mend, EndResync, Enter, Zero, Finish}
use Rattle.array_reshaping_state.specs.Due.{open_in, due_aside, due_in, due_of, IsDue}
use Rattle.array_reshaping_state.proofs.ReshapeLaws.{through-of}

below : (a b : ℕ) → nat_lt a b ≡ true → a < b
below a b is = grind (arith, nat_tests, is)

above : (a b : ℕ) → nat_lt a b ≡ false → b ≤ a
above a b is = grind (arith, nat_tests, is)

-- ---- a choice of two, by what was asked

pub then-is : (b : Bool) (x y : Due) → b ≡ true → x ≡ (if b then x else y)
then-is b x y is = sym (ap (λ (c : Bool). if c then x else y) is)

pub else-is : (b : Bool) (x y z : Due) → b ≡ false → z ≡ y → z ≡ (if b then x else y)
else-is b x y z is same = same ∙ sym (ap (λ (c : Bool). if c then x else y) is)

pub less-is : (a b c d : ℕ) → b ≡ d → a ≡ c → a < b → nat_lt c d ≡ true
less-is a b c d bd ac lt = grind (arith, nat_tests, bd, ac, lt)

pub most-is : (a b c d : ℕ) → b ≡ d → a ≡ c → b ≤ a → nat_lt c d ≡ false
most-is a b c d bd ac le = grind (arith, nat_tests, bd, ac, le)

-- ---- what is true where a step is next

abbrev course-at : Window → ℕ → Course
course-at window zeroed = record { window = window; zeroed = zeroed }

-- no stripe behind the list is zeroed before the last window is recorded
none-zeroed : (newest : Sb) (course : Course) (span : Span) → IsCourseOf newest course → next_window newest ≡ Some span → course.zeroed ≡ 0
none-zeroed newest course span is next = elim (cases_lt 0 course.zeroed) [
  | inl some ↦ absurd (let none = (is.through some).none in let e = sym none ∙ next in cc)
  | inr few ↦ omega (arith, few)
]

both-ways : (a b : ℕ) → a ≤ b → b ≤ a → a ≡ b
both-ways a b most all = omega (arith, most, all)

module _ (newest : Sb) (fit : AreShapesFit newest) (active : is_reshaping newest ≡ true) (zeroed : ℕ) where
  -- behind the last window
  ended : IsCourseOf newest (course-at Closed zeroed) → next_window newest ≡ None → (b : Bool) → nat_lt zeroed (zeroed_by newest) ≡ b → IsDue newest (course-at Closed zeroed) None (if b then Zero else Finish)
  ended is none true lt = (refl, below zeroed (zeroed_by newest) lt, through-of newest fit active none, refl)
  ended is none false ge =
      (ap (λ (n : ℕ). course-at Closed n) (let few = is.few in let all = above zeroed (zeroed_by newest) ge in omega (arith, few, all)), through-of newest fit active none, refl)

  between : IsCourseOf newest (course-at Closed zeroed) → (found : Option Span) → next_window newest ≡ found
      → IsDue newest (course-at Closed zeroed) None (if is_some found then Enter else if nat_lt zeroed (zeroed_by newest) then Zero else Finish)
  between is (Some span) next = (span, inl (ap (λ (n : ℕ). course-at Closed n) (none-zeroed newest (course-at Closed zeroed) span is next)), next, refl)
  between is None none = ended is none (nat_lt zeroed (zeroed_by newest)) refl

  -- of a window that is unsure
  again : (span : Span) → IsCourseOf newest (course-at (Unsure span) zeroed) → (found : Option Span) → next_window newest ≡ found
      → IsDue newest (course-at (Unsure span) zeroed) None (if is_some found then Enter else if nat_lt zeroed (zeroed_by newest) then Zero else Finish)
  again span is None none = absurd (let next : next_window newest ≡ Some span = is.window in let e = sym none ∙ next in cc)
  again span is (Some found) here =
      let next : next_window newest ≡ Some span = is.window in
      (span, inr (ap (λ (n : ℕ). course-at (Unsure span) n) (none-zeroed newest (course-at (Unsure span) zeroed) span is next)), next, refl)

  -- while a resync is pending
  mending : (window : Window) → open_in window ≡ None → (mended : ℕ) → mended ≤ resync_stripes newest → (b : Bool) → nat_lt mended (resync_stripes newest) ≡ b
      → IsDue newest (course-at window zeroed) (Some mended) (if b then Mend else EndResync)
  mending window aside mended most true lt = (mended, refl, below mended (resync_stripes newest) lt, aside)
  mending window aside mended most false ge = (ap (λ (n : ℕ). Some n) (both-ways mended (resync_stripes newest) most (above mended (resync_stripes newest) ge)), aside)

  closed-due : IsCourseOf newest (course-at Closed zeroed) → (resync : Option ℕ) → IfSome resync (λ mended. mended ≤ resync_stripes newest) → IsDue newest (course-at Closed zeroed) resync (due_aside newest zeroed resync)
  closed-due is None most = between is (next_window newest) refl
  closed-due is (Some mended) most = mending Closed refl mended most (nat_lt mended (resync_stripes newest)) refl

  unsure-due : (span : Span) → IsCourseOf newest (course-at (Unsure span) zeroed) → (resync : Option ℕ) → IfSome resync (λ mended. mended ≤ resync_stripes newest)
      → IsDue newest (course-at (Unsure span) zeroed) resync (due_aside newest zeroed resync)
  unsure-due span is None most = again span is (next_window newest) refl
  unsure-due span is (Some mended) most = mending (Unsure span) refl mended most (nat_lt mended (resync_stripes newest)) refl

  -- in an entered window
  inside : (span : Span) (copied : ℕ) (sectioned : Bool) (resync : Option ℕ) → IsCourseOf newest (course-at (Entered span copied sectioned) zeroed) → (b : Bool) → nat_lt copied (stripes_in newest span) ≡ b
      → IsDue newest (course-at (Entered span copied sectioned) zeroed) resync (if b then Copy else Record)
  inside span copied sectioned resync is true lt =
      let next : next_window newest ≡ Some span = is.window.0 in (
        span,
        copied,
        sectioned,
        ap (λ (n : ℕ). course-at (Entered span copied sectioned) n) (none-zeroed newest (course-at (Entered span copied sectioned) zeroed) span is next),
        next,
        below copied (stripes_in newest span) lt,
      )
  inside span copied sectioned resync is false ge =
      let next : next_window newest ≡ Some span = is.window.0 in
      let most : copied ≤ stripes_in newest span = is.window.1 in
      let all : copied ≡ stripes_in newest span = (let more = above copied (stripes_in newest span) ge in omega (arith, most, more)) in (
        span,
        sectioned,
        ap (λ (k : ℕ). course-at (Entered span k sectioned) zeroed) all
            ∙ ap (λ (n : ℕ). course-at (Entered span (stripes_in newest span) sectioned) n) (none-zeroed newest (course-at (Entered span copied sectioned) zeroed) span is next),
        next,
      )

  window-due : (window : Window) (resync : Option ℕ) → IsCourseOf newest (course-at window zeroed) → IfSome resync (λ mended. mended ≤ resync_stripes newest) → IsDue newest (course-at window zeroed) resync (due_in newest window zeroed resync)
  window-due Closed resync is most = closed-due is resync most
  window-due (Entered span copied sectioned) resync is most = inside span copied sectioned resync is (nat_lt copied (stripes_in newest span)) refl
  window-due (Unsure span) resync is most = unsure-due span is resync most

pub due-is : (newest : Sb) (course : Course) (resync : Option ℕ) → AreShapesFit newest → is_reshaping newest ≡ true → IsCourseOf newest course → IfSome resync (λ mended. mended ≤ resync_stripes newest)
    → IsDue newest course resync (due_of newest course resync)
due-is newest course resync fit active is most = window-due newest fit active course.zeroed course.window resync is most
