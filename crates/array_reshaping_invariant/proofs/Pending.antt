-- A resync that may be pending in an array in a reshape: how far it is behind a call, and what stands of the list while it is.
use Rattle.std.proofs.Common.{◌≡◌, ◌⊎◌, inl, inr, ℕ, ◌≤◌, Bool, true, false, Option, Some, None, List, ◌++◌, refl, sym, ◌∙◌, ap, subst, arith}
use Rattle.std.specs.Prelude.{IfSome, IsSome}
use Rattle.history_invariant_laws.specs.raid_types_Sectors.{Sector}
use Rattle.history_invariant_laws.specs.raid_types_the_Shape.{Shape}
use Rattle.reshape_progress_resync_laws.specs.bank_the_Operation.{Operation}
use Rattle.reshape_progress_resync_laws.specs.bank_Given.{Given}
use Rattle.reshape_progress_resync_laws.specs.bank_Tape.{Contents}
use Rattle.reshape_progress_resync_laws.specs.sb_specs_the_Members.{Members}
use Rattle.reshape_progress_resync_laws.specs.sb_specs_Reading.{Scope, is_clean}
use Rattle.reshape_progress_resync_laws.specs.history_the_Entry.{Entry}
use Rattle.reshape_progress_resync_laws.specs.history_Losses.{is_unsynced}
use Rattle.reshape_progress_resync_laws.specs.history_Stands.{shape_for}
use Rattle.reshape_progress_resync_laws.specs.crash_views_Regions.{AreShapesFit, DoWithout}
use Rattle.reshape_progress_resync_laws.specs.array_members_Moving.{IsMoved}
use Rattle.reshape_progress_resync_laws.specs.array_members_Lacking.{DoesWithout}
use Rattle.reshape_progress_resync_laws.proofs.array_members_HeldRows.{shape-without-before, without-before}
use Rattle.history_invariant_laws.specs.history_invariant_Safe.{world_in}
use Rattle.history_invariant_laws.proofs.history_invariant_Entered.{AreAdding, settle-none}
use Rattle.history_invariant_laws.proofs.history_invariant_Growing.{unsynced-grown}
use Rattle.history_invariant_laws.proofs.Quiet.{IsLeftBehind}
use Rattle.reshape_progress_resync_laws.specs.stripe_region_resync_Resyncs.{low_shape, resync_stripes}
use Rattle.reshape_progress_resync_laws.proofs.stripe_region_resync_Alike.{mends-alike}
use Rattle.reshape_progress_resync_laws.specs.reshape_progress_the_Course.{Course}
use Rattle.reshape_progress_resync_laws.specs.reshape_progress_Course.{AnyShape, StandsInCourse}
use Rattle.reshape_progress_resync_laws.proofs.reshape_progress_Frames.{stands-less, stands-whole, does-for}
use Rattle.reshape_progress_resync_laws.specs.Mended.{IsAside, IsUnsynced, StandsSynced}
use Rattle.reshape_progress_resync_laws.proofs.Mended.{none-pending, resyncs-end}
use Rattle.history_invariant_laws.proofs.array_call_specs_LedgerLaws.{none-ends, unsynced-more}
use Rattle.array_reshaping_invariant.specs.Moving.{IsMoving}

-- ---- how far it is

-- No more stripes are mended than there are, none while a window is entered; and while a resync is pending the mark is dirty.
pub record HasResync (m : Members) (resync : Option ℕ) (course : Course) : Type 0 where
  pub progress : IfSome resync (λ mended. mended ≤ resync_stripes m.newest)
  pub beside : IsAside course.window ⊎ IsUnsynced resync
  pub dirty : DoWithout m → IsSome resync → is_clean m.newest ≡ false

pub resync-of : {tells : Type 0} {given : Given} {tape : List Operation} {scope : Scope} {first : ℕ} {entries : List Entry} {members : Members} {carried : ℕ → ℕ → Bool} {resync : Option ℕ} {course : Course} {buffer : List ℕ} {left : ℕ}
    → IsMoving tells given tape scope first entries members carried resync course buffer left → HasResync members resync course
resync-of was = record { progress = was.progress; beside = was.beside; dirty = was.dirty }

-- as far on members that lost slots
pub progress-moved : {given : Given} {old new : Members} → IsMoved given old new → (resync : Option ℕ) → IfSome resync (λ mended. mended ≤ resync_stripes old.newest) → IfSome resync (λ mended. mended ≤ resync_stripes new.newest)
progress-moved moved None is = is
progress-moved {old = old} {new = new} moved (Some mended) is = subst (λ (n : ℕ). mended ≤ n) (sym (mends-alike old.newest new.newest moved.reshape moved.shape moved.size)) is

-- so it is where they stay as dirty, whatever course they are in if it may be beside that
pub resync-moved : {given : Given} {old new : Members} {resync : Option ℕ} {course course' : Course} → IsMoved given old new → (IsSome resync → is_clean old.newest ≡ false → is_clean new.newest ≡ false)
    → IsAside course'.window ⊎ IsUnsynced resync → HasResync old resync course → HasResync new resync course'
resync-moved {given = given} {old = old} {new = new} {resync = resync} moved stays beside was = record {
  progress = progress-moved moved resync was.progress;
  beside = beside;
  dirty = λ does some. stays some (was.dirty (without-before given old new moved does) some);
}

-- nothing is mended while a window is entered, nor behind it
pub unmended-of : (resync : Option ℕ) → ⊥ ⊎ IsUnsynced resync → IsUnsynced resync
unmended-of resync (inl none) = absurd none
unmended-of resync (inr unmended) = unmended

pub resync-unmended : (m : Members) (resync : Option ℕ) (course : Course) → IsUnsynced resync → (DoWithout m → IsSome resync → is_clean m.newest ≡ false) → HasResync m resync course
resync-unmended m resync course unmended dirty = record { progress = of resync unmended; beside = inr unmended; dirty = dirty }
  where
    of : (resync : Option ℕ) → IsUnsynced resync → IfSome resync (λ mended. mended ≤ resync_stripes m.newest)
    of None is = is
    of (Some mended) is = let none = is in omega (arith, none)

-- a clean array that does without what it misses has none
pub clean-none : (m : Members) (resync : Option ℕ) (course : Course) → HasResync m resync course → DoWithout m → is_clean m.newest ≡ true → resync ≡ None
clean-none m None course has does clean = refl
clean-none m (Some mended) course has does clean = absurd (let both = sym (has.dirty does refl) ∙ clean in cc)

-- ---- what is told of it

-- the opening says the same of it
pub later-unsynced : {given : Given} {tape tape' : List Operation} {scope : Scope} {first : ℕ} {entries all : List Entry} {new : Members} {carried : ℕ → ℕ → Bool}
    → IsLeftBehind given tape scope first entries all new carried true tape' → (xs : List Entry) → is_unsynced (world_in given tape' scope first) xs ≡ is_unsynced (world_in given tape scope first) xs
later-unsynced {given = given} {tape = tape} {scope = scope} {first = first} left xs =
    ap (λ (l : List Operation). is_unsynced (world_in given l scope first) xs) left.grown.1 ∙ unsynced-grown (world_in given tape scope first) left.grown.0 left.begun xs

-- it is as pending behind entries that settle nothing
pub pending-on : {given : Given} {tape tape' : List Operation} {scope : Scope} {first : ℕ} {entries : List Entry} {new : Members} {carried : ℕ → ℕ → Bool} (added : List Entry)
    → IsLeftBehind given tape scope first entries (entries ++ added) new carried true tape' → AreAdding added → is_unsynced (world_in given tape' scope first) (entries ++ added) ≡ is_unsynced (world_in given tape scope first) entries
pending-on {given = given} {tape = tape} {scope = scope} {first = first} {entries = entries} added left adds =
    later-unsynced left (entries ++ added) ∙ unsynced-more (world_in given tape scope first) entries added (none-ends added (settle-none added adds))

-- ---- what stands

-- by fewer shapes
pub mended-less : (sound : Type 0) (among wider : Shape → Type 0) (resync : Option ℕ) (m : Members) (course : Course) (buffer : List ℕ) (c : Contents) (list : ℕ → Sector) → ((shape : Shape) → among shape → wider shape)
    → StandsSynced sound wider resync m course buffer c list → StandsSynced sound among resync m course buffer c list
mended-less sound among wider resync m course buffer c list less was = record {
  in_course = stands-less ⊥ among wider m course buffer c list less was.in_course;
  ends = λ some aside own. was.ends some aside (less (low_shape m.newest) own);
  whole = was.whole;
  rows = λ so x below own. was.rows so x below (less (shape_for m.newest x) own);
}

-- by those that do without what is missing later
pub mended-later : (sound : Type 0) (given : Given) (old new : Members) (resync : Option ℕ) (course : Course) (buffer : List ℕ) (c : Contents) (list : ℕ → Sector) → IsMoved given old new
    → StandsSynced sound (λ shape. DoesWithout shape old) resync old course buffer c list → StandsSynced sound (λ shape. DoesWithout shape new) resync old course buffer c list
mended-later sound given old new resync course buffer c list moved was =
    mended-less sound (λ shape. DoesWithout shape new) (λ shape. DoesWithout shape old) resync old course buffer c list (λ shape does. shape-without-before given old new moved shape does) was

-- by any, where each in force does without what is missing
pub mended-whole : (sound : Type 0) (resync : Option ℕ) (m : Members) (course : Course) (buffer : List ℕ) (c : Contents) (list : ℕ → Sector) → DoWithout m
    → StandsSynced sound (λ shape. DoesWithout shape m) resync m course buffer c list → StandsSynced sound AnyShape resync m course buffer c list
mended-whole sound resync m course buffer c list does was = record {
  in_course = stands-whole ⊥ m course buffer c list does was.in_course;
  ends = λ some aside any. was.ends some aside (does-for m does 0);
  whole = was.whole;
  rows = λ so x below any. was.rows so x below (does-for m does x);
}

pub mended-without : (sound : Type 0) (resync : Option ℕ) (m : Members) (course : Course) (buffer : List ℕ) (c : Contents) (list : ℕ → Sector) → StandsSynced sound AnyShape resync m course buffer c list
    → StandsSynced sound (λ shape. DoesWithout shape m) resync m course buffer c list
mended-without sound resync m course buffer c list was = mended-less sound (λ shape. DoesWithout shape m) AnyShape resync m course buffer c list (λ shape does. tt) was

-- where none is pending or all stripes are mended, all rows stand
pub all-stand : (sound : Type 0) (among : Shape → Type 0) (resync : Option ℕ) (m : Members) (course : Course) (buffer : List ℕ) (c : Contents) (list : ℕ → Sector) → AreShapesFit m.newest
    → (resync ≡ None) ⊎ (resync ≡ Some (resync_stripes m.newest)) → StandsSynced sound among resync m course buffer c list → StandsSynced sound among None m course buffer c list
all-stand sound among resync m course buffer c list fit (inl none) was = subst (λ (o : Option ℕ). StandsSynced sound among o m course buffer c list) none was
all-stand sound among resync m course buffer c list fit (inr all) was = resyncs-end sound among m course buffer c list fit (subst (λ (o : Option ℕ). StandsSynced sound among o m course buffer c list) all was)

pub none-stands : (sound : Type 0) (among : Shape → Type 0) (resync : Option ℕ) (m : Members) (course : Course) (buffer : List ℕ) (c : Contents) (list : ℕ → Sector) → resync ≡ None
    → StandsSynced sound among resync m course buffer c list → StandsInCourse sound among m course buffer c list
none-stands sound among resync m course buffer c list none was = (none-pending sound among m course buffer c list).1 (subst (λ (o : Option ℕ). StandsSynced sound among o m course buffer c list) none was)

-- and what stands in a course goes on as it does there
pub none-on : (sound : Type 0) (among : Shape → Type 0) (resync : Option ℕ) (old new : Members) (course course' : Course) (buffer buffer' : List ℕ) (c e : Contents) (list : ℕ → Sector) → resync ≡ None
    → (StandsInCourse sound among old course buffer c list → StandsInCourse sound among new course' buffer' e list)
    → StandsSynced sound among resync old course buffer c list → StandsSynced sound among resync new course' buffer' e list
none-on sound among resync old new course course' buffer buffer' c e list none on was = subst (λ (o : Option ℕ). StandsSynced sound among o new course' buffer' e list) (sym none)
    ((none-pending sound among new course' buffer' e list).0 (on (none-stands sound among resync old course buffer c list none was)))
