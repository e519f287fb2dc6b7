-- Stretches of calls that keep an array safe: one after another, with nothing done, and with rows written.
use Rattle.std.proofs.Common.{◌≡◌, ℕ, ◌-◌, ◌<◌, ◌≤◌, false, Contains, ◌∙◌, List, length, take, take_all, le_refl, length-append, arith, sym, ap, subst}
use Rattle.std.specs.Prelude.{⊤}
use Rattle.crash_role_laws.specs.raid_types_Sectors.{Sector}
use Rattle.crash_role_laws.specs.raid_types_the_Shape.{Shape}
use Rattle.crash_role_laws.specs.bank_the_Operation.{Operation}
use Rattle.crash_role_laws.specs.bank_Given.{Given}
use Rattle.crash_role_laws.specs.bank_Tape.{EachMark, disk}
use Rattle.crash_role_laws.proofs.bank_Marks.{each_mark-then}
use Rattle.crash_role_laws.specs.sb_codec_the_Sb.{Sb}
use Rattle.crash_role_laws.specs.sb_specs_the_Members.{Members}
use Rattle.crash_role_laws.specs.sb_specs_Reading.{Scope, is_clean, shape_of, list_length}
use Rattle.crash_role_laws.specs.stripe_row_Rows.{members_without}
use Rattle.crash_role_laws.specs.history_World.{World}
use Rattle.array_members.specs.Placed.{IsPlaced, HaveSameReshape}
use Rattle.crash_role_laws.specs.crash_safety_laws_Steady.{AreUnlost, IsSafeNow, IsSafeStretch, IsSafeOver, KeepsSafe, AreGoneTold, AreWritesAllowed}
use Rattle.array_members.proofs.HeldRows.{missing-moved}
use Rattle.array_members.specs.Moving.{Grows, IsMoved}
use Rattle.array_members.specs.Lacking.{IsListPut}
use Rattle.crash_role_laws.specs.crash_views_Views.{Ledger, IsTailZero}
use Rattle.crash_role_laws.proofs.crash_safety_laws_Steady.{safe-is-seen, losing-stays-safe}
use Rattle.crash_role_laws.proofs.crash_safety_laws_WriteSafe.{writes-stay-safe}
use Rattle.array_members.proofs.LackingWrites.{marks-here}
use Rattle.crash_role_laws.specs.raid_layout_Layout.{place, stripe_of}
use Rattle.crash_role_laws.specs.crash_views_Windows.{IsOfRegion}
use Rattle.array_members.proofs.Fit.{count-alike, list-alike, for-alike}
use Rattle.array_members.proofs.Still.{told-same}

-- ---- what is told of the end is told of what was before

module _ (given : Given) (old new : Members) (was : IsPlaced given old) (moved : IsMoved given old new) where
  pub gone-before : (told : Ledger) → AreGoneTold told new → AreGoneTold told old
  gone-before told gone role lt missing = gone role (subst (λ (n : ℕ). role < n) (sym (count-alike old.newest new.newest moved.reshape moved.shape moved.size)) lt) (missing-moved moved role missing)

-- ---- one after another

module _ (sound : Type 0) (scope : Scope) (given : Given) (told : Ledger) where
  pub safe-then : (mid new : Members) (one two three : List Operation) → IsSafeStretch sound scope given told mid one two → IsSafeStretch sound scope given told new two three
      → IsSafeStretch sound scope given told new one three
  safe-then mid new one two three first second = record { marks = each_mark-then first.marks second.marks; next = second.next }

  -- nothing was done
  pub safe-none : (members : Members) (tape : List Operation) → IsSafeNow sound scope given told members (disk given.start tape) → IsSafeStretch sound scope given told members tape tape
  safe-none members tape safe = record { marks = marks-here ⊤ given.start tape (safe-is-seen sound scope given told members tape safe); next = safe }

  -- and slots were lost
  pub safe-lost : (old new : Members) (lost : ℕ) (before after : List Operation) → new ≡ members_without lost old → after ≡ before → IsSafeNow sound scope given told old (disk given.start before)
      → IsSafeStretch sound scope given told new before after
  safe-lost old new lost before after is same safe =
      subst (λ (tape : List Operation). IsSafeStretch sound scope given told new before tape) (sym same)
      (safe-none new before here)
    where
      here : IsSafeNow sound scope given told new (disk given.start before)
      here = subst (λ (m : Members). IsSafeNow sound scope given told m (disk given.start before)) (sym is)
          (losing-stays-safe sound scope given lost told told old (disk given.start before) (told-same told) safe)

  -- rows were written
  pub safe-put : {tells : Type 0} (old new : Members) (lost : ℕ) (shape : Shape) (list : ℕ → Sector) (rows : List ℕ) (before after : List Operation) → tells → new ≡ members_without lost old
      → IsPlaced given old → is_clean old.newest ≡ false → AreUnlost old → IsOfRegion old shape (Contains rows) → AreWritesAllowed old told.values list
      → (sound → IsTailZero old.newest list) → EachMark tells given.start before after (IsListPut shape old list rows (disk given.start before)) → IsSafeNow sound scope given told old (disk given.start before)
      → IsSafeStretch sound scope given told new before after
  safe-put old new lost shape list rows before after tell is placed dirty unlost region allowed zeros marks safe = record {
    marks = record {
      longer = λ one. marks.longer tell;
      earlier = λ one. marks.earlier tell;
      each = λ one n low high. safe-is-seen sound scope given told new (take n after) (safe-at n low high);
    };
    next = subst (λ (tape : List Operation). IsSafeNow sound scope given told new (disk given.start tape)) (take_all (length after) after (le_refl (length after)))
        (safe-at (length after) (marks.longer tell) (le_refl (length after)));
  }
    where
      safe-at : (n : ℕ) → length before ≤ n → n ≤ length after → IsSafeNow sound scope given told new (disk given.start (take n after))
      safe-at n low high =
          let put = marks.each tell n low high in
          subst (λ (m : Members). IsSafeNow sound scope given told m (disk given.start (take n after))) (sym is)
          (writes-stay-safe sound scope given told old shape list rows lost (disk given.start before) (disk given.start (take n after)) placed.holders dirty unlost
          region allowed zeros put.0 put.1 safe)

-- a list whose sectors are allowed
pub allowed-later : (given : Given) (old new : Members) → IsMoved given old new → (values : ℕ → List Sector) (list : ℕ → Sector) → AreWritesAllowed old values list → AreWritesAllowed new values list
allowed-later given old new moved values list allowed x lt =
    allowed x (subst (λ (n : ℕ). x < n) (list-alike old.newest new.newest moved.reshape moved.shape moved.size) lt)

-- which is zero in the tail
pub zeros-alike : (old new : Sb) → HaveSameReshape old new → shape_of new ≡ shape_of old → new.size ≡ old.size → (list : ℕ → Sector) → IsTailZero old list → IsTailZero new list
zeros-alike old new reshape shape size list zeros x tail = zeros x (record {
  active = sym reshape.reshaping ∙ tail.active;
  forth = sym reshape.backward ∙ tail.forth;
  through = sym reshape.position ∙ tail.through ∙ long;
  past = (let p = tail.past in omega (arith, p, long));
  stripe = ap (λ (s : Shape). stripe_of s x) (sym reshape.final) ∙ tail.stripe ∙ (λ i. stripe_of (reshape.final i) (long i - 1));
})
  where
    long : list_length new ≡ list_length old
    long = list-alike old new reshape shape size

pub zeros-later : (given : Given) (old new : Members) → IsMoved given old new → (list : ℕ → Sector) → IsTailZero old.newest list → IsTailZero new.newest list
zeros-later given old new moved list zeros = zeros-alike old.newest new.newest moved.reshape moved.shape moved.size list zeros

-- and rows of one region
pub region-later : (given : Given) (old new : Members) (shape : Shape) (among : ℕ → Type 0) → IsMoved given old new → IsOfRegion old shape among → IsOfRegion new shape among
region-later given old new shape among moved region x lt at =
    let same = for-alike old.newest new.newest moved.reshape moved.shape moved.size x in
    same ∙ region x (subst (λ (n : ℕ). x < n) (list-alike old.newest new.newest moved.reshape moved.shape moved.size) lt) (subst (λ (s : Shape). among (place s x).row) same at)

-- ---- the tape

pub grows-longer : {tells : Type 0} {before after : List Operation} → Grows tells before after → tells → length before ≤ length after
grows-longer {before = before} grows told =
    let more = grows.more told in
    subst (λ (l : List Operation). length before ≤ length l) (sym more.1) (let all = length-append before more.0 in omega (arith, all))

-- ---- in the world of an epoch

-- the same bank
pub over-at : (world : World) (given given' : Given) (told : Ledger) (members : Members) (tape : List Operation) → given' ≡ given → IsSafeOver world given told members tape → IsSafeOver world given' told members tape
over-at world given given' told members tape same safe = subst (λ (b : Given). IsSafeOver world b told members tape) (sym same) safe

pub keeps-from : (world : World) (given given' : Given) (told : Ledger) (members : Members) (before after : List Operation) → given' ≡ given → KeepsSafe world given' told members before after → KeepsSafe world given told members before after
keeps-from world given given' told members before after same keeps = subst (λ (b : Given). KeepsSafe world b told members before after) same keeps
