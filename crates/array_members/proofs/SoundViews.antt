-- Images that are read as right views are sound.
use Rattle.std.proofs.Common.{◌≡◌, inl, inr, ℕ, ◌≤◌, take, take_all, List, length, ◌++◌, Option, None, sym, subst, arith}
use Rattle.std.specs.Prelude.{⊤, IfSome}
use Rattle.crash_role_laws.specs.raid_types_Sectors.{Sector}
use Rattle.crash_role_laws.specs.bank_the_Operation.{Operation}
use Rattle.crash_role_laws.specs.bank_Given.{Given}
use Rattle.crash_role_laws.specs.bank_Tape.{Contents, EachMark, IsDrawn, IsIn, disk}
use Rattle.crash_role_laws.specs.sb_specs_the_Members.{Members}
use Rattle.crash_role_laws.specs.sb_specs_Reading.{Scope, Reading, reading}
use Rattle.crash_role_laws.specs.history_Growing.{grown}
use Rattle.crash_role_laws.specs.history_Opened.{IsSound}
use Rattle.crash_role_laws.specs.history_Sound.{OpensFit, LeavesSound, LeavesSoundThroughout}
use Rattle.crash_role_laws.specs.history_Stands.{verdict}
use Rattle.crash_role_laws.specs.history_World.{World, may_hold}
use Rattle.crash_role_laws.proofs.history_SoundLaws.{fit-before, leaves-drawn, throughout-grown}
use Rattle.crash_role_laws.specs.crash_views_Views.{Disk, Ledger, IsSeenRight}
use Rattle.crash_role_laws.proofs.crash_views_SoundViews.{right-views-sound}
use Rattle.crash_role_laws.specs.crash_safety_laws_Steady.{IsSafeOver}
use Rattle.crash_role_laws.specs.crash_safety_laws_Changing.{AreEitherRight}
use Rattle.crash_role_laws.proofs.crash_safety_laws_Steady.{safe-is-seen}
use Rattle.array_members.specs.Still.{ViewsAreSound, CallsLeaveSound, ChangesLeaveSound}

-- ---- an image that is read as a right view

seen-sound : (sound : Type 0) → sound → (scope : Scope) (given : Given) (told : Ledger) (d : Disk) (c : Contents) → IsDrawn d c
    → IsSeenRight sound scope given told d c → verdict scope c ≡ None → IfSome (reading scope c) (IsSound scope c)
seen-sound sound opened scope given told d c drawn seen assembles =
    subst (λ (o : Option Reading). IfSome o (IsSound scope c)) (sym seen.is)
    (right-views-sound sound scope given told seen.view d c seen.found opened drawn seen.is seen.same seen.right assembles)

pub views-are-sound : ViewsAreSound
views-are-sound world given mark told d in_time within views opened =
    leaves-drawn world mark in_time (λ c held assembles.
    let drawn : IsDrawn d c = λ s k. within s k (c s k) (held s k) in
    seen-sound (OpensFit world) opened world.scope given told d c drawn (views c (record { eighth = λ s _. drawn s 8; ninth = λ s _. drawn s 9 })) assembles)

-- ---- where an array is safe

-- what a stop may leave now is sound
pub leaves-now : (world : World) (given : Given) (told : Ledger) (members : Members) → given.start ≡ world.start → IsSafeOver world given told members world.tape → OpensFit world
    → LeavesSound world (length world.tape)
leaves-now world given told members start safe opened =
    views-are-sound world given (length world.tape) told (disk given.start world.tape) (omega arith) same
    (safe-is-seen (OpensFit world) world.scope given told members world.tape safe) opened
  where
    same : (s k : ℕ) (v : Sector) → IsIn (may_hold world (length world.tape) s k) v → IsIn (disk given.start world.tape s k) v
    same s k v held =
        subst (λ (l : List Operation). IsIn (disk given.start l s k) v) (take_all (length world.tape) world.tape (omega arith))
        (subst (λ (at : Contents). IsIn (disk at (take (length world.tape) world.tape) s k) v) (sym start) held)

-- at the opening that is the only mark
pub throughout-opening : (world : World) (given : Given) (told : Ledger) (members : Members) → given.start ≡ world.start → world.first ≡ length world.tape
    → IsSafeOver world given told members world.tape → OpensFit world → LeavesSoundThroughout world
throughout-opening world given told members start first safe opened mark low high =
    let here : length world.tape ≡ mark = omega (arith, first, low, high) in
    subst (λ (n : ℕ). LeavesSound world n) here (leaves-now world given told members start safe opened)

-- ---- a call

module _ (world : World) (given : Given) (told more : Ledger) (ops : List Operation) (start : given.start ≡ world.start) (begun : world.first ≤ length world.tape)
    (marks : EachMark ⊤ given.start world.tape (world.tape ++ ops) (AreEitherRight (OpensFit world) world.scope given told more)) where
  -- where each image at its marks is seen right, by the one ledger or the other, it is sound
  pub leaves-kept : OpensFit (grown world ops) → (mark : ℕ) → length world.tape ≤ mark → mark ≤ length (world.tape ++ ops) → LeavesSound (grown world ops) mark
  leaves-kept opened mark low high = leaves-drawn (grown world ops) mark high (λ c held assembles.
      let drawn : IsDrawn (disk given.start (take mark (world.tape ++ ops))) c =
      subst (λ (at : Contents). IsDrawn (disk at (take mark (world.tape ++ ops))) c) (sym start) held in
      let fit = fit-before world ops begun opened in
      elim (marks.each tt mark low high c (record { eighth = λ s _. drawn s 8; ninth = λ s _. drawn s 9 })) [
        | inl seen ↦ seen-sound (OpensFit world) fit world.scope given told (disk given.start (take mark (world.tape ++ ops))) c drawn seen assembles
        | inr seen ↦ seen-sound (OpensFit world) fit world.scope given more (disk given.start (take mark (world.tape ++ ops))) c drawn seen assembles
      ])

  -- and so does every mark since the opening
  pub throughout-marked : (OpensFit world → LeavesSoundThroughout world) → OpensFit (grown world ops) → LeavesSoundThroughout (grown world ops)
  throughout-marked before opened = throughout-grown world ops (before (fit-before world ops begun opened)) (leaves-kept opened)

pub throughout-kept : CallsLeaveSound
throughout-kept world given told members ops start begun safe =
    throughout-marked world given told told ops start begun (record { longer = safe.marks.longer; earlier = safe.marks.earlier; each = λ t mark low high c drawn. inl (safe.marks.each t mark low high c drawn) })

pub throughout-changed : ChangesLeaveSound
throughout-changed world given told more members ops start begun safe = throughout-marked world given told more ops start begun safe.marks
