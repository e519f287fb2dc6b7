-- Marks that leave sound images go on to, as the tape grows.
use Rattle.std.proofs.Common.{◌≡◌, ℕ, ◌≤◌, ◌==◌, inl, inr, Bool, true, false, cond, List, [], ◌∷◌, ◌++◌, length, take, None, subst, arith}
use Rattle.std.specs.Prelude.{IfSome}
use Rattle.std.proofs.lemmas.Bool.{cases_lt}
use Rattle.raid_types.specs.Sectors.{Sector}
use Rattle.bank.specs.declared.bank.Operation.{Operation}
use Rattle.bank.specs.declared.bank.Operation.TheVariants.{Write, Flush}
use Rattle.bank.specs.Tape.{Contents, IsDrawn, IsIn, disk, choices, AreFlushes}
use Rattle.bank.proofs.Laws.{contents-earlier, disk-append}
use Rattle.bank.proofs.Images.{image-drawn, image-earlier, image-now, now-image}
use Rattle.sb_read_laws.specs.sb_specs_Reading.{reading}
use Rattle.history.specs.declared.events.Entry.{Entry}
use Rattle.history.specs.World.{World, contents_at, reading_at}
use Rattle.history.specs.Stands.{verdict}
use Rattle.history.specs.Opened.{IsSound}
use Rattle.history.specs.Growing.{grown}
use Rattle.history.specs.Sound.{OpensFit, LeavesSound, StaysSound, LeavesSoundThroughout}

-- ---- the opening

pub fit-before : (world : World) (more : List Operation) → world.first ≤ length world.tape → OpensFit (grown world more) → OpensFit world
unfolding reading_at
fit-before world more begun opens = subst (λ (c : Contents). IfSome (reading world.scope c) (IsSound world.scope c)) same opens
  where
    same : contents_at (grown world more) world.first ≡ contents_at world world.first
    same = λ i slot at. contents-earlier world.start world.tape more world.first slot at begun i

-- ---- a mark

-- where all that a stop may leave is sound
pub leaves-drawn : (world : World) (mark : ℕ) → mark ≤ length world.tape
    → ((c : Contents) → IsDrawn (disk world.start (take mark world.tape)) c → verdict world.scope c ≡ None → IfSome (reading world.scope c) (IsSound world.scope c)) → LeavesSound world mark
leaves-drawn world mark within sound c image assembles = sound c (image-drawn world.start world.tape mark c within image) assembles

-- whatever is done afterwards
pub leaves-later : (world : World) (more : List Operation) (mark : ℕ) → mark ≤ length world.tape → LeavesSound world mark → LeavesSound (grown world more) mark
leaves-later world more mark within sound c image assembles = sound c (image-earlier world.start world.tape more mark c within image) assembles

flush-fewer : (ops : List Operation) → AreFlushes ops → (s k : ℕ) (vs : List Sector) (v : Sector) → IsIn (choices s k vs ops) v → IsIn vs v
flush-fewer [] are s k vs v among = among
flush-fewer (Flush t ∷ ops) are s k vs v among = first (t == s) vs v (flush-fewer ops are s k (cond (t == s) (take 1 vs) vs) v among)
  where
    first : (b : Bool) (vs : List Sector) (v : Sector) → IsIn (cond b (take 1 vs) vs) v → IsIn vs v
    first true [] v is = is
    first true (w ∷ ws) v (inl e) = inl e
    first true (w ∷ ws) v (inr none) = elim none [ ]
    first false vs v is = is
flush-fewer (Write t j w ∷ ops) are s k vs v among = absurd are

-- behind flushes, which make no new image
pub leaves-flushed : (world : World) (more : List Operation) → AreFlushes more → LeavesSound world (length world.tape) → LeavesSound (grown world more) (length (world.tape ++ more))
leaves-flushed world more are sound c image assembles = sound c (now-image world.start world.tape c (λ s k. flush-fewer more are s k (disk world.start world.tape s k) (c s k)
    (subst (λ (d : ℕ → ℕ → List Sector). IsIn (d s k) (c s k)) (disk-append world.start world.tape more) (image-now world.start (world.tape ++ more) c image s k)))) assembles

-- ---- all marks

-- a call owes the marks that it adds, and the one at which it began
pub throughout-grown : (world : World) (more : List Operation) → LeavesSoundThroughout world
    → ((mark : ℕ) → length world.tape ≤ mark → mark ≤ length (world.tape ++ more) → LeavesSound (grown world more) mark) → LeavesSoundThroughout (grown world more)
throughout-grown world more before after mark low high = elim (cases_lt mark (length world.tape)) [
  | inl early ↦ leaves-later world more mark (omega (arith, early)) (before mark low (omega (arith, early)))
  | inr late ↦ after mark (omega (arith, late)) high
]

-- an epoch all of whose marks leave sound images stays sound, wherever in the tape it ends
pub stays-throughout : (world : World) (entries : List Entry) (last : ℕ) → last ≤ length world.tape → (OpensFit world → LeavesSoundThroughout world) → StaysSound world last entries
stays-throughout world entries last within sound opens mark low high only = sound opens mark low (omega (arith, within, high))
