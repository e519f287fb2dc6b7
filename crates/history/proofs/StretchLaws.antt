-- One more operation, and a bound over a stretch of them.
use Rattle.std.proofs.Common.{◌≡◌, ◌⊎◌, ℕ, ◌≤◌, List, ◌++◌, sym, subst}
use Rattle.bank.specs.Tape.{Contents, disk, EachMark}
use Rattle.bank.specs.Stretches.{IsBoundedBy}
use Rattle.bank.proofs.Images.{image-flushed, image-written}
use Rattle.bank.proofs.Marks.{each_mark-along}
use Rattle.bank.proofs.Stretches.{bounded-along, bounded-image}
use Rattle.history.specs.declared.events.Entry.{Entry}
use Rattle.history.specs.World.{World}
use Rattle.history.specs.Growing.{grown}
use Rattle.history.specs.CrashSafe.{made_by, may_be_made, MayBeJudgedBy, StandsFor, IsRefusedRightly, IsJudged}
use Rattle.history.specs.Images.{FlushesMakeNoImage, WritesMakeTheirImages, BoundsServeEachMark}

pub flushes-make-none : FlushesMakeNoImage
flushes-make-none start tape slot c image = image-flushed start tape slot c image

pub writes-make-theirs : WritesMakeTheirImages
writes-make-theirs start tape slot at bytes c image = image-written start tape slot at bytes c image

-- ---- a bound

-- an image that is judged by so many made entries, up to j
JudgedBy : World → List Entry → Contents → ℕ → ℕ → Type 0
JudgedBy world entries c k j = (k ≤ j) × (j ≤ may_be_made entries k)
    × (((judged : List Entry) × MayBeJudgedBy world entries k j judged × StandsFor world judged c) ⊎ IsRefusedRightly world entries k j c)

rejudged : (world : World) (entries : List Entry) (c : Contents) (about mark : ℕ) → made_by mark entries ≡ made_by about entries
    → IsJudged world entries about c → IsJudged world entries mark c
unfolding JudgedBy
rejudged world entries c about mark same judged =
    let all : JudgedBy world entries c (made_by mark entries) judged.j =
    subst (λ k. JudgedBy world entries c k judged.j) (sym same) (judged.made, judged.running, judged.judgement) in
    record { j = judged.j; made = all.0; running = all.1; judgement = all.2 }

pub bounds-serve : BoundsServeEachMark
bounds-serve world entries more bound bounded within about mark low high same safe c image =
    let along : EachMark (Unit {0}) world.start world.tape (world.tape ++ more) (IsBoundedBy bound) =
    each_mark-along (Unit {0}) world.start world.tape more (IsBoundedBy bound) (bounded-along bound (disk world.start world.tape) more bounded within) in
    rejudged (grown world more) entries c about mark same
    (safe c (bounded-image world.start bound world.tape (world.tape ++ more) along tt mark low high c image))
