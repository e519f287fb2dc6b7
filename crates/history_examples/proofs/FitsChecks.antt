-- Replies over the created array that fit their requests, and some that don't.
use Rattle.std.proofs.Common.{◌≡◌, ℕ, [], ◌∷◌, true, false, refl, Some, None, Option, lit≤}
use Rattle.history.specs.raid_types_the_Refusal_TheVariants.{PastEnd, TooManyMissing, NoSuchRole, SlotTaken, NoSuchSlot, PastSize, Busy, SameShape, NeedSpares, NeedBackup, BackupTooSmall, Nothing, BackupFault}
use Rattle.history.specs.raid_types_the_BusyKind_TheVariants.{Resync}
use Rattle.history.specs.raid_types_the_Wish.{Wish}
use Rattle.history.specs.raid_types_Search.{tabulate, count_below, least_below}
use Rattle.history.specs.declared.events.Event.{Event}
use Rattle.history.specs.declared.events.Event.TheVariants.{Read, Planned, Refused}
use Rattle.history.specs.declared.events.Request.TheVariants.{Read as AsksRead, Flush as AsksFlush, Fail as AsksFail, Add as AsksAdd, Visible as AsksVisible, Grow as AsksGrow}
use Rattle.history.specs.declared.events.Entry.{Entry}
use Rattle.history.specs.World.{opening_list, reading_at}
use Rattle.history.specs.sb_specs_Reading.{reading}
use Rattle.history.specs.Stands.{stands}
use Rattle.history.specs.Losses.{is_gone_after}
use Rattle.history.specs.Fits.{Fits}
use Rattle.history_examples.proofs.EpochChecks.{world}

-- the first call of the script, with this event
abbrev first_reply : Event → Entry
first_reply event = record { caller = 0; number = 0; end = 0; event = event }

read-fits : Fits world [] (first_reply (Read 9 ((1 ∷ 1 ∷ []) ∷ []))) (AsksRead 9 1)
read-fits = record { answers = (refl, refl); torn = tt }

past-end-fits : Fits world [] (first_reply (Refused (PastEnd 80))) (AsksRead 79 2)
unfolding tabulate opening_list stands reading
past-end-fits = record { answers = tt; torn = tt }

early-past-end : Fits world [] (first_reply (Refused (PastEnd 80))) (AsksRead 79 1) → ⊥
unfolding tabulate opening_list stands reading
early-past-end fits = fits.answers.1 tt

late-refusal : Fits world [] (first_reply (Refused (TooManyMissing 2 1))) (AsksRead 79 2) → ⊥
unfolding tabulate opening_list stands reading
late-refusal fits = fits.answers

flush-refused : Fits world [] (first_reply (Refused BackupFault)) AsksFlush → ⊥
flush-refused fits = fits.answers

-- a whole role isn't refused; role 3 is
whole-refused : Fits world [] (first_reply (Refused (NoSuchRole 1))) (AsksFail 1) → ⊥
unfolding tabulate count_below reading reading_at is_gone_after
whole-refused fits = wrong fits.answers.1
  where
    wrong : true ≡ false → ⊥
    wrong same = absurd (cc)

fourth-refused : Fits world [] (first_reply (Refused (NoSuchRole 3))) (AsksFail 3)
unfolding tabulate count_below reading reading_at is_gone_after
fourth-refused = record { answers = (refl, refl); torn = tt }

taken : Fits world [] (first_reply (Refused (SlotTaken 2))) (AsksAdd 2)
unfolding tabulate count_below reading reading_at is_gone_after
taken = record { answers = (refl, refl); torn = tt }

no-slot : Fits world [] (first_reply (Refused (NoSuchSlot 3))) (AsksAdd 3)
no-slot = record { answers = (refl, lit≤ tt); torn = tt }

abbrev disks : ℕ → Wish
disks n = record { level = None; disks = Some n; chunk = None; layout = None }

same-shape : Fits world [] (first_reply (Refused SameShape)) (AsksGrow (disks 3))
unfolding tabulate reading reading_at
same-shape = record { answers = refl; torn = tt }

not-same-shape : Fits world [] (first_reply (Refused SameShape)) (AsksGrow (disks 4)) → ⊥
unfolding tabulate reading reading_at
not-same-shape fits = wrong fits.answers
  where
    wrong : ◌≡◌ {A = Option _} None (Some SameShape) → ⊥
    wrong same = absurd (cc)

need-spares : Fits world [] (first_reply (Refused (NeedSpares 0 1))) (AsksGrow (disks 4))
unfolding tabulate count_below reading reading_at is_gone_after
need-spares = record { answers = (refl, lit≤ tt, refl); torn = tt }

need-backup : Fits world [] (first_reply (Refused NeedBackup)) (AsksGrow (disks 4))
unfolding tabulate least_below reading reading_at
need-backup = record { answers = (refl, lit≤ tt); torn = tt }

-- three disks to four, 40 rows: the start, two windows of 4 steps, a zeroed stripe, and the end
planned : Fits world [] (first_reply (Planned 11 (disks 4))) (AsksGrow (disks 4))
unfolding tabulate least_below reading reading_at
planned = record { answers = (refl, (refl, refl)); torn = tt }

-- nothing is planned for a wish that changes nothing
not-planned : (left : ℕ) → Fits world [] (first_reply (Planned left (disks 3))) (AsksGrow (disks 3)) → ⊥
unfolding tabulate reading reading_at
not-planned left fits = wrong fits.answers.1.0
  where
    wrong : ◌≡◌ {A = Option _} (Some SameShape) None → ⊥
    wrong same = absurd (cc)

-- a read isn't answered by nothing pending
read-nothing : Fits world [] (first_reply (Refused Nothing)) (AsksRead 0 1) → ⊥
unfolding tabulate opening_list stands reading
read-nothing fits = fits.answers.0

-- a limit past the length is refused; no limit never is, nor is any for a resync
past-size : Fits world [] (first_reply (Refused (PastSize 80))) (AsksVisible (Some 81))
unfolding tabulate opening_list stands reading
past-size = record { answers = (refl, lit≤ tt); torn = tt }

no-limit : (n : ℕ) → Fits world [] (first_reply (Refused (PastSize n))) (AsksVisible None) → ⊥
no-limit n fits = fits.answers.1

limit-in-resync : (limit : Option ℕ) → Fits world [] (first_reply (Refused (Busy Resync))) (AsksVisible limit) → ⊥
limit-in-resync limit fits = fits.answers

-- without a backup slot none is too small
no-small-backup : Fits world [] (first_reply (Refused (BackupTooSmall 0 8))) (AsksGrow (disks 4)) → ⊥
no-small-backup fits = wrong fits.answers.0
  where
    wrong : false ≡ true → ⊥
    wrong same = absurd (cc)
