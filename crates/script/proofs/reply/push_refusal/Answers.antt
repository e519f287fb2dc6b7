use Rattle.std.proofs.Common.{ℕ, ◌+◌, ◌≤◌, ◌∷◌, [], codes, decimal, sym, ap, ◌∙◌, lit≤, arith}
use Rattle.script.specs.Texts.{refused, refusal_text}
use Rattle.script.proofs.AppendLaws.{retold, at_most}
use Rattle.script.proofs.reply.push_refusal.Goals as goal

fits_word : (w : ℕ) → w ≤ 7 → 35 + w ≤ 100
fits_word w le = omega arith

fits_field : (w : ℕ) → w ≤ 7 → 39 + w ≤ 100
fits_field w le = omega arith

pub returns-in-PastEnd-clause-appended : goal.returns-in-PastEnd-clause-appended
returns-in-PastEnd-clause-appended c = retold (ap refusal_text (sym c.in-PastEnd.is)) c.push_refused.ensures.appended

pub returns-in-PastEnd-clause-short : goal.returns-in-PastEnd-clause-short
returns-in-PastEnd-clause-short c = at_most 100 (lit≤ tt) c.push_refused.ensures.short

pub returns-in-TooManyMissing-clause-appended : goal.returns-in-TooManyMissing-clause-appended
returns-in-TooManyMissing-clause-appended c = retold (ap refusal_text (sym c.in-TooManyMissing.is)) c.push_pair.ensures.appended

pub returns-in-TooManyMissing-clause-short : goal.returns-in-TooManyMissing-clause-short
returns-in-TooManyMissing-clause-short c = at_most 100 (lit≤ tt) c.push_pair.ensures.short

pub returns-in-NotResynced-clause-appended : goal.returns-in-NotResynced-clause-appended
returns-in-NotResynced-clause-appended c = retold (ap (λ v. refused 3 (codes "NotResynced") (decimal v ∷ [])) c.from.ensures ∙ ap refusal_text (sym c.in-NotResynced.is)) c.push_refused-in-NotResynced.ensures.appended

pub returns-in-NotResynced-clause-short : goal.returns-in-NotResynced-clause-short
returns-in-NotResynced-clause-short c = at_most 100 (lit≤ tt) c.push_refused-in-NotResynced.ensures.short

pub returns-in-BackupFault-clause-appended : goal.returns-in-BackupFault-clause-appended
returns-in-BackupFault-clause-appended c = retold (ap refusal_text (sym c.in-BackupFault.is)) c.push_refused-in-BackupFault.ensures.appended

pub returns-in-BackupFault-clause-short : goal.returns-in-BackupFault-clause-short
returns-in-BackupFault-clause-short c = at_most 100 (lit≤ tt) c.push_refused-in-BackupFault.ensures.short

pub returns-in-NoSuchRole-clause-appended : goal.returns-in-NoSuchRole-clause-appended
returns-in-NoSuchRole-clause-appended c = retold (ap (λ v. refused 5 (codes "NoSuchRole") (decimal v ∷ [])) c.from-in-NoSuchRole.ensures ∙ ap refusal_text (sym c.in-NoSuchRole.is)) c.push_refused-in-NoSuchRole.ensures.appended

pub returns-in-NoSuchRole-clause-short : goal.returns-in-NoSuchRole-clause-short
returns-in-NoSuchRole-clause-short c = at_most 100 (lit≤ tt) c.push_refused-in-NoSuchRole.ensures.short

pub returns-in-SlotTaken-clause-appended : goal.returns-in-SlotTaken-clause-appended
returns-in-SlotTaken-clause-appended c = retold (ap (λ v. refused 6 (codes "SlotTaken") (decimal v ∷ [])) c.from-in-SlotTaken.ensures ∙ ap refusal_text (sym c.in-SlotTaken.is)) c.push_refused-in-SlotTaken.ensures.appended

pub returns-in-SlotTaken-clause-short : goal.returns-in-SlotTaken-clause-short
returns-in-SlotTaken-clause-short c = at_most 100 (lit≤ tt) c.push_refused-in-SlotTaken.ensures.short

pub returns-in-SlotTooSmall-clause-appended : goal.returns-in-SlotTooSmall-clause-appended
returns-in-SlotTooSmall-clause-appended c = retold (ap refusal_text (sym c.in-SlotTooSmall.is)) c.push_pair-in-SlotTooSmall.ensures.appended

pub returns-in-SlotTooSmall-clause-short : goal.returns-in-SlotTooSmall-clause-short
returns-in-SlotTooSmall-clause-short c = at_most 100 (lit≤ tt) c.push_pair-in-SlotTooSmall.ensures.short

pub returns-in-PastSize-clause-appended : goal.returns-in-PastSize-clause-appended
returns-in-PastSize-clause-appended c = retold (ap refusal_text (sym c.in-PastSize.is)) c.push_refused-in-PastSize.ensures.appended

pub returns-in-PastSize-clause-short : goal.returns-in-PastSize-clause-short
returns-in-PastSize-clause-short c = at_most 100 (lit≤ tt) c.push_refused-in-PastSize.ensures.short

pub returns-in-SlotFault-clause-appended : goal.returns-in-SlotFault-clause-appended
returns-in-SlotFault-clause-appended c = retold (ap (λ v. refused 9 (codes "SlotFault") (decimal v ∷ [])) c.from-in-SlotFault.ensures ∙ ap refusal_text (sym c.in-SlotFault.is)) c.push_refused-in-SlotFault.ensures.appended

pub returns-in-SlotFault-clause-short : goal.returns-in-SlotFault-clause-short
returns-in-SlotFault-clause-short c = at_most 100 (lit≤ tt) c.push_refused-in-SlotFault.ensures.short

pub returns-in-Busy-clause-appended : goal.returns-in-Busy-clause-appended
returns-in-Busy-clause-appended c = retold (ap (λ w. refused 10 (codes "Busy") (w ∷ [])) c.busy_name.ensures.word ∙ ap refusal_text (sym c.in-Busy.is)) c.push_worded.ensures.appended

pub returns-in-Busy-clause-short : goal.returns-in-Busy-clause-short
returns-in-Busy-clause-short c = at_most 100 (fits_word _ c.busy_name.ensures.short) c.push_worded.ensures.short

pub returns-in-Degraded-clause-appended : goal.returns-in-Degraded-clause-appended
returns-in-Degraded-clause-appended c = retold (ap (λ v. refused 11 (codes "Degraded") (decimal v ∷ [])) c.from-in-Degraded.ensures ∙ ap refusal_text (sym c.in-Degraded.is)) c.push_refused-in-Degraded.ensures.appended

pub returns-in-Degraded-clause-short : goal.returns-in-Degraded-clause-short
returns-in-Degraded-clause-short c = at_most 100 (lit≤ tt) c.push_refused-in-Degraded.ensures.short

pub returns-in-SameShape-clause-appended : goal.returns-in-SameShape-clause-appended
returns-in-SameShape-clause-appended c = retold (ap refusal_text (sym c.in-SameShape.is)) c.push_refused-in-SameShape.ensures.appended

pub returns-in-SameShape-clause-short : goal.returns-in-SameShape-clause-short
returns-in-SameShape-clause-short c = at_most 100 (lit≤ tt) c.push_refused-in-SameShape.ensures.short

pub returns-in-BadShape-clause-appended : goal.returns-in-BadShape-clause-appended
returns-in-BadShape-clause-appended c = retold (ap (λ w. refused 13 (codes "BadShape") (w ∷ [])) c.field_name.ensures.word ∙ ap refusal_text (sym c.in-BadShape.is)) c.push_worded-in-BadShape.ensures.appended

pub returns-in-BadShape-clause-short : goal.returns-in-BadShape-clause-short
returns-in-BadShape-clause-short c = at_most 100 (fits_field _ c.field_name.ensures.short) c.push_worded-in-BadShape.ensures.short

pub returns-in-SizeNotMultiple-clause-appended : goal.returns-in-SizeNotMultiple-clause-appended
returns-in-SizeNotMultiple-clause-appended c = retold (ap refusal_text (sym c.in-SizeNotMultiple.is)) c.push_pair-in-SizeNotMultiple.ensures.appended

pub returns-in-SizeNotMultiple-clause-short : goal.returns-in-SizeNotMultiple-clause-short
returns-in-SizeNotMultiple-clause-short c = at_most 100 (lit≤ tt) c.push_pair-in-SizeNotMultiple.ensures.short

pub returns-in-NeedSpares-clause-appended : goal.returns-in-NeedSpares-clause-appended
returns-in-NeedSpares-clause-appended c = retold (ap refusal_text (sym c.in-NeedSpares.is)) c.push_pair-in-NeedSpares.ensures.appended

pub returns-in-NeedSpares-clause-short : goal.returns-in-NeedSpares-clause-short
returns-in-NeedSpares-clause-short c = at_most 100 (lit≤ tt) c.push_pair-in-NeedSpares.ensures.short

pub returns-in-NeedBackup-clause-appended : goal.returns-in-NeedBackup-clause-appended
returns-in-NeedBackup-clause-appended c = retold (ap refusal_text (sym c.in-NeedBackup.is)) c.push_refused-in-NeedBackup.ensures.appended

pub returns-in-NeedBackup-clause-short : goal.returns-in-NeedBackup-clause-short
returns-in-NeedBackup-clause-short c = at_most 100 (lit≤ tt) c.push_refused-in-NeedBackup.ensures.short

pub returns-in-BackupTooSmall-clause-appended : goal.returns-in-BackupTooSmall-clause-appended
returns-in-BackupTooSmall-clause-appended c = retold (ap refusal_text (sym c.in-BackupTooSmall.is)) c.push_pair-in-BackupTooSmall.ensures.appended

pub returns-in-BackupTooSmall-clause-short : goal.returns-in-BackupTooSmall-clause-short
returns-in-BackupTooSmall-clause-short c = at_most 100 (lit≤ tt) c.push_pair-in-BackupTooSmall.ensures.short

pub returns-in-ArraySizeFirst-clause-appended : goal.returns-in-ArraySizeFirst-clause-appended
returns-in-ArraySizeFirst-clause-appended c = retold (ap refusal_text (sym c.in-ArraySizeFirst.is)) c.push_pair-in-ArraySizeFirst.ensures.appended

pub returns-in-ArraySizeFirst-clause-short : goal.returns-in-ArraySizeFirst-clause-short
returns-in-ArraySizeFirst-clause-short c = at_most 100 (lit≤ tt) c.push_pair-in-ArraySizeFirst.ensures.short

pub returns-in-Nothing-clause-appended : goal.returns-in-Nothing-clause-appended
returns-in-Nothing-clause-appended c = retold (ap refusal_text (sym c.in-Nothing.is)) c.push_refused-in-Nothing.ensures.appended

pub returns-in-Nothing-clause-short : goal.returns-in-Nothing-clause-short
returns-in-Nothing-clause-short c = at_most 100 (lit≤ tt) c.push_refused-in-Nothing.ensures.short

pub returns-in-NoSuperblock-clause-appended : goal.returns-in-NoSuperblock-clause-appended
returns-in-NoSuperblock-clause-appended c = retold (ap refusal_text (sym c.in-NoSuperblock.is)) c.push_refused-in-NoSuperblock.ensures.appended

pub returns-in-NoSuperblock-clause-short : goal.returns-in-NoSuperblock-clause-short
returns-in-NoSuperblock-clause-short c = at_most 100 (lit≤ tt) c.push_refused-in-NoSuperblock.ensures.short

pub returns-in-Unsupported-clause-appended : goal.returns-in-Unsupported-clause-appended
returns-in-Unsupported-clause-appended c = retold (ap refusal_text (sym c.in-Unsupported.is)) c.push_refused-in-Unsupported.ensures.appended

pub returns-in-Unsupported-clause-short : goal.returns-in-Unsupported-clause-short
returns-in-Unsupported-clause-short c = at_most 100 (lit≤ tt) c.push_refused-in-Unsupported.ensures.short

pub returns-in-BadField-clause-appended : goal.returns-in-BadField-clause-appended
returns-in-BadField-clause-appended c = retold (ap refusal_text (sym c.in-BadField.is)) c.push_refused-in-BadField.ensures.appended

pub returns-in-BadField-clause-short : goal.returns-in-BadField-clause-short
returns-in-BadField-clause-short c = at_most 100 (lit≤ tt) c.push_refused-in-BadField.ensures.short

pub returns-in-TwoHolders-clause-appended : goal.returns-in-TwoHolders-clause-appended
returns-in-TwoHolders-clause-appended c = retold (ap (λ v. refused 23 (codes "TwoHolders") (decimal v ∷ [])) c.from-in-TwoHolders.ensures ∙ ap refusal_text (sym c.in-TwoHolders.is)) c.push_refused-in-TwoHolders.ensures.appended

pub returns-in-TwoHolders-clause-short : goal.returns-in-TwoHolders-clause-short
returns-in-TwoHolders-clause-short c = at_most 100 (lit≤ tt) c.push_refused-in-TwoHolders.ensures.short

pub returns-in-MembersMissing-clause-appended : goal.returns-in-MembersMissing-clause-appended
returns-in-MembersMissing-clause-appended c = retold (ap refusal_text (sym c.in-MembersMissing.is)) c.push_pair-in-MembersMissing.ensures.appended

pub returns-in-MembersMissing-clause-short : goal.returns-in-MembersMissing-clause-short
returns-in-MembersMissing-clause-short c = at_most 100 (lit≤ tt) c.push_pair-in-MembersMissing.ensures.short

pub returns-in-DirtyDegraded-clause-appended : goal.returns-in-DirtyDegraded-clause-appended
returns-in-DirtyDegraded-clause-appended c = retold (ap (λ v. refused 25 (codes "DirtyDegraded") (decimal v ∷ [])) c.from-in-DirtyDegraded.ensures ∙ ap refusal_text (sym c.in-DirtyDegraded.is)) c.push_refused-in-DirtyDegraded.ensures.appended

pub returns-in-DirtyDegraded-clause-short : goal.returns-in-DirtyDegraded-clause-short
returns-in-DirtyDegraded-clause-short c = at_most 100 (lit≤ tt) c.push_refused-in-DirtyDegraded.ensures.short

pub returns-in-PositionNotOnUnit-clause-appended : goal.returns-in-PositionNotOnUnit-clause-appended
returns-in-PositionNotOnUnit-clause-appended c = retold (ap refusal_text (sym c.in-PositionNotOnUnit.is)) c.push_pair-in-PositionNotOnUnit.ensures.appended

pub returns-in-PositionNotOnUnit-clause-short : goal.returns-in-PositionNotOnUnit-clause-short
returns-in-PositionNotOnUnit-clause-short c = at_most 100 (lit≤ tt) c.push_pair-in-PositionNotOnUnit.ensures.short

pub returns-in-BackupAbsent-clause-appended : goal.returns-in-BackupAbsent-clause-appended
returns-in-BackupAbsent-clause-appended c = retold (ap refusal_text (sym c.in-BackupAbsent.is)) c.push_refused-in-BackupAbsent.ensures.appended

pub returns-in-BackupAbsent-clause-short : goal.returns-in-BackupAbsent-clause-short
returns-in-BackupAbsent-clause-short c = at_most 100 (lit≤ tt) c.push_refused-in-BackupAbsent.ensures.short

pub returns-in-NotRunning-clause-appended : goal.returns-in-NotRunning-clause-appended
returns-in-NotRunning-clause-appended c = retold (ap refusal_text (sym c.in-NotRunning.is)) c.push_refused-in-NotRunning.ensures.appended

pub returns-in-NotRunning-clause-short : goal.returns-in-NotRunning-clause-short
returns-in-NotRunning-clause-short c = at_most 100 (lit≤ tt) c.push_refused-in-NotRunning.ensures.short

pub returns-in-Running-clause-appended : goal.returns-in-Running-clause-appended
returns-in-Running-clause-appended c = retold (ap refusal_text (sym c.in-Running.is)) c.push_refused-in-Running.ensures.appended

pub returns-in-Running-clause-short : goal.returns-in-Running-clause-short
returns-in-Running-clause-short c = at_most 100 (lit≤ tt) c.push_refused-in-Running.ensures.short

pub returns-in-NoSuchSlot-clause-appended : goal.returns-in-NoSuchSlot-clause-appended
returns-in-NoSuchSlot-clause-appended c = retold (ap (λ v. refused 30 (codes "NoSuchSlot") (decimal v ∷ [])) c.from-in-NoSuchSlot.ensures ∙ ap refusal_text (sym c.in-NoSuchSlot.is)) c.push_refused-in-NoSuchSlot.ensures.appended

pub returns-in-NoSuchSlot-clause-short : goal.returns-in-NoSuchSlot-clause-short
returns-in-NoSuchSlot-clause-short c = at_most 100 (lit≤ tt) c.push_refused-in-NoSuchSlot.ensures.short

pub returns-in-UuidInUse-clause-appended : goal.returns-in-UuidInUse-clause-appended
returns-in-UuidInUse-clause-appended c = retold (ap (λ v. refused 31 (codes "UuidInUse") (decimal v ∷ [])) c.from-in-UuidInUse.ensures ∙ ap refusal_text (sym c.in-UuidInUse.is)) c.push_refused-in-UuidInUse.ensures.appended

pub returns-in-UuidInUse-clause-short : goal.returns-in-UuidInUse-clause-short
returns-in-UuidInUse-clause-short c = at_most 100 (lit≤ tt) c.push_refused-in-UuidInUse.ensures.short
