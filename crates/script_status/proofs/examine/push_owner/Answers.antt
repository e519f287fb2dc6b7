use Rattle.std.proofs.Common.{◌++◌, codes, decimal, ap, lit≤}
use Rattle.uuid.specs.Text.{hyphenated_text, lower}
use Rattle.script.specs.sb_specs_Reading.{entry_of}
use Rattle.script_status.specs.Texts.{entry_text}
use Rattle.script_status.proofs.examine.push_owner.Goals as goal
use Rattle.script.proofs.AppendLaws.{then, retold, failed, failed_few, longer, then_few, at_most}

pub returns-in_err-push_words-clause-appended : goal.returns-in_err-push_words-clause-appended
returns-in_err-push_words-clause-appended c = failed c.from_residual.ensures.0 (longer (entry_text (entry_of c.args.sb.now c.args.sb.now.dev_number)) (longer (codes " role ") (longer (codes " dev " ++ decimal c.args.sb.now.dev_number) (longer (hyphenated_text lower c.args.sb.now.set_uuid) c.in_err-push_words.ensures.appended))))

pub returns-in_err-push_words-clause-short : goal.returns-in_err-push_words-clause-short
returns-in_err-push_words-clause-short c = failed_few c.from_residual.ensures.0 (at_most 110 (lit≤ tt) c.in_err-push_words.ensures.short)

pub returns-in_err-push_uuid-clause-appended : goal.returns-in_err-push_uuid-clause-appended
returns-in_err-push_uuid-clause-appended c = failed c.from_residual-in_err-push_uuid.ensures.0 (longer (entry_text (entry_of c.args.sb.now c.args.sb.now.dev_number)) (longer (codes " role ") (longer (codes " dev " ++ decimal c.args.sb.now.dev_number) (then c.in_ok-push_words.ensures.appended c.in_err-push_uuid.ensures.appended))))

pub returns-in_err-push_uuid-clause-short : goal.returns-in_err-push_uuid-clause-short
returns-in_err-push_uuid-clause-short c = failed_few c.from_residual-in_err-push_uuid.ensures.0 (at_most 110 (lit≤ tt) (then_few c.in_ok-push_words.ensures.short c.in_ok-push_words.ensures.appended.room c.in_err-push_uuid.ensures.short))

pub returns-in_err-push_counted-clause-appended : goal.returns-in_err-push_counted-clause-appended
returns-in_err-push_counted-clause-appended c = failed c.from_residual-in_err-push_counted.ensures.0 (longer (entry_text (entry_of c.args.sb.now c.args.sb.now.dev_number)) (longer (codes " role ") (then (then c.in_ok-push_words.ensures.appended c.in_ok-push_uuid.ensures.appended) (retold (ap (λ i. codes " dev " ++ decimal i) c.from.ensures) c.in_err-push_counted.ensures.appended))))

pub returns-in_err-push_counted-clause-short : goal.returns-in_err-push_counted-clause-short
returns-in_err-push_counted-clause-short c = failed_few c.from_residual-in_err-push_counted.ensures.0 (at_most 110 (lit≤ tt) (then_few c.in_ok-push_words.ensures.short c.in_ok-push_words.ensures.appended.room (then_few c.in_ok-push_uuid.ensures.short c.in_ok-push_uuid.ensures.appended.room c.in_err-push_counted.ensures.short)))

pub returns-in_err-push_words-2-clause-appended : goal.returns-in_err-push_words-2-clause-appended
returns-in_err-push_words-2-clause-appended c = failed c.from_residual-in_err-push_words-2.ensures.0 (longer (entry_text (entry_of c.args.sb.now c.args.sb.now.dev_number)) (then (then (then c.in_ok-push_words.ensures.appended c.in_ok-push_uuid.ensures.appended) (retold (ap (λ i. codes " dev " ++ decimal i) c.from.ensures) c.in_ok-push_counted.ensures.appended)) c.in_err-push_words-2.ensures.appended))

pub returns-in_err-push_words-2-clause-short : goal.returns-in_err-push_words-2-clause-short
returns-in_err-push_words-2-clause-short c = failed_few c.from_residual-in_err-push_words-2.ensures.0 (at_most 110 (lit≤ tt) (then_few c.in_ok-push_words.ensures.short c.in_ok-push_words.ensures.appended.room (then_few c.in_ok-push_uuid.ensures.short c.in_ok-push_uuid.ensures.appended.room (then_few c.in_ok-push_counted.ensures.short c.in_ok-push_counted.ensures.appended.room c.in_err-push_words-2.ensures.short))))

pub returns-clause-appended : goal.returns-clause-appended
returns-clause-appended c = then (then (then (then c.in_ok-push_words.ensures.appended c.in_ok-push_uuid.ensures.appended) (retold (ap (λ i. codes " dev " ++ decimal i) c.from.ensures) c.in_ok-push_counted.ensures.appended)) c.in_ok-push_words-2.ensures.appended) (retold (ap entry_text c.entry_of.ensures) c.push_entry.ensures.appended)

pub returns-clause-short : goal.returns-clause-short
returns-clause-short c = at_most 110 (lit≤ tt) (then_few c.in_ok-push_words.ensures.short c.in_ok-push_words.ensures.appended.room (then_few c.in_ok-push_uuid.ensures.short c.in_ok-push_uuid.ensures.appended.room (then_few c.in_ok-push_counted.ensures.short c.in_ok-push_counted.ensures.appended.room (then_few c.in_ok-push_words-2.ensures.short c.in_ok-push_words-2.ensures.appended.room c.push_entry.ensures.short))))
