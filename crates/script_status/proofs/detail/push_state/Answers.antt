use Rattle.std.proofs.Common.{◌++◌, codes, decimal}
use Rattle.script_status.specs.Texts.{state_lines, clean_word}
use Rattle.script_status.proofs.Grouped.{regroup}
use Rattle.script_status.proofs.detail.push_state.Goals as goal
use Rattle.script.proofs.AppendLaws.{then, retold, failed, longer}

pub returns-in_err-push_counted_line-clause-appended : goal.returns-in_err-push_counted_line-clause-appended
unfolding state_lines
returns-in_err-push_counted_line-clause-appended c = failed c.from_residual.ensures.0 (retold (regroup ((codes "size " ++ decimal c.args.status.now.size ++ codes "\n") ++ (codes "visible " ++ decimal c.args.status.now.visible ++ codes "\n")) (codes "state ") (clean_word c.args.status.now.clean) (codes "\n") (codes "events " ++ decimal c.args.status.now.events ++ codes "\n")) (longer (codes "\nevents " ++ decimal c.args.status.now.events ++ codes "\n") (longer (clean_word c.args.status.now.clean) (longer (codes "state ") (longer (codes "visible " ++ decimal c.args.status.now.visible ++ codes "\n") c.in_err-push_counted_line.ensures.appended)))))

pub returns-in_err-push_counted_line-2-clause-appended : goal.returns-in_err-push_counted_line-2-clause-appended
unfolding state_lines
returns-in_err-push_counted_line-2-clause-appended c = failed c.from_residual-in_err-push_counted_line-2.ensures.0 (retold (regroup ((codes "size " ++ decimal c.args.status.now.size ++ codes "\n") ++ (codes "visible " ++ decimal c.args.status.now.visible ++ codes "\n")) (codes "state ") (clean_word c.args.status.now.clean) (codes "\n") (codes "events " ++ decimal c.args.status.now.events ++ codes "\n")) (longer (codes "\nevents " ++ decimal c.args.status.now.events ++ codes "\n") (longer (clean_word c.args.status.now.clean) (longer (codes "state ") (then c.in_ok-push_counted_line.ensures.appended c.in_err-push_counted_line-2.ensures.appended)))))

pub returns-in_err-push_words-clause-appended : goal.returns-in_err-push_words-clause-appended
unfolding state_lines
returns-in_err-push_words-clause-appended c = failed c.from_residual-in_err-push_words.ensures.0 (retold (regroup ((codes "size " ++ decimal c.args.status.now.size ++ codes "\n") ++ (codes "visible " ++ decimal c.args.status.now.visible ++ codes "\n")) (codes "state ") (clean_word c.args.status.now.clean) (codes "\n") (codes "events " ++ decimal c.args.status.now.events ++ codes "\n")) (longer (codes "\nevents " ++ decimal c.args.status.now.events ++ codes "\n") (longer (clean_word c.args.status.now.clean) (then (then c.in_ok-push_counted_line.ensures.appended c.in_ok-push_counted_line-2.ensures.appended) c.in_err-push_words.ensures.appended))))

pub returns-in_err-push_words-2-clause-appended : goal.returns-in_err-push_words-2-clause-appended
unfolding state_lines
returns-in_err-push_words-2-clause-appended c = failed c.from_residual-in_err-push_words-2.ensures.0 (retold (regroup ((codes "size " ++ decimal c.args.status.now.size ++ codes "\n") ++ (codes "visible " ++ decimal c.args.status.now.visible ++ codes "\n")) (codes "state ") (clean_word c.args.status.now.clean) (codes "\n") (codes "events " ++ decimal c.args.status.now.events ++ codes "\n")) (longer (codes "\nevents " ++ decimal c.args.status.now.events ++ codes "\n") (then (then (then c.in_ok-push_counted_line.ensures.appended c.in_ok-push_counted_line-2.ensures.appended) c.in_ok-push_words.ensures.appended) (retold (c.clean_name.ensures.word) c.in_err-push_words-2.ensures.appended))))

pub returns-clause-appended : goal.returns-clause-appended
unfolding state_lines
returns-clause-appended c = retold (regroup ((codes "size " ++ decimal c.args.status.now.size ++ codes "\n") ++ (codes "visible " ++ decimal c.args.status.now.visible ++ codes "\n")) (codes "state ") (clean_word c.args.status.now.clean) (codes "\n") (codes "events " ++ decimal c.args.status.now.events ++ codes "\n")) (then (then (then (then c.in_ok-push_counted_line.ensures.appended c.in_ok-push_counted_line-2.ensures.appended) c.in_ok-push_words.ensures.appended) (retold (c.clean_name.ensures.word) c.in_ok-push_words-2.ensures.appended)) c.push_counted_line-3.ensures.appended)
