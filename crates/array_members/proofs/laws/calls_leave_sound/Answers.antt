use Rattle.array_members.proofs.SoundViews.{throughout-kept, throughout-changed}
use Rattle.array_members.proofs.laws.calls_leave_sound.Goals as goal

pub returns-clause-kept : goal.returns-clause-kept
returns-clause-kept c = throughout-kept

pub returns-clause-changed : goal.returns-clause-changed
returns-clause-changed c = throughout-changed
