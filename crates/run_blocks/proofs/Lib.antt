pub mod ShownLaws
pub mod Shortness
pub mod BlockAnswers
pub mod Amid
mod BlockAsks
mod BlockTurns
pub use Rattle.run_line_answers.proofs.run_specs_Growth
pub use Rattle.run_line_answers.proofs.run_specs_AskLaws
pub use Rattle.run_line_answers.proofs.run_requests_Legal
pub use Rattle.run_line_answers.proofs.run_requests_RecordLaws
pub use Rattle.run_line_answers.proofs.run_specs_Turned
pub use Rattle.run_line_answers.proofs.run_specs_Losses
pub use Rattle.run_line_answers.proofs.Turns as run_line_answers_Turns
pub use Rattle.run_line_answers.proofs.run_specs_Plain
pub use Rattle.run_line_answers.proofs.run_specs_Worlds
pub use Rattle.run_line_answers.proofs.run_requests_Called
pub use Rattle.run_line_answers.proofs.run_requests_Writing
pub use Rattle.run_line_answers.proofs.run_specs_Causes
pub use Rattle.run_line_answers.proofs.array_members_SafeStretch
pub use Rattle.run_line_answers.proofs.array_members_MovedLaws
pub use Rattle.script_status.proofs.history_monitor_ToldLaws
