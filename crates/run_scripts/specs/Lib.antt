pub mod Source
pub mod Runs
pub mod Kept
pub mod Done
pub mod Complete
pub use Rattle.run_session.specs.array_members_Moving
pub use Rattle.run_session.specs.lane_shared_Pace
pub use Rattle.run_session.specs.run_specs_Ended
pub use Rattle.run_session.specs.run_specs_Histories
pub use Rattle.run_session.specs.run_specs_Making
pub use Rattle.run_session.specs.run_specs_States
pub use Rattle.history_reopen_laws.specs.bank_Given
pub use Rattle.run_session.specs.script_io_Causes
pub use Rattle.script_demo.specs.Demo as script_demo_Demo
pub use Rattle.run_session.specs.history_monitor_Hooks
pub use Rattle.run_session.specs.history_monitor_Urgent
