pub mod Texts
pub mod Reopening
pub mod NothingDone
pub mod Done
pub mod Unfailed
pub mod Marks
pub mod Ends
pub use Rattle.run_session.proofs.Unmoved as run_session_Unmoved
