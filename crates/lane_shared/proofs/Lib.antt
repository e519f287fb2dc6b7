mod Done
mod Turns
mod Ran
mod Answered
mod Carried
pub use Rattle.history_caller_laws.proofs.BeforeLaws as history_caller_laws_BeforeLaws
pub use Rattle.history_caller_laws.proofs.PlaceLaws as history_caller_laws_PlaceLaws
mod Ends
mod RowLaws
pub use Rattle.array_requests.proofs.raid_types_Tabulated
