pub mod Ending
pub mod Examined
pub mod Found
pub mod Turns
pub use Rattle.run_requests.proofs.run_specs_AskLaws
pub use Rattle.run_requests.proofs.run_specs_Causes
pub use Rattle.run_requests.proofs.run_specs_Growth
pub use Rattle.run_requests.proofs.Legal as run_requests_Legal
pub use Rattle.run_requests.proofs.run_specs_Losses
pub use Rattle.run_requests.proofs.run_specs_Plain
pub use Rattle.run_requests.proofs.RecordLaws as run_requests_RecordLaws
pub use Rattle.run_requests.proofs.run_specs_Turned
pub use Rattle.run_requests.proofs.run_specs_Worlds
pub use Rattle.run_requests.proofs.Writing as run_requests_Writing
pub use Rattle.run_requests.proofs.Apart as run_requests_Apart
pub use Rattle.run_requests.proofs.Sizes as run_requests_Sizes
pub use Rattle.run_requests.proofs.run_specs_Told
pub use Rattle.run_requests.proofs.array_requests_GoneOn
pub use Rattle.run_requests.proofs.Called as run_requests_Called
pub use Rattle.run_requests.proofs.array_members_SafeStretch
pub use Rattle.run_requests.proofs.array_members_MovedLaws
