pub mod Writing
pub mod Sizes
pub mod RecordLaws
pub mod Legal
pub mod CausedLaws
pub mod Apart
pub mod Waits
pub mod Statuses
pub mod Lefts
pub mod Called
pub mod Barred
pub use Rattle.run_specs.proofs.AskLaws as run_specs_AskLaws
pub use Rattle.run_specs.proofs.Causes as run_specs_Causes
pub use Rattle.run_specs.proofs.Growth as run_specs_Growth
pub use Rattle.run_specs.proofs.Losses as run_specs_Losses
pub use Rattle.run_specs.proofs.Plain as run_specs_Plain
pub use Rattle.run_specs.proofs.Turned as run_specs_Turned
pub use Rattle.run_specs.proofs.Worlds as run_specs_Worlds
pub use Rattle.run_specs.proofs.Told as run_specs_Told
pub use Rattle.run_specs.proofs.array_requests_GoneOn
pub use Rattle.run_specs.proofs.array_members_Still
pub use Rattle.run_specs.proofs.history_laws_OneShapeGrowing
pub use Rattle.run_specs.proofs.history_OneShapeLegal
pub use Rattle.run_specs.proofs.raid_types_Tabulated
pub use Rattle.run_specs.proofs.array_members_SafeStretch
pub use Rattle.run_specs.proofs.array_members_MovedLaws
