pub mod Done
pub mod Outside
pub mod Relied
pub use Rattle.history_whole_laws.proofs.Whole as history_whole_laws_Whole
pub use Rattle.array_reply_specs.proofs.raid_types_Tabulated
