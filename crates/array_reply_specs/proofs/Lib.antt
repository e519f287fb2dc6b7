pub mod Fitting
pub mod GoneOn
pub use Rattle.array_specs.proofs.array_call_specs_LossLaws
pub use Rattle.array_specs.proofs.array_call_specs_NowLaws
pub use Rattle.array_specs.proofs.array_call_specs_ReadyLaws
pub use Rattle.array_specs.proofs.array_call_specs_ReplyLaws
pub use Rattle.array_specs.proofs.array_call_laws_AdoptingLaws
pub use Rattle.array_specs.proofs.reshape_sb_updates_NewRoles
pub use Rattle.bank.proofs.Causes as bank_Causes
pub use Rattle.bank.proofs.raid_types_Tabulated
pub use Rattle.array_specs.proofs.history_append_CallLaws
pub use Rattle.array_specs.proofs.history_append_LeftLaws
pub use Rattle.array_specs.proofs.history_append_LosingLaws
pub use Rattle.array_specs.proofs.history_append_PlainLaws
