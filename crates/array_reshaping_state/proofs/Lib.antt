pub mod ReshapeLaws
pub mod DueLaws
pub mod LeftLaws
pub mod FirstLaws
pub mod PartLaws
pub use Rattle.array_call_specs.proofs.KeptLaws as array_call_specs_KeptLaws
pub use Rattle.array_call_specs.proofs.LossLaws as array_call_specs_LossLaws
pub use Rattle.array_call_specs.proofs.NowLaws as array_call_specs_NowLaws
pub use Rattle.array_call_specs.proofs.ReadyLaws as array_call_specs_ReadyLaws
pub use Rattle.array_call_specs.proofs.ReplyLaws as array_call_specs_ReplyLaws
pub use Rattle.reshape_progress.proofs.reshape_sb_updates_NewRoles
pub use Rattle.stripe_region_resync.proofs.sb_safe_updates_RefusingLaws
pub use Rattle.stripe_region_resync.proofs.sb_safe_updates_Unused
pub use Rattle.reshape_progress.proofs.crash_views_BackupLaws
pub use Rattle.array_call_specs.proofs.history_append_PlainLaws
pub use Rattle.array_call_specs.proofs.history_append_CallLaws
pub use Rattle.array_call_specs.proofs.history_append_LosingLaws
pub use Rattle.reshape_progress.proofs.array_members_Fit
pub use Rattle.reshape_progress.proofs.array_members_HeldRows
pub use Rattle.reshape_progress.proofs.array_members_LackingLaws
pub use Rattle.reshape_progress.proofs.array_members_MovedLaws
