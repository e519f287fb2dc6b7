pub mod SameLaws
pub mod GivenLaws
pub mod SettledLaws
pub mod LegalLaws
pub mod DrawnLaws
pub mod CounterLaws
pub mod StretchLaws
pub mod VerdictLaws
pub mod FewerSlots
pub mod ReopenedLaws
pub mod GoneCounts
pub mod OneShapeGone
pub mod OneShapeLegal
pub mod OneShapeReplies
pub mod SoundLaws
pub use Rattle.sb_read_laws.proofs.SaidSlots as sb_read_laws_SaidSlots
pub use Rattle.sb_read_laws.proofs.sb_specs_ReadAlike
pub use Rattle.sb_read_laws.proofs.RoundReads as sb_read_laws_RoundReads
pub use Rattle.sb_read_laws.proofs.SaidLists as sb_read_laws_SaidLists
pub use Rattle.sb_read_laws.proofs.RoundsRead as sb_read_laws_RoundsRead
pub use Rattle.sb_read_laws.proofs.Tied as sb_read_laws_Tied
pub use Rattle.sb_read_laws.proofs.StageReads as sb_read_laws_StageReads
pub use Rattle.sb_read_laws.proofs.sb_specs_PlannedSb
pub use Rattle.sb_read_laws.proofs.sb_specs_SlotSets
pub use Rattle.sb_read_laws.proofs.sb_specs_WrittenReads
pub use Rattle.sb_read_laws.proofs.sb_specs_ReadLists
pub use Rattle.sb_read_laws.proofs.sb_specs_UpdateReads
pub use Rattle.sb_read_laws.proofs.sb_specs_ValidFields
pub use Rattle.sb_read_laws.proofs.sb_specs_StoredSlots
pub use Rattle.sb_read_laws.proofs.PlanFits as sb_read_laws_PlanFits
pub use Rattle.sb_read_laws.proofs.Following as sb_read_laws_Following
pub use Rattle.sb_read_laws.proofs.UpTo as sb_read_laws_UpTo
pub use Rattle.sb_read_laws.proofs.Accepted as sb_read_laws_Accepted
pub use Rattle.sb_read_laws.proofs.FoundHeld as sb_read_laws_FoundHeld
pub use Rattle.bank_backup.proofs.StoringLaws as bank_backup_StoringLaws
pub use Rattle.bank_backup.proofs.WrittenLaws as bank_backup_WrittenLaws
pub use Rattle.bank.proofs.Causes as bank_Causes
pub use Rattle.bank.proofs.Images as bank_Images
pub use Rattle.bank.proofs.Laws as bank_Laws
pub use Rattle.bank.proofs.Listed as bank_Listed
pub use Rattle.bank.proofs.Marks as bank_Marks
pub use Rattle.bank.proofs.Whole as bank_Whole
pub use Rattle.reshape_plan.proofs.Sound as reshape_plan_Sound
pub use Rattle.reshape_plan.proofs.reshape_geometry_ClosedForms
pub use Rattle.reshape_plan.proofs.reshape_geometry_Divisions
pub use Rattle.reshape_plan.proofs.reshape_geometry_GoingOn
pub use Rattle.reshape_plan.proofs.reshape_geometry_Rows
pub use Rattle.reshape_plan.proofs.reshape_geometry_Valid
pub use Rattle.raid_types.proofs.Counted as raid_types_Counted
pub use Rattle.raid_types.proofs.Least as raid_types_Least
pub use Rattle.raid_types.proofs.Tabulated as raid_types_Tabulated
pub use Rattle.raid_parity.proofs.Columns as raid_parity_Columns
pub use Rattle.raid_parity.proofs.Contents as raid_parity_Contents
pub use Rattle.raid_parity.proofs.Lacking as raid_parity_Lacking
pub use Rattle.raid_parity.proofs.OwnFills as raid_parity_OwnFills
pub use Rattle.raid_parity.proofs.ParityChecks as raid_parity_ParityChecks
pub use Rattle.raid_parity.proofs.Refilled as raid_parity_Refilled
pub use Rattle.raid_parity.proofs.Totals as raid_parity_Totals
pub use Rattle.raid_parity.proofs.raid_gf256_FieldLaws
pub use Rattle.sb_read_laws.proofs.raid_layout_Limits
pub use Rattle.sb_read_laws.proofs.raid_layout_Places
pub use Rattle.sb_read_laws.proofs.sb_specs_Searches
