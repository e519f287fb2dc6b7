pub mod EntryList
pub mod ActiveSection
pub mod Stands
pub mod World
pub mod Flat
pub mod Losses
pub mod Transfers
pub mod Legal
pub mod CrashSafe
pub mod Reshaped
pub mod Settled
pub mod Fits
pub mod Growing
pub mod Opened
pub mod Sound
pub mod Left
pub mod Epochs
pub mod Same
pub mod Images
pub mod Seen
pub mod Created
pub mod Plain
pub mod Reopened
pub mod OneShape
pub use Rattle.sb_read_laws.specs.sb_specs_Reading
pub use Rattle.sb_read_laws.specs.sb_specs_Same
pub use Rattle.sb_read_laws.specs.sb_specs_the_Members
pub use Rattle.sb_read_laws.specs.sb_specs_Verdict
pub use Rattle.sb_read_laws.specs.sb_specs_Reads
pub use Rattle.sb_read_laws.specs.Said as sb_read_laws_Said
pub use Rattle.sb_read_laws.specs.Following as sb_read_laws_Following
pub use Rattle.sb_read_laws.specs.sb_specs_the_Change
pub use Rattle.sb_read_laws.specs.sb_specs_Updating
pub use Rattle.sb_read_laws.specs.sb_specs_Outcome
pub use Rattle.sb_read_laws.specs.sb_specs_Rounds
pub use Rattle.sb_read_laws.specs.sb_specs_Losing
pub use Rattle.sb_read_laws.specs.sb_specs_Update
pub use Rattle.sb_read_laws.specs.sb_specs_Held
pub use Rattle.sb_read_laws.specs.sb_specs_Plans
pub use Rattle.sb_read_laws.specs.sb_specs_Crash
pub use Rattle.sb_read_laws.specs.sb_specs_Stages
pub use Rattle.sb_read_laws.specs.sb_specs_the_Give_TheVariants
pub use Rattle.sb_read_laws.specs.sb_specs_the_Give
pub use Rattle.sb_read_laws.specs.sb_specs_Writing
pub use Rattle.sb_read_laws.specs.sb_specs_Found
pub use Rattle.bank_backup.specs.Section as bank_backup_Section
pub use Rattle.bank_backup.specs.Storing as bank_backup_Storing
pub use Rattle.bank_backup.specs.Written as bank_backup_Written
pub use Rattle.bank_backup.specs.declared.section.SectionFault as bank_backup_the_SectionFault
pub use Rattle.bank_backup.specs.declared.section.SectionFault.TheVariants as bank_backup_the_SectionFault_TheVariants
pub use Rattle.bank.specs.Given as bank_Given
pub use Rattle.bank.specs.Tape as bank_Tape
pub use Rattle.bank.specs.Whole as bank_Whole
pub use Rattle.bank.specs.declared.bank.Operation as bank_the_Operation
pub use Rattle.bank.specs.declared.bank.Operation.TheVariants as bank_the_Operation_TheVariants
pub use Rattle.reshape_plan.specs.Plans as reshape_plan_Plans
pub use Rattle.reshape_plan.specs.reshape_geometry_Geometry
pub use Rattle.raid_types.specs.Bytes as raid_types_Bytes
pub use Rattle.raid_types.specs.Search as raid_types_Search
pub use Rattle.raid_types.specs.Sectors as raid_types_Sectors
pub use Rattle.raid_types.specs.Shapes as raid_types_Shapes
pub use Rattle.raid_types.specs.declared.answers.BusyKind as raid_types_the_BusyKind
pub use Rattle.raid_types.specs.declared.answers.BusyKind.TheVariants as raid_types_the_BusyKind_TheVariants
pub use Rattle.raid_types.specs.declared.answers.Refusal as raid_types_the_Refusal
pub use Rattle.raid_types.specs.declared.answers.Refusal.TheVariants as raid_types_the_Refusal_TheVariants
pub use Rattle.raid_types.specs.declared.answers.ShapeField as raid_types_the_ShapeField
pub use Rattle.raid_types.specs.declared.answers.ShapeField.TheVariants as raid_types_the_ShapeField_TheVariants
pub use Rattle.raid_types.specs.declared.answers.Who as raid_types_the_Who
pub use Rattle.raid_types.specs.declared.places.Place as raid_types_the_Place
pub use Rattle.raid_types.specs.declared.places.RowRoles as raid_types_the_RowRoles
pub use Rattle.raid_types.specs.declared.places.Shape as raid_types_the_Shape
pub use Rattle.raid_types.specs.declared.places.Side as raid_types_the_Side
pub use Rattle.raid_types.specs.declared.places.Side.TheVariants as raid_types_the_Side_TheVariants
pub use Rattle.raid_types.specs.declared.places.Span as raid_types_the_Span
pub use Rattle.raid_types.specs.declared.status.Role as raid_types_the_Role
pub use Rattle.raid_types.specs.declared.status.Role.TheVariants as raid_types_the_Role_TheVariants
pub use Rattle.raid_types.specs.declared.status.Status as raid_types_the_Status
pub use Rattle.raid_types.specs.declared.wishes.Phase as raid_types_the_Phase
pub use Rattle.raid_types.specs.declared.wishes.Phase.TheVariants as raid_types_the_Phase_TheVariants
pub use Rattle.raid_types.specs.declared.wishes.Wish as raid_types_the_Wish
pub use Rattle.raid_parity.specs.Exponents as raid_parity_Exponents
pub use Rattle.raid_parity.specs.Fills as raid_parity_Fills
pub use Rattle.raid_parity.specs.Parity as raid_parity_Parity
pub use Rattle.raid_parity.specs.Rows as raid_parity_Rows
pub use Rattle.raid_parity.specs.raid_gf256_Field
pub use Rattle.sb_read_laws.specs.raid_layout_Layout
pub use Rattle.sb_read_laws.specs.sb_codec_Features
pub use Rattle.sb_read_laws.specs.sb_codec_Superblock
pub use Rattle.sb_read_laws.specs.sb_codec_the_Sb
pub use Rattle.sb_read_laws.specs.sb_specs_Election
