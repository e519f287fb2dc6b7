pub mod Backups
pub mod Regions
pub mod Sound
pub mod Views
pub mod Windows
pub use Rattle.stripe_list.specs.Writing as stripe_list_Writing
pub use Rattle.stripe_list.specs.Full as stripe_list_Full
pub use Rattle.history.specs.Stands as history_Stands
pub use Rattle.history.specs.Same as history_Same
pub use Rattle.history.specs.World as history_World
pub use Rattle.history.specs.Sound as history_Sound
pub use Rattle.history.specs.ActiveSection as history_ActiveSection
pub use Rattle.stripe_list.specs.stripe_row_Rows
pub use Rattle.history.specs.sb_read_laws_Said
pub use Rattle.history.specs.sb_read_laws_Following
pub use Rattle.history.specs.sb_specs_the_Change
pub use Rattle.history.specs.sb_specs_the_Members
pub use Rattle.history.specs.sb_specs_Updating
pub use Rattle.history.specs.sb_specs_Outcome
pub use Rattle.history.specs.sb_specs_Rounds
pub use Rattle.history.specs.sb_specs_Losing
pub use Rattle.history.specs.sb_specs_Reading
pub use Rattle.history.specs.sb_specs_Update
pub use Rattle.history.specs.sb_specs_Held
pub use Rattle.history.specs.sb_specs_Reads
pub use Rattle.history.specs.sb_specs_Plans
pub use Rattle.history.specs.sb_specs_Crash
pub use Rattle.history.specs.sb_specs_Stages
pub use Rattle.history.specs.sb_specs_the_Give_TheVariants
pub use Rattle.history.specs.sb_specs_the_Give
pub use Rattle.history.specs.sb_specs_Writing
pub use Rattle.history.specs.sb_specs_Verdict
pub use Rattle.history.specs.declared.events.Event.TheVariants as history_the_Event_TheVariants
pub use Rattle.history.specs.Flat as history_Flat
pub use Rattle.history.specs.declared.events.Entry as history_the_Entry
pub use Rattle.history.specs.Opened as history_Opened
pub use Rattle.stripe_list.specs.stripe_row_Writes
pub use Rattle.stripe_list.specs.declared.outcome.Unavailable as stripe_list_the_Unavailable
pub use Rattle.stripe_list.specs.declared.outcome.Unavailable.TheVariants as stripe_list_the_Unavailable_TheVariants
pub use Rattle.stripe_list.specs.Buffers as stripe_list_Buffers
pub use Rattle.stripe_list.specs.Calls as stripe_list_Calls
pub use Rattle.history.specs.declared.events.Event as history_the_Event
pub use Rattle.history.specs.Growing as history_Growing
pub use Rattle.history.specs.declared.events.StepKind.TheVariants as history_the_StepKind_TheVariants
pub use Rattle.history.specs.Legal as history_Legal
pub use Rattle.history.specs.OneShape as history_OneShape
pub use Rattle.history.specs.Plain as history_Plain
pub use Rattle.history.specs.Reshaped as history_Reshaped
pub use Rattle.history.specs.Transfers as history_Transfers
pub use Rattle.history.specs.Losses as history_Losses
pub use Rattle.history.specs.CrashSafe as history_CrashSafe
pub use Rattle.history.specs.declared.events.LostCause.TheVariants as history_the_LostCause_TheVariants
pub use Rattle.history.specs.Epochs as history_Epochs
pub use Rattle.history.specs.declared.events.StepKind as history_the_StepKind
pub use Rattle.history.specs.declared.events.LostCause as history_the_LostCause
pub use Rattle.history.specs.sb_specs_Found
pub use Rattle.history.specs.Created as history_Created
pub use Rattle.history.specs.Settled as history_Settled
pub use Rattle.history.specs.declared.events.Epoch as history_the_Epoch
pub use Rattle.history.specs.declared.events.Request.TheVariants as history_the_Request_TheVariants
pub use Rattle.history.specs.Fits as history_Fits
pub use Rattle.history.specs.declared.events.Request as history_the_Request
pub use Rattle.history.specs.Seen as history_Seen
pub use Rattle.history.specs.bank_backup_Section
pub use Rattle.history.specs.bank_backup_Storing
pub use Rattle.history.specs.bank_backup_Written
pub use Rattle.history.specs.bank_backup_the_SectionFault_TheVariants
pub use Rattle.history.specs.bank_Given
pub use Rattle.history.specs.bank_Tape
pub use Rattle.history.specs.bank_the_Operation
pub use Rattle.history.specs.bank_the_Operation_TheVariants
pub use Rattle.history.specs.reshape_geometry_Geometry
pub use Rattle.history.specs.raid_gf256_Field
pub use Rattle.history.specs.reshape_plan_Plans
pub use Rattle.history.specs.raid_layout_Layout
pub use Rattle.history.specs.raid_types_Bytes
pub use Rattle.history.specs.raid_types_Search
pub use Rattle.history.specs.raid_types_Sectors
pub use Rattle.history.specs.raid_types_Shapes
pub use Rattle.history.specs.raid_types_the_Place
pub use Rattle.history.specs.raid_types_the_Refusal
pub use Rattle.history.specs.raid_types_the_Refusal_TheVariants
pub use Rattle.history.specs.raid_types_the_Role
pub use Rattle.history.specs.raid_types_the_Role_TheVariants
pub use Rattle.history.specs.raid_types_the_RowRoles
pub use Rattle.history.specs.raid_types_the_Shape
pub use Rattle.history.specs.raid_types_the_Side
pub use Rattle.history.specs.raid_types_the_Side_TheVariants
pub use Rattle.history.specs.raid_types_the_Span
pub use Rattle.history.specs.raid_types_the_Status
pub use Rattle.history.specs.raid_parity_Exponents
pub use Rattle.history.specs.raid_parity_Parity
pub use Rattle.history.specs.raid_parity_Rows
pub use Rattle.stripe_region_laws.specs.Regions as stripe_region_laws_Regions
