pub mod Named
pub mod First
pub mod Unused
pub mod Frame
pub use Rattle.array_members.specs.crash_safety_laws_Steady
pub use Rattle.array_members.specs.crash_safety_laws_Marking
pub use Rattle.array_members.specs.crash_safety_laws_Safety
pub use Rattle.array_members.specs.crash_safety_laws_Held
pub use Rattle.array_members.specs.crash_safety_laws_Carried
pub use Rattle.array_members.specs.crash_safety_laws_Updates
pub use Rattle.array_members.specs.crash_views_Views
pub use Rattle.array_members.specs.crash_views_Regions
pub use Rattle.array_members.specs.crash_views_Windows
pub use Rattle.array_members.specs.Placed as array_members_Placed
pub use Rattle.array_members.specs.Rebuilding as array_members_Rebuilding
pub use Rattle.array_members.specs.Moving as array_members_Moving
pub use Rattle.array_members.specs.Lacking as array_members_Lacking
pub use Rattle.array_members.specs.Status as array_members_Status
pub use Rattle.array_members.specs.Under as array_members_Under
pub use Rattle.array_members.specs.crash_safety_laws_Changing
pub use Rattle.array_members.specs.crash_safety_laws_Giving
pub use Rattle.array_members.specs.crash_safety_laws_Kinds
pub use Rattle.array_members.specs.crash_views_Backups
pub use Rattle.array_members.specs.crash_safety_laws_Rounds
pub use Rattle.array_members.specs.Flushing as array_members_Flushing
pub use Rattle.array_members.specs.Numbers as array_members_Numbers
pub use Rattle.array_members.specs.declared.work.Work as array_members_the_Work
pub use Rattle.array_members.specs.Parts as array_members_Parts
pub use Rattle.array_members.specs.Whole as array_members_Whole
pub use Rattle.array_members.specs.history_World
pub use Rattle.array_members.specs.history_Sound
pub use Rattle.array_members.specs.stripe_row_Rows
pub use Rattle.array_members.specs.sb_read_laws_Following
pub use Rattle.array_members.specs.sb_read_laws_Said
pub use Rattle.array_members.specs.history_Stands
pub use Rattle.array_members.specs.stripe_list_Full
pub use Rattle.array_members.specs.history_ActiveSection
pub use Rattle.array_members.specs.history_Created
pub use Rattle.array_members.specs.history_Epochs
pub use Rattle.array_members.specs.history_Opened
pub use Rattle.array_members.specs.history_Plain
pub use Rattle.array_members.specs.history_CrashSafe
pub use Rattle.array_members.specs.history_Settled
pub use Rattle.array_members.specs.history_Flat
pub use Rattle.array_members.specs.history_Losses
pub use Rattle.array_members.specs.history_OneShape
pub use Rattle.array_members.specs.history_Reshaped
pub use Rattle.array_members.specs.history_the_Event
pub use Rattle.array_members.specs.history_Same
pub use Rattle.array_members.specs.stripe_row_Writes
pub use Rattle.array_members.specs.history_the_Entry
pub use Rattle.array_members.specs.history_Legal
pub use Rattle.array_members.specs.history_the_Event_TheVariants
pub use Rattle.array_members.specs.history_the_StepKind_TheVariants
pub use Rattle.array_members.specs.history_Growing
pub use Rattle.array_members.specs.history_the_LostCause_TheVariants
pub use Rattle.array_members.specs.history_the_StepKind
pub use Rattle.array_members.specs.history_Transfers
pub use Rattle.array_members.specs.history_the_Epoch
pub use Rattle.array_members.specs.history_the_Request_TheVariants
pub use Rattle.array_members.specs.history_Fits
pub use Rattle.array_members.specs.history_the_Request
pub use Rattle.array_members.specs.history_the_LostCause
pub use Rattle.array_members.specs.history_Seen
pub use Rattle.raid_layout.specs.Layout as raid_layout_Layout
pub use Rattle.raid_layout.specs.raid_types_Search
pub use Rattle.raid_layout.specs.raid_types_Sectors
pub use Rattle.raid_layout.specs.raid_types_Shapes
pub use Rattle.raid_layout.specs.raid_types_the_Place
pub use Rattle.raid_layout.specs.raid_types_the_Role
pub use Rattle.raid_layout.specs.raid_types_the_Role_TheVariants
pub use Rattle.raid_layout.specs.raid_types_the_RowRoles
pub use Rattle.raid_layout.specs.raid_types_the_Shape
pub use Rattle.raid_layout.specs.raid_types_the_Side
pub use Rattle.raid_layout.specs.raid_types_the_Side_TheVariants
pub use Rattle.raid_layout.specs.raid_types_the_Span
pub use Rattle.sb_update.specs.bank_Given
pub use Rattle.sb_update.specs.bank_Tape
pub use Rattle.sb_update.specs.bank_the_Operation
pub use Rattle.sb_update.specs.bank_the_Operation_TheVariants
pub use Rattle.sb_update.specs.reshape_geometry_Geometry
pub use Rattle.sb_update.specs.raid_types_the_Refusal
pub use Rattle.sb_update.specs.raid_types_the_Refusal_TheVariants
pub use Rattle.sb_update.specs.sb_codec_Features
pub use Rattle.sb_update.specs.sb_codec_Superblock
pub use Rattle.sb_update.specs.sb_codec_the_Sb
pub use Rattle.sb_update.specs.sb_specs_Adding
pub use Rattle.sb_update.specs.sb_specs_Crash
pub use Rattle.sb_update.specs.sb_specs_Election
pub use Rattle.sb_update.specs.sb_specs_Found
pub use Rattle.sb_update.specs.sb_specs_Held
pub use Rattle.sb_update.specs.sb_specs_Outcome
pub use Rattle.sb_update.specs.sb_specs_Plans
pub use Rattle.sb_update.specs.sb_specs_Reading
pub use Rattle.sb_update.specs.sb_specs_Reads
pub use Rattle.sb_update.specs.sb_specs_Rounds
pub use Rattle.sb_update.specs.sb_specs_Stages
pub use Rattle.sb_update.specs.sb_specs_Update
pub use Rattle.sb_update.specs.sb_specs_Updating
pub use Rattle.sb_update.specs.sb_specs_Verdict
pub use Rattle.sb_update.specs.sb_specs_the_Change
pub use Rattle.sb_update.specs.sb_specs_the_Give
pub use Rattle.sb_update.specs.sb_specs_the_Give_TheVariants
pub use Rattle.sb_update.specs.sb_specs_the_Members
pub use Rattle.array_members.specs.Rows as array_members_Rows
pub use Rattle.array_members.specs.stripe_list_Buffers
pub use Rattle.array_members.specs.stripe_list_Calls
pub use Rattle.array_members.specs.stripe_list_Writing
pub use Rattle.array_members.specs.stripe_list_the_Unavailable
pub use Rattle.array_members.specs.stripe_list_the_Unavailable_TheVariants
pub use Rattle.array_members.specs.raid_parity_Rows
pub use Rattle.array_members.specs.stripe_region_laws_Regions
