pub mod Making
pub use Rattle.crash_safety_laws.specs.Carried as crash_safety_laws_Carried
pub use Rattle.crash_safety_laws.specs.Changing as crash_safety_laws_Changing
pub use Rattle.crash_safety_laws.specs.Giving as crash_safety_laws_Giving
pub use Rattle.crash_safety_laws.specs.Held as crash_safety_laws_Held
pub use Rattle.crash_safety_laws.specs.Kinds as crash_safety_laws_Kinds
pub use Rattle.crash_safety_laws.specs.Marking as crash_safety_laws_Marking
pub use Rattle.crash_safety_laws.specs.Rounds as crash_safety_laws_Rounds
pub use Rattle.crash_safety_laws.specs.Safety as crash_safety_laws_Safety
pub use Rattle.crash_safety_laws.specs.Steady as crash_safety_laws_Steady
pub use Rattle.crash_safety_laws.specs.Updates as crash_safety_laws_Updates
pub use Rattle.crash_safety_laws.specs.bank_backup_Section
pub use Rattle.crash_safety_laws.specs.bank_Given
pub use Rattle.crash_safety_laws.specs.bank_Tape
pub use Rattle.crash_safety_laws.specs.bank_the_Operation
pub use Rattle.crash_safety_laws.specs.bank_the_Operation_TheVariants
pub use Rattle.crash_safety_laws.specs.history_ActiveSection
pub use Rattle.crash_safety_laws.specs.history_CrashSafe
pub use Rattle.crash_safety_laws.specs.history_Created
pub use Rattle.crash_safety_laws.specs.history_Epochs
pub use Rattle.crash_safety_laws.specs.history_Fits
pub use Rattle.crash_safety_laws.specs.history_Flat
pub use Rattle.crash_safety_laws.specs.history_Growing
pub use Rattle.crash_safety_laws.specs.history_Legal
pub use Rattle.crash_safety_laws.specs.history_Losses
pub use Rattle.crash_safety_laws.specs.history_OneShape
pub use Rattle.crash_safety_laws.specs.history_Opened
pub use Rattle.crash_safety_laws.specs.history_Plain
pub use Rattle.crash_safety_laws.specs.history_Reshaped
pub use Rattle.crash_safety_laws.specs.history_Same
pub use Rattle.crash_safety_laws.specs.history_Seen
pub use Rattle.crash_safety_laws.specs.history_Settled
pub use Rattle.crash_safety_laws.specs.history_Sound
pub use Rattle.crash_safety_laws.specs.history_Stands
pub use Rattle.crash_safety_laws.specs.history_Transfers
pub use Rattle.crash_safety_laws.specs.history_World
pub use Rattle.crash_safety_laws.specs.history_the_Entry
pub use Rattle.crash_safety_laws.specs.history_the_Epoch
pub use Rattle.crash_safety_laws.specs.history_the_Event
pub use Rattle.crash_safety_laws.specs.history_the_Event_TheVariants
pub use Rattle.crash_safety_laws.specs.history_the_LostCause
pub use Rattle.crash_safety_laws.specs.history_the_LostCause_TheVariants
pub use Rattle.crash_safety_laws.specs.history_the_Request
pub use Rattle.crash_safety_laws.specs.history_the_Request_TheVariants
pub use Rattle.crash_safety_laws.specs.history_the_StepKind
pub use Rattle.crash_safety_laws.specs.history_the_StepKind_TheVariants
pub use Rattle.crash_safety_laws.specs.reshape_geometry_Geometry
pub use Rattle.crash_safety_laws.specs.raid_layout_Layout
pub use Rattle.crash_safety_laws.specs.stripe_list_Buffers
pub use Rattle.crash_safety_laws.specs.stripe_list_Calls
pub use Rattle.crash_safety_laws.specs.stripe_list_Full
pub use Rattle.crash_safety_laws.specs.stripe_list_Writing
pub use Rattle.crash_safety_laws.specs.stripe_list_the_Unavailable
pub use Rattle.crash_safety_laws.specs.stripe_list_the_Unavailable_TheVariants
pub use Rattle.crash_safety_laws.specs.raid_types_Search
pub use Rattle.crash_safety_laws.specs.raid_types_Sectors
pub use Rattle.crash_safety_laws.specs.raid_types_Shapes
pub use Rattle.crash_safety_laws.specs.raid_types_the_Place
pub use Rattle.crash_safety_laws.specs.raid_types_the_Refusal
pub use Rattle.crash_safety_laws.specs.raid_types_the_Refusal_TheVariants
pub use Rattle.crash_safety_laws.specs.raid_types_the_Role
pub use Rattle.crash_safety_laws.specs.raid_types_the_Role_TheVariants
pub use Rattle.crash_safety_laws.specs.raid_types_the_Shape
pub use Rattle.crash_safety_laws.specs.raid_types_the_Side
pub use Rattle.crash_safety_laws.specs.raid_types_the_Side_TheVariants
pub use Rattle.crash_safety_laws.specs.raid_types_the_Span
pub use Rattle.crash_safety_laws.specs.raid_types_the_Status
pub use Rattle.crash_safety_laws.specs.raid_parity_Parity
pub use Rattle.crash_safety_laws.specs.raid_parity_Rows
pub use Rattle.crash_safety_laws.specs.stripe_region_laws_Regions
pub use Rattle.crash_safety_laws.specs.stripe_row_Rows
pub use Rattle.crash_safety_laws.specs.stripe_row_Writes
pub use Rattle.crash_safety_laws.specs.sb_codec_Superblock
pub use Rattle.crash_safety_laws.specs.sb_codec_Writable
pub use Rattle.crash_safety_laws.specs.sb_codec_the_Sb
pub use Rattle.crash_safety_laws.specs.crash_views_Backups
pub use Rattle.crash_safety_laws.specs.crash_views_Regions
pub use Rattle.crash_safety_laws.specs.crash_views_Views
pub use Rattle.crash_safety_laws.specs.crash_views_Windows
pub use Rattle.crash_safety_laws.specs.sb_update_laws_MakingWhole
pub use Rattle.crash_safety_laws.specs.sb_read_laws_Following
pub use Rattle.crash_safety_laws.specs.sb_read_laws_Said
pub use Rattle.crash_safety_laws.specs.sb_specs_Outcome
pub use Rattle.crash_safety_laws.specs.sb_specs_Reading
pub use Rattle.crash_safety_laws.specs.sb_specs_Reads
pub use Rattle.crash_safety_laws.specs.sb_specs_Update
pub use Rattle.crash_safety_laws.specs.sb_specs_Updating
pub use Rattle.crash_safety_laws.specs.sb_specs_Verdict
pub use Rattle.crash_safety_laws.specs.sb_specs_Writing
pub use Rattle.crash_safety_laws.specs.sb_specs_the_Change
pub use Rattle.crash_safety_laws.specs.sb_specs_the_Give
pub use Rattle.crash_safety_laws.specs.sb_specs_the_Give_TheVariants
pub use Rattle.crash_safety_laws.specs.sb_specs_the_Members
