pub mod Losing
pub use Rattle.array_members.specs.Whole as array_members_Whole
pub use Rattle.array_members.specs.Placed as array_members_Placed
pub use Rattle.array_members.specs.Lacking as array_members_Lacking
pub use Rattle.array_members.specs.Rebuilding as array_members_Rebuilding
pub use Rattle.array_members.specs.declared.work.Work as array_members_the_Work
pub use Rattle.array_members.specs.Parts as array_members_Parts
pub use Rattle.array_members.specs.Status as array_members_Status
pub use Rattle.array_members.specs.Numbers as array_members_Numbers
pub use Rattle.array_members.specs.Moving as array_members_Moving
pub use Rattle.array_members.specs.Rows as array_members_Rows
pub use Rattle.array_members.specs.crash_safety_laws_Held
pub use Rattle.array_members.specs.crash_safety_laws_Steady
pub use Rattle.array_members.specs.crash_safety_laws_Safety
pub use Rattle.array_members.specs.crash_safety_laws_Marking
pub use Rattle.array_members.specs.crash_views_Regions
pub use Rattle.array_members.specs.crash_views_Views
pub use Rattle.array_members.specs.Flushing as array_members_Flushing
pub use Rattle.array_members.specs.crash_safety_laws_Carried
pub use Rattle.array_members.specs.crash_views_Windows
pub use Rattle.array_members.specs.stripe_list_Writing
pub use Rattle.array_members.specs.history_the_Event
pub use Rattle.array_members.specs.history_the_Event_TheVariants
pub use Rattle.array_members.specs.history_the_LostCause_TheVariants
pub use Rattle.array_members.specs.history_World
pub use Rattle.array_members.specs.history_Flat
pub use Rattle.array_members.specs.history_Losses
pub use Rattle.array_members.specs.history_Epochs
pub use Rattle.array_members.specs.history_Plain
pub use Rattle.array_members.specs.history_OneShape
pub use Rattle.array_members.specs.history_Opened
pub use Rattle.array_members.specs.history_the_Entry
pub use Rattle.array_members.specs.history_the_LostCause
pub use Rattle.array_members.specs.history_the_Request
pub use Rattle.array_members.specs.history_Transfers
pub use Rattle.array_members.specs.history_Fits
pub use Rattle.array_members.specs.history_Legal
pub use Rattle.array_members.specs.history_Sound
pub use Rattle.array_members.specs.history_Growing
pub use Rattle.array_members.specs.history_Stands
pub use Rattle.array_members.specs.history_CrashSafe
pub use Rattle.array_members.specs.history_the_StepKind_TheVariants
pub use Rattle.array_members.specs.history_the_Epoch
pub use Rattle.array_members.specs.history_the_Request_TheVariants
pub use Rattle.array_members.specs.stripe_row_Rows
pub use Rattle.history_laws.specs.sb_specs_the_Members
pub use Rattle.history_laws.specs.sb_specs_Update
pub use Rattle.history_laws.specs.sb_specs_Held
pub use Rattle.history_laws.specs.sb_specs_Reading
pub use Rattle.history_laws.specs.sb_specs_Reads
pub use Rattle.history_laws.specs.sb_specs_Found
pub use Rattle.array_members.specs.history_Reshaped
pub use Rattle.array_members.specs.stripe_list_Full
pub use Rattle.array_members.specs.stripe_list_Buffers
pub use Rattle.array_members.specs.history_the_StepKind
pub use Rattle.history_laws.specs.sb_specs_Election
pub use Rattle.history_laws.specs.sb_specs_Verdict
pub use Rattle.history_laws.specs.sb_specs_Writing
pub use Rattle.history_laws.specs.sb_specs_Outcome
pub use Rattle.history_laws.specs.sb_specs_Stages
pub use Rattle.history_laws.specs.bank_Given
pub use Rattle.history_laws.specs.bank_Tape
pub use Rattle.history_laws.specs.bank_Whole
pub use Rattle.history_laws.specs.bank_the_Operation
pub use Rattle.history_laws.specs.history_Left
pub use Rattle.history_laws.specs.reshape_geometry_Geometry
pub use Rattle.history_laws.specs.raid_gf256_Field
pub use Rattle.history_laws.specs.reshape_plan_Plans
pub use Rattle.history_laws.specs.raid_layout_Layout
pub use Rattle.history_laws.specs.raid_parity_Exponents
pub use Rattle.history_laws.specs.raid_parity_Fills
pub use Rattle.history_laws.specs.raid_parity_Parity
pub use Rattle.history_laws.specs.sb_codec_Features
pub use Rattle.history_laws.specs.sb_codec_Superblock
pub use Rattle.history_laws.specs.sb_codec_the_Sb
pub use Rattle.array_members.specs.raid_parity_Rows
pub use Rattle.array_members.specs.crash_safety_laws_Changing
