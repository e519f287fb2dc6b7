pub mod Kept
pub mod Calls
pub mod Adopting
pub use Rattle.history_append.specs.Losing as history_append_Losing
pub use Rattle.history_append.specs.array_members_Rebuilding
pub use Rattle.history_append.specs.array_members_Lacking
pub use Rattle.history_append.specs.array_members_Placed
pub use Rattle.history_append.specs.array_members_Numbers
pub use Rattle.history_append.specs.array_members_the_Work
pub use Rattle.history_append.specs.array_members_Whole
pub use Rattle.history_append.specs.array_members_Flushing
pub use Rattle.history_append.specs.array_members_Moving
pub use Rattle.history_append.specs.array_members_Status
pub use Rattle.history_append.specs.array_members_Rows
pub use Rattle.history_append.specs.crash_safety_laws_Marking
pub use Rattle.history_append.specs.crash_safety_laws_Safety
pub use Rattle.history_append.specs.crash_safety_laws_Steady
pub use Rattle.history_append.specs.crash_safety_laws_Carried
pub use Rattle.history_append.specs.crash_views_Regions
pub use Rattle.history_append.specs.crash_views_Views
pub use Rattle.history_append.specs.crash_views_Windows
pub use Rattle.history_append.specs.crash_safety_laws_Held
pub use Rattle.history_append.specs.stripe_list_Full
pub use Rattle.history_append.specs.stripe_list_Writing
pub use Rattle.history_append.specs.stripe_list_Buffers
pub use Rattle.history_append.specs.history_the_Entry
pub use Rattle.history_append.specs.history_the_Event
pub use Rattle.history_append.specs.history_the_Event_TheVariants
pub use Rattle.history_append.specs.history_the_LostCause
pub use Rattle.history_append.specs.history_the_LostCause_TheVariants
pub use Rattle.history_append.specs.history_Flat
pub use Rattle.history_append.specs.history_Legal
pub use Rattle.history_append.specs.history_Losses
pub use Rattle.history_append.specs.history_Transfers
pub use Rattle.history_append.specs.history_Plain
pub use Rattle.history_append.specs.history_OneShape
pub use Rattle.history_append.specs.history_the_Request_TheVariants
pub use Rattle.history_append.specs.history_Sound
pub use Rattle.history_append.specs.history_World
pub use Rattle.history_append.specs.history_CrashSafe
pub use Rattle.history_append.specs.history_Growing
pub use Rattle.history_append.specs.history_Epochs
pub use Rattle.history_append.specs.history_the_StepKind_TheVariants
pub use Rattle.history_append.specs.history_the_StepKind
pub use Rattle.history_append.specs.stripe_row_Rows
pub use Rattle.history_append.specs.sb_specs_Reading
pub use Rattle.history_append.specs.sb_specs_Held
pub use Rattle.history_append.specs.sb_specs_the_Members
pub use Rattle.history_append.specs.sb_specs_Reads
pub use Rattle.history_append.specs.sb_specs_Update
pub use Rattle.history_append.specs.history_Stands
pub use Rattle.history_append.specs.sb_specs_Election
pub use Rattle.history_append.specs.sb_specs_Verdict
pub use Rattle.history_append.specs.sb_specs_Found
pub use Rattle.history_append.specs.sb_specs_Writing
pub use Rattle.history_append.specs.sb_specs_Outcome
pub use Rattle.history_append.specs.sb_specs_Stages
pub use Rattle.history_append.specs.bank_Given
pub use Rattle.history_append.specs.bank_Tape
pub use Rattle.history_append.specs.bank_Whole
pub use Rattle.history_append.specs.bank_the_Operation
pub use Rattle.history_append.specs.history_Left
pub use Rattle.history_append.specs.history_Opened
pub use Rattle.history_append.specs.history_Reshaped
pub use Rattle.history_append.specs.reshape_geometry_Geometry
pub use Rattle.history_append.specs.raid_gf256_Field
pub use Rattle.history_append.specs.reshape_plan_Plans
pub use Rattle.history_append.specs.raid_layout_Layout
pub use Rattle.history_append.specs.raid_parity_Exponents
pub use Rattle.history_append.specs.raid_parity_Fills
pub use Rattle.history_append.specs.raid_parity_Parity
pub use Rattle.history_append.specs.raid_parity_Rows
pub use Rattle.history_append.specs.sb_codec_Features
pub use Rattle.history_append.specs.sb_codec_Superblock
pub use Rattle.history_append.specs.sb_codec_the_Sb
pub use Rattle.history_append.specs.crash_safety_laws_Changing
pub use Rattle.raid_types.specs.Search as raid_types_Search
pub use Rattle.raid_types.specs.Sectors as raid_types_Sectors
pub use Rattle.raid_types.specs.Shapes as raid_types_Shapes
pub use Rattle.raid_types.specs.declared.answers.BusyKind.TheVariants as raid_types_the_BusyKind_TheVariants
pub use Rattle.raid_types.specs.declared.answers.Fault as raid_types_the_Fault
pub use Rattle.raid_types.specs.declared.answers.Fault.TheVariants as raid_types_the_Fault_TheVariants
pub use Rattle.raid_types.specs.declared.answers.Refusal as raid_types_the_Refusal
pub use Rattle.raid_types.specs.declared.answers.Refusal.TheVariants as raid_types_the_Refusal_TheVariants
pub use Rattle.raid_types.specs.declared.answers.ShapeField as raid_types_the_ShapeField
pub use Rattle.raid_types.specs.declared.answers.ShapeField.TheVariants as raid_types_the_ShapeField_TheVariants
pub use Rattle.raid_types.specs.declared.answers.Who as raid_types_the_Who
pub use Rattle.raid_types.specs.declared.places.Place as raid_types_the_Place
pub use Rattle.raid_types.specs.declared.places.RowRoles as raid_types_the_RowRoles
pub use Rattle.raid_types.specs.declared.places.Shape as raid_types_the_Shape
pub use Rattle.raid_types.specs.declared.places.Side as raid_types_the_Side
pub use Rattle.raid_types.specs.declared.places.Side.TheVariants as raid_types_the_Side_TheVariants
pub use Rattle.raid_types.specs.declared.places.Span as raid_types_the_Span
pub use Rattle.raid_types.specs.declared.status.Role as raid_types_the_Role
pub use Rattle.raid_types.specs.declared.status.Role.TheVariants as raid_types_the_Role_TheVariants
pub use Rattle.raid_types.specs.declared.status.Status as raid_types_the_Status
pub use Rattle.raid_types.specs.declared.wishes.Phase as raid_types_the_Phase
pub use Rattle.raid_types.specs.declared.wishes.Phase.TheVariants as raid_types_the_Phase_TheVariants
