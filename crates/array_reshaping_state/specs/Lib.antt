pub mod Due
pub mod First
pub mod Left
pub use Rattle.reshape_progress.specs.Course as reshape_progress_Course
pub use Rattle.array_call_specs.specs.Adopting as array_call_specs_Adopting
pub use Rattle.array_call_specs.specs.Calls as array_call_specs_Calls
pub use Rattle.array_call_specs.specs.Kept as array_call_specs_Kept
pub use Rattle.reshape_progress.specs.Laws as reshape_progress_Laws
pub use Rattle.reshape_progress.specs.declared.course.Course as reshape_progress_the_Course
pub use Rattle.reshape_progress.specs.reshape_begin_end_Begun
pub use Rattle.reshape_progress.specs.reshape_sb_updates_Beginning
pub use Rattle.reshape_progress.specs.reshape_window_steps_Zeroing
pub use Rattle.stripe_region_resync.specs.Left as stripe_region_resync_Left
pub use Rattle.stripe_region_resync.specs.Mends as stripe_region_resync_Resyncs
pub use Rattle.stripe_region_resync.specs.declared.stripes.Stripe as stripe_region_resync_the_Stripe
pub use Rattle.stripe_region_resync.specs.stripe_region_write_Runs
pub use Rattle.stripe_region_resync.specs.sb_safe_updates_Frame
pub use Rattle.stripe_region_resync.specs.sb_safe_updates_First
pub use Rattle.stripe_region_resync.specs.sb_safe_updates_Unused
pub use Rattle.reshape_progress.specs.reshape_window_rows_Copies
pub use Rattle.reshape_progress.specs.crash_views_Regions
pub use Rattle.array_call_specs.specs.history_append_Losing
pub use Rattle.reshape_progress.specs.array_members_Placed
pub use Rattle.reshape_progress.specs.array_members_Moving
pub use Rattle.reshape_progress.specs.array_members_Lacking
pub use Rattle.reshape_progress.specs.array_members_the_Work
pub use Rattle.reshape_progress.specs.array_members_Parts
pub use Rattle.reshape_progress.specs.array_members_Status
pub use Rattle.reshape_progress.specs.array_members_Rebuilding
pub use Rattle.reshape_progress.specs.crash_safety_laws_Safety
pub use Rattle.reshape_progress.specs.crash_safety_laws_Steady
pub use Rattle.reshape_progress.specs.history_Stands
pub use Rattle.reshape_progress.specs.history_ActiveSection
pub use Rattle.reshape_progress.specs.reshape_request_the_PhasesLeft
pub use Rattle.reshape_progress.specs.reshape_request_Left
pub use Rattle.reshape_progress.specs.history_the_Entry
pub use Rattle.reshape_progress.specs.history_the_Epoch
pub use Rattle.reshape_progress.specs.history_the_Event_TheVariants
pub use Rattle.reshape_progress.specs.history_the_StepKind
pub use Rattle.reshape_progress.specs.history_CrashSafe
pub use Rattle.reshape_progress.specs.history_Epochs
pub use Rattle.reshape_progress.specs.history_Legal
pub use Rattle.reshape_progress.specs.history_Reshaped
pub use Rattle.reshape_progress.specs.history_Sound
pub use Rattle.reshape_progress.specs.history_World
pub use Rattle.reshape_progress.specs.history_the_Event
pub use Rattle.reshape_progress.specs.history_the_StepKind_TheVariants
pub use Rattle.reshape_progress.specs.history_OneShape
pub use Rattle.reshape_progress.specs.history_the_Request_TheVariants
pub use Rattle.reshape_progress.specs.history_Fits
pub use Rattle.reshape_progress.specs.history_Plain
pub use Rattle.reshape_progress.specs.history_Flat
pub use Rattle.reshape_progress.specs.history_the_Request
pub use Rattle.reshape_progress.specs.history_Transfers
pub use Rattle.reshape_progress.specs.stripe_row_Rows
pub use Rattle.reshape_progress.specs.sb_specs_the_Members
pub use Rattle.reshape_progress.specs.sb_specs_Reads
pub use Rattle.reshape_progress.specs.sb_specs_Reading
pub use Rattle.reshape_progress.specs.history_the_LostCause
pub use Rattle.reshape_progress.specs.history_the_LostCause_TheVariants
pub use Rattle.reshape_progress.specs.history_Growing
pub use Rattle.reshape_progress.specs.history_Seen
pub use Rattle.array_call_specs.specs.reshape_plan_Plans
pub use Rattle.array_call_specs.specs.raid_types_Sectors
pub use Rattle.array_call_specs.specs.raid_types_Shapes
pub use Rattle.array_call_specs.specs.raid_types_the_BusyKind_TheVariants
pub use Rattle.array_call_specs.specs.raid_types_the_Fault
pub use Rattle.array_call_specs.specs.raid_types_the_Phase
pub use Rattle.array_call_specs.specs.raid_types_the_Role_TheVariants
pub use Rattle.array_call_specs.specs.raid_types_the_Status
pub use Rattle.array_call_specs.specs.raid_parity_Rows
pub use Rattle.reshape_progress.specs.bank_backup_Section
pub use Rattle.reshape_progress.specs.bank_Given
pub use Rattle.reshape_progress.specs.bank_Tape
pub use Rattle.reshape_progress.specs.bank_the_Operation
pub use Rattle.reshape_progress.specs.reshape_geometry_Geometry
pub use Rattle.reshape_progress.specs.reshape_request_the_Window
pub use Rattle.reshape_progress.specs.reshape_request_the_Window_TheVariants
pub use Rattle.reshape_progress.specs.raid_types_the_Span
pub use Rattle.reshape_progress.specs.sb_codec_the_Sb
