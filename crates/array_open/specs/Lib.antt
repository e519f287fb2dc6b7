pub mod Adopted
pub mod Found
pub use Rattle.array_create_assemble.specs.declared.spec.CreateSpec as array_create_assemble_the_CreateSpec
pub use Rattle.array_create_assemble.specs.Creating as array_create_assemble_Creating
pub use Rattle.array_create_assemble.specs.Filling as array_create_assemble_Filling
pub use Rattle.array_create_assemble.specs.Made as array_create_assemble_Made
pub use Rattle.array_create_assemble.specs.Opening as array_create_assemble_Opening
pub use Rattle.array_create_assemble.specs.Running as array_create_assemble_Running
pub use Rattle.array_reshaping_open_laws.specs.array_open_window_Finding
pub use Rattle.array_steps.specs.reshape_progress_the_Course
pub use Rattle.array_steps.specs.array_reshaping_laws_Writing
pub use Rattle.array_steps.specs.stripe_region_resync_Left
pub use Rattle.array_steps.specs.Steps as array_steps_Steps
pub use Rattle.array_steps.specs.array_Calls
pub use Rattle.array_steps.specs.array_reply_specs_Going
pub use Rattle.array_steps.specs.array_reply_specs_Replies
pub use Rattle.array_steps.specs.array_specs_Adding
pub use Rattle.array_steps.specs.array_specs_Calls
pub use Rattle.array_steps.specs.array_specs_Parts
pub use Rattle.array_steps.specs.array_specs_Plans
pub use Rattle.array_steps.specs.array_specs_Still
pub use Rattle.array_steps.specs.array_fixed_laws_Plain
pub use Rattle.array_steps.specs.array_call_specs_Adopting
pub use Rattle.array_steps.specs.array_call_specs_Calls
pub use Rattle.array_steps.specs.history_invariant_laws_Reliable
pub use Rattle.array_steps.specs.array_grow_Planned
pub use Rattle.array_steps.specs.array_reply_specs_Limits
pub use Rattle.array_steps.specs.array_specs_Visible
pub use Rattle.array_steps.specs.array_members_Moving
pub use Rattle.array_create_assemble.specs.array_members_Rebuilding
pub use Rattle.array_create_assemble.specs.array_members_Placed
pub use Rattle.array_steps.specs.history_append_Losing
pub use Rattle.array_create_assemble.specs.array_members_Parts
pub use Rattle.array_create_assemble.specs.array_members_Status
pub use Rattle.array_steps.specs.array_members_Lacking
pub use Rattle.array_create_assemble.specs.array_members_Flushing
pub use Rattle.array_steps.specs.history_invariant_Safe
pub use Rattle.array_steps.specs.history_invariant_Recorded
pub use Rattle.array_steps.specs.crash_views_Regions
pub use Rattle.array_create_assemble.specs.array_members_the_Work
pub use Rattle.array_reshaping_open_laws.specs.reshape_request_Left
pub use Rattle.array_reshaping_open_laws.specs.reshape_request_the_PhasesLeft
pub use Rattle.array_create_assemble.specs.sb_specs_Reading
pub use Rattle.array_create_assemble.specs.sb_specs_the_Members
pub use Rattle.array_create_assemble.specs.sb_specs_Reads
pub use Rattle.array_reshaping_open_laws.specs.reshape_request_Asked
pub use Rattle.array_reshaping_open_laws.specs.reshape_request_the_Window
pub use Rattle.array_steps.specs.stripe_row_Rows
pub use Rattle.array_create_assemble.specs.sb_specs_Found
pub use Rattle.array_create_assemble.specs.sb_specs_Election
pub use Rattle.array_steps.specs.crash_safety_laws_Marking
pub use Rattle.array_steps.specs.array_grow_Plans
pub use Rattle.array_steps.specs.array_grow_Replied
pub use Rattle.array_steps.specs.sb_safe_updates_First
pub use Rattle.array_steps.specs.reshape_progress_Laws
pub use Rattle.array_steps.specs.array_State
pub use Rattle.array_steps.specs.array_grow_Stored
