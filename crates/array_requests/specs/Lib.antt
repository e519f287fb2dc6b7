pub mod Entered
pub mod Going
pub mod Replies
pub mod Turning
pub use Rattle.array_open.specs.array_Calls
pub use Rattle.array_open.specs.array_reply_specs_Going
pub use Rattle.array_open.specs.array_reply_specs_Replies
pub use Rattle.array_open.specs.array_specs_Calls
pub use Rattle.array_open.specs.array_specs_Parts
pub use Rattle.array_open.specs.array_specs_Still
pub use Rattle.array_open.specs.array_call_specs_Calls
pub use Rattle.array_open.specs.history_invariant_laws_Reliable
pub use Rattle.array_open.specs.array_specs_Plans
pub use Rattle.array_open.specs.array_fixed_laws_Plain
pub use Rattle.array_open.specs.Found as array_open_Found
pub use Rattle.array_open.specs.array_create_assemble_the_CreateSpec
pub use Rattle.array_open.specs.array_create_assemble_Creating
pub use Rattle.array_open.specs.array_create_assemble_Made
pub use Rattle.array_open.specs.array_create_assemble_Opening
pub use Rattle.array_open.specs.array_create_assemble_Running
pub use Rattle.array_open.specs.reshape_progress_the_Course
pub use Rattle.array_open.specs.array_reshaping_laws_Writing
pub use Rattle.array_open.specs.stripe_region_resync_Left
pub use Rattle.array_open.specs.array_open_window_Finding
pub use Rattle.array_open.specs.array_steps_Steps
pub use Rattle.array_open.specs.array_specs_Adding
pub use Rattle.array_open.specs.array_call_specs_Adopting
pub use Rattle.array_open.specs.array_create_assemble_Filling
pub use Rattle.array_open.specs.array_grow_Planned
pub use Rattle.array_open.specs.array_reply_specs_Limits
pub use Rattle.array_open.specs.array_specs_Visible
pub use Rattle.array_open.specs.history_append_Losing
pub use Rattle.array_open.specs.array_members_Parts
pub use Rattle.array_open.specs.array_members_Status
pub use Rattle.array_open.specs.array_members_Lacking
pub use Rattle.array_open.specs.array_members_Placed
pub use Rattle.array_open.specs.array_members_Flushing
pub use Rattle.array_open.specs.array_members_Moving
pub use Rattle.array_open.specs.array_members_Rebuilding
pub use Rattle.array_open.specs.history_invariant_Safe
pub use Rattle.array_open.specs.history_invariant_Recorded
pub use Rattle.array_open.specs.crash_views_Regions
pub use Rattle.array_open.specs.array_members_the_Work
pub use Rattle.array_open.specs.sb_specs_Reading
pub use Rattle.array_open.specs.reshape_request_Asked
pub use Rattle.array_open.specs.reshape_request_the_Window
pub use Rattle.array_open.specs.reshape_request_Left
pub use Rattle.array_open.specs.stripe_row_Rows
pub use Rattle.array_open.specs.sb_specs_the_Members
pub use Rattle.array_open.specs.sb_specs_Reads
pub use Rattle.array_open.specs.sb_specs_Found
pub use Rattle.array_open.specs.reshape_request_the_PhasesLeft
pub use Rattle.array_open.specs.sb_specs_Election
pub use Rattle.array_call_specs.specs.raid_types_Search
pub use Rattle.array_call_specs.specs.raid_types_Sectors
pub use Rattle.array_call_specs.specs.raid_types_Shapes
pub use Rattle.array_call_specs.specs.raid_types_the_BusyKind_TheVariants
pub use Rattle.array_call_specs.specs.raid_types_the_Fault
pub use Rattle.array_call_specs.specs.raid_types_the_Fault_TheVariants
pub use Rattle.array_call_specs.specs.raid_types_the_Phase
pub use Rattle.array_call_specs.specs.raid_types_the_Refusal
pub use Rattle.array_call_specs.specs.raid_types_the_Refusal_TheVariants
pub use Rattle.array_call_specs.specs.raid_types_the_Status
pub use Rattle.array_call_specs.specs.raid_types_the_Who
pub use Rattle.bank.specs.Given as bank_Given
pub use Rattle.bank.specs.Stretches as bank_Stretches
pub use Rattle.bank.specs.Tape as bank_Tape
pub use Rattle.bank.specs.declared.bank.BankFault as bank_the_BankFault
pub use Rattle.bank.specs.declared.bank.Operation as bank_the_Operation
pub use Rattle.bank.specs.declared.bank.Operation.TheVariants as bank_the_Operation_TheVariants
pub use Rattle.bank.specs.raid_types_the_NoMemory
pub use Rattle.bank.specs.raid_types_the_Wish
pub use Rattle.array_open.specs.array_grow_Stored
