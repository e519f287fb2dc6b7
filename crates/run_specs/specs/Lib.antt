pub mod Asked
pub mod Blocks
pub mod Caused
pub mod Ended
pub mod Examining
pub mod Histories
pub mod Making
pub mod Plain
pub mod Records
pub mod Replies
pub mod Ruled
pub mod Showing
pub mod States
pub mod Written
pub use Rattle.array_requests.specs.array_open_Found
pub use Rattle.array_requests.specs.array_create_assemble_the_CreateSpec
pub use Rattle.array_requests.specs.array_create_assemble_Creating
pub use Rattle.array_requests.specs.array_create_assemble_Made
pub use Rattle.array_requests.specs.array_create_assemble_Opening
pub use Rattle.array_requests.specs.array_create_assemble_Running
pub use Rattle.array_requests.specs.reshape_progress_the_Course
pub use Rattle.array_requests.specs.array_grow_Planned
pub use Rattle.array_requests.specs.array_reshaping_laws_Writing
pub use Rattle.array_requests.specs.stripe_region_resync_Left
pub use Rattle.array_requests.specs.array_open_window_Finding
pub use Rattle.array_requests.specs.array_Calls
pub use Rattle.array_requests.specs.array_steps_Steps
pub use Rattle.array_requests.specs.array_reply_specs_Going
pub use Rattle.array_requests.specs.array_reply_specs_Replies
pub use Rattle.array_requests.specs.array_specs_Adding
pub use Rattle.array_requests.specs.array_specs_Calls
pub use Rattle.array_requests.specs.array_specs_Parts
pub use Rattle.array_requests.specs.array_specs_Plans
pub use Rattle.array_requests.specs.array_specs_Still
pub use Rattle.array_requests.specs.array_specs_Visible
pub use Rattle.array_requests.specs.array_fixed_laws_Plain
pub use Rattle.array_requests.specs.array_call_specs_Adopting
pub use Rattle.array_requests.specs.array_call_specs_Calls
pub use Rattle.array_requests.specs.history_invariant_laws_Reliable
pub use Rattle.array_requests.specs.Turning
pub use Rattle.array_requests.specs.declared.reply.Reply as array_requests_the_Reply
pub use Rattle.array_requests.specs.declared.reply.Reply.TheVariants as array_requests_the_Reply_TheVariants
pub use Rattle.array_requests.specs.Entered as array_requests_Entered
pub use Rattle.array_requests.specs.Going as array_requests_Going
pub use Rattle.array_requests.specs.Replies as array_requests_Replies
pub use Rattle.array_requests.specs.array_members_Moving
pub use Rattle.array_requests.specs.array_members_Placed
pub use Rattle.array_requests.specs.array_members_Parts
pub use Rattle.array_requests.specs.array_members_the_Work
pub use Rattle.array_requests.specs.array_members_Status
pub use Rattle.array_requests.specs.array_members_Lacking
pub use Rattle.array_requests.specs.crash_views_Regions
pub use Rattle.array_requests.specs.reshape_request_Left
pub use Rattle.array_requests.specs.reshape_request_the_Window
pub use Rattle.array_requests.specs.reshape_request_the_PhasesLeft
pub use Rattle.array_requests.specs.stripe_row_Rows
pub use Rattle.array_requests.specs.sb_specs_Reads
pub use Rattle.array_requests.specs.sb_specs_Reading
pub use Rattle.array_requests.specs.sb_specs_the_Members
pub use Rattle.array_requests.specs.sb_specs_Election
pub use Rattle.array_requests.specs.array_reply_specs_Limits
pub use Rattle.array_requests.specs.history_invariant_Safe
pub use Rattle.array_requests.specs.history_append_Losing
pub use Rattle.array_requests.specs.history_invariant_Recorded
pub use Rattle.array_requests.specs.array_members_Flushing
pub use Rattle.array_requests.specs.array_create_assemble_Filling
pub use Rattle.array_requests.specs.bank_Given
pub use Rattle.array_requests.specs.bank_Tape
pub use Rattle.array_requests.specs.bank_the_BankFault
pub use Rattle.array_requests.specs.bank_the_Operation
pub use Rattle.array_requests.specs.bank_the_Operation_TheVariants
pub use Rattle.array_requests.specs.raid_types_Search
pub use Rattle.array_requests.specs.raid_types_Sectors
pub use Rattle.array_requests.specs.raid_types_Shapes
pub use Rattle.array_requests.specs.raid_types_the_Fault
pub use Rattle.array_requests.specs.raid_types_the_Fault_TheVariants
pub use Rattle.array_requests.specs.raid_types_the_NoMemory
pub use Rattle.array_requests.specs.raid_types_the_Phase
pub use Rattle.array_requests.specs.raid_types_the_Refusal
pub use Rattle.array_requests.specs.raid_types_the_Refusal_TheVariants
pub use Rattle.array_requests.specs.raid_types_the_Status
pub use Rattle.array_requests.specs.raid_types_the_Who
pub use Rattle.array_requests.specs.raid_types_the_Wish
pub use Rattle.script.specs.Script as script_Script
pub use Rattle.script.specs.Seeds as script_Seeds
pub use Rattle.script.specs.declared.lines.CreateLine as script_the_CreateLine
pub use Rattle.script.specs.declared.lines.Line as script_the_Line
pub use Rattle.script.specs.declared.lines.Line.TheVariants as script_the_Line_TheVariants
pub use Rattle.script.specs.declared.lines.Numbered as script_the_Numbered
pub use Rattle.script.specs.declared.reply.Lane as script_the_Lane
pub use Rattle.script.specs.declared.reply.Lane.TheVariants as script_the_Lane_TheVariants
pub use Rattle.script.specs.history_CrashSafe
pub use Rattle.script.specs.history_Epochs
pub use Rattle.script.specs.history_Fits
pub use Rattle.script.specs.history_Flat
pub use Rattle.script.specs.history_Growing
pub use Rattle.script.specs.history_Left
pub use Rattle.script.specs.history_Legal
pub use Rattle.script.specs.history_OneShape
pub use Rattle.script.specs.history_Opened
pub use Rattle.script.specs.history_Plain
pub use Rattle.script.specs.history_Reopened
pub use Rattle.script.specs.history_Reshaped
pub use Rattle.script.specs.history_Sound
pub use Rattle.script.specs.history_Stands
pub use Rattle.script.specs.history_Transfers
pub use Rattle.script.specs.history_World
pub use Rattle.script.specs.history_the_Entry
pub use Rattle.script.specs.history_the_Epoch
pub use Rattle.script.specs.history_the_Event
pub use Rattle.script.specs.history_the_Event_TheVariants
pub use Rattle.script.specs.history_the_LostCause_TheVariants
pub use Rattle.script.specs.history_the_Request
pub use Rattle.script.specs.history_the_Request_TheVariants
pub use Rattle.script.specs.reshape_plan_Plans
pub use Rattle.script.specs.raid_types_the_Role
pub use Rattle.script.specs.raid_types_the_Role_TheVariants
pub use Rattle.script.specs.raid_types_the_Shape
pub use Rattle.script.specs.sb_codec_Superblock
pub use Rattle.script.specs.sb_codec_the_Sb
pub use Rattle.array_requests.specs.array_grow_Stored
pub use Rattle.history_monitor.specs.declared.alerts.Alert as history_monitor_the_Alert
