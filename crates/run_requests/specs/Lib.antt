pub use Rattle.run_specs.specs.Asked as run_specs_Asked
pub use Rattle.run_specs.specs.Blocks as run_specs_Blocks
pub use Rattle.run_specs.specs.Caused as run_specs_Caused
pub use Rattle.run_specs.specs.Ended as run_specs_Ended
pub use Rattle.run_specs.specs.Histories as run_specs_Histories
pub use Rattle.run_specs.specs.Making as run_specs_Making
pub use Rattle.run_specs.specs.Records as run_specs_Records
pub use Rattle.run_specs.specs.Replies as run_specs_Replies
pub use Rattle.run_specs.specs.Showing as run_specs_Showing
pub use Rattle.run_specs.specs.States as run_specs_States
pub use Rattle.run_specs.specs.Written as run_specs_Written
pub use Rattle.run_specs.specs.declared.report.Answered as run_specs_the_Answered
pub use Rattle.run_specs.specs.declared.report.Answered.TheVariants as run_specs_the_Answered_TheVariants
pub use Rattle.run_specs.specs.declared.report.LineReply as run_specs_the_LineReply
pub use Rattle.run_specs.specs.declared.report.Outside as run_specs_the_Outside
pub use Rattle.run_specs.specs.declared.report.Outside.TheVariants as run_specs_the_Outside_TheVariants
pub use Rattle.run_specs.specs.declared.states.State as run_specs_the_State
pub use Rattle.run_specs.specs.declared.states.State.TheVariants as run_specs_the_State_TheVariants
pub use Rattle.run_specs.specs.array_reply_specs_Replies
pub use Rattle.run_specs.specs.array_specs_Parts
pub use Rattle.run_specs.specs.array_specs_Plans
pub use Rattle.run_specs.specs.array_fixed_laws_Plain
pub use Rattle.run_specs.specs.array_call_specs_Calls
pub use Rattle.run_specs.specs.history_invariant_laws_Reliable
pub use Rattle.run_specs.specs.array_Calls
pub use Rattle.run_specs.specs.Turning
pub use Rattle.run_specs.specs.array_requests_the_Reply
pub use Rattle.run_specs.specs.array_requests_the_Reply_TheVariants
pub use Rattle.run_specs.specs.array_requests_Entered
pub use Rattle.run_specs.specs.array_requests_Replies
pub use Rattle.run_specs.specs.array_requests_Going
pub use Rattle.run_specs.specs.array_reply_specs_Going
pub use Rattle.run_specs.specs.array_steps_Steps
pub use Rattle.run_specs.specs.reshape_request_Left
pub use Rattle.run_specs.specs.sb_specs_Reading
pub use Rattle.run_specs.specs.sb_specs_the_Members
pub use Rattle.run_specs.specs.sb_specs_Reads
pub use Rattle.run_specs.specs.array_members_Moving
pub use Rattle.run_specs.specs.Examining as run_specs_Examining
pub use Rattle.run_specs.specs.array_members_Parts
pub use Rattle.run_specs.specs.sb_specs_Election
pub use Rattle.run_specs.specs.stripe_row_Rows
pub use Rattle.run_specs.specs.array_call_specs_Adopting
pub use Rattle.run_specs.specs.array_members_the_Work
pub use Rattle.run_specs.specs.array_create_assemble_the_CreateSpec
pub use Rattle.run_specs.specs.array_create_assemble_Opening
pub use Rattle.run_specs.specs.array_create_assemble_Running
pub use Rattle.run_specs.specs.array_members_Status
pub use Rattle.run_specs.specs.array_specs_Calls
pub use Rattle.run_specs.specs.array_specs_Still
pub use Rattle.run_specs.specs.stripe_region_resync_Left
pub use Rattle.run_specs.specs.reshape_request_the_Window
pub use Rattle.run_specs.specs.reshape_progress_the_Course
pub use Rattle.run_specs.specs.array_open_window_Finding
pub use Rattle.run_specs.specs.crash_views_Regions
pub use Rattle.run_specs.specs.array_open_Found
pub use Rattle.run_specs.specs.reshape_request_the_PhasesLeft
pub use Rattle.run_specs.specs.array_create_assemble_Creating
pub use Rattle.run_specs.specs.array_create_assemble_Made
pub use Rattle.run_specs.specs.array_members_Lacking
pub use Rattle.run_specs.specs.bank_Given
pub use Rattle.run_specs.specs.bank_Tape
pub use Rattle.run_specs.specs.bank_the_BankFault
pub use Rattle.run_specs.specs.bank_the_Operation
pub use Rattle.run_specs.specs.history_Fits
pub use Rattle.run_specs.specs.history_Flat
pub use Rattle.run_specs.specs.history_Left
pub use Rattle.run_specs.specs.history_Legal
pub use Rattle.run_specs.specs.history_OneShape
pub use Rattle.run_specs.specs.history_Opened
pub use Rattle.run_specs.specs.history_Plain
pub use Rattle.run_specs.specs.history_Reopened
pub use Rattle.run_specs.specs.history_Stands
pub use Rattle.run_specs.specs.history_Transfers
pub use Rattle.run_specs.specs.history_World
pub use Rattle.run_specs.specs.history_the_Entry
pub use Rattle.run_specs.specs.history_the_Epoch
pub use Rattle.run_specs.specs.history_the_Event
pub use Rattle.run_specs.specs.history_the_Event_TheVariants
pub use Rattle.run_specs.specs.history_the_Request_TheVariants
pub use Rattle.run_specs.specs.reshape_plan_Plans
pub use Rattle.run_specs.specs.raid_types_Search
pub use Rattle.run_specs.specs.raid_types_Shapes
pub use Rattle.run_specs.specs.raid_types_the_Fault
pub use Rattle.run_specs.specs.raid_types_the_Fault_TheVariants
pub use Rattle.run_specs.specs.raid_types_the_NoMemory
pub use Rattle.run_specs.specs.raid_types_the_Phase
pub use Rattle.run_specs.specs.raid_types_the_Refusal
pub use Rattle.run_specs.specs.raid_types_the_Refusal_TheVariants
pub use Rattle.run_specs.specs.raid_types_the_Role
pub use Rattle.run_specs.specs.raid_types_the_Role_TheVariants
pub use Rattle.run_specs.specs.raid_types_the_Shape
pub use Rattle.run_specs.specs.raid_types_the_Status
pub use Rattle.run_specs.specs.raid_types_the_Who
pub use Rattle.run_specs.specs.raid_types_the_Wish
pub use Rattle.run_specs.specs.sb_codec_Superblock
pub use Rattle.run_specs.specs.sb_codec_the_Sb
pub use Rattle.run_specs.specs.script_Script
pub use Rattle.run_specs.specs.script_Seeds
pub use Rattle.run_specs.specs.script_the_CreateLine
pub use Rattle.run_specs.specs.script_the_Lane
pub use Rattle.run_specs.specs.script_the_Lane_TheVariants
pub use Rattle.run_specs.specs.script_the_Line
pub use Rattle.run_specs.specs.script_the_Line_TheVariants
pub use Rattle.run_specs.specs.history_monitor_the_Alert
