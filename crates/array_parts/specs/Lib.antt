pub use Rattle.reshape_request.specs.Asked as reshape_request_Asked
pub use Rattle.reshape_request.specs.Fitting as reshape_request_Fitting
pub use Rattle.reshape_request.specs.Left as reshape_request_Left
pub use Rattle.reshape_request.specs.declared.window.PhasesLeft as reshape_request_the_PhasesLeft
pub use Rattle.reshape_request.specs.declared.window.Window as reshape_request_the_Window
pub use Rattle.reshape_request.specs.declared.window.Window.TheVariants as reshape_request_the_Window_TheVariants
pub use Rattle.reshape_request.specs.reshape_plan_Plans
pub use Rattle.array_members.specs.Lacking as array_members_Lacking
pub use Rattle.array_members.specs.Moving as array_members_Moving
pub use Rattle.array_members.specs.Numbers as array_members_Numbers
pub use Rattle.array_members.specs.Placed as array_members_Placed
pub use Rattle.array_members.specs.Rebuilding as array_members_Rebuilding
pub use Rattle.array_members.specs.Rows as array_members_Rows
pub use Rattle.array_members.specs.Status as array_members_Status
pub use Rattle.array_members.specs.Under as array_members_Under
pub use Rattle.array_members.specs.Whole as array_members_Whole
pub use Rattle.array_members.specs.declared.work.Work as array_members_the_Work
pub use Rattle.array_members.specs.history_Epochs
pub use Rattle.array_members.specs.history_Fits
pub use Rattle.array_members.specs.history_Flat
pub use Rattle.array_members.specs.history_Growing
pub use Rattle.array_members.specs.history_Legal
pub use Rattle.array_members.specs.history_OneShape
pub use Rattle.array_members.specs.history_Plain
pub use Rattle.array_members.specs.history_Reshaped
pub use Rattle.array_members.specs.history_Sound
pub use Rattle.array_members.specs.history_Stands
pub use Rattle.array_members.specs.history_Transfers
pub use Rattle.array_members.specs.history_World
pub use Rattle.array_members.specs.history_the_Entry
pub use Rattle.array_members.specs.history_the_Epoch
pub use Rattle.array_members.specs.history_the_Event
pub use Rattle.array_members.specs.history_the_Event_TheVariants
pub use Rattle.array_members.specs.history_the_LostCause
pub use Rattle.array_members.specs.history_the_LostCause_TheVariants
pub use Rattle.array_members.specs.history_the_Request
pub use Rattle.array_members.specs.history_the_Request_TheVariants
pub use Rattle.array_members.specs.history_the_StepKind
pub use Rattle.array_members.specs.history_the_StepKind_TheVariants
pub use Rattle.array_members.specs.stripe_row_Rows
