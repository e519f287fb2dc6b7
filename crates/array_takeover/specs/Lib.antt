pub mod TakenOver
pub use Rattle.reshape_sb_takeover.specs.TakingOver as reshape_sb_takeover_TakingOver
pub use Rattle.array_fixed_sync.specs.history_Epochs
pub use Rattle.array_fixed_sync.specs.history_Fits
pub use Rattle.array_fixed_sync.specs.history_Flat
pub use Rattle.array_fixed_sync.specs.history_Growing
pub use Rattle.array_fixed_sync.specs.history_Legal
pub use Rattle.array_fixed_sync.specs.history_OneShape
pub use Rattle.array_fixed_sync.specs.history_Plain
pub use Rattle.array_fixed_sync.specs.history_Reshaped
pub use Rattle.array_fixed_sync.specs.history_Sound
pub use Rattle.array_fixed_sync.specs.history_World
pub use Rattle.array_fixed_sync.specs.history_the_Entry
pub use Rattle.array_fixed_sync.specs.history_the_Epoch
pub use Rattle.array_fixed_sync.specs.history_the_Event
pub use Rattle.array_fixed_sync.specs.history_the_Event_TheVariants
pub use Rattle.array_fixed_sync.specs.history_the_LostCause_TheVariants
pub use Rattle.array_fixed_sync.specs.history_the_Request
pub use Rattle.array_fixed_sync.specs.history_the_Request_TheVariants
pub use Rattle.array_fixed_sync.specs.history_the_StepKind
pub use Rattle.array_fixed_sync.specs.history_the_StepKind_TheVariants
pub use Rattle.array_fixed_sync.specs.reshape_request_Left
pub use Rattle.array_fixed_sync.specs.reshape_request_the_PhasesLeft
pub use Rattle.array_fixed_sync.specs.reshape_request_the_Window
pub use Rattle.array_fixed_sync.specs.reshape_request_the_Window_TheVariants
pub use Rattle.array_fixed_sync.specs.reshape_plan_Plans
pub use Rattle.array_fixed_sync.specs.sb_codec_the_Sb
pub use Rattle.array_fixed_sync.specs.sb_specs_Outcome
pub use Rattle.array_fixed_sync.specs.sb_specs_Reading
pub use Rattle.array_fixed_sync.specs.sb_specs_Reads
pub use Rattle.array_fixed_sync.specs.sb_specs_Update
pub use Rattle.array_fixed_sync.specs.sb_specs_the_Change
pub use Rattle.array_fixed_sync.specs.sb_specs_the_Give
pub use Rattle.array_fixed_sync.specs.sb_specs_the_Members
pub use Rattle.array_fixed_sync.specs.Resyncing as array_fixed_sync_Resyncing
pub use Rattle.array_fixed_sync.specs.Stepping as array_fixed_sync_Stepping
