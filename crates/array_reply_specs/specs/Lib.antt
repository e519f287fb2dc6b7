pub mod Replies
pub mod Going
pub mod Limits
pub use Rattle.array_specs.specs.Visible as array_specs_Visible
pub use Rattle.array_specs.specs.array_call_specs_Adopting
pub use Rattle.array_specs.specs.array_call_specs_Calls
pub use Rattle.array_specs.specs.array_call_specs_Kept
pub use Rattle.array_specs.specs.history_invariant_laws_Reliable
pub use Rattle.array_specs.specs.reshape_begin_end_Begun
pub use Rattle.array_specs.specs.reshape_sb_updates_Beginning
pub use Rattle.array_specs.specs.sb_safe_updates_First
pub use Rattle.array_specs.specs.sb_safe_updates_Unused
pub use Rattle.array_specs.specs.history_the_Entry
pub use Rattle.array_specs.specs.history_the_Event
pub use Rattle.array_specs.specs.history_the_Event_TheVariants
pub use Rattle.array_specs.specs.history_the_Request
pub use Rattle.array_specs.specs.history_the_Request_TheVariants
pub use Rattle.array_specs.specs.history_Flat
pub use Rattle.array_specs.specs.history_Legal
pub use Rattle.array_specs.specs.history_Growing
pub use Rattle.array_specs.specs.history_OneShape
pub use Rattle.array_specs.specs.history_Seen
pub use Rattle.array_specs.specs.history_Transfers
pub use Rattle.bank.specs.Given as bank_Given
pub use Rattle.bank.specs.Tape as bank_Tape
pub use Rattle.bank.specs.declared.bank.Operation as bank_the_Operation
pub use Rattle.bank.specs.raid_types_Search
pub use Rattle.bank.specs.raid_types_Sectors
pub use Rattle.bank.specs.raid_types_the_BusyKind_TheVariants
pub use Rattle.bank.specs.raid_types_the_Fault
pub use Rattle.bank.specs.raid_types_the_Fault_TheVariants
pub use Rattle.bank.specs.raid_types_the_NoMemory
pub use Rattle.bank.specs.raid_types_the_Phase_TheVariants
pub use Rattle.bank.specs.raid_types_the_Refusal
pub use Rattle.bank.specs.raid_types_the_Refusal_TheVariants
pub use Rattle.bank.specs.raid_types_the_Role
pub use Rattle.bank.specs.raid_types_the_Role_TheVariants
pub use Rattle.bank.specs.raid_types_the_Who
pub use Rattle.bank.specs.raid_types_the_Wish
pub use Rattle.array_specs.specs.history_append_Losing
pub use Rattle.array_specs.specs.raid_types_Shapes
pub use Rattle.array_specs.specs.raid_types_the_Phase
pub use Rattle.array_specs.specs.raid_types_the_Shape
pub use Rattle.array_specs.specs.raid_types_the_Status
