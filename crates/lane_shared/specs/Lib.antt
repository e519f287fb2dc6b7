pub mod Carried
pub mod Lane
pub mod Pace
pub mod Serving
pub mod ServingLaws
pub mod Worker
pub use Rattle.array_requests.specs.Replies as array_requests_Replies
pub use Rattle.array_requests.specs.declared.reply.Reply as array_requests_the_Reply
pub use Rattle.array_requests.specs.declared.reply.Reply.TheVariants as array_requests_the_Reply_TheVariants
pub use Rattle.array_requests.specs.array_call_specs_Calls
pub use Rattle.array_requests.specs.array_specs_Parts
pub use Rattle.array_requests.specs.Entered as array_requests_Entered
pub use Rattle.array_requests.specs.Going as array_requests_Going
pub use Rattle.array_requests.specs.array_Calls
pub use Rattle.array_requests.specs.array_members_Moving
pub mod Threads
pub mod Lanes
pub use Rattle.history_caller_laws.specs.Callers as history_caller_laws_Callers
pub mod Blocks
pub use Rattle.array_requests.specs.bank_Given
pub use Rattle.array_requests.specs.bank_Tape
pub use Rattle.array_requests.specs.bank_the_Operation
pub use Rattle.array_requests.specs.bank_the_Operation_TheVariants
pub use Rattle.array_requests.specs.raid_types_Sectors
pub use Rattle.array_requests.specs.raid_types_the_NoMemory
pub use Rattle.array_requests.specs.raid_types_the_Refusal_TheVariants
pub use Rattle.array_requests.specs.raid_types_the_Wish
