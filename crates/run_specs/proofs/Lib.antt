pub mod AskLaws
pub mod Causes
pub mod Growth
pub mod LaneCalls
pub mod Losses
pub mod Plain
pub mod PlainReplies
pub mod RuledLaws
pub mod Told
pub mod Turned
pub mod Worlds
pub use Rattle.array_requests.proofs.array_reply_specs_Fitting
pub use Rattle.array_requests.proofs.array_reply_specs_GoneOn
pub use Rattle.array_requests.proofs.array_call_specs_ReplyLaws
pub use Rattle.array_requests.proofs.GoneOn as array_requests_GoneOn
pub use Rattle.array_requests.proofs.array_members_Still
pub use Rattle.array_requests.proofs.history_laws_OneShapeGrowing
pub use Rattle.array_requests.proofs.Entered as array_requests_Entered
pub use Rattle.array_requests.proofs.history_laws_ReshapedLaws
pub use Rattle.array_requests.proofs.history_invariant_Turned
pub use Rattle.array_requests.proofs.history_invariant_Growing
pub use Rattle.array_requests.proofs.history_append_CallLaws
pub use Rattle.array_requests.proofs.raid_types_SectorLaws
pub use Rattle.array_requests.proofs.raid_types_Tabulated
pub use Rattle.script.proofs.history_LegalLaws
pub use Rattle.script.proofs.history_OneShapeLegal
pub use Rattle.script.proofs.history_SoundLaws
pub use Rattle.array_requests.proofs.Leaving as array_requests_Leaving
pub use Rattle.array_requests.proofs.array_members_SafeStretch
pub use Rattle.array_requests.proofs.array_members_MovedLaws
pub use Rattle.array_requests.proofs.bank_Laws
