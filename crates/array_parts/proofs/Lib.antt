pub use Rattle.reshape_request.proofs.FirstLaws as reshape_request_FirstLaws
pub use Rattle.reshape_request.proofs.FitLaws as reshape_request_FitLaws
pub use Rattle.reshape_request.proofs.LeftLaws as reshape_request_LeftLaws
pub use Rattle.reshape_request.proofs.PlanLaws as reshape_request_PlanLaws
pub use Rattle.reshape_request.proofs.history_OneShapeReplies
pub use Rattle.reshape_request.proofs.reshape_plan_Sound
pub use Rattle.array_members.proofs.Fit as array_members_Fit
pub use Rattle.array_members.proofs.Flushed as array_members_Flushed
pub use Rattle.array_members.proofs.GivenMembers as array_members_GivenMembers
pub use Rattle.array_members.proofs.HeldRows as array_members_HeldRows
pub use Rattle.array_members.proofs.LackingLaws as array_members_LackingLaws
pub use Rattle.array_members.proofs.LackingLists as array_members_LackingLists
pub use Rattle.array_members.proofs.LiveLeft as array_members_LiveLeft
pub use Rattle.array_members.proofs.MarkLaws as array_members_MarkLaws
pub use Rattle.array_members.proofs.MemberLaws as array_members_MemberLaws
pub use Rattle.array_members.proofs.MovedLaws as array_members_MovedLaws
pub use Rattle.array_members.proofs.SafeStretch as array_members_SafeStretch
pub use Rattle.array_members.proofs.Still as array_members_Still
pub use Rattle.array_members.proofs.stripe_row_Losses
