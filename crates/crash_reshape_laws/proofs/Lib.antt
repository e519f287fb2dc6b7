pub mod Begin
pub mod CopyRuns
pub mod EndLaws
pub mod GrownLaws
pub mod GrownStanding
pub mod LeftSound
pub mod LessPlaced
pub mod PastWindows
pub mod PlanPlaced
pub mod PlanRoles
pub mod RunLaws
pub mod TakenShapes
pub mod Takeovers
pub use Rattle.crash_safety_laws.proofs.PlannedRoles as crash_safety_laws_PlannedRoles
pub use Rattle.crash_safety_laws.proofs.KeptSafe as crash_safety_laws_KeptSafe
pub use Rattle.crash_safety_laws.proofs.Without as crash_safety_laws_Without
pub use Rattle.crash_safety_laws.proofs.CalledLaws as crash_safety_laws_CalledLaws
pub use Rattle.crash_safety_laws.proofs.ChangeSafe as crash_safety_laws_ChangeSafe
pub use Rattle.crash_safety_laws.proofs.ChangeViews as crash_safety_laws_ChangeViews
pub use Rattle.crash_safety_laws.proofs.FitKinds as crash_safety_laws_FitKinds
pub use Rattle.crash_safety_laws.proofs.PlansLose as crash_safety_laws_PlansLose
pub use Rattle.crash_safety_laws.proofs.Kept as crash_safety_laws_Kept
pub use Rattle.crash_safety_laws.proofs.crash_views_Alike
pub use Rattle.crash_safety_laws.proofs.sb_read_laws_SaidLists
pub use Rattle.crash_safety_laws.proofs.sb_read_laws_SaidSlots
pub use Rattle.crash_safety_laws.proofs.bank_backup_WrittenLaws
