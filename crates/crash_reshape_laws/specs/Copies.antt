-- The rows of a window are copied and flushed, and it is recorded: whether its section is active, as it is in a critical window or was found by an opening, or it isn't critical.
use Rattle.std.specs.Prelude.{◌≡◌, ℕ, Some, None}
use Rattle.crash_safety_laws.specs.raid_types_the_Span.{Span}
use Rattle.crash_safety_laws.specs.raid_types_Sectors.{Sector}
use Rattle.crash_safety_laws.specs.bank_Given.{Given}
use Rattle.crash_safety_laws.specs.bank_Tape.{Contents}
use Rattle.crash_safety_laws.specs.sb_specs_the_Members.{Members}
use Rattle.crash_safety_laws.specs.sb_specs_Reading.{Scope, next_window}
use Rattle.crash_safety_laws.specs.crash_views_Regions.{open_by, ArePlaced}
use Rattle.crash_safety_laws.specs.crash_views_Views.{Disk, Ledger, IsHeaderFit, AreHeadersFit, IsViewRight, IsSeenRight}
use Rattle.crash_safety_laws.specs.crash_views_Windows.{IsSomewhere, AreFewer, HasNoSection, IsCopyable, IsCopying, IsUpdating, moved_past}
use Rattle.crash_safety_laws.specs.Updates.{IsReadInUpdate}
use Rattle.crash_reshape_laws.specs.Runs.{IsWindowStanding}

-- Behind a window no header that fitted before it has an active section, whichever window it names; and it fits there.
abbrev pub FitHeadersArePlain : Type 0
FitHeadersArePlain = (scope : Scope) (given : Given) (m : Members) (span : Span) (header : Sector) → ArePlaced scope given m → next_window m.newest ≡ Some span → IsHeaderFit scope m.newest header
    → (open_by scope (moved_past span m).newest header ≡ None) × IsHeaderFit scope (moved_past span m).newest header

pub record IsCopyRun (scope : Scope) (m : Members) (span : Span) (start copied flushed : Disk) : Type 0 where
  pub able : IsCopyable scope m span start
  pub copying : IsCopying m span start copied
  pub flushed_is : AreFewer copied flushed
  pub some : IsSomewhere start × IsSomewhere flushed

-- a view is right, and its headers fit, whether the opening was sound or not
pub record IsRightAndFit (sound : Type 0) (scope : Scope) (given : Given) (told : Ledger) (m : Members) (d : Disk) : Type 0 where
  pub right : IsViewRight sound scope given told m d
  pub headers : AreHeadersFit scope m d

abbrev pub CopiesStayFit : (sound : Type 0) → Type 0
CopiesStayFit sound = (scope : Scope) (given : Given) (told : Ledger) (m : Members) (span : Span) (start copied flushed : Disk) → IsCopyRun scope m span start copied flushed
    → IsRightAndFit sound scope given told m start → IsRightAndFit sound scope given told m copied × IsRightAndFit sound scope given told m flushed

-- Each image in the update that records the window is seen right.
abbrev pub CopiesAreSeenRight : (sound : Type 0) → Type 0
CopiesAreSeenRight sound = (scope : Scope) (given : Given) (told : Ledger) (m : Members) (span : Span) (start copied flushed : Disk) (c : Contents) (list : ℕ → Sector) (last : Disk) (image : Contents)
    → IsCopyRun scope m span start copied flushed → IsRightAndFit sound scope given told m start → IsWindowStanding sound told m span c list flushed
    → IsUpdating scope flushed last → IsReadInUpdate scope given told told m (moved_past span m) image → IsSeenRight sound scope given told last image

-- The members with the position behind the window are right then, and fit, and no section is active: they are where the next window begins.
abbrev pub MovedIsRightAndFit : (sound : Type 0) → Type 0
MovedIsRightAndFit sound = (scope : Scope) (given : Given) (told : Ledger) (m : Members) (span : Span) (start copied flushed : Disk) (c : Contents) (list : ℕ → Sector)
    → IsCopyRun scope m span start copied flushed → IsRightAndFit sound scope given told m start → IsWindowStanding sound told m span c list flushed
    → IsRightAndFit sound scope given told (moved_past span m) flushed × HasNoSection scope (moved_past span m) flushed

-- An update leaves that so.
abbrev pub UpdatedIsRightAndFit : (sound : Type 0) → Type 0
UpdatedIsRightAndFit sound = (scope : Scope) (given : Given) (told : Ledger) (m : Members) (d e : Disk) → IsSomewhere d → IsUpdating scope d e
    → IsRightAndFit sound scope given told m d × HasNoSection scope m d → IsRightAndFit sound scope given told m e × HasNoSection scope m e
