-- When images are sound.
use Rattle.std.specs.Prelude.{◌≡◌, None, Some}
use Rattle.history.specs.bank_Given.{Given}
use Rattle.history.specs.bank_Tape.{Contents, IsDrawn}
use Rattle.history.specs.sb_specs_the_Members.{Members}
use Rattle.history.specs.sb_specs_Reading.{Scope, Reading, reading}
use Rattle.history.specs.Opened.{IsSound}
use Rattle.history.specs.Stands.{verdict}
use Rattle.crash_views.specs.Regions.{IsReadOf}
use Rattle.crash_views.specs.Views.{Disk, Ledger, IsViewRight}

-- An image that is read as a view that is right is sound where it assembles.
abbrev pub RightViewsAreSound : (sound : Type 0) → Type 0
RightViewsAreSound sound = (scope : Scope) (given : Given) (told : Ledger) (m : Members) (d : Disk) (c : Contents) (r : Reading) → sound → IsDrawn d c → reading scope c ≡ Some r → IsReadOf scope m r
    → IsViewRight sound scope given told m d → verdict scope c ≡ None → IsSound scope c r
