-- The list that stands in a course stands whichever header a stop leaves in the backup.
use Rattle.std.proofs.Common.{◌≡◌, inl, inr, ℕ, ◌+◌, ◌-◌, ◌<◌, ◌≤◌, true, false, Option, Some, None, List, [], ◌∷◌, refl, sym, ◌∙◌, subst, arith}
use Rattle.reshape_request.specs.raid_types_the_Span.{Span}
use Rattle.reshape_request.specs.raid_types_Sectors.{Sector}
use Rattle.reshape_request.specs.bank_Tape.{IsIn}
use Rattle.reshape_window_steps.specs.sb_specs_the_Members.{Members}
use Rattle.reshape_window_steps.specs.sb_specs_Reading.{Scope}
use Rattle.reshape_window_steps.specs.crash_views_Regions.{backup_of, open_by}
use Rattle.reshape_request.specs.raid_parity_Rows.{sector_of}
use Rattle.reshape_window_steps.specs.crash_views_Views.{AreSectionsAllowed, Disk}
use Rattle.reshape_window_steps.specs.crash_views_Windows.{IsShown, ListStands, RowsStand}
use Rattle.reshape_request.specs.declared.window.Window.{Window}
use Rattle.reshape_request.specs.declared.window.Window.TheVariants.{Closed, Entered, Unsure}
use Rattle.reshape_window_steps.specs.reshape_window_rows_Copies.{HasWindow}
use Rattle.reshape_progress.specs.Course.{hidden_in, HasWindowIn, IsStoredAs, HasSection}
use Rattle.reshape_progress.specs.Laws.{CoursesStandUnder}
use Rattle.reshape_progress.proofs.Frames.{list-whole, rows-whole}

-- what is so of the hidden span is so of the active section, if it is so of a section where it is so of none
under : (scope : Scope) (m : Members) (d : Disk) (P : Option Span → Type 0) → ((span : Span) → P None → P (Some span)) → (window : Window) → IsStoredAs scope m window d → P (hidden_in window)
    → (header : Sector) → IsIn (d (backup_of scope) 0) header → P (open_by scope m.newest header)
under scope m d P narrow Closed stored holds header may = subst P (sym (stored header may)) holds
under scope m d P narrow (Entered span copied true) stored holds header may = subst P (sym (stored header may)) holds
under scope m d P narrow (Entered span copied false) stored holds header may = subst P (sym (stored header may)) holds
under scope m d P narrow (Unsure span) stored holds header may = elim (stored header may) [
  | inl none ↦ subst P (sym none) holds
  | inr some ↦ subst P (sym some) (narrow span holds)
]

-- what a section leaves to be shown is shown without one
shown-wide : (m : Members) (span : Span) (x : ℕ) → IsShown (Some span) m.newest x → IsShown None m.newest x
shown-wide m span x shown = record { within = shown.within; outside = refl }

-- such a section has the list's sectors, as the buffer
section-has : (scope : Scope) (d : Disk) (buffer : List ℕ) (list : ℕ → Sector) (own span : Span) → ◌≡◌ {A = Option Span} (Some own) (Some span)
    → ((i : ℕ) → i < own.hi - own.lo → (v : Sector) → IsIn (d (backup_of scope) (8 + i)) v → v ≡ sector_of buffer i) → HasWindow own buffer list
    → (x : ℕ) → span.lo ≤ x → x < span.hi → (v : Sector) → IsIn (d (backup_of scope) (8 + (x - span.lo))) v → IsIn (list x ∷ []) v
section-has scope d buffer list own span same has holds x low high v is = inl (subst (λ (o : Span). v ≡ sector_of buffer (x - o.lo)) one (has (x - own.lo) within v here)
    ∙ subst (λ (o : Span). sector_of buffer (x - o.lo) ≡ list x) one (holds x (low_own, high_own)))
  where
    one : own ≡ span
    one = cc

    low_own : own.lo ≤ x
    low_own = subst (λ (o : Span). o.lo ≤ x) (sym one) low

    high_own : x < own.hi
    high_own = subst (λ (o : Span). x < o.hi) (sym one) high

    within : x - own.lo < own.hi - own.lo
    within = let a = low_own in let b = high_own in omega (arith, a, b)

    here : IsIn (d (backup_of scope) (8 + (x - own.lo))) v
    here = subst (λ (o : Span). IsIn (d (backup_of scope) (8 + (x - o.lo))) v) (sym one) is

-- the section that a header makes active is the window's
sections-of : (scope : Scope) (m : Members) (d : Disk) (window : Window) (buffer : List ℕ) (list : ℕ → Sector) → IsStoredAs scope m window d → HasSection scope window buffer d → HasWindowIn window buffer list
    → AreSectionsAllowed scope m (λ x. list x ∷ []) d
sections-of scope m d Closed buffer list stored sectors window header may span active = absurd (let none = sym (stored header may) ∙ active in cc)
sections-of scope m d (Entered own copied true) buffer list stored sectors window header may span active = section-has scope d buffer list own span (sym (stored header may) ∙ active) sectors window.1
sections-of scope m d (Entered own copied false) buffer list stored sectors window header may span active = absurd (let none = sym (stored header may) ∙ active in cc)
sections-of scope m d (Unsure own) buffer list stored sectors window header may span active = elim (stored header may) [
  | inl none ↦ absurd (let both = sym none ∙ active in cc)
  | inr some ↦ section-has scope d buffer list own span (sym some ∙ active) sectors window.1
]

pub courses-stand-under : (sound : Type 0) → CoursesStandUnder sound
courses-stand-under sound scope m course buffer c d list stored was = (
  record {
    outside = under scope m d (λ (hidden : Option Span). ListStands hidden m c list) (λ span stands x slot shown held. stands x slot (shown-wide m span x shown) held) course.window stored.section
        (list-whole sound m course buffer c list was);
    sections = sections-of scope m d course.window buffer list stored.section stored.sectors was.window;
  },
  λ so. record {
    rows = under scope m d (λ (hidden : Option Span). RowsStand hidden m c list) (λ span stand x shown. stand x (shown-wide m span x shown)) course.window stored.section (rows-whole sound m course buffer c list was so);
    zeros = λ x tail. was.zeros tail.forth x tail.past;
  },
)
