-- A critical window, through all its stretches.
use Rattle.std.proofs.Common.{◌≡◌, ◌⊎◌, inl, inr, ℕ, ◌+◌, ◌-◌, ◌<◌, ◌≤◌, Option, Some, None, refl, sym, ◌∙◌, ap, subst}
use Rattle.crash_safety_laws.specs.raid_types_the_Span.{Span}
use Rattle.crash_safety_laws.specs.raid_types_Sectors.{Sector}
use Rattle.crash_safety_laws.specs.bank_Given.{Given}
use Rattle.crash_safety_laws.specs.bank_Tape.{Contents, IsIn}
use Rattle.crash_safety_laws.specs.sb_specs_the_Members.{Members}
use Rattle.crash_safety_laws.specs.sb_specs_Reading.{Scope}
use Rattle.crash_safety_laws.specs.crash_views_Regions.{backup_of, open_by}
use Rattle.crash_safety_laws.specs.crash_views_Views.{Disk, Ledger, IsHeaderFit, IsViewRight, IsSeenRight}
use Rattle.crash_safety_laws.specs.crash_views_Windows.{IsCopyable, moved_past, IsFlushedRight}
use Rattle.crash_reshape_laws.specs.Runs.{IsWindowRun, IsWindowStanding, IsRightThroughout, WindowsStayRight, RecordsAreSeenRight}
use Rattle.crash_safety_laws.proofs.crash_views_WindowLaws.{at-rows, fewer-right, storing-right, naming-right, copying-right}
use Rattle.crash_safety_laws.proofs.crash_views_Headers.{backup-is, next-headers}
use Rattle.crash_safety_laws.proofs.crash_views_Tails.{moved-tails}
use Rattle.crash_safety_laws.proofs.crash_views_Stands.{moved-stands, moved-rows-stand, moved-placed, flushed-right}
use Rattle.crash_safety_laws.proofs.LessViews.{updates-seen}
use Rattle.crash_reshape_laws.proofs.PastWindows.{past-windows-plain}

module _ (sound : Type 0) (scope : Scope) (given : Given) (told : Ledger) (m : Members) (span : Span) (plain header : Sector) (start stored kept named alone copied flushed : Disk)
    (run : IsWindowRun scope told m span plain header start stored kept named alone copied flushed) (right : IsViewRight sound scope given told m start) where
  -- the section's sectors are behind the header, so that this stays
  header-stored : (v : Sector) → IsIn (stored (backup_of scope) 0) v → IsIn (start (backup_of scope) 0) v
  header-stored v may = elim (run.storing (backup_of scope) 0) [ inl less ↦ less v may | inr (same, other) ↦ absurd (other refl) ]

  pub plain-none : open_by scope m.newest plain ≡ None
  plain-none = run.none plain (header-stored plain (run.kept_is (backup_of scope) 0 plain run.plain_is))

  pub able : IsCopyable scope m span alone
  able = record { next = run.next; kept = inl (λ v may. ap (open_by scope m.newest) (run.header_is v may) ∙ run.active) }

  pub one : IsViewRight sound scope given told m stored
  one = storing-right sound scope given told m start stored run.some.0 run.none run.storing right

  pub two : IsViewRight sound scope given told m kept
  two = fewer-right sound scope given told m stored kept run.kept_is one

  pub three : IsViewRight sound scope given told m named
  three = naming-right sound scope given told m header plain kept named run.some.1 run.plain_is plain-none
      (λ other active x low high v is. (
      let same : other ≡ span = some-only other span (sym active ∙ run.active) in
      run.section x (subst (λ (s : Span). s.lo ≤ x) same low) (subst (λ (s : Span). x < s.hi) same high) v (subst (λ (s : Span). IsIn (kept (backup_of scope) (8 + (x - s.lo))) v) same is)))
      (λ active premise. (next-headers scope given m span header right.placed run.next run.names).0) run.naming two
    where
      some-only : (a b : Span) → ◌≡◌ {A = Option Span} (Some a) (Some b) → a ≡ b
      some-only a b e = cc

  pub four : IsViewRight sound scope given told m alone
  four = fewer-right sound scope given told m named alone run.alone_is three

  pub five : IsViewRight sound scope given told m copied
  five = copying-right sound scope given told m span alone copied run.some.2 able run.copying four

  pub six : IsViewRight sound scope given told m flushed
  six = fewer-right sound scope given told m copied flushed run.flushed_is five

  pub throughout : IsRightThroughout sound scope given told m stored kept named alone copied flushed
  throughout = record { at_stored = one; at_kept = two; at_named = three; at_alone = four; at_copied = five; at_flushed = six }

  -- the copies write no header
  pub header-flushed : (v : Sector) → IsIn (flushed (backup_of scope) 0) v → v ≡ header
  header-flushed v may = elim (run.copying (backup_of scope) 0) [
    | inl less ↦ run.header_is v (less v (run.flushed_is (backup_of scope) 0 v may))
    | inr there ↦ absurd (at-rows scope given m right.placed there.role (backup_of scope) there.row 0 there.held there.place refl)
  ]

  -- the members with the position moved are right too, once the rows stand
  module _ (c : Contents) (list : ℕ → Sector) (stands : IsWindowStanding sound told m span c list flushed) where
    pub moved-flushed : IsFlushedRight sound scope given told (moved_past span m) c list flushed
    moved-flushed = record {
      placed = moved-placed scope given m span right.placed run.next;
      sized = right.sized;
      flushed = stands.flushed;
      allowed = stands.allowed;
      stands = moved-stands scope given m span c list right.placed run.next stands.window stands.list_is;
      rows = λ clean few premise. moved-rows-stand scope given m span c list right.placed run.next (stands.parity clean (record { old = few.old; final = few.final }) premise) (stands.rows_are clean (record { old = few.old; final = few.final }) premise);
      plain = λ v may. ap (open_by scope (moved_past span m).newest) (header-flushed v may) ∙ past-windows-plain scope given m span header right.placed run.next run.names;
      missing = right.gone;
      unclean = right.unclean;
      reshaping = right.reshaping;
      headers = λ active premise backup v here may. subst (IsHeaderFit scope (moved_past span m).newest)
          (sym (header-flushed v (subst (λ (s : ℕ). IsIn (flushed s 0) v) (sym (backup-is scope backup here)) may)))
          (next-headers scope given m span header right.placed run.next run.names).1;
      zeros = stands.zeros;
      tails = λ premise. moved-tails scope given m span c list right.placed run.next stands.window;
    }

    pub moved-right : IsViewRight sound scope given told (moved_past span m) flushed
    moved-right = flushed-right sound scope given told (moved_past span m) c list flushed moved-flushed

pub windows-right : (sound : Type 0) → WindowsStayRight sound
windows-right sound scope given told m span plain header start stored kept named alone copied flushed run right =
    throughout sound scope given told m span plain header start stored kept named alone copied flushed run right

pub records-seen : (sound : Type 0) → RecordsAreSeenRight sound
records-seen sound scope given told m span plain header start stored kept named alone copied flushed c list last image run right stands updating reads =
    either (updates-seen sound scope given told told m (moved_past span m) flushed last image run.some.3 updating
    (six sound scope given told m span plain header start stored kept named alone copied flushed run right)
    (moved-right sound scope given told m span plain header start stored kept named alone copied flushed run right c list stands) reads)
  where
    either : IsSeenRight sound scope given told last image ⊎ IsSeenRight sound scope given told last image → IsSeenRight sound scope given told last image
    either (inl seen) = seen
    either (inr seen) = seen
